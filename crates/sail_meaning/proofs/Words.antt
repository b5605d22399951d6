-- A word is cut into the widths of the parts that it is matched against.
use Rattle.std.proofs.Common.{◌≡◌, ℕ, ◌+◌, ◌-◌, arith, Bool, true, refl, ap, ◌∙◌, List, [], ◌∷◌, ◌++◌, map, length, take, drop, Option, Some, None}
use Rattle.std.proofs.Common.{if◌then◌else◌, nat_le, option_map, length-append}
use Rattle.sail_types.specs.Sums.{and_then}
use Rattle.sail_types.specs.declared.values.Value.{out-Value}
use Rattle.sail_types.specs.declared.values.Value.TheVariants as V
use Rattle.sail_core.specs.Run.{needs, ◌then◌}
use Rattle.sail_meaning.specs.Patterns.{cut, cut_by, or_rest, sum_of_known, parts_match}
use Rattle.sail_meaning.specs.Sentences.{joined_words, widths_of, HighBitsFirst, RestIsTaken}

drop_front : {A : Type 0} (low high : List A) → drop (length low) (low ++ high) ≡ high
drop_front [] high = refl
drop_front (x ∷ low) high = drop_front low high

take_front : {A : Type 0} (low high : List A) → take (length low) (low ++ high) ≡ low
take_front [] high = refl
take_front (x ∷ low) high = ap (λ ys. x ∷ ys) (take_front low high)

below : (m n : ℕ) → nat_le m (n + m) ≡ true
below m n = grind (arith)

minus : (k m n : ℕ) → k ≡ n + m → k - m ≡ n
minus k m n e = omega arith

-- the highest part of a word, and the lower ones
cut_high : (high low : List Bool) (ns : List ℕ)
    → cut (length high ∷ ns) (low ++ high) ≡ option_map (λ vs. V.Bits high ∷ vs) (cut ns low)
cut_high high low ns =
    let whole = length-append low high in
    let there : nat_le (length high) (length (low ++ high)) ≡ true = ap (nat_le (length high)) whole ∙ below (length high) (length low) in
    let left : length (low ++ high) - length high ≡ length low = minus (length (low ++ high)) (length high) (length low) whole in
    ap (λ b. if b then option_map (λ vs. V.Bits (drop (length (low ++ high) - length high) (low ++ high)) ∷ vs)
    (cut ns (take (length (low ++ high) - length high) (low ++ high))) else None) there
    ∙ ap (λ k. option_map (λ vs. V.Bits (drop k (low ++ high)) ∷ vs) (cut ns (take k (low ++ high)))) left
    ∙ ap (λ ys. option_map (λ vs. V.Bits ys ∷ vs) (cut ns (take (length low) (low ++ high)))) (drop_front low high)
    ∙ ap (λ ys. option_map (λ vs. V.Bits high ∷ vs) (cut ns ys)) (take_front low high)

cut_words : (words : List (List Bool)) → cut (map length words) (joined_words words) ≡ Some (map V.Bits words)
cut_words [] = refl
cut_words (high ∷ low) =
    cut_high high (joined_words low) (map length low) ∙ ap (option_map (λ vs. V.Bits high ∷ vs)) (cut_words low)

-- ---- widths that are all known

all_known : (rest : ℕ) (words : List (List Bool)) → map (or_rest rest) (widths_of words) ≡ map length words
all_known rest [] = refl
all_known rest (bs ∷ words) = ap (λ ns. length bs ∷ ns) (all_known rest words)

cut_by_known : (words : List (List Bool)) → cut_by (joined_words words) (widths_of words) ≡ Some (map V.Bits words)
cut_by_known words =
    ap (λ ns. cut ns (joined_words words)) (all_known (length (joined_words words) - sum_of_known (widths_of words)) words) ∙ cut_words words

-- ---- one that isn't

swapped : (a b c : ℕ) → a ≡ c → a + b ≡ b + c
swapped a b c e = omega arith

turned : (a b r c : ℕ) → a ≡ r + c → a + b ≡ r + (b + c)
turned a b r c e = omega arith

sum_behind : (words : List (List Bool)) → length (joined_words words) ≡ sum_of_known (widths_of words)
sum_behind [] = refl
sum_behind (high ∷ low) =
    length-append (joined_words low) high
    ∙ swapped (length (joined_words low)) (length high) (sum_of_known (widths_of low)) (sum_behind low)

-- the widths of all parts but one
abbrev others : List (List Bool) → List (List Bool) → List (Option ℕ)
others high low = widths_of high ++ None ∷ widths_of low

sum_between : (high low : List (List Bool)) (rest : List Bool)
    → length (joined_words (high ++ rest ∷ low)) ≡ length rest + sum_of_known (others high low)
sum_between [] low rest =
    length-append (joined_words low) rest
    ∙ swapped (length (joined_words low)) (length rest) (sum_of_known (widths_of low)) (sum_behind low)
sum_between (bs ∷ high) low rest =
    length-append (joined_words (high ++ rest ∷ low)) bs
    ∙ turned (length (joined_words (high ++ rest ∷ low))) (length bs) (length rest) (sum_of_known (others high low)) (sum_between high low rest)

all_but_rest : (high low : List (List Bool)) (rest : List Bool)
    → map (or_rest (length rest)) (widths_of high ++ None ∷ widths_of low) ≡ map length (high ++ rest ∷ low)
all_but_rest [] low rest = ap (λ ns. length rest ∷ ns) (all_known (length rest) low)
all_but_rest (bs ∷ high) low rest = ap (λ ns. length bs ∷ ns) (all_but_rest high low rest)

left_over : (k r c : ℕ) → k ≡ r + c → k - c ≡ r
left_over k r c e = omega arith

cut_by_rest : (high low : List (List Bool)) (rest : List Bool)
    → cut_by (joined_words (high ++ rest ∷ low)) (widths_of high ++ None ∷ widths_of low) ≡ Some (map V.Bits (high ++ rest ∷ low))
cut_by_rest high low rest =
    ap (λ k. cut (map (or_rest k) (others high low)) (joined_words (high ++ rest ∷ low)))
    (left_over (length (joined_words (high ++ rest ∷ low))) (length rest) (sum_of_known (others high low)) (sum_between high low rest))
    ∙ ap (λ ns. cut ns (joined_words (high ++ rest ∷ low))) (all_but_rest high low rest)
    ∙ cut_words (high ++ rest ∷ low)

-- ---- the patterns

pub high_bits_first : HighBitsFirst
unfolding out-Value denote.Hole.Carrier.out
high_bits_first w place p q more words h =
    ap (λ o. needs (and_then o (cut_by (joined_words words))) then parts_match (p ∷ q ∷ more) w) h
    ∙ ap (λ o. needs o then parts_match (p ∷ q ∷ more) w) (cut_by_known words)

pub rest_is_taken : RestIsTaken
unfolding out-Value denote.Hole.Carrier.out
rest_is_taken w place p q more high low rest h =
    ap (λ o. needs (and_then o (cut_by (joined_words (high ++ rest ∷ low)))) then parts_match (p ∷ q ∷ more) w) h
    ∙ ap (λ o. needs o then parts_match (p ∷ q ∷ more) w) (cut_by_rest high low rest)
