-- Texts of ASCII bytes, and literals without bits.
use Rattle.std.proofs.Common.{rules, ◌≡◌, ℕ, ◌+◌, ◌<◌, ◌≤◌, ◌∙◌, Bool, true, false, List, [], ◌∷◌, length, get_or, drop, refl, sym, ap, arith}
use Rattle.std.specs.Prelude.{◌&&◌, nat_lt, IsAscii, All, cond}
use Rattle.std.proofs.lemmas.Bool.{true≢false, and_parts, ltb-true, lt-ltb}
use Rattle.std.proofs.lemmas.List.{drop_more, drop_all}
use Rattle.std.proofs.lemmas.List.Elements.{All-cons}
use Rattle.std.proofs.lemmas.Str.Ascii.{IsAscii-from_all}
use Rattle.sail_base.specs.Bits.{bits_of}
use Rattle.sail_lex.specs.Literal.{literal_width, literal_bits}
use Rattle.sail_grammar.specs.Leaves.{all_ascii, bits_at}

below : (bs : List ℕ) → all_ascii bs ≡ true → All (λ b. b < 128) bs
below [] h = search rules
below (b ∷ bs) h =
    let both = and_parts (nat_lt b 128) (all_ascii bs) h in
    All-cons (λ b. b < 128) b bs (ltb-true b 128 both.0) (below bs both.1)

pub ascii : (bs : List ℕ) → all_ascii bs ≡ true → IsAscii bs
ascii bs h = IsAscii-from_all bs (below bs h)

-- a byte that isn't ASCII ends the test, and one that is leaves it to the others
not_less : (a b : ℕ) → b ≤ a → nat_lt a b ≡ false
not_less a b h = by_test (nat_lt a b) refl where
  by_test : (v : Bool) → nat_lt a b ≡ v → nat_lt a b ≡ false
  by_test false e = e
  by_test true e = absurd (let less : a < b = ltb-true a b e in omega (arith, h, less))

pub ascii_stops : (bs : List ℕ) (i : ℕ) (d : ℕ) → i < length bs → 128 ≤ get_or bs i d → all_ascii (drop i bs) ≡ false
ascii_stops bs i d lt h = ap all_ascii (drop_more bs i d lt) ∙ ap (λ v. v && all_ascii (drop (i + 1) bs)) (not_less (get_or bs i d) 128 h)

pub ascii_next : (bs : List ℕ) (i : ℕ) (d : ℕ) → i < length bs → get_or bs i d < 128 → all_ascii (drop (i + 1) bs) ≡ all_ascii (drop i bs)
ascii_next bs i d lt h = sym (ap all_ascii (drop_more bs i d lt) ∙ ap (λ v. v && all_ascii (drop (i + 1) bs)) (lt-ltb (get_or bs i d) 128 h))

pub ascii_ends : (bs : List ℕ) (i : ℕ) → length bs ≤ i → all_ascii (drop i bs) ≡ true
ascii_ends bs i h = ap all_ascii (drop_all i bs h)

-- a text that is no literal's has no bits
no_bits : bits_of 0 0 ≡ []
unfolding bits_of
no_bits = refl

pub bits_short : (text : List ℕ) → length text < 2 → bits_of 0 0 ≡ bits_at text
bits_short text h = no_bits ∙ sym
    (ap (λ b. cond b [] (cond (nat_lt 128 (literal_width text)) [] (bits_of (literal_width text)
    (literal_bits text)))) (lt-ltb (length text) 2 h))

pub bits_wide : (text : List ℕ) → 2 ≤ length text → 128 < literal_width text → bits_of 0 0 ≡ bits_at text
bits_wide text l h =
    no_bits ∙ sym (ap (λ b. cond b [] (cond (nat_lt 128 (literal_width text)) [] (bits_of (literal_width text)
    (literal_bits text)))) (not_less (length text) 2 l)
    ∙ ap (λ b. cond b [] (bits_of (literal_width text) (literal_bits text))) (lt-ltb 128 (literal_width text) h))
