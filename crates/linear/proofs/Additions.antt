-- Sums of lists of numbers, place by place, and combinations of rows.
use Rattle.std.proofs.Common.{◌≡◌, ℕ, zero, suc, ◌+◌, ◌<◌, ◌≤◌, max, List, [], ◌∷◌, ◌++◌, length, get_or, take, drop}
use Rattle.std.proofs.Common.{ℤ, pos, ◌+ℤ◌, ◌*ℤ◌, true, ◌&&◌, sym, ap, ◌∙◌, refl, arith}
use Rattle.std.proofs.lemmas.Int.{ints}
use Rattle.std.proofs.lemmas.Bool.{and_parts}
use Rattle.std.proofs.lemmas.List.{take_more, drop_more, drop_all, take_all}
use Rattle.linear.specs.declared.row.Row.{Row}
use Rattle.linear.specs.Numbers.{is_within, are_within, scaled}
use Rattle.linear.specs.Rows.{added, can_combine, numbers_of}

plus_nothing : (a : ℤ) → a ≡ a +ℤ pos 0
plus_nothing a = omega (arith, ints)

nothing_plus : (a : ℤ) → a ≡ pos 0 +ℤ a
nothing_plus a = omega (arith, ints)

pub added_at : (xs ys : List ℤ) (i : ℕ) → get_or (added xs ys) i (pos 0) ≡ get_or xs i (pos 0) +ℤ get_or ys i (pos 0)
added_at [] ys i = nothing_plus (get_or ys i (pos 0))
added_at (x ∷ xs) [] i = plus_nothing (get_or (x ∷ xs) i (pos 0))
added_at (x ∷ xs) (y ∷ ys) zero = refl
added_at (x ∷ xs) (y ∷ ys) (suc i) = added_at xs ys i

pub added_length : (xs ys : List ℤ) → length (added xs ys) ≡ max (length xs) (length ys)
added_length [] ys = omega arith
added_length (x ∷ xs) [] = omega arith
added_length (x ∷ xs) (y ∷ ys) = omega (arith, added_length xs ys)

module _ (xs ys : List ℤ) (i n : ℕ) (a b : ℤ) (count : n ≡ max (length xs) (length ys)) (within : i < n) (first : a ≡ get_or xs i (pos 0)) (second :
    b ≡ get_or ys i (pos 0)) where
  here : i < length (added xs ys)
  here = omega (arith, added_length xs ys)

  read : get_or (added xs ys) i (pos 0) ≡ a +ℤ b
  read = added_at xs ys i ∙ sym (λ j. first j +ℤ second j)

  parts : are_within (drop i (added xs ys)) ≡ (is_within (a +ℤ b) && are_within (drop (i + 1) (added xs ys)))
  parts = ap are_within (drop_more (added xs ys) i (pos 0) here) ∙ ap (λ z. is_within z && are_within (drop (i + 1) (added xs ys))) read

  pub sum_refused : are_within (drop i (added xs ys)) ≡ are_within (added xs ys) → (is_within (a +ℤ b) ≡ true → ⊥) → are_within (added xs ys) ≡ true → ⊥
  sum_refused same past t = past (and_parts _ _ (sym parts ∙ (same ∙ t))).0

  pub sum_within : are_within (drop i (added xs ys)) ≡ are_within (added xs ys) → is_within (a +ℤ b) ≡ true
      → are_within (drop (i + 1) (added xs ys)) ≡ are_within (added xs ys)
  sum_within same h = sym (parts ∙ ap (λ t. t && are_within (drop (i + 1) (added xs ys))) h) ∙ same

  pub sum_pushed : (sums : List ℤ) (found : ℤ) → sums ≡ take i (added xs ys) → found ≡ a +ℤ b → sums ++ found ∷ [] ≡ take (i + 1) (added xs ys)
  sum_pushed sums found e h = (λ j. e j ++ (h ∙ sym read) j ∷ []) ∙ sym (take_more (added xs ys) i (pos 0) here)

pub sums_end : (xs ys sums : List ℤ) (i n : ℕ) → n ≡ max (length xs) (length ys) → n ≤ i → sums ≡ take i (added xs ys)
    → are_within (drop i (added xs ys)) ≡ are_within (added xs ys) → (are_within (added xs ys) ≡ true) × (sums ≡ added xs ys)
sums_end xs ys sums i n count past e same =
    let long : length (added xs ys) ≤ i = omega (arith, added_length xs ys) in
    (sym same ∙ ap are_within (drop_all i (added xs ys) long), e ∙ take_all i (added xs ys) long)

pub bound_refused : (m : ℤ) (a : Row) (n : ℤ) (b : Row) → ((is_within (m *ℤ a.bound) ≡ true) × (is_within (n *ℤ b.bound) ≡ true) ×
    (is_within ((m *ℤ a.bound) +ℤ (n *ℤ b.bound)) ≡ true) → ⊥) → can_combine m a n b ≡ true → ⊥
bound_refused m a n b past t =
    let p = and_parts (are_within (scaled m (numbers_of a))) _ t in
    let q = and_parts (are_within (scaled n (numbers_of b))) _ p.1 in
    past ((and_parts _ _ p.0).0, (and_parts _ _ q.0).0, (and_parts _ _ q.1).0)
