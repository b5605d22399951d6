-- Equal coefficients, place by place.
use Rattle.std.proofs.Common.{◌≡◌, ℕ, zero, suc, ◌+◌, ◌≤◌, max, List, [], ◌∷◌, length, get_or, drop, ℤ, pos, ◌-ℤ◌}
use Rattle.std.proofs.Common.{Bool, true, false, ◌&&◌, sym, ap, ◌∙◌, refl, arith, unsigned_abs, add-one}
use Rattle.std.specs.Prelude.{◌==◌}
use Rattle.std.specs.List.{list_all}
use Rattle.std.proofs.lemmas.Int.{ints}
use Rattle.std.proofs.lemmas.List.{drop_all}
use Rattle.linear.specs.Numbers.{is_zero}
use Rattle.linear.specs.Rows.{are_same}

less_nothing : (z : ℤ) → is_zero (z -ℤ pos 0) ≡ is_zero z
less_nothing z = let e : z -ℤ pos 0 ≡ z = omega (arith, ints) in ap is_zero e

nothing_less : (z : ℤ) → is_zero (pos 0 -ℤ z) ≡ is_zero z
nothing_less z = let e : unsigned_abs (pos 0 -ℤ z) ≡ unsigned_abs z = omega (arith, ints) in ap (λ n. n == 0) e

with_nothing : (xs : List ℤ) → are_same xs [] ≡ list_all is_zero xs
with_nothing [] = refl
with_nothing (x ∷ xs) = refl

nothing_left : (i : ℕ) → drop {A = ℤ} i [] ≡ []
nothing_left zero = refl
nothing_left (suc i) = refl

same_from : (xs ys : List ℤ) (i : ℕ) → are_same (drop i xs) (drop i ys) ≡
    (is_zero (get_or xs i (pos 0) -ℤ get_or ys i (pos 0)) && are_same (drop (suc i) xs) (drop (suc i) ys))
same_from [] [] zero = refl
same_from [] [] (suc i) = refl
same_from [] (y ∷ ys) zero = ap (λ b. b && list_all is_zero ys) (sym (nothing_less y))
same_from [] (y ∷ ys) (suc i) = ap (λ d. are_same d (drop i ys)) (sym (nothing_left i)) ∙ same_from [] ys i
same_from (x ∷ xs) [] zero = (λ j. sym (less_nothing x) j && sym (with_nothing xs) j)
same_from (x ∷ xs) [] (suc i) = ap (are_same (drop i xs)) (sym (nothing_left i)) ∙ same_from xs [] i
same_from (x ∷ xs) (y ∷ ys) zero = refl
same_from (x ∷ xs) (y ∷ ys) (suc i) = same_from xs ys i

module _ (xs ys : List ℤ) (i : ℕ) (a b : ℤ) (t : Bool) (first : a ≡ get_or xs i (pos 0)) (second : b ≡ get_or ys i (pos 0)) (test :
    t ≡ is_zero (a -ℤ b)) (so_far : are_same (drop i xs) (drop i ys) ≡ are_same xs ys) where
  here : are_same (drop i xs) (drop i ys) ≡ (t && are_same (drop (suc i) xs) (drop (suc i) ys))
  here = same_from xs ys i ∙ (λ j. sym (test ∙ (λ k. is_zero (first k -ℤ second k))) j && are_same (drop (suc i) xs) (drop (suc i) ys))

  pub same_more : t ≡ true → are_same (drop (i + 1) xs) (drop (i + 1) ys) ≡ are_same xs ys
  same_more h = ap (λ k. are_same (drop k xs) (drop k ys)) (add-one i) ∙ (sym (here ∙
      ap (λ b. b && are_same (drop (suc i) xs) (drop (suc i) ys)) h) ∙ so_far)

  pub same_refused : t ≡ false → false ≡ are_same xs ys
  same_refused h = sym (here ∙ ap (λ b. b && are_same (drop (suc i) xs) (drop (suc i) ys)) h) ∙ so_far

pub same_end : (xs ys : List ℤ) (i n : ℕ) → n ≡ max (length xs) (length ys) → n ≤ i → are_same (drop i xs) (drop i ys) ≡ are_same xs ys →
    true ≡ are_same xs ys
same_end xs ys i n count past e =
    let p : length xs ≤ i = omega arith in
    let q : length ys ≤ i = omega arith in
    (λ j. are_same (sym (drop_all i xs p) j) (sym (drop_all i ys q) j)) ∙ e
