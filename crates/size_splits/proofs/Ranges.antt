-- The integers from one up to another, as they are put one after the other.
use Rattle.std.proofs.Common.{◌≡◌, ◌∙◌, ℕ, suc, ◌+◌, ◌-◌, ◌<◌, ◌≤◌, true, false, List, [], ◌∷◌, ◌++◌, ap, sym, refl}
use Rattle.std.proofs.Common.{arith, append_assoc, pos, ◌+ℤ◌, ◌≤ℤ◌, ◌<ℤ◌}
use Rattle.std.proofs.lemmas.Bool.{false_from_ne_true}
use Rattle.std.proofs.lemmas.Int.{ints}
use lib.Signed.{le_z}
use Rattle.std.specs.Prelude.{ℤ, Option, Some, None, int_lt, if◌then◌else◌}
use Rattle.sail_types.specs.Readings.{behind}
use Rattle.size_splits.specs.Splits.{up_to}

behind_behind : (xs ys : List ℤ) (o : Option (List ℤ)) → behind xs (behind ys o) ≡ behind (xs ++ ys) o
behind_behind xs ys None = refl
behind_behind xs ys (Some zs) = ap Some (sym (append_assoc xs ys zs))

is_below : (x y : ℤ) → x <ℤ y → int_lt x y ≡ true
is_below x y h = grind (arith, ints)

not_below : (x y : ℤ) → y ≤ℤ x → int_lt x y ≡ false
not_below x y h = false_from_ne_true (int_lt x y) (λ e. omega (arith, ints))

-- what the code's test says
pub test_fails : (x y : ℤ) → le_z x y ≡ false → y <ℤ x
test_fails x y e = first_of (omega (arith, ints), grind (arith, ints))

pub test_holds : (x y : ℤ) → le_z x y ≡ true → x ≤ℤ y
test_holds x y e = first_of (omega (arith, ints), grind (arith, ints))

module _ (n k : ℕ) (x y : ℤ) (made : List ℤ) (all : Option (List ℤ)) (h : behind made (up_to (n - k) x y) ≡ all) where
  left : k < n → up_to (n - k) x y ≡ up_to (suc (n - (k + 1))) x y
  left within = let e : n - k ≡ suc (n - (k + 1)) = omega arith in ap (λ m. up_to m x y) e

  -- one number more
  pub up_next : (new : List ℤ) (next : ℤ) → k < n → x <ℤ y → new ≡ made ++ x ∷ [] → next ≡ x +ℤ pos 1
      → behind new (up_to (n - (k + 1)) next y) ≡ all
  unfolding up_to
  up_next new next within less put one =
      (λ j. behind (put j) (up_to (n - (k + 1)) (one j) y))
      ∙ (sym (behind_behind made (x ∷ []) (up_to (n - (k + 1)) (x +ℤ pos 1) y))
      ∙ (ap (λ b. behind made (if b then behind (x ∷ []) (up_to (n - (k + 1)) (x +ℤ pos 1) y) else Some (x ∷ []))) (sym (is_below x y less))
      ∙ (ap (behind made) (sym (left within)) ∙ h)))

  -- the last one
  pub up_last : (new : List ℤ) → k < n → y ≤ℤ x → new ≡ made ++ x ∷ [] → Some new ≡ all
  unfolding up_to
  up_last new within less put =
      ap Some put
      ∙ (ap (λ b. behind made (if b then behind (x ∷ []) (up_to (n - (k + 1)) (x +ℤ pos 1) y) else Some (x ∷ []))) (sym (not_below x y less))
      ∙ (ap (behind made) (sym (left within)) ∙ h))

  -- too many
  pub up_none : n ≤ k → None ≡ all
  unfolding up_to
  up_none past = let e : n - k ≡ 0 = omega arith in ap (λ m. behind made (up_to m x y)) (sym e) ∙ h
