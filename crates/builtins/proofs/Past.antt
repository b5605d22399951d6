-- What passes 128 bits is no integer of a model.
use Rattle.std.proofs.Common.{◌≡◌, ◌^◌, ℤ, Bool, true, false, refl, ap, arith, FitsSigned}
use Rattle.std.specs.Prelude.{nat_abs, int_div, None}
use Rattle.std.specs.Int.{w128, CanDivide, IsNonZero}
use Rattle.std.proofs.lemmas.Int.{fits_signed_from_abs}
use Rattle.std.proofs.lemmas.Bool.{leb-true}
use Rattle.sail_types.specs.Limits.{largest, is_small}
use Rattle.sail_types.specs.declared.values.Value.TheVariants as V
use Rattle.builtins.specs.RowValues.{an_integer, only, where_}

small_fits : (z : ℤ) → is_small z ≡ true → FitsSigned w128 z
unfolding largest
small_fits z h = fits_signed_from_abs w128 z (omega (arith, leb-true (nat_abs z) (2 ^ 126) h))

by_test : (b : Bool) → (b ≡ true → ⊥) → b ≡ false
by_test true h = absurd (h refl)
by_test false h = refl

pub past : (z : ℤ) → (FitsSigned w128 z → ⊥) → an_integer z ≡ None
past z h = ap (λ t. only t (V.Integer z)) (by_test (is_small z) (λ s. h (small_fits z s)))

pub divided_past : (b : Bool) (i j : ℤ) → (CanDivide w128 i j → ⊥) → IsNonZero w128 j → where_ b (an_integer (int_div i j)) ≡ None
divided_past true i j h k = past (int_div i j) (λ f. h (k, f))
divided_past false i j h k = refl
