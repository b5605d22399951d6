-- The number of a result is said over the arguments alone, whatever the result is.
use Rattle.std.proofs.Common.{◌≡◌, ℤ, pos, negsuc, ◌+ℤ◌, ◌*ℤ◌, true, false, ap, sym, ◌∙◌, unwrap_or}
use Rattle.sail_types.proofs.SumNumbers.{number_num, number_term}
use Rattle.sail_types.proofs.Substituted.{number_constant, atom_power}
use Rattle.sail_types.specs.Limits.{small_power}
use Rattle.sail_types.specs.Numbers.{Assignment, Positive, number, number_of_term}
use Rattle.sail_types.specs.Sums.{constant, term}
use Rattle.sail_types.specs.declared.numbers.Atom.TheVariants as A
use Rattle.sail_types.specs.declared.numbers.Comparison.{Comparison}
use Rattle.sail_types.specs.declared.numbers.Comparison.TheVariants as Is
use Rattle.sail_types.specs.declared.numbers.Num.{Num}
use Rattle.sail_types.specs.declared.rows.Row.{Row}
use Rattle.sail_types.specs.declared.rows.Row.TheVariants as R
use Rattle.sail_types.specs.declared.shapes.Shape.{Shape, Shape-F, out-Shape}
use Rattle.sail_types.specs.declared.shapes.Shape.TheOpen as S
use Rattle.builtins.specs.RowValues.{Opened}
use Rattle.row_types.specs.Calls.{variables}
use Rattle.row_types.specs.Formulas.{first, second, product, times, plus_times, times_power}
use Rattle.row_types.specs.RowTypes.{row_type, compared}
use Rattle.row_types.specs.declared.kinds.Outcome.{Outcome}
use Rattle.row_types.specs.declared.kinds.Outcome.TheVariants as O
use Rattle.row_types.specs.declared.kinds.Product.{Product}
use Rattle.row_types.specs.declared.kinds.Product.TheVariants as P
use Rattle.row_types.specs.laws.Formulas.{number_variable, number_times, number_plus_times}
use Rattle.row_laws.proofs.Members.{is_filling}
use Rattle.row_laws.proofs.Standing.{beyond}

module _ (past : Positive) (os : Opened) where
  abbrev under : Product → ℤ → Assignment
  under p z = variables (beyond past) p os z

  abbrev IsFree : Product → Num → Type 0
  IsFree p t = (z : ℤ) → number (under p z) t ≡ number (under p (pos 0)) t

  -- no result but a vector's has parts of another type
  abbrev pub FreeOf : Product → Outcome → Type 0
  FreeOf p (O.Integer t) = (z : ℤ) → number (variables (beyond past) p os z) t ≡ number (variables (beyond past) p os (pos 0)) t
  FreeOf p (O.Bits t) = (z : ℤ) → number (variables (beyond past) p os z) t ≡ number (variables (beyond past) p os (pos 0)) t
  FreeOf p (O.Vector t) = ⊥
  FreeOf p outcome = Unit {0}

  first_free : (p : Product) → IsFree p first
  first_free p z = number_variable (under p z) 0 ∙ sym (number_variable (under p (pos 0)) 0)

  second_free : (p : Product) → IsFree p second
  second_free p z = number_variable (under p z) 1 ∙ sym (number_variable (under p (pos 0)) 1)

  product_free : IsFree P.OfArguments product
  product_free z = number_variable (under P.OfArguments z) 4 ∙ sym (number_variable (under P.OfArguments (pos 0)) 4)

  times_free : (p : Product) (c d : ℤ) → IsFree p (times c 0 d)
  times_free p c d z = number_times (under p z) c 0 d ∙ sym (number_times (under p (pos 0)) c 0 d)

  plus_free : (p : Product) (c d : ℤ) → IsFree p (plus_times 0 c 1 d)
  plus_free p c d z = number_plus_times (under p z) 0 c 1 d ∙ sym (number_plus_times (under p (pos 0)) 0 c 1 d)

  constant_free : (p : Product) (c : ℤ) → IsFree p (constant c)
  constant_free p c z = number_constant (under p z) c ∙ sym (number_constant (under p (pos 0)) c)

  power_is : (nu : Assignment) (c e d : ℤ)
      → number nu (times_power c e d)
      ≡ (c *ℤ unwrap_or (small_power (pos 1 *ℤ nu.int 0 +ℤ e)) (nu.beyond (times (pos 1) 0 e)).value +ℤ pos 0) +ℤ d
  power_is nu c e d =
      let exponent : Num = times (pos 1) 0 e in
      let w : number nu (times_power c e d) ≡ (number_of_term nu (term c (A.Power exponent)) +ℤ pos 0) +ℤ d = number_num nu _ d in
      w ∙ ap (λ y. (y +ℤ pos 0) +ℤ d) (number_term nu c (A.Power exponent)
      ∙ ap (λ y. c *ℤ y) (atom_power nu exponent ∙ ap (λ y. unwrap_or (small_power y) (nu.beyond exponent).value) (number_times nu (pos 1) 0 e)))

  power_free : (p : Product) (c e d : ℤ) → IsFree p (times_power c e d)
  power_free p c e d z = power_is (under p z) c e d ∙ sym (power_is (under p (pos 0)) c e d)

  compared_free : (how : Comparison) (y : Shape-F Shape) → FreeOf (compared how y).product (compared how y).outcome
  compared_free how S.Int = tt
  compared_free how S.Bits = tt
  compared_free how y = tt

  pub row_free : (r : Row) (s : Shape) → is_filling r ≡ false → FreeOf (row_type r s).product (row_type r s).outcome
  row_free R.AddInt s n = plus_free P.Nothing (pos 1) (pos 0)
  row_free R.SubInt s n = plus_free P.Nothing (negsuc 0) (pos 0)
  row_free R.MultInt s n = product_free
  row_free R.NegInt s n = times_free P.Nothing (negsuc 0) (pos 0)
  row_free R.Pow2 s n = power_free P.Nothing (pos 1) (pos 0) (pos 0)
  row_free R.Eq s n = compared_free Is.Equal (out-Shape s)
  row_free R.Neq s n = compared_free Is.NotEqual (out-Shape s)
  row_free R.AddBits s n = first_free P.Nothing
  row_free R.SubBits s n = first_free P.Nothing
  row_free R.MultBits s n = first_free P.Nothing
  row_free R.AddBitsInt s n = first_free P.Nothing
  row_free R.SubBitsInt s n = first_free P.Nothing
  row_free R.AndBits s n = first_free P.Nothing
  row_free R.OrBits s n = first_free P.Nothing
  row_free R.XorBits s n = first_free P.Nothing
  row_free R.NotBits s n = first_free P.Nothing
  row_free R.Shiftl s n = first_free P.Nothing
  row_free R.Shiftr s n = first_free P.Nothing
  row_free R.ArithShiftr s n = first_free P.Nothing
  row_free R.ShiftlBits s n = first_free P.Nothing
  row_free R.ShiftrBits s n = first_free P.Nothing
  row_free R.ArithShiftrBits s n = first_free P.Nothing
  row_free R.Append s n = plus_free P.Nothing (pos 1) (pos 0)
  row_free R.ZeroExtend s n = first_free P.Nothing
  row_free R.SignExtend s n = first_free P.Nothing
  row_free R.Truncate s n = second_free P.Nothing
  row_free R.Zeros s n = first_free P.Nothing
  row_free R.Ones s n = first_free P.Nothing
  row_free R.ReplicateBits s n = product_free
  row_free R.ToBits s n = first_free P.Nothing
  row_free R.Length s n = first_free P.Nothing
  row_free R.MulWideUu s n = times_free P.Nothing (pos 2) (pos 0)
  row_free R.MulWideSs s n = times_free P.Nothing (pos 2) (pos 0)
  row_free R.MulWideSu s n = times_free P.Nothing (pos 2) (pos 0)
  row_free R.BoolToBits s n = constant_free P.Nothing (pos 1)
  row_free R.VectorInit s n = absurd (wrong n)
    where
      wrong : true ≡ false → ⊥
      wrong e = cc
  row_free R.MemRead s n = times_free P.Nothing (pos 8) (pos 0)
  row_free R.MemReserve s n = times_free P.Nothing (pos 8) (pos 0)
  row_free r s n = tt
