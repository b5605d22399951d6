-- Numbers that are known where their variables are constants: none past the largest integer is on the way (Sail language manual, "Type variables").
use Rattle.std.specs.Prelude.{◌≡◌, ◌≤ℤ◌, ℕ, ℤ, pos, List, [], ◌∷◌, Some}
use Rattle.sail_types.specs.declared.numbers.Index.{Index}
use Rattle.sail_types.specs.declared.numbers.Index.TheVariants as N
use Rattle.sail_types.specs.declared.numbers.Num.{Num}
use Rattle.size_values.specs.declared.constants.Constant.{Constant}
use Rattle.size_values.specs.declared.constants.Constant.TheVariants as C
use Rattle.size_values.specs.Numbers.{constant_under, value_of}

pub record IsKnown (of : ℕ → Constant) (t : Num) : Type 0 where
  pub value : ℤ
  pub is_so : value_of of t ≡ Some value

-- so is each number among these
abbrev pub AllKnown : (ℕ → Constant) → List Index → Type 0
AllKnown of [] = Unit {0}
AllKnown of (N.Number t ∷ is) = IsKnown of t × AllKnown of is
AllKnown of (N.Truth c ∷ is) = AllKnown of is

-- each variable is a number
abbrev pub all_numbers : (ℕ → ℤ) → ℕ → Constant
all_numbers f v = C.Number (f v)

-- a constant that is within the limit of widths and lengths
pub record IsWithin (of : ℕ → Constant) (t : Num) : Type 0 where
  pub value : ℤ
  pub is_so : constant_under of t ≡ C.Number value
  pub most : value ≤ℤ pos 4096
