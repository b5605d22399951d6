-- A size that is within the limits as it is said, and under constants, is one integer.
use Rattle.std.proofs.Common.{◌≡◌, ℕ, zero, suc, ℤ, pos, ◌≤ℤ◌, List, [], ◌∷◌, map, Some, sym, ap, ◌∙◌, arith}
use Rattle.sail_types.specs.Belongs.{assigned}
use Rattle.sail_types.specs.Limits.{largest}
use Rattle.sail_types.specs.Numbers.{Assignment, Positive, number}
use Rattle.sail_types.specs.Sums.{number_at, read}
use Rattle.sail_types.specs.declared.numbers.Index.{Index}
use Rattle.sail_types.specs.declared.numbers.Index.TheVariants as N
use Rattle.sail_types.specs.declared.numbers.Num.{Num}
use Rattle.sail_types.proofs.SumNumbers.{some_same}
use Rattle.sail_types.proofs.Substituted.{number_constant}
use Rattle.value_laws.specs.Belonging.{standing}
use Rattle.value_laws.proofs.Numbers.{number_read}
use Rattle.size_values.specs.declared.constants.Constant.{Constant}
use Rattle.size_values.specs.Numbers.{argument_of, constant_under, index_under, number_in}
use Rattle.size_values.specs.Sized.{integer_of}
use Rattle.size_laws.specs.Known.{AllKnown, IsWithin, all_numbers}
use Rattle.size_laws.specs.Laws.{SizesAreSaid}
use Rattle.size_laws.proofs.Numbers.{known_constant, known_number, within_known}

pub one_low : pos 1 ≤ℤ pos 1
one_low = omega arith

pub one_high : pos 1 ≤ℤ pos largest
unfolding largest
one_high = omega arith

-- powers past the largest integer don't come into numbers that are known
abbrev pub one : Positive
one = record { value = pos 1; low = one_low; high = one_high }

module _ (f : ℕ → ℤ) where
  abbrev there : Assignment
  there = standing one f

  abbrev of : ℕ → Constant
  of = all_numbers f

  -- a variable is its number
  variable_says : (i : ℕ) (z : ℤ) → number_in (of i) ≡ Some z → there.int i ≡ z
  variable_says i z h = some_same (f i) z h

  -- a constant for a variable of a type is what it stands for
  argument_says : (is : List Index) → AllKnown of is → (i : ℕ) (z : ℤ) → number_in (argument_of (map (index_under of) is) i) ≡ Some z
      → number there (number_at is i) ≡ z
  argument_says [] known i z h = number_constant there (pos 0) ∙ some_same (pos 0) z h
  argument_says (N.Number t ∷ is) known zero z h =
      (known_number of there variable_says t known.0.value known.0.is_so).0
      ∙ some_same known.0.value z (sym (ap number_in (known_constant of there variable_says t known.0.value known.0.is_so)) ∙ h)
  argument_says (N.Number t ∷ is) known (suc i) z h = argument_says is known.1 i z h
  argument_says (N.Truth c ∷ is) known zero z h = number_constant there (pos 0) ∙ some_same (pos 0) z h
  argument_says (N.Truth c ∷ is) known (suc i) z h = argument_says is known i z h

  size_same : (is : List Index) (t u : Num) → AllKnown of is → read is t ≡ Some u → IsWithin of u → IsWithin (argument_of (map (index_under of) is)) t
      → integer_of (constant_under of u) ≡ integer_of (constant_under (argument_of (map (index_under of) is)) t)
  size_same is t u known said by_itself by_type =
      let under : ℕ → Constant = argument_of (map (index_under of) is) in
      let k = within_known of u by_itself.value by_itself.is_so by_itself.most in
      let l = within_known under t by_type.value by_type.is_so by_type.most in
      let mu : Assignment = assigned there is in
      let same : k.0 ≡ l.0 =
      sym (known_number of there variable_says u k.0 k.1).0
      ∙ number_read one f is t u said
      ∙ (known_number under mu (argument_says is known) t l.0 l.1).0 in
      ap integer_of (known_constant of there variable_says u k.0 k.1)
      ∙ same
      ∙ sym (ap integer_of (known_constant under mu (argument_says is known) t l.0 l.1))

pub sizes_are_said : SizesAreSaid
sizes_are_said types own f is t u known said by_itself by_type =
    record { said = u; is_said = said; same = size_same f is t u known said by_itself by_type }
