-- The numbers and constraints that the table of builtins is written in.
use Rattle.std.specs.Prelude.{ℕ, ◌-◌, ◌^◌, ℤ, pos, negsuc, List, [], ◌∷◌}
use Rattle.sail_types.specs.Sums.{num, term, constant, variable}
use Rattle.sail_types.specs.declared.numbers.Num.{Num}
use Rattle.sail_types.specs.declared.numbers.Atom.TheVariants as A
use Rattle.sail_types.specs.declared.numbers.Comparison.TheVariants as Is
use Rattle.sail_types.specs.declared.numbers.Con.{Con}
use Rattle.sail_types.specs.declared.numbers.Con.TheVariants as C

-- the least and the largest integer
abbrev pub least : ℤ
least = negsuc (2 ^ 126 - 1)

abbrev pub most : ℤ
most = pos (2 ^ 126)

-- ---- numbers

-- those of the arguments in order, of the result, and the product of two of them
abbrev pub first : Num
first = variable 0

abbrev pub second : Num
second = variable 1

abbrev pub third : Num
third = variable 2

abbrev pub answer : Num
answer = variable 3

abbrev pub product : Num
product = variable 4

-- so many times the number of an argument, and an integer
abbrev pub times : ℤ → ℕ → ℤ → Num
times c i d = num (term c (A.Variable i) ∷ []) d

-- a number, so many times another, and an integer
abbrev pub plus_times : ℕ → ℤ → ℕ → ℤ → Num
plus_times i c j d = num (term (pos 1) (A.Variable i) ∷ term c (A.Variable j) ∷ []) d

-- so many times 2 to the number of the first argument and an integer, and an integer
abbrev pub times_power : ℤ → ℤ → ℤ → Num
times_power c e d = num (term c (A.Power (times (pos 1) 0 e)) ∷ []) d

-- ---- constraints

abbrev pub at_most : Num → Num → Con
at_most t u = C.Compare Is.LessEqual t u

abbrev pub equal : Num → Num → Con
equal t u = C.Compare Is.Equal t u

abbrev pub within : ℤ → Num → ℤ → List Con
within low t high = at_most (constant low) t ∷ at_most t (constant high) ∷ []

-- both arguments are as wide
abbrev pub as_wide : List Con
as_wide = equal first second ∷ []
