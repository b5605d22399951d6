-- The assignment before a substitution: it gives each variable the number of what stands in its place, and each power the
-- number of what it becomes.
use Rattle.std.specs.Prelude.{ℕ, pos, Option, Some, None}
use Rattle.sail_types.specs.Numbers.{Assignment, Positive, number}
use Rattle.sail_types.specs.Sums.{constant, substituted}
use Rattle.sail_types.specs.declared.numbers.Num.{Num}

-- what that exponent is given; any number, where there is none
abbrev pub beyond_of : Assignment → Option Num → Positive
beyond_of nu (Some t) = nu.beyond t
beyond_of nu None = nu.beyond (constant (pos 0))

abbrev pub before : (ℕ → Num) → Assignment → Assignment
before by nu = record { int = λ i. number nu (by i); bool = nu.bool; beyond = λ t. beyond_of nu (substituted by t) }
