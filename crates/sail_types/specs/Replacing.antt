-- What stands in the place of a variable.
use Rattle.std.specs.Prelude.{ℕ}
use Rattle.sail_types.specs.Sums.{number_at, only_for}
use Rattle.sail_types.specs.declared.numbers.Num.{Num}
use Rattle.sail_types.specs.declared.substitution.Replacing.{Replacing}
use Rattle.sail_types.specs.declared.substitution.Replacing.TheVariants as R

abbrev pub number_by : Replacing → ℕ → Num
number_by (R.One x n) = only_for x n.now
number_by (R.Each indices) = number_at indices.now
