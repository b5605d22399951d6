use Rattle.std.proofs.Common.{◌≡◌, ◌++◌, drop, map}
use Rattle.size_splits.specs.Telling.{any_number}
use Rattle.size_splits.proofs.telling.any_numbers.Given as goal

abbrev pub invariant-loop-variable : goal.invariant-loop-variable
invariant-loop-variable l = l.made ++ map any_number (drop l.variable-index l.split) ≡ map any_number l.split
