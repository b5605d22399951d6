use Rattle.std.proofs.Common.{◌≡◌, ◌++◌, drop}
use Rattle.size_splits.specs.Splits.{with_numbers}
use Rattle.split_combinations.proofs.combinations.with_numbers.Given as goal

abbrev pub invariant-loop-number : goal.invariant-loop-number
invariant-loop-number l =
    l.made ++ with_numbers l.variable (drop l.number-index l.numbers) l.combinations ≡ with_numbers l.variable l.numbers l.combinations
