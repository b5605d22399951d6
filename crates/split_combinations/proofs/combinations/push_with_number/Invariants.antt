use Rattle.std.proofs.Common.{◌≡◌, ◌++◌, drop}
use Rattle.size_splits.specs.Splits.{with_number}
use Rattle.split_combinations.proofs.combinations.push_with_number.Given as goal

abbrev pub invariant-loop-combination : goal.invariant-loop-combination
invariant-loop-combination l =
    l.made ++ with_number l.variable (drop l.combination-index l.combinations) l.number ≡ l.fn.made ++ with_number l.variable l.combinations l.number
