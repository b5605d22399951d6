use Rattle.std.proofs.Common.{◌≡◌, drop}
use Rattle.size_splits.specs.Splits.{first_set}
use Rattle.size_splits.proofs.domains.first_set.Given as goal

abbrev pub invariant-loop-condition : goal.invariant-loop-condition
invariant-loop-condition l = first_set l.variable (drop l.condition-index l.conditions) ≡ first_set l.variable l.conditions
