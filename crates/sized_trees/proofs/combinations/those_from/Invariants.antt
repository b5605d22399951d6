use Rattle.std.proofs.Common.{◌≡◌, ◌++◌, drop}
use Rattle.sized_trees.specs.Combinations.{those_from}
use Rattle.sized_trees.proofs.combinations.those_from.Given as goal

abbrev pub invariant-loop-variable : goal.invariant-loop-variable
invariant-loop-variable l = l.made ++ those_from l.first (drop l.variable-index l.own) ≡ those_from l.first l.own
