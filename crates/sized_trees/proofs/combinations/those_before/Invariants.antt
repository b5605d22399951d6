use Rattle.std.proofs.Common.{◌≡◌, ◌++◌, drop}
use Rattle.sized_trees.specs.Combinations.{those_before}
use Rattle.sized_trees.proofs.combinations.those_before.Given as goal

abbrev pub invariant-loop-variable : goal.invariant-loop-variable
invariant-loop-variable l = l.made ++ those_before l.first (drop l.variable-index l.own) ≡ those_before l.first l.own
