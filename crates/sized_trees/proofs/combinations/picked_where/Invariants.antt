use Rattle.std.proofs.Common.{◌≡◌, ◌++◌, drop}
use Rattle.sized_trees.specs.Combinations.{is_told, picked_where}
use Rattle.sized_trees.proofs.combinations.picked_where.Given as goal

abbrev pub invariant-loop-one : goal.invariant-loop-one
invariant-loop-one l =
    l.made ++ picked_where (is_told l.facts l.own) (drop l.one-index l.picked) ≡ picked_where (is_told l.facts l.own) l.picked
