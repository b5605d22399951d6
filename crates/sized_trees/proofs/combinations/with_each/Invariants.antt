use Rattle.std.proofs.Common.{◌≡◌, ◌++◌, drop}
use Rattle.sized_trees.specs.Combinations.{with_each}
use Rattle.sized_trees.proofs.combinations.with_each.Given as goal

abbrev pub invariant-loop-picked : goal.invariant-loop-picked
invariant-loop-picked l = l.made ++ with_each l.bound (drop l.picked-index l.combinations) ≡ with_each l.bound l.combinations
