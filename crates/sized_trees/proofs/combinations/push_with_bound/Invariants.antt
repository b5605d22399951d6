use Rattle.std.proofs.Common.{◌≡◌, ◌++◌, drop}
use Rattle.sized_trees.specs.Combinations.{with_bound}
use Rattle.sized_trees.proofs.combinations.push_with_bound.Given as goal

abbrev pub invariant-loop-one : goal.invariant-loop-one
invariant-loop-one l = l.made ++ with_bound (drop l.one-index l.bound) l.picked ≡ l.fn.made ++ with_bound l.bound l.picked
