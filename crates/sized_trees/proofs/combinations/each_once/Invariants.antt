use Rattle.std.proofs.Common.{◌≡◌, [], drop}
use Rattle.sized_trees.specs.Combinations.{each_once, is_told}
use Rattle.sized_trees.proofs.combinations.each_once.Given as goal

abbrev pub invariant-loop-picked : goal.invariant-loop-picked
invariant-loop-picked l =
    each_once (is_told l.facts l.own) l.seen (drop l.picked-index l.combinations) ≡ each_once (is_told l.facts l.own) [] l.combinations
