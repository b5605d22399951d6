use Rattle.std.proofs.Common.{◌≡◌, drop}
use Rattle.std.specs.List.{list_any}
use Rattle.sized_trees.specs.Combinations.{all_picked_eq}
use Rattle.sized_trees.proofs.combinations.is_seen.Given as goal

-- the rest decides
abbrev pub invariant-loop-other : goal.invariant-loop-other
invariant-loop-other l = list_any (all_picked_eq l.picked) (drop l.other-index l.seen) ≡ list_any (all_picked_eq l.picked) l.seen
