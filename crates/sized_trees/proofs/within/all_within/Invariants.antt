use Rattle.std.proofs.Common.{◌≡◌, drop}
use Rattle.std.specs.List.{list_all}
use Rattle.sized_trees.specs.Within.{is_within}
use Rattle.sized_trees.proofs.within.all_within.Given as goal

-- the rest decides
abbrev pub invariant-loop-size : goal.invariant-loop-size
invariant-loop-size l = list_all is_within (drop l.size-index l.sizes) ≡ list_all is_within l.sizes
