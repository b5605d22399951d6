use Rattle.std.proofs.Common.{◌≡◌, drop}
use Rattle.std.specs.List.{list_all}
use Rattle.call_arguments.specs.Callees.{index_under}
use Rattle.call_arguments.proofs.closed.are_under.Given as goal

-- the rest decides
abbrev pub invariant-loop-index : goal.invariant-loop-index
invariant-loop-index l = list_all (index_under l.depth) (drop l.index-index l.indices) ≡ list_all (index_under l.depth) l.indices
