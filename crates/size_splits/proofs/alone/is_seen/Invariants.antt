use Rattle.std.proofs.Common.{◌≡◌, drop}
use Rattle.std.specs.List.{list_any}
use Rattle.size_splits.specs.Alone.{is_it}
use Rattle.size_splits.proofs.alone.is_seen.Given as goal

-- the rest decides
abbrev pub invariant-loop-other : goal.invariant-loop-other
invariant-loop-other l = list_any (is_it l.variable) (drop l.other-index l.seen) ≡ list_any (is_it l.variable) l.seen
