use Rattle.std.proofs.Common.{◌≡◌, drop}
use Rattle.told_sizes.specs.Exact.{was_seen}
use Rattle.told_sizes.proofs.applied.was_seen.Given as goal

-- the rest decides
abbrev pub invariant-loop-other : goal.invariant-loop-other
invariant-loop-other l = was_seen l.applied (drop l.other-index l.seen) ≡ was_seen l.applied l.seen
