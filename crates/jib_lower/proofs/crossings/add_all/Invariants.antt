use Rattle.std.proofs.Common.{◌≡◌, drop}
use Rattle.jib_lower.specs.Crossings.{with_all}
use Rattle.jib_lower.proofs.crossings.add_all.Given as goal

-- those from here on come behind those so far
abbrev pub invariant-loop-direction : goal.invariant-loop-direction
invariant-loop-direction l = with_all (drop l.direction-index l.directions) l.seen ≡ with_all l.directions l.initial.seen
