use Rattle.std.proofs.Common.{◌≡◌, drop}
use Rattle.jib_lower.specs.Crossings.{with_behind}
use Rattle.jib_lower.proofs.crossings.add_behind.Given as goal

-- those that the directions from here on ask come behind those so far
abbrev pub invariant-loop-direction : goal.invariant-loop-direction
invariant-loop-direction l = with_behind l.calls (drop l.direction-index l.directions) l.seen ≡ with_behind l.calls l.directions l.initial.seen
