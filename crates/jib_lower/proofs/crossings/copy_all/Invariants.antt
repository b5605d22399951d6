use Rattle.std.proofs.Common.{◌≡◌, take}
use Rattle.jib_lower.proofs.crossings.copy_all.Given as goal

abbrev pub invariant-loop-direction : goal.invariant-loop-direction
invariant-loop-direction l = l.copy ≡ take l.direction-index l.directions
