use Rattle.std.proofs.Common.{◌≡◌, drop}
use Rattle.jib_lower.specs.Cycles.{instances_fall}
use Rattle.jib_lower.proofs.cycles.instances_fall.Given as goal

abbrev pub invariant-loop-caller : goal.invariant-loop-caller
invariant-loop-caller l = instances_fall l.numbers l.instances (drop l.caller-index l.callers) ≡ instances_fall l.numbers l.instances l.callers
