use Rattle.std.proofs.Common.{◌≡◌, drop}
use Rattle.jib.specs.Openings.{initial}
use Rattle.jib_machine.proofs.opened.initial.Given as goal

abbrev pub invariant-loop-place : goal.invariant-loop-place
invariant-loop-place g l =
    initial l.machine.program.openings l.machine.opened l.fn.state
    ≡ initial (drop l.place l.machine.program.openings) (drop l.place l.machine.opened) l.state
