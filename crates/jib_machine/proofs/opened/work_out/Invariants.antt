use Rattle.std.proofs.Common.{take}
use Rattle.jib.specs.Openings.{Opens}
use Rattle.jib_machine.specs.Events.{blank}
use Rattle.jib_machine.specs.parts.Opened.{SameModel}
use Rattle.jib_machine.proofs.opened.work_out.Given as goal

abbrev pub invariant-loop-opening : goal.invariant-loop-opening
invariant-loop-opening l =
    SameModel l.fn.machine l.machine
    × Opens l.fn.machine.program l.fn.machine.types blank (take l.opening-index l.openings) l.fn.machine.lets l.endings l.machine.lets
