use Rattle.std.proofs.Common.{length}
use Rattle.sail_top.proofs.wanted.+wanted_machine.Given as goal

abbrev pub decreases-wanted_machine : goal.decreases-wanted_machine
decreases-wanted_machine l = length l.openings.now
