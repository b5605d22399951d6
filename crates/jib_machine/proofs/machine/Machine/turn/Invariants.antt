use Rattle.std.proofs.Common.{◌≡◌}
use Rattle.jib_machine.specs.parts.Runs.{Along, remains}
use Rattle.jib_machine.proofs.machine.Machine.turn.Given as goal

abbrev pub invariant-run : goal.invariant-run
invariant-run g l = Along l.self.program l.self.lets l.hart l.fn.current l.fn.state l.fn.ticks l.current l.state l.ticks

abbrev pub decreases-run : goal.decreases-run
decreases-run g l = remains l.self.program l.current.here.function l.current.at l.ticks
