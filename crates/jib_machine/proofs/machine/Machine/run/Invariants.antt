use Rattle.std.proofs.Common.{◌≡◌, reverse}
use Rattle.jib_machine.specs.parts.Runs.{Saved, Going, left}
use Rattle.jib_machine.proofs.machine.Machine.run.Given as goal

abbrev pub invariant-run : goal.invariant-run
invariant-run g l =
    Saved l.self.program (reverse l.frames.items)
    × Going l.self.program l.self.lets l.hart (record { function = l.function; arguments = l.fn.arguments.items; state = l.fn.state; ticks = l.fn.ticks })
    l.current l.frames.items l.state l.ticks

abbrev pub decreases-run : goal.decreases-run
decreases-run g l = left l.self.program l.current l.frames.items l.ticks
