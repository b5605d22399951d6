use Rattle.std.proofs.Common.{◌≡◌, ℕ}
use Rattle.jib_machine.specs.parts.Runs.{Along, remains}
use Rattle.jib_machine.proofs.machine.Machine.run_in_place.Given as goal

abbrev pub invariant-run : goal.invariant-run
invariant-run g l =
    (l.current.here.function ≡ l.fn.current.here.function)
    × ((k : ℕ) → Along l.self.program l.self.lets l.hart l.fn.current l.fn.state k l.current l.state k)

abbrev pub decreases-run : goal.decreases-run
decreases-run g l = remains l.self.program l.current.here.function l.current.at 0
