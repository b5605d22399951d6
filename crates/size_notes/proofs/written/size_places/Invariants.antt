use Rattle.std.proofs.Common.{◌≡◌, ◌++◌, drop}
use Rattle.size_notes.specs.Written.{size_places}
use Rattle.size_notes.proofs.written.size_places.Given as goal

abbrev pub invariant-loop-number : goal.invariant-loop-number
invariant-loop-number l = l.places ++ size_places (drop l.number-index l.numbers) ≡ size_places l.numbers
