use Rattle.std.proofs.Common.{◌≡◌, ◌++◌, drop}
use Rattle.monomorph.specs.Reading.{given}
use Rattle.monomorph.proofs.calls.given.Given as goal

abbrev pub invariant-loop-at : goal.invariant-loop-at
invariant-loop-at l = l.made ++ given (drop l.at l.flags) (drop l.at l.constants) ≡ given l.flags l.constants
