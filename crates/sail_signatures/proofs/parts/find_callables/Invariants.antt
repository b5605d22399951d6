use Rattle.std.proofs.Common.{take}
use Rattle.sail_signatures.specs.Parts.{AreOf}
use Rattle.sail_signatures.proofs.parts.find_callables.Given as goal

abbrev pub invariant-loop-at : goal.invariant-loop-at
invariant-loop-at l = AreOf (take l.at l.definitions) l.callables
