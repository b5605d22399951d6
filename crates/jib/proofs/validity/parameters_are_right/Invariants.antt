use Rattle.std.proofs.Common.{◌≡◌, drop}
use Rattle.jib.specs.Operands.{each}
use Rattle.jib.specs.Valid.{parameter_right}
use Rattle.jib.proofs.validity.parameters_are_right.Given as goal

abbrev pub invariant-loop-index : goal.invariant-loop-index
invariant-loop-index l = each (parameter_right l.slots) 0 l.parameters ≡ each (parameter_right l.slots) l.index (drop l.index l.parameters)
