use Rattle.std.proofs.Common.{◌≡◌, take, map}
use Rattle.jib_values.specs.Operands.{value_in}
use Rattle.jib_values.proofs.operands.copies.Given as goal

abbrev pub invariant-loop-operand : goal.invariant-loop-operand
invariant-loop-operand l = l.values ≡ map value_in (take l.operand-index l.operands)
