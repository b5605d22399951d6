-- Operands as values.
use Rattle.sail_types.specs.declared.values.Value.{Value}
use Rattle.jib_values.specs.declared.operands.Operand.{Operand}
use Rattle.jib_values.specs.declared.operands.Operand.TheVariants as O

-- the value that an operand is
abbrev pub value_in : Operand → Value
value_in (O.Lent value) = value.now
value_in (O.Made value) = value
