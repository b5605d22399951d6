use Rattle.std.proofs.Common.{◌≤◌, length}
use Rattle.sail_grammar.specs.RowName.{ParametersTail}
use Rattle.sail_grammar.specs.Form.{Row}
use Rattle.sail_grammar.proofs.Steps.{Onward}
use Rattle.sail_parse_parts.specs.Behind.{parameters_behind}
use Rattle.sail_parse_parts.proofs.variables.parameters_tail.Given as goal

-- what is read from here on is read from the start on
abbrev pub invariant-parameters : goal.invariant-parameters
invariant-parameters l = record {
  onward : Onward (Row ParametersTail) parameters_behind l.tokens l.fn.list l.rest l.list;
  fewer : length l.rest ≤ length l.tokens;
}

abbrev pub decreases-parameters : goal.decreases-parameters
decreases-parameters l = length l.rest
