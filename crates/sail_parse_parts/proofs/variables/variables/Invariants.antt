use Rattle.std.proofs.Common.{◌≤◌, length}
use Rattle.sail_grammar.specs.RowName.{QuantifiedVariables}
use Rattle.sail_grammar.specs.Form.{Row}
use Rattle.sail_grammar.proofs.Steps.{Onward}
use Rattle.sail_parse_parts.specs.Behind.{variables_behind}
use Rattle.sail_parse_parts.proofs.variables.variables.Given as goal

-- what is read from here on is read from the start on
abbrev pub invariant-variables : goal.invariant-variables
invariant-variables l = record {
  onward : Onward (Row QuantifiedVariables) variables_behind l.tokens l.fn.list l.rest l.list;
  fewer : length l.rest ≤ length l.tokens;
}

abbrev pub decreases-variables : goal.decreases-variables
decreases-variables l = length l.rest
