use Rattle.std.proofs.Common.{◌≤◌, length}
use Rattle.sail_grammar.specs.RowName.{NamesTail}
use Rattle.sail_grammar.specs.Form.{Row}
use Rattle.sail_grammar.proofs.Steps.{Onward}
use Rattle.sail_parse_parts.specs.Behind.{names_behind}
use Rattle.sail_parse_parts.proofs.lists.names_tail.Given as goal

-- what is read from here on is read from the start on
abbrev pub invariant-names : goal.invariant-names
invariant-names l = record {
  onward : Onward (Row NamesTail) names_behind l.tokens l.fn.list l.rest l.list;
  fewer : length l.rest ≤ length l.tokens;
}

abbrev pub decreases-names : goal.decreases-names
decreases-names l = length l.rest
