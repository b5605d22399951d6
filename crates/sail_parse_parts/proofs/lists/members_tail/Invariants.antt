use Rattle.std.proofs.Common.{◌≤◌, length}
use Rattle.sail_grammar.specs.RowName.{MembersTail}
use Rattle.sail_grammar.specs.Form.{Row}
use Rattle.sail_grammar.proofs.Steps.{Onward}
use Rattle.sail_parse_parts.specs.Behind.{members_behind}
use Rattle.sail_parse_parts.proofs.lists.members_tail.Given as goal

-- what is read from here on is read from the start on
abbrev pub invariant-members : goal.invariant-members
invariant-members l = record {
  onward : Onward (Row MembersTail) members_behind l.tokens l.fn.list l.rest l.list;
  fewer : length l.rest ≤ length l.tokens;
}

abbrev pub decreases-members : goal.decreases-members
decreases-members l = length l.rest
