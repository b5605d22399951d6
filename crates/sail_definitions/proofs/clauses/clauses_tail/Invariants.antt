use Rattle.std.proofs.Common.{◌≤◌, length}
use Rattle.sail_grammar.specs.RowName.{MappingClausesTail}
use Rattle.sail_grammar.specs.Form.{Row}
use Rattle.sail_grammar.proofs.Steps.{Onward}
use Rattle.sail_definitions.specs.Behind.{clauses_behind}
use Rattle.sail_definitions.proofs.clauses.clauses_tail.Given as goal

-- what is read from here on is read from the start on
abbrev pub invariant-clauses : goal.invariant-clauses
invariant-clauses l = record {
  onward : Onward (Row MappingClausesTail) clauses_behind l.tokens l.fn.list l.rest l.list;
  fewer : length l.rest ≤ length l.tokens;
}

abbrev pub decreases-clauses : goal.decreases-clauses
decreases-clauses l = length l.rest
