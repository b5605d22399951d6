use Rattle.std.proofs.Common.{◌≤◌, length}
use Rattle.sail_grammar.specs.RowName as N
use Rattle.sail_grammar.specs.Form.{Row}
use Rattle.sail_parse_forms.proofs.Loops.{Ahead}
use Rattle.sail_parse_atoms.specs.Behind as B
use Rattle.sail_parse_atoms.proofs.atoms.Atoms.statements.Given as goal

-- what is read from here on is read from the start on
abbrev pub invariant-statements : goal.invariant-statements
invariant-statements g l = record {
  ahead : Ahead (Row N.Statements) (B.statements_behind l.place) l.tokens l.fn.list l.rest l.list;
  fewer : length l.rest ≤ length l.tokens;
}

abbrev pub decreases-statements : goal.decreases-statements
decreases-statements g l = length l.rest
