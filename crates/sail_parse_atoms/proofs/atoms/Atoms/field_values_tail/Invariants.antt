use Rattle.std.proofs.Common.{◌≤◌, length}
use Rattle.sail_grammar.specs.RowName as N
use Rattle.sail_grammar.specs.Form.{Row}
use Rattle.sail_grammar.proofs.Steps.{Onward}
use Rattle.sail_parse_atoms.specs.Behind as B
use Rattle.sail_parse_atoms.proofs.atoms.Atoms.field_values_tail.Given as goal

-- what is read from here on is read from the start on
abbrev pub invariant-values : goal.invariant-values
invariant-values g l = record {
  onward : Onward (Row (N.FieldValuesTail l.mode)) B.values_behind l.tokens l.fn.list l.rest l.list;
  fewer : length l.rest ≤ length l.tokens;
}

abbrev pub decreases-values : goal.decreases-values
decreases-values g l = length l.rest
