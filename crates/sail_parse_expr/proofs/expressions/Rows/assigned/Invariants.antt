use Rattle.std.proofs.Common.{◌≤◌, [], length}
use Rattle.sail_grammar.specs.declared.mode.Mode.TheVariants.{Full}
use Rattle.sail_grammar.specs.RowName as N
use Rattle.sail_grammar.specs.Form.{Row}
use Rattle.sail_parse_forms.proofs.Loops.{Ahead}
use Rattle.sail_parse_expr.specs.Behind as B
use Rattle.sail_parse_expr.proofs.expressions.Rows.assigned.Given as goal

-- what is read from here on is read from the start on
abbrev pub invariant-targets : goal.invariant-targets
invariant-targets g l = record {
  ahead : Ahead (Row (N.Exp Full)) (B.assigned_behind l.place l.target) l.tokens [] l.rest l.more;
  fewer : length l.rest ≤ length l.tokens;
}

abbrev pub decreases-targets : goal.decreases-targets
decreases-targets g l = length l.rest
