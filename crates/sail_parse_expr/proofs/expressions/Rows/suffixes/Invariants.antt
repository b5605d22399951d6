use Rattle.std.proofs.Common.{◌≤◌, length}
use Rattle.sail_grammar.specs.RowName as N
use Rattle.sail_grammar.specs.Form.{Row}
use Rattle.sail_grammar.proofs.Steps.{Onward}
use Rattle.sail_parse_expr.specs.Behind as B
use Rattle.sail_parse_expr.proofs.expressions.Rows.suffixes.Given as goal

-- what is read from here on is read from the start on
abbrev pub invariant-suffixes : goal.invariant-suffixes
invariant-suffixes g l = record {
  onward : Onward (Row (N.Suffixes l.mode)) B.suffixes_behind l.tokens l.fn.list l.rest l.list;
  fewer : length l.rest ≤ length l.tokens;
}

abbrev pub decreases-suffixes : goal.decreases-suffixes
decreases-suffixes g l = length l.rest
