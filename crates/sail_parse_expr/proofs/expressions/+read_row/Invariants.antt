use Rattle.std.proofs.Common.{length}
use Rattle.sail_parse_expr.proofs.expressions.+read_row.Given as goal

abbrev pub decreases-read_row : goal.decreases-read_row
decreases-read_row l = length l.tokens.now
