use Rattle.std.proofs.Common.{length}
use Rattle.sail_parse_expr.proofs.expressions.Rows.+infix_sum_more.Given as goal

abbrev pub decreases-infix_sum_more : goal.decreases-infix_sum_more
decreases-infix_sum_more g l = length l.tokens.now
