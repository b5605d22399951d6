use Rattle.std.proofs.Common.{length}
use Rattle.sail_parse_expr.proofs.expressions.Rows.+infix_product_more.Given as goal

abbrev pub decreases-infix_product_more : goal.decreases-infix_product_more
decreases-infix_product_more g l = length l.tokens.now
