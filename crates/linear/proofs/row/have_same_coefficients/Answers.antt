use Rattle.linear.proofs.Same.{same_more}
use Rattle.linear.proofs.row.have_same_coefficients.Goals as goal

pub loop-place-preserved : goal.loop-place-preserved
loop-place-preserved c = same_more c.args.first.now.coefficients c.args.second.now.coefficients c.loop-place.place _ _ _ c.coefficient.ensures
    c.coefficient-in-loop-place.ensures c.is.ensures c.loop-place.invariant c.if-not-is.false
