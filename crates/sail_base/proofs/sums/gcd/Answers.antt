use Rattle.sail_base.proofs.Divisors.{gcd_found, gcd_past}
use Rattle.sail_base.proofs.sums.gcd.Goals as goal

pub returns-then-g : goal.returns-then-g
returns-then-g c =
    gcd_found c.args.a c.args.b _ _ _ c.ranges.a c.ranges.b c.unsigned_abs.ensures.value
    c.unsigned_abs-2.ensures.value c.gcd_of-g.ensures c.if-g.true

pub returns-else-g : goal.returns-else-g
returns-else-g c =
    gcd_past c.args.a c.args.b _ _ _ c.ranges.a c.ranges.b c.unsigned_abs.ensures.value c.unsigned_abs-2.ensures.value
    c.unsigned_abs.ensures.bound c.unsigned_abs-2.ensures.bound c.gcd_of-g.ensures c.if-g.false
