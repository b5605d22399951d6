use Rattle.sail_syntax.proofs.patterns.Pat.TheLaws.{the_size}
use Rattle.shape_sides.proofs.sides.+elaborate_side.Given as goal

abbrev pub decreases-elaborate_side : goal.decreases-elaborate_side
decreases-elaborate_side l = the_size l.side.now
