use Rattle.sail_base.proofs.Words.{moved_down_past}
use Rattle.sail_base.proofs.word.bitwise.moved_down.Goals as goal

pub returns-else-by-lt128 : goal.returns-else-by-lt128
returns-else-by-lt128 c = moved_down_past 128 c.args.number c.args.by c.ranges.number.fits c.if-by-lt128.false
