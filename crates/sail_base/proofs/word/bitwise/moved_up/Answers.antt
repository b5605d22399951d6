use Rattle.sail_base.proofs.Words.{moved_up_past}
use Rattle.sail_base.proofs.word.bitwise.moved_up.Goals as goal

pub returns-else-by-lt128 : goal.returns-else-by-lt128
returns-else-by-lt128 c = moved_up_past 128 c.args.number c.args.by c.if-by-lt128.false
