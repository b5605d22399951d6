use Rattle.std.proofs.Common.{length}
use Rattle.lowered_steps.proofs.words.+sum_widths.Given as goal

abbrev pub decreases-sum_widths : goal.decreases-sum_widths
decreases-sum_widths l = length l.widths.now
