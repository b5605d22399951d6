use Rattle.std.proofs.Common.{length}
use Rattle.lowered_steps.proofs.words.+put_cut.Given as goal

abbrev pub decreases-put_cut : goal.decreases-put_cut
decreases-put_cut l = length l.widths.now
