use Rattle.std.proofs.Common.{length}
use Rattle.lowered_steps.proofs.setting.+reads_of.Given as goal

abbrev pub decreases-reads_of : goal.decreases-reads_of
decreases-reads_of l = length l.reads.now
