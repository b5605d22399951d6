use Rattle.std.proofs.Common.{length}
use Rattle.lowered_typed.proofs.heads.+are_cut.Given as goal

abbrev pub decreases-are_cut : goal.decreases-are_cut
decreases-are_cut l = length l.widths.now
