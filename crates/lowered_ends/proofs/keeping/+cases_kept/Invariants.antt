use Rattle.std.proofs.Common.{length}
use Rattle.lowered_ends.proofs.keeping.+cases_kept.Given as goal

abbrev pub decreases-cases_kept : goal.decreases-cases_kept
decreases-cases_kept l = length l.cases.now
