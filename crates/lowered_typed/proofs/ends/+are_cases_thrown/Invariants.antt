use Rattle.std.proofs.Common.{length}
use Rattle.lowered_typed.proofs.ends.+are_cases_thrown.Given as goal

abbrev pub decreases-are_cases_thrown : goal.decreases-are_cases_thrown
decreases-are_cases_thrown l = length l.cases.now
