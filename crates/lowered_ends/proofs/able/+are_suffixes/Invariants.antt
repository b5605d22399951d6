use Rattle.std.proofs.Common.{length}
use Rattle.lowered_ends.proofs.able.+are_suffixes.Given as goal

abbrev pub decreases-are_suffixes : goal.decreases-are_suffixes
decreases-are_suffixes l = length l.suffixes.now
