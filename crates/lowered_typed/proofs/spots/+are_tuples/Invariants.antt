use Rattle.std.proofs.Common.{length}
use Rattle.lowered_typed.proofs.spots.+are_tuples.Given as goal

abbrev pub decreases-are_tuples : goal.decreases-are_tuples
decreases-are_tuples l = length l.types.now
