use Rattle.std.proofs.Common.{length}
use Rattle.split_combinations.proofs.combinations.+combinations.Given as goal

abbrev pub decreases-combinations : goal.decreases-combinations
decreases-combinations l = length l.split.now
