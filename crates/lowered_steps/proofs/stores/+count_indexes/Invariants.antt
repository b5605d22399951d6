use Rattle.std.proofs.Common.{length}
use Rattle.lowered_steps.proofs.stores.+count_indexes.Given as goal

abbrev pub decreases-count_indexes : goal.decreases-count_indexes
decreases-count_indexes l = length l.suffixes.now
