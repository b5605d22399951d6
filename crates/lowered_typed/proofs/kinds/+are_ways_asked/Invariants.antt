use Rattle.std.proofs.Common.{length}
use Rattle.lowered_typed.proofs.kinds.+are_ways_asked.Given as goal

abbrev pub decreases-are_ways_asked : goal.decreases-are_ways_asked
decreases-are_ways_asked l = length l.suffixes.now
