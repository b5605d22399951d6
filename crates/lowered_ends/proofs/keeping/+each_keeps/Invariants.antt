use Rattle.std.proofs.Common.{length}
use Rattle.lowered_ends.proofs.keeping.+each_keeps.Given as goal

abbrev pub decreases-each_keeps : goal.decreases-each_keeps
decreases-each_keeps l = length l.given.now
