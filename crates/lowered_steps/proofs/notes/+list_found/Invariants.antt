use Rattle.std.proofs.Common.{length}
use Rattle.lowered_steps.proofs.notes.+list_found.Given as goal

abbrev pub decreases-list_found : goal.decreases-list_found
decreases-list_found l = length l.found.now
