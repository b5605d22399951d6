use Rattle.std.proofs.Common.{length}
use Rattle.lowered_steps.proofs.notes.+put_all_noted.Given as goal

abbrev pub decreases-put_all_noted : goal.decreases-put_all_noted
decreases-put_all_noted l = length l.found.now
