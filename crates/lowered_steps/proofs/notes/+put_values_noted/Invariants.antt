use Rattle.std.proofs.Common.{length}
use Rattle.lowered_steps.proofs.notes.+put_values_noted.Given as goal

abbrev pub decreases-put_values_noted : goal.decreases-put_values_noted
decreases-put_values_noted l = length l.parts.now
