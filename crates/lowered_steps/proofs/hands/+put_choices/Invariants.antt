use Rattle.std.proofs.Common.{length}
use Rattle.lowered_steps.proofs.hands.+put_choices.Given as goal

abbrev pub decreases-put_choices : goal.decreases-put_choices
decreases-put_choices l = length l.cases.now
