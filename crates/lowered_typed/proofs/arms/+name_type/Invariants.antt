use Rattle.std.proofs.Common.{◌+◌, ◌*◌, length}
use Rattle.lowered_typed.proofs.arms.+name_type.Given as goal

abbrev pub decreases-name_type : goal.decreases-name_type
decreases-name_type l = 2 * length l.steps.now

abbrev pub decreases-behind_step : goal.decreases-behind_step
decreases-behind_step l = 2 * length l.rest.now + 1
