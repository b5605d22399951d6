use Rattle.std.proofs.Common.{length}
use Rattle.lowered_steps.proofs.setting.+list_all_gives.Given as goal

abbrev pub decreases-list_all_gives : goal.decreases-list_all_gives
decreases-list_all_gives l = length l.bodies.now
