use Rattle.std.proofs.Common.{◌≡◌, drop}
use Rattle.lowered_typed.specs.Judged as judged
use Rattle.lowered_typed.proofs.arms.are_arms_typed.Given as goal

abbrev pub invariant-loop-arm : goal.invariant-loop-arm
invariant-loop-arm l = judged.all_given_right l.judge l.arms l.given ≡ judged.all_given_right l.judge (drop l.arm-index l.arms) l.given
