use Rattle.std.proofs.Common.{◌≡◌, drop}
use Rattle.lowered_steps.specs.Hands.{types_of}
use Rattle.lowered_typed.specs.Judged as judged
use Rattle.lowered_typed.proofs.arms.are_ends_typed.Given as goal

abbrev pub invariant-loop-arm : goal.invariant-loop-arm
invariant-loop-arm l = judged.all_end_right l.judge l.arms (types_of l.ends) ≡ judged.all_end_right l.judge (drop l.arm-index l.arms) (types_of l.ends)
