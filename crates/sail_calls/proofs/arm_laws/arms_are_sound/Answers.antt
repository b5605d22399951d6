use Rattle.sail_calls.proofs.Arms.{arms_sound}
use Rattle.sail_calls.proofs.arm_laws.arms_are_sound.Goals as goal

pub returns : goal.returns
returns c = arms_sound
