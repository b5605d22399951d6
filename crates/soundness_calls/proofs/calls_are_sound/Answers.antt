use Rattle.soundness_calls.proofs.Calls.{calls_sound}
use Rattle.soundness_calls.proofs.calls_are_sound.Goals as goal

pub returns : goal.returns
returns c = calls_sound
