use Rattle.soundness_calls.proofs.Functions.{functions_sound}
use Rattle.soundness_calls.proofs.functions_are_sound.Goals as goal

pub returns : goal.returns
returns c = functions_sound
