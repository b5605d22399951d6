use Rattle.soundness_calls.proofs.Events.{events_sound}
use Rattle.soundness_calls.proofs.events_are_sound.Goals as goal

pub returns : goal.returns
returns c = events_sound
