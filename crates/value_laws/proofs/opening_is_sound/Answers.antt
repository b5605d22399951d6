use Rattle.value_laws.proofs.Opening.{opening_sound}
use Rattle.value_laws.proofs.opening_is_sound.Goals as goal

pub returns : goal.returns
returns c = opening_sound
