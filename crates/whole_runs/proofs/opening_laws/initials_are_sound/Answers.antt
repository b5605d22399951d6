use Rattle.whole_runs.proofs.Initials.{initials_sound}
use Rattle.whole_runs.proofs.opening_laws.initials_are_sound.Goals as goal

pub returns : goal.returns
returns c = initials_sound
