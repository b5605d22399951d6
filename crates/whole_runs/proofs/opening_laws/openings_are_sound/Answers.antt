use Rattle.whole_runs.proofs.AllOpenings.{openings_sound}
use Rattle.whole_runs.proofs.opening_laws.openings_are_sound.Goals as goal

pub returns : goal.returns
returns c = openings_sound
