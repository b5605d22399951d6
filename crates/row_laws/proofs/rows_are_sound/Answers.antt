use Rattle.row_laws.proofs.Whole.{rows_sound}
use Rattle.row_laws.proofs.rows_are_sound.Goals as goal

pub returns : goal.returns
returns c = rows_sound
