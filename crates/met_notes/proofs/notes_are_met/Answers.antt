use Rattle.met_notes.proofs.Whole.{notes_met}
use Rattle.met_notes.proofs.notes_are_met.Goals as goal

pub returns : goal.returns
returns c = notes_met
