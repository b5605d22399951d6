use Rattle.note_laws.proofs.Bodies.{bodies_have}
use Rattle.note_laws.proofs.bodies_have_notes.Goals as goal

pub returns : goal.returns
returns c = bodies_have
