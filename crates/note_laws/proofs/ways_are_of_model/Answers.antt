use Rattle.note_laws.proofs.ModelGoes as ModelGoes
use Rattle.note_laws.proofs.ways_are_of_model.Goals as goal

pub returns : goal.returns
returns c = ModelGoes.ways_are_of_model
