use Rattle.soundness_steps.proofs.Steps.{gives_numbers}
use Rattle.soundness_steps.proofs.laws.nodes_note_numbers.Goals as goal

pub returns : goal.returns
returns c = λ q n f facts k i v w gives has. gives_numbers k i v w gives has
