use Rattle.soundness_steps.proofs.Steps.{makes}
use Rattle.soundness_steps.proofs.laws.nodes_make_values.Goals as goal

pub returns : goal.returns
returns c = λ q n f facts k is made xs v typed is_so. makes k is made xs v typed is_so
