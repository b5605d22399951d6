use Rattle.soundness_forms.proofs.PlainKinds.{constant_kind, local_kind, variable_kind}
use Rattle.soundness_forms.proofs.laws.leaves_are_fine.Goals as goal

pub returns : goal.returns
returns c = λ fit q w. (constant_kind fit q w, local_kind fit q w, variable_kind fit q w)
