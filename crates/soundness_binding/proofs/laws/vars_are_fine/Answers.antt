use Rattle.soundness_binding.proofs.BindingKinds.{var_kind}
use Rattle.soundness_binding.proofs.laws.vars_are_fine.Goals as goal

pub returns : goal.returns
returns c = λ q w name written. var_kind q w name written
