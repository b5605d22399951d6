use Rattle.soundness_forms.proofs.LeavingKinds.{exit_kind, return_kind}
use Rattle.soundness_forms.proofs.laws.leaving_is_fine.Goals as goal

pub returns : goal.returns
returns c = λ fit q w. (return_kind fit q w, exit_kind fit q w)
