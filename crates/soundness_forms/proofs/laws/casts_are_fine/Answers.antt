use Rattle.soundness_forms.proofs.PlainKinds.{cast_kind, written_kind}
use Rattle.soundness_forms.proofs.laws.casts_are_fine.Goals as goal

pub returns : goal.returns
returns c = λ fit q w. (cast_kind fit q w, written_kind fit q w)
