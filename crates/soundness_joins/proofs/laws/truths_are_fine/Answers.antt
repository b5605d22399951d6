use Rattle.soundness_joins.proofs.JoinedKinds.{and_kind, or_kind}
use Rattle.soundness_joins.proofs.laws.truths_are_fine.Goals as goal

pub returns : goal.returns
returns c = λ fit q w. (and_kind fit q w, or_kind fit q w)
