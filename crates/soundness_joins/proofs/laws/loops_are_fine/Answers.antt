use Rattle.soundness_joins.proofs.JoinedKinds.{repeat_kind, while_kind}
use Rattle.soundness_joins.proofs.laws.loops_are_fine.Goals as goal

pub returns : goal.returns
returns c = λ fit q w. (while_kind fit q w, repeat_kind fit q w)
