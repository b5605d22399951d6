use Rattle.soundness_joins.proofs.JoinedKinds.{foreach_kind}
use Rattle.soundness_joins.proofs.laws.counting_is_fine.Goals as goal

pub returns : goal.returns
returns c = λ fit q w name way. foreach_kind fit q w name way
