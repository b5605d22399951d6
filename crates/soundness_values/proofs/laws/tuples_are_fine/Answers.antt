use Rattle.soundness_values.proofs.MadeKinds.{tuple_kind}
use Rattle.soundness_values.proofs.laws.tuples_are_fine.Goals as goal

pub returns : goal.returns
returns c = λ fit q w. tuple_kind fit q w
