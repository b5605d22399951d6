use Rattle.soundness_values.proofs.MadeKinds.{cons_kind, list_kind, vector_kind}
use Rattle.soundness_values.proofs.laws.lists_are_fine.Goals as goal

pub returns : goal.returns
returns c = λ fit q w shape. (list_kind fit q w shape, vector_kind fit q w shape, cons_kind fit q w shape)
