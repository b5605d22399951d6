use Rattle.type_arguments.proofs.Moves.{moved_number, moved_true}
use Rattle.type_arguments.proofs.laws.moves_keep_meaning.Goals as goal

pub returns-clause-number : goal.returns-clause-number
returns-clause-number c = λ depth nu n m h. moved_number depth nu n m h

pub returns-clause-truth : goal.returns-clause-truth
returns-clause-truth c = λ depth nu e d h. moved_true depth nu e d h
