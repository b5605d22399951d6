use Rattle.type_arguments.proofs.Truths.{read_number, read_true}
use Rattle.type_arguments.proofs.laws.arguments_keep_meaning.Goals as goal

pub returns-clause-number : goal.returns-clause-number
returns-clause-number c = λ arguments nu n m h. read_number arguments nu n m h

pub returns-clause-truth : goal.returns-clause-truth
returns-clause-truth c = λ arguments nu e d h. read_true arguments nu e d h
