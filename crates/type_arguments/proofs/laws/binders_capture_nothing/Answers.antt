use Rattle.type_arguments.proofs.Binders.{number_inside, true_inside}
use Rattle.type_arguments.proofs.laws.binders_capture_nothing.Goals as goal

pub returns-clause-number : goal.returns-clause-number
returns-clause-number c = λ nu steady z arguments inside n m h e. number_inside nu steady z arguments inside n m h e

pub returns-clause-truth : goal.returns-clause-truth
returns-clause-truth c = λ nu steady z arguments inside e d h k. true_inside nu steady z arguments inside e d h k
