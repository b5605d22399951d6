use Rattle.sail_types.proofs.Substituted.{substituted_number}
use Rattle.sail_types.proofs.laws.substitution_keeps_numbers.Goals as goal

pub returns : goal.returns
returns c = λ by nu n m h. substituted_number by n nu m h
