use Rattle.type_arguments.specs.declared.normal.Normal.TheVariants as N
use Rattle.normal_forms.proofs.Amounts.{kept}
use Rattle.normal_forms.proofs.laws.normal_forms_keep_numbers.Goals as goal

pub returns-clause-number : goal.returns-clause-number
returns-clause-number c = λ text around nu n h. kept nu text around (N.Number n) h

pub returns-clause-truth : goal.returns-clause-truth
returns-clause-truth c = λ text around nu d h. kept nu text around (N.Constraint d) h
