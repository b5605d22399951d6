use Rattle.size_values.specs.declared.constants.Picked.{Picked}
use Rattle.sized_nodes.specs.declared.trees.Case.{Case}
use Rattle.sized_nodes.specs.declared.trees.Lead.{Lead}
use Rattle.std.specs.Prelude.{List}
use Rattle.lowered_laws.specs.CodeLaws.{LabelsAreOwn}
use Rattle.lowered_laws.proofs.Labels.{by_case_own}
use Rattle.lowered_laws.proofs.code_laws.labels_are_own.Goals as goal

own : {A : Type 0} (picks : A → List Picked) → LabelsAreOwn picks
own picks = λ kit p q arm each us. by_case_own picks kit p q arm each us

pub returns-clause-cases : goal.returns-clause-cases
returns-clause-cases c = own (λ (x : Case). x.picked)

pub returns-clause-leads : goal.returns-clause-leads
returns-clause-leads c = own (λ (x : Lead). x.picked)
