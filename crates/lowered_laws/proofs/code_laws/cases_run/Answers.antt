use Rattle.size_values.specs.declared.constants.Picked.{Picked}
use Rattle.sized_nodes.specs.declared.trees.Case.{Case}
use Rattle.sized_nodes.specs.declared.trees.Lead.{Lead}
use Rattle.std.specs.Prelude.{List}
use Rattle.lowered_laws.specs.CodeLaws.{PresentRuns}
use Rattle.lowered_laws.proofs.Chosen.{by_case_good}
use Rattle.lowered_laws.proofs.code_laws.cases_run.Goals as goal

runs : {A : Type 0} (picks : A → List Picked) → PresentRuns picks
runs picks = λ m lets hart here r kit types names slots p q arm noted s k us l pc pe sl is told end there run.
    by_case_good m lets hart here r kit types names slots picks p q arm noted s k us l pc pe sl is told end there run

pub returns-clause-cases : goal.returns-clause-cases
returns-clause-cases c = runs (λ (x : Case). x.picked)

pub returns-clause-leads : goal.returns-clause-leads
returns-clause-leads c = runs (λ (x : Lead). x.picked)
