use Rattle.std.proofs.Common.{◌≡◌, ◌∙◌, Some, subst, sym}
use Rattle.std.specs.Prelude.{IfOk}
use Rattle.sail_compile.specs.parts.Runs.{CoreRuns}
use Rattle.sail_compile.proofs.RunLemmas.{runs_tried, some_same}
use Rattle.sail_compile.proofs.flat_code.run_of.Goals as goal

pub returns-in-Some-clause-runs : goal.returns-in-Some-clause-runs
returns-in-Some-clause-runs c = λ written is.
    subst (λ core. IfOk c.checked_run.result (CoreRuns core)) (some_same c.in-Some.core written (sym c.in-Some.is ∙ is)) c.checked_run.ensures

pub returns-in-Some-clause-tried : goal.returns-in-Some-clause-tried
returns-in-Some-clause-tried c = λ there. runs_tried c.in-Some.core c.checked_run.result c.checked_run.ensures
