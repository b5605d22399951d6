use Rattle.std.proofs.Common.{◌∙◌, ap, sym, subst}
use Rattle.model_state.specs.Folds.{Keeps, IsNotDone}
use Rattle.model_state.specs.RunState.{RunState}
use Rattle.model_state.specs.declared.cause.Ended.{Ended}
use Rattle.jib_machine.proofs.OpenLaws.{initial_keeps, initial_ends}
use Rattle.jib_machine.proofs.steps.MachineStepper.init.Goals as goal

pub returns-clause-ended : goal.returns-clause-ended
returns-clause-ended g c = ap (λ r. r.ended) c.in_ok-ended.ensures

pub returns-clause-state : goal.returns-clause-state
returns-clause-state g c = ap (λ r. r.state) c.in_ok-ended.ensures

pub returns-clause-keeps : goal.returns-clause-keeps
returns-clause-keeps g c =
    let m = c.args.self.now in
    let before = c.args.state.now in
    subst (λ (after : RunState). Keeps before after) (sym (ap (λ r. r.state) c.in_ok-ended.ensures)) (initial_keeps m.program.openings m.opened before)

pub returns-clause-not_done : goal.returns-clause-not_done
returns-clause-not_done g c =
    let m = c.args.self.now in
    subst (λ (e : Ended). IsNotDone e) (sym (ap (λ r. r.ended) c.in_ok-ended.ensures)) (initial_ends m.program.openings m.opened c.args.state.now m.may_end)
