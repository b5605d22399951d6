use Rattle.std.proofs.Common.{◌∙◌, ap, sym, subst}
use Rattle.model_state.specs.Folds.{Keeps, IsNotDone}
use Rattle.model_state.specs.RunState.{RunState}
use Rattle.model_state.specs.declared.cause.Ended.{Ended}
use Rattle.jib_machine.specs.Events.{reset_arguments}
use Rattle.jib_machine.proofs.EventLaws.{called_so, call_keeps, call_ends}
use Rattle.jib_machine.proofs.steps.MachineStepper.reset.Goals as goal

pub returns-clause-ended : goal.returns-clause-ended
returns-clause-ended g c =
    let m = c.args.self.now in
    ap (λ r. r.ended) (called_so m.program m.kept m.types m.lets c.args.hart m.entries.reset (reset_arguments c.args.hart c.args.entry)
    c.in_ok-arguments.arguments.items c.args.state.now _
    c.in_ok-arguments.ensures c.in_ok-ended.ensures.1)

pub returns-clause-state : goal.returns-clause-state
returns-clause-state g c =
    let m = c.args.self.now in
    ap (λ r. r.state) (called_so m.program m.kept m.types m.lets c.args.hart m.entries.reset (reset_arguments c.args.hart c.args.entry)
    c.in_ok-arguments.arguments.items c.args.state.now _
    c.in_ok-arguments.ensures c.in_ok-ended.ensures.1)

pub returns-clause-keeps : goal.returns-clause-keeps
returns-clause-keeps g c =
    let m = c.args.self.now in
    let before = c.args.state.now in
    subst (λ (after : RunState). Keeps before after) (sym (ap (λ r. r.state) (called_so m.program m.kept m.types m.lets c.args.hart m.entries.reset
    (reset_arguments c.args.hart c.args.entry) c.in_ok-arguments.arguments.items c.args.state.now _ c.in_ok-arguments.ensures c.in_ok-ended.ensures.1)))
    (call_keeps m.program m.kept m.types m.lets c.args.hart m.entries.reset (reset_arguments c.args.hart c.args.entry) before)

pub returns-clause-not_done : goal.returns-clause-not_done
returns-clause-not_done g c =
    let m = c.args.self.now in
    let before = c.args.state.now in
    subst (λ (e : Ended). IsNotDone e) (sym (ap (λ r. r.ended) (called_so m.program m.kept m.types m.lets c.args.hart m.entries.reset
    (reset_arguments c.args.hart c.args.entry) c.in_ok-arguments.arguments.items c.args.state.now _ c.in_ok-arguments.ensures c.in_ok-ended.ensures.1)))
    (call_ends m.program m.kept m.types m.lets c.args.hart m.entries.reset (reset_arguments c.args.hart c.args.entry) before)
