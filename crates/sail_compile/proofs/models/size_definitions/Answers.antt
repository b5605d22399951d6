use Rattle.std.proofs.Common.{subst, Ok, Err}
use Rattle.sail_core.specs.declared.model.CoreModel.{CoreModel}
use Rattle.monomorph.specs.Instances.{instances, IsMet}
use Rattle.jib_machine.specs.declared.machine.Machine.{Machine}
use Rattle.sail_compile.specs.declared.compiled.Compiled.{Compiled}
use Rattle.sail_compile.proofs.ModelLemmas.{accepted_is, unsized_tells}
use Rattle.sail_compile.proofs.RunLemmas.{runs_by}
use Rattle.sail_compile.proofs.models.size_definitions.Goals as goal

pub returns-in_ok-run-in-Ok-clause-accepted : goal.returns-in_ok-run-in-Ok-clause-accepted
returns-in_ok-run-in-Ok-clause-accepted c = λ closed run.
    let made : Compiled Machine = record { accepted = record { certified = c.args.certified; instances = c.in-Ok.instances }; run = c.in_ok-run-in-Ok.run' } in
    accepted_is c.args.definitions.now made
    (subst (λ (core : CoreModel). IsMet (Ok c.in-Ok.instances) (instances core)) c.core.ensures c.in-Ok.ensures)
    (runs_by c.args.definitions.now c.args.certified c.args.again c.in_ok-run-in-Ok.run' run closed c.in_ok-run-in-Ok.ensures.none
    c.in_ok-run-in-Ok.ensures.runs) closed

pub returns-in_ok-size_refusal-in-Err-clause-refused : goal.returns-in_ok-size_refusal-in-Err-clause-refused
returns-in_ok-size_refusal-in-Err-clause-refused c =
    unsized_tells c.args.definitions.now c.args.certified c.in-Err.error c.in_ok-size_refusal-in-Err.field-0
    (subst (λ (core : CoreModel). IsMet (Err c.in-Err.error) (instances core)) c.core.ensures c.in-Err.ensures)
    c.in_ok-size_refusal-in-Err.ensures.told c.in_ok-size_refusal-in-Err.ensures.refused
