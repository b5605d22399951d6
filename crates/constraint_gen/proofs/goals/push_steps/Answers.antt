use Rattle.std.proofs.Common.{◌∷◌, [], sym, subst}
use Rattle.value_indices.specs.Force.{IsInForce}
use Rattle.value_indices.specs.Walking.{begun, steps_read}
use Rattle.value_indices.proofs.Written.{steps_behind}
use Rattle.fact_index.specs.Filed.{IsFiled}
use Rattle.constraint_gen.proofs.Owing.{steps_owed}
use Rattle.constraint_gen.proofs.goals.push_steps.Goals as goal

pub loop-step-preserved : goal.loop-step-preserved
loop-step-preserved c =
    let l = c.loop-step in
    let w = steps_read (begun 0) l.yielded in
    let lists = c.as_slice.result.now in
    let facts = c.as_slice-in-loop-step.result.now in
    let marks = c.as_slice-in-loop-step-2.result.now in
    let force : IsInForce w facts marks =
    subst (λ fs. IsInForce w fs marks) (sym c.as_slice-in-loop-step.ensures.value)
    (subst (λ ms. IsInForce w l.facts.items ms) (sym c.as_slice-in-loop-step-2.ensures) l.invariant.force) in
    let filed : IsFiled facts lists =
    subst (λ fs. IsFiled fs lists) (sym c.as_slice-in-loop-step.ensures.value)
    (subst (IsFiled l.facts.items) (sym c.as_slice.ensures.value) l.invariant.filed) in
    record {
      owed = steps_owed c.args.names.now c.args.made.now l.made c.push_step.new.made l.yielded c.in-Some.step l.invariant.owed
          (c.in_ok-push_step.ensures w force filed);
      force = subst (λ v. IsInForce v c.read_step.new.facts.items c.read_step.new.marks) (sym (steps_behind (begun 0) l.yielded (c.in-Some.step ∷ [])))
          (c.in_ok-read_step.ensures.force w l.invariant.force);
      filed = c.in_ok-read_step.ensures.filed w l.invariant.force l.invariant.filed;
    }
