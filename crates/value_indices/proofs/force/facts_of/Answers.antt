use Rattle.std.proofs.Common.{◌∷◌, [], sym, subst}
use Rattle.value_indices.specs.Force.{IsInForce}
use Rattle.value_indices.specs.Walking.{begun, steps_read}
use Rattle.value_indices.proofs.Written.{steps_behind}
use Rattle.value_indices.proofs.force.facts_of.Goals as goal

pub loop-step-preserved : goal.loop-step-preserved
loop-step-preserved c =
    let l = c.loop-step in
    subst (λ w. IsInForce w c.read.new.facts.items c.read.new.marks) (sym (steps_behind (begun 0) l.yielded (c.in-Some.step ∷ [])))
    (c.in_ok-read.ensures (steps_read (begun 0) l.yielded) l.invariant)
