use Rattle.std.proofs.Common.{◌+◌, sym, subst, take, ◌∙◌}
use Rattle.value_indices.specs.Force.{IsInForce}
use Rattle.value_indices.specs.Walking.{Written, begun, steps_read}
use Rattle.size_values.specs.Numbers.{known_of}
use Rattle.size_splits.specs.Telling.{told_in}
use Rattle.monomorph.specs.Reading.{inside_of}
use Rattle.monomorph.proofs.Lasting.{all_rest}
use Rattle.monomorph.proofs.Noted.{one_step, read_next, read_refused}
use Rattle.monomorph.proofs.Over.{is_fine, is_refused}
use Rattle.monomorph.proofs.bodies.read_steps.Goals as goal

pub loop-at-preserved : goal.loop-at-preserved
loop-at-preserved c =
    let l = c.loop-at in
    let steps = c.args.steps.now in
    let s = c.index-steps-at.result in
    let w = steps_read (begun 0) (take l.at steps) in
    let new = c.read_step.new.found in
    let k = known_of c.args.inside.now.numbers.now in
    let vs = c.args.inside.now.split.now in
    record {
      force = subst (λ (v : Written). IsInForce (told_in k vs v) c.follow_telling.new.facts.items c.follow_telling.new.marks)
          (sym (one_step steps l.at s c.loop-at-test.true c.index-steps-at.is)) (c.in_ok-follow_telling.ensures w l.invariant.force);
      read = read_next (inside_of c.args.inside.now) steps l.at s c.as_slice.result.now _ l.found _ c.loop-at-test.true c.index-steps-at.is
          (all_rest steps (l.at + 1)) (l.invariant.force.in_force ∙ sym c.as_slice.ensures.value) l.invariant.read new
          (is_fine c.in_ok-read_step.field-0 new _ c.in-None.is c.in_ok-read_step.ensures);
    }

pub returns-in-Some : goal.returns-in-Some
returns-in-Some c =
    let l = c.loop-at in
    let steps = c.args.steps.now in
    let s = c.index-steps-at.result in
    let new = c.read_step.new.found in
    read_refused (inside_of c.args.inside.now) steps l.at s c.as_slice.result.now _ l.found _ c.loop-at-test.true c.index-steps-at.is
    (all_rest steps (l.at + 1)) (l.invariant.force.in_force ∙ sym c.as_slice.ensures.value) l.invariant.read c.in-Some.refused new new
    (is_refused c.in_ok-read_step.field-0 c.in-Some.refused new _ c.in-Some.is c.in_ok-read_step.ensures)
