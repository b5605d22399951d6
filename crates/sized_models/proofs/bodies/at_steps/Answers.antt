use Rattle.std.proofs.Common.{◌≤◌, ◌∙◌, sym, subst, length, take, arith}
use Rattle.value_indices.specs.Force.{IsInForce}
use Rattle.value_indices.specs.Walking.{Written, begun, steps_read}
use Rattle.size_values.specs.Numbers.{known_of}
use Rattle.size_splits.specs.Telling.{told_in}
use Rattle.size_splits.proofs.Lists.{read_more}
use Rattle.monomorph.specs.Reading.{inside_of}
use Rattle.sized_trees.specs.Bodies.{at_notes}
use Rattle.sized_trees.proofs.Noted.{nodes_end, nodes_next}
use Rattle.sized_models.proofs.bodies.at_steps.Goals as goal

pub loop-at-preserved : goal.loop-at-preserved
loop-at-preserved c =
    let l = c.loop-at in
    let steps = c.args.steps.now in
    let s = c.index-steps-at.result in
    let w = steps_read (begun 0) (take l.at steps) in
    let k = known_of c.args.inside.now.numbers.now in
    let vs = c.args.inside.now.split.now in
    record {
      force = subst (λ (v : Written). IsInForce (told_in k vs v) c.follow_telling.new.facts.items c.follow_telling.new.marks)
          (sym (read_more steps l.at s c.loop-at-test.true c.index-steps-at.is)) (c.in_ok-follow_telling.ensures w l.invariant.force);
      said = nodes_next (inside_of c.args.inside.now) c.args.list.now steps l.at s c.as_slice.result.now l.nodes _ c.loop-at-test.true
          c.index-steps-at.is (l.invariant.force.in_force ∙ sym c.as_slice.ensures.value) l.invariant.said c.push_step.new.nodes
          c.in_ok-push_step.ensures;
    }

pub returns : goal.returns
returns c =
    let l = c.loop-at in
    let r = inside_of c.args.inside.now in
    let steps = c.args.steps.now in
    let past : length steps ≤ l.at = omega arith in
    nodes_end r c.args.list.now steps l.at (steps_read (begun 0) (take l.at steps)) l.nodes
    (at_notes r c.args.list.now (steps_read (begun 0) steps).notes) past l.invariant.said
