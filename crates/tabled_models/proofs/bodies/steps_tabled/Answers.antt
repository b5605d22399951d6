use Rattle.std.proofs.Common.{◌≤◌, ◌∙◌, ◌&&◌, Bool, ap, sym, subst, length, take, arith}
use Rattle.value_indices.specs.Force.{IsInForce}
use Rattle.value_indices.specs.Walking.{Written, begun, steps_read}
use Rattle.size_values.specs.Numbers.{known_of}
use Rattle.size_splits.specs.Telling.{told_in}
use Rattle.size_splits.proofs.Lists.{read_more}
use Rattle.monomorph.specs.Reading.{inside_of}
use Rattle.tabled_cores.specs.Bodies.{notes_tabled}
use Rattle.tabled_cores.proofs.Noted.{tested_end, tested_next}
use Rattle.tabled_models.proofs.bodies.steps_tabled.Goals as goal

pub loop-at-preserved : goal.loop-at-preserved
loop-at-preserved c =
    let l = c.loop-at in
    let steps = c.args.steps.now in
    let s = c.index-steps-at.result in
    let w = steps_read (begun 0) (take l.at steps) in
    let k = known_of c.args.inside.now.numbers.now in
    let vs = c.args.inside.now.split.now in
    record {
      force = subst (λ (v : Written). IsInForce (told_in k vs v) c.follow_telling.new.facts.items c.follow_telling.new.marks)
          (sym (read_more steps l.at s c.loop-at-test.true c.index-steps-at.is)) (c.in_ok-follow_telling.ensures w l.invariant.force);
      said = tested_next c.args.given (inside_of c.args.inside.now) c.args.list.now steps l.at s c.as_slice.result.now l.tested _
          c.loop-at-test.true c.index-steps-at.is (l.invariant.force.in_force ∙ sym c.as_slice.ensures.value) l.invariant.said c.both-tested.result
          (c.both-tested.ensures ∙ ap (λ (b : Bool). l.tested && b) c.in_ok-one.ensures);
    }

pub returns : goal.returns
returns c =
    let l = c.loop-at in
    let r = inside_of c.args.inside.now in
    let list = c.args.list.now in
    let steps = c.args.steps.now in
    let past : length steps ≤ l.at = omega arith in
    tested_end c.args.given r list steps l.at (steps_read (begun 0) (take l.at steps)) l.tested
    (notes_tabled c.args.given list r (steps_read (begun 0) steps).notes) past l.invariant.said
