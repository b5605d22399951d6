use Rattle.size_splits.specs.Bodies.{body_read}
use Rattle.monomorph.specs.Lasts.{model_in}
use Rattle.sized_trees.specs.Bodies.{sized_body}
use Rattle.sized_trees.proofs.Noted.{twice_next, twice_end}
use Rattle.sized_models.proofs.bodies.sized_bodies.Goals as goal

pub loop-body-preserved : goal.loop-body-preserved
loop-body-preserved c =
    let l = c.loop-body in
    twice_next body_read (sized_body (model_in c.args.model.now) c.args.list.now c.args.numbers.now c.args.own.now) c.args.bodies.now l.body-index
    c.body-item.result l.made c.push.new.self c.in_ok-sized_body.field-0 _ c.loop-body-test.true c.body-item.is c.in_ok-sized_body.ensures
    c.in_ok-push.ensures.pushed l.invariant

pub returns : goal.returns
returns c =
    let l = c.loop-body in
    twice_end body_read (sized_body (model_in c.args.model.now) c.args.list.now c.args.numbers.now c.args.own.now) c.args.bodies.now l.body-index
    l.made _ c.loop-body-test.false l.invariant
