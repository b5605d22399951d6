use Rattle.std.proofs.Common.{◌∙◌, sym, Bool}
use Rattle.size_splits.specs.Bodies.{Body, body_read}
use Rattle.monomorph.specs.Lasts.{model_in}
use Rattle.tabled_cores.specs.Bodies.{body_tabled}
use Rattle.tabled_cores.proofs.Rests.{made_false, made_true}
use Rattle.tabled_models.proofs.bodies.bodies_tabled.Goals as goal

pub returns-then-not-branch : goal.returns-then-not-branch
returns-then-not-branch c =
    let m = model_in c.args.model.now in
    let f : Body → Bool = λ b. body_tabled c.args.given m.core.types m.sizing c.args.numbers.now c.args.own.now c.args.list.now b in
    made_false body_read f c.args.bodies.now c.loop-body.body-index c.body-item.result _ c.loop-body-test.true c.body-item.is c.loop-body.invariant
    (sym c.in_ok-body_tabled.ensures ∙ c.if-not-branch.true)

pub loop-body-preserved : goal.loop-body-preserved
loop-body-preserved c =
    let m = model_in c.args.model.now in
    let f : Body → Bool = λ b. body_tabled c.args.given m.core.types m.sizing c.args.numbers.now c.args.own.now c.args.list.now b in
    made_true body_read f c.args.bodies.now c.loop-body.body-index c.body-item.result _ c.loop-body-test.true c.body-item.is c.loop-body.invariant
    (sym c.in_ok-body_tabled.ensures ∙ c.if-not-branch.false)
