use Rattle.std.proofs.Common.{◌≡◌, IfOk, sym, ap, ◌∙◌, subst}
use Rattle.sail_types.specs.Shapes.{put, at}
use Rattle.sail_types.specs.declared.shapes.Shape.{Shape}
use Rattle.sail_types.specs.declared.shapes.Shape.TheVariants as V
use Rattle.shape_rules.specs.Targets as target
use Rattle.shape_calls.proofs.LastParams.{shape_or_never, last_is, put_never}
use Rattle.shape_calls.proofs.callees.last_param.Goals as goal

pub returns-in-Some : goal.returns-in-Some
returns-in-Some c =
    let same : target.last_param c.args.params.now ≡ c.in-Some.param.now = last_is c.args.params.now ∙ ap shape_or_never (sym c.in-Some.ensures.value) in
    subst (λ (p : Shape). IfOk c.put_shape.result (λ shape. shape ≡ put (at c.args.known.now) p)) (sym same) c.put_shape.ensures

pub returns-in-None : goal.returns-in-None
returns-in-None c =
    let same : target.last_param c.args.params.now ≡ V.Never = last_is c.args.params.now ∙ ap shape_or_never (sym c.in-None.ensures.value) in
    sym (ap (put (at c.args.known.now)) same ∙ put_never (at c.args.known.now))
