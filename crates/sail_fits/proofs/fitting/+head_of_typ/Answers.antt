use borrow.Author.Tests.{ltb-true, ltb-false}
use Rattle.std.proofs.Common.{◌≡◌, ◌∙◌, ap, sym}
use Rattle.sail_types.specs.Shapes.{at}
use Rattle.sail_types.specs.declared.shapes.Shape.TheVariants as V
use Rattle.sail_fits.proofs.HeadShapes.{at_past, at_variable, at_within, listed_shapes, listed_types}
use Rattle.sail_fits.specs.parts.Heads.{head_shape, listed}
use Rattle.sail_fits.proofs.fitting.+head_of_typ.Goals as goal

pub returns-in-Shapes : goal.returns-in-Shapes
returns-in-Shapes t c =
    let k : at (listed c.args.known.now) c.in-Variable.position ≡ head_shape c.head_in_shapes.result =
    ap (λ ss. at ss c.in-Variable.position) (listed_shapes _ _ c.in-Shapes.is) ∙ sym c.head_in_shapes.ensures in
    at_variable _ _ _ _ _ c.inside.ensures.shape c.in-Variable.is k

pub returns-in-None : goal.returns-in-None
returns-in-None t c =
    let k : at (listed c.args.known.now) c.in-Variable.position ≡ V.Hole =
    ap (λ ss. at ss c.in-Variable.position) (listed_types _ _ _ c.in-Types.is)
    ∙ at_past _ _ _ (ltb-false _ _ (sym c.in-None.ensures.lookup.0)) in
    at_variable _ _ _ _ _ c.inside.ensures.shape c.in-Variable.is k

pub returns-in-Some : goal.returns-in-Some
returns-in-Some t c =
    let k : at (listed c.args.known.now) c.in-Variable.position ≡ head_shape c.head_of_typ.result =
    ap (λ ss. at ss c.in-Variable.position) (listed_types _ _ _ c.in-Types.is)
    ∙ at_within _ _ _ _ (ltb-true _ _ (sym c.in-Some.ensures.lookup.0)) c.in-Some.ensures.lookup.1 ∙ sym c.head_of_typ.ensures in
    at_variable _ _ _ _ _ c.inside.ensures.shape c.in-Variable.is k
