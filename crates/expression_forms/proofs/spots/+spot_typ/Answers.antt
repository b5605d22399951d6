use Rattle.std.proofs.Common.{◌∙◌, ap, sym}
use Rattle.wide_types.proofs.Turns.{found}
use Rattle.pattern_leaves.specs.Settings.{around_of}
use Rattle.expression_forms.specs.Spots.{Spot, parts_typ}
use Rattle.expression_forms.proofs.SpotForms.{late_is, tuple_is}
use Rattle.expression_forms.proofs.spots.+spot_typ.Goals as goal

pub Spot::typ-returns-in_ok-parts-in-Tuple : goal.Spot::typ-returns-in_ok-parts-in-Tuple
Spot::typ-returns-in_ok-parts-in-Tuple t c =
    c.parts_typ.ensures
    ∙ ap parts_typ c.in_ok-parts-in-Tuple.ensures
    ∙ sym (ap (λ (s : Spot). s.typ) (tuple_is (around_of c.args.around.now) c.args.self.now c.in-Tuple.field-0 c.in-Tuple.field-1 c.in-Tuple.spots
    c.as_slice.result.now c.in-Tuple.is c.as_slice.ensures))

pub Spot::typ-returns-in-Late : goal.Spot::typ-returns-in-Late
Spot::typ-returns-in-Late t c =
    found c.late_type.result _ _ c.late_type.ensures
    (sym (ap (λ (s : Spot). s.typ) (late_is (around_of c.args.around.now) c.args.self.now c.in-Late.field-0 c.in-Late.field-1 c.in-Late.field-2
    c.in-Late.field-3 c.in-Late.reached c.in-Late.known c.in-Late.is)))
