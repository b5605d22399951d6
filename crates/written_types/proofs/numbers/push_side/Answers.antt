use Rattle.std.proofs.Common.{◌≡◌, ◌++◌, sym, ap, ◌∙◌}
use Rattle.sail_syntax.specs.Places.{type_place}
use Rattle.sail_syntax.specs.declared.types.TyExp.{TyExp}
use Rattle.sail_core.specs.declared.written.Role.TheVariants as Size
use Rattle.sail_kinds.specs.Scopes.{within}
use Rattle.shape_rules.specs.Written.{piece, side, sized, number_in}
use Rattle.written_types.proofs.Rows.{on_ok}
use Rattle.written_types.proofs.Texts.{text_is}
use Rattle.written_types.proofs.numbers.push_side.Goals as goal

pub returns : goal.returns
returns c =
    let w = within c.args.scope.now in
    let text = c.args.part.now in
    let size : side (piece text) w ≡ sized Size.Side c.place.result c.in_ok-number.number =
    ap (λ (x : TyExp). sized Size.Side (type_place x) (number_in w x)) (text_is text)
    ∙ (λ i. sized Size.Side (sym c.place.ensures i) (sym c.in_ok-number.ensures i)) in
    on_ok c.push_sized.result (λ pushed. pushed ∙ ap (λ l. c.args.numbers.now ++ l) (sym size)) c.push_sized.ensures
