use Rattle.std.proofs.Common.{◌≡◌, ◌∙◌, IfOk, ap, subst, sym}
use Rattle.std.specs.Option.{option_copied}
use Rattle.value_indices.specs.declared.indices.Reading.{Reading}
use Rattle.expression_forms.proofs.Forms.{last_some}
use Rattle.expression_forms.proofs.call_spots.last_type.Goals as goal

pub returns-in-Some : goal.returns-in-Some
returns-in-Some c =
    subst (λ (r : Reading). IfOk c.closed_type.result (λ made. made ≡ r))
    (sym (last_some c.args.types.now c.in-Some.typ.now (sym c.last.ensures.value ∙ ap option_copied c.in-Some.is)))
    c.closed_type.ensures
