use Rattle.std.proofs.Common.{◌≡◌, ◌∙◌, map, sym, ap, subst}
use Rattle.lowered_types.specs.Table.{form_parts, form_value}
use Rattle.lowered_tables.proofs.Growing.{out_named}
use Rattle.lowered_tables.proofs.tables.value_type.Goals as goal

pub returns-in_ok-named_value-in-Named-clause-made : goal.returns-in_ok-named_value-in-Named-clause-made
returns-in_ok-named_value-in-Named-clause-made c = λ number inside.
    let out = out_named c.args.typ.now c.in-Named.place c.in-Named.field-1 c.in-Named.field-2 c.in-Named.is in
    subst (λ w. c.in_ok-named_value-in-Named.field-0 ≡ form_value c.args.types.now number w) (sym out)
    (c.in_ok-named_value-in-Named.ensures number c.in-Named.field-1 c.in-Named.field-2
    (inside ∙ ap (λ w. map number (form_parts c.args.types.now w)) out))
