use Rattle.std.proofs.Common.{◌≡◌, ◌∙◌, ◌++◌, List, OnOk, ap, subst, sym}
use Rattle.std.specs.Option.{option_copied}
use Rattle.sail_types.specs.declared.types.Typ.{Typ}
use Rattle.expression_forms.proofs.Forms.{no_field, one_field}
use Rattle.expression_forms.proofs.ways.push_field.Goals as goal

pub returns-in-None : goal.returns-in-None
returns-in-None c =
    no_field c.args.field c.args.fields.now c.args.types.now (sym c.field_at.ensures ∙ ap option_copied c.in-None.is)

pub returns-in_ok-copy_typ-in-Some : goal.returns-in_ok-copy_typ-in-Some
returns-in_ok-copy_typ-in-Some c =
    subst (λ (ts : List Typ). OnOk c.push.result (c.push.new.self ≡ c.args.types.now ++ ts))
    (one_field c.args.field c.args.fields.now c.in-Some.field.now c.in_ok-copy_typ-in-Some.field-0
    (sym c.field_at.ensures ∙ ap option_copied c.in-Some.is) c.in_ok-copy_typ-in-Some.ensures)
    c.push.ensures.pushed
