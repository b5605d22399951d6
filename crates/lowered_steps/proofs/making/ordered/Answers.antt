use Rattle.std.proofs.Common.{◌≡◌, ◌∙◌, sym, ap}
use Rattle.lowered_pieces.specs.Places.{Naming}
use Rattle.std.proofs.lemmas.Result.{IfOk-weaker}
use Rattle.lowered_pieces.specs.Forms.{in_fields}
use Rattle.lowered_steps.specs.Makers.{order_of}
use Rattle.jib.specs.declared.code.Source.TheVariants as R
use Rattle.jib.specs.declared.code.Literal.TheVariants as L
use Rattle.lowered_steps.proofs.making.ordered.Goals as goal

pub returns-in-Forwards : goal.returns-in-Forwards
returns-in-Forwards c =
    λ name. ap (λ o. order_of c.args.setting.now name o c.args.sources) (sym c.in-Forwards.is)

pub returns-in-Backwards : goal.returns-in-Backwards
returns-in-Backwards c =
    λ name. c.turned.ensures ∙ ap (λ o. order_of c.args.setting.now name o c.args.sources) (sym c.in-Backwards.is)

pub returns-in-Fields : goal.returns-in-Fields
returns-in-Fields c =
    IfOk-weaker c.placed.result (λ p. p ≡ in_fields (R.Constant c.args.setting.now.unit L.Unit) c.in-Fields.fields.now c.as_slice.result.now)
    (λ p. (name : Naming) → p ≡ order_of c.args.setting.now name c.args.order c.args.sources)
    (λ p e name. e ∙ ap (λ us. in_fields (R.Constant c.args.setting.now.unit L.Unit) c.in-Fields.fields.now us) c.as_slice.ensures ∙ ap
    (λ o. order_of c.args.setting.now name o c.args.sources) (sym c.in-Fields.is))
    c.placed.ensures
