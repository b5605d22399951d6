use Rattle.std.proofs.Common.{◌≡◌, ◌∙◌, List, sym, ap}
use Rattle.jib.specs.declared.code.Source.{Source}
use Rattle.lowered_pieces.specs.Forms.{in_fields}
use Rattle.lowered_steps.specs.Makers.{all_slots}
use Rattle.lowered_typed.proofs.Shells.{operands_slots}
use Rattle.lowered_typed.specs.Asked.{order_of}
use Rattle.lowered_validity.specs.Typing.{operands}
use Rattle.std.proofs.lemmas.Result.{IfOk-weaker}
use Rattle.std.specs.Prelude.{reverse}
use Rattle.lowered_typed.specs.Here as here
use Rattle.lowered_typed.proofs.cases.ordered.Goals as goal

pub in_fields-requires : goal.in_fields-requires
in_fields-requires c =
    record {
      slots = ap all_slots c.in_ok-sources.ensures ∙ operands_slots 0 (here.numbers c.args.judge.now c.args.types.now);
    }

pub returns-in-Forwards : goal.returns-in-Forwards
returns-in-Forwards c =
    c.in_ok-sources.ensures ∙ ap (λ o. order_of c.args.judge.now o (operands 0 (here.numbers c.args.judge.now c.args.types.now))) (sym c.in-Forwards.is)

pub returns-in-Backwards : goal.returns-in-Backwards
returns-in-Backwards c =
    c.turned.ensures ∙ ap (λ rs. reverse rs) c.in_ok-sources.ensures
    ∙ ap (λ o. order_of c.args.judge.now o (operands 0 (here.numbers c.args.judge.now c.args.types.now))) (sym c.in-Backwards.is)

pub returns-in-Fields : goal.returns-in-Fields
returns-in-Fields c =
    IfOk-weaker c.in_fields.result _
    (λ (a : List Source). a ≡ order_of c.args.judge.now c.args.order (operands 0 (here.numbers c.args.judge.now c.args.types.now))) (λ a e. e
    ∙ ap (λ rs. in_fields (here.no_value c.args.judge.now) c.in-Fields.fields.now rs) c.in_ok-sources.ensures
    ∙ ap (λ o. order_of c.args.judge.now o (operands 0 (here.numbers c.args.judge.now c.args.types.now))) (sym c.in-Fields.is)) c.in_fields.ensures
