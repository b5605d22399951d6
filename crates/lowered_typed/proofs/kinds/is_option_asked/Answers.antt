use Rattle.std.proofs.Common.{◌≡◌, ◌∙◌, ◌++◌, ◌&&◌, ap}
use Rattle.checked_meaning.specs.Items.{fixed_typ}
use Rattle.sail_core.specs.Meaning.{option_typ}
use Rattle.lowered_typed.specs.Here as here
use Rattle.lowered_typed.specs.Judged as judged
use Rattle.lowered_typed.proofs.kinds.is_option_asked.Goals as goal

pub returns : goal.returns
returns c =
    let j = c.args.judge.now in let made : c.in_ok-option.option ≡ fixed_typ c.args.judge.now.setting.now.types.now
    (option_typ c.args.typ.now) = c.in_ok-option.ensures c.args.judge.now.setting.now.types.now c.args.typ.now c.in_ok-payload.ensures in
    c.both-all.ensures ∙ (λ i. (c.in_ok-one.ensures ∙ (λ k. here.all_come j ((c.as_slice.ensures ∙ c.in_ok-put_first_types.ensures
    ∙ ap (λ us. us ++ judged.first_types (judged.all_here j c.args.parts.now)) c.new-types.ensures) k) (c.in_ok-payload.ensures k))) i
    && (c.in_ok-other.ensures ∙ (λ k. judged.option_right j (c.in_ok-payload.ensures k) (made k))) i)
