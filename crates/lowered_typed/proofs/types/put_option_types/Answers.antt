use Rattle.std.proofs.Common.{◌≡◌, ◌∙◌, ◌∷◌, ◌++◌, ap, [], append_assoc}
use Rattle.checked_meaning.specs.Items.{fixed_typ}
use Rattle.sail_core.specs.Meaning.{option_typ}
use Rattle.std.proofs.lemmas.Result.{on_ok_weaker}
use Rattle.lowered_typed.proofs.types.put_option_types.Goals as goal

pub returns : goal.returns
returns c =
    let made : c.in_ok-option.option ≡ fixed_typ c.args.judge.now.setting.now.types.now
    (option_typ c.args.typ.now) = c.in_ok-option.ensures c.args.judge.now.setting.now.types.now c.args.typ.now c.in_ok-payload.ensures in
    on_ok_weaker c.push-2.result (λ (e : c.push-2.new.self ≡ c.push.new.self ++ c.in_ok-option.option ∷ []). e
    ∙ ap (λ us. us ++ c.in_ok-option.option ∷ []) c.in_ok-push.ensures.pushed
    ∙ append_assoc c.args.types.now (c.in_ok-copy.copy ∷ []) (c.in_ok-option.option ∷ [])
    ∙ (λ i. c.args.types.now ++ (c.in_ok-copy.ensures ∙ made) i ∷ made i ∷ [])) c.push-2.ensures.pushed
