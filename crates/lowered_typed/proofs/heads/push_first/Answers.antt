use Rattle.std.proofs.Common.{◌≡◌, ◌∙◌, ◌∷◌, ◌++◌, ap, [], append_assoc}
use Rattle.checked_meaning.specs.Items.{item_typ}
use Rattle.size_values.specs.declared.sized.Sized.{out-Sized}
use Rattle.std.proofs.lemmas.Result.{on_ok_weaker}
use Rattle.lowered_typed.proofs.heads.push_first.Goals as goal

pub returns : goal.returns
returns c =
    let it = item_typ (out-Sized c.args.whole.now) in
    on_ok_weaker c.push-2.result (λ (e : c.push-2.new.self ≡ c.push.new.self ++ c.in_ok-copy.copy ∷ []). e
    ∙ (λ i. (c.in_ok-push.ensures.pushed i) ++ c.in_ok-copy.ensures i ∷ [])
    ∙ append_assoc c.args.types.now (c.in_ok-item.item ∷ []) (c.args.whole.now ∷ [])
    ∙ ap (λ t. c.args.types.now ++ t ∷ c.args.whole.now ∷ []) c.in_ok-item.ensures) c.push-2.ensures.pushed
