use Rattle.std.proofs.Common.{◌≡◌, ◌∙◌, ◌∷◌, ◌++◌, ap, []}
use Rattle.std.proofs.lemmas.Result.{on_ok_weaker}
use Rattle.lowered_typed.proofs.types.put_literal_type.Goals as goal

pub returns : goal.returns
returns c =
    on_ok_weaker c.push.result (λ (e : c.push.new.self ≡ c.args.types.now ++ c.in_ok-typ.typ ∷ []). e
    ∙ ap (λ t. c.args.types.now ++ t ∷ []) (c.in_ok-typ.ensures c.args.judge.now.setting.now.types.now)) c.push.ensures.pushed
