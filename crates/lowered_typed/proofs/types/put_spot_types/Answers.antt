use Rattle.std.proofs.Common.{◌≡◌, ◌∙◌, ◌∷◌, ◌++◌, sym, ap, []}
use Rattle.lowered_ends.specs.Targets.{spot_in}
use Rattle.lowered_ends.specs.declared.targets.Spot.{Spot as SpotHeld}
use Rattle.lowered_typed.proofs.Fixed.{nothing_typ}
use Rattle.lowered_validity.specs.Typing.{gives_in}
use Rattle.std.proofs.lemmas.Result.{on_ok_weaker}
use Rattle.size_values.specs.declared.sized.Sized.TheVariants as Z
use Rattle.lowered_typed.specs.Judged as judged
use Rattle.lowered_typed.proofs.types.put_spot_types.Goals as goal

pub returns-in-Other : goal.returns-in-Other
returns-in-Other c =
    on_ok_weaker c.push.result (λ (e : c.push.new.self ≡ c.args.types.now ++ Z.Unit ∷ []). e
    ∙ ap (λ t. c.args.types.now ++ t ∷ []) (sym (nothing_typ c.args.judge.now.setting.now.types.now))
    ∙ ap (λ (s : SpotHeld). c.args.types.now ++ judged.spot_types c.args.judge.now (spot_in s) c.args.parts) (sym c.in-Other.is)) c.push.ensures.pushed

pub returns-in-One : goal.returns-in-One
returns-in-One c =
    on_ok_weaker c.push-in-One.result (λ (e : c.push-in-One.new.self ≡ c.args.types.now ++ Z.Unit ∷ []). e
    ∙ ap (λ t. c.args.types.now ++ t ∷ []) (sym (nothing_typ c.args.judge.now.setting.now.types.now))
    ∙ ap (λ (s : SpotHeld). c.args.types.now ++ judged.spot_types c.args.judge.now (spot_in s) c.args.parts)
    (sym c.in-One.is)) c.push-in-One.ensures.pushed

pub returns-in-Several : goal.returns-in-Several
returns-in-Several c =
    on_ok_weaker c.push-in-Several.result (λ (e : c.push-in-Several.new.self ≡ c.args.types.now ++ Z.Unit ∷ []). e
    ∙ ap (λ t. c.args.types.now ++ t ∷ []) (sym (nothing_typ c.args.judge.now.setting.now.types.now))
    ∙ ap (λ (s : SpotHeld). c.args.types.now ++ judged.spot_types c.args.judge.now (spot_in s) c.args.parts)
    (sym c.in-Several.is)) c.push-in-Several.ensures.pushed

pub returns-in-Called : goal.returns-in-Called
returns-in-Called c =
    on_ok_weaker c.put_gives.result (λ (e : c.put_gives.new.types ≡ c.args.types.now ++ gives_in c.cases.result.now). e
    ∙ ap (λ xs. c.args.types.now ++ gives_in xs) c.cases.ensures
    ∙ ap (λ (s : SpotHeld). c.args.types.now ++ judged.spot_types c.args.judge.now (spot_in s) c.args.parts) (sym c.in-Called.is)) c.put_gives.ensures
