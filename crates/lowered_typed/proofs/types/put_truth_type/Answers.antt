use Rattle.std.proofs.Common.{◌≡◌, ◌∙◌, ◌∷◌, ◌++◌, sym, ap, []}
use Rattle.lowered_typed.proofs.Fixed.{truth_typ}
use Rattle.lowered_typed.proofs.Pushed.{none}
use Rattle.std.proofs.lemmas.Result.{on_ok_weaker}
use Rattle.size_values.specs.declared.sized.Sized.TheVariants as Z
use Rattle.lowered_typed.specs.Here as here
use Rattle.lowered_typed.specs.Judged as judged
use Rattle.lowered_typed.proofs.types.put_truth_type.Goals as goal

pub returns-in-Some : goal.returns-in-Some
returns-in-Some c =
    on_ok_weaker c.push.result (λ (e : c.push.new.self ≡ c.args.types.now ++ Z.Bool ∷ []). e
    ∙ ap (λ t. c.args.types.now ++ t ∷ []) (sym (truth_typ c.args.judge.now.setting.now.types.now))
    ∙ ap (λ o. c.args.types.now ++ here.truth_types c.args.judge.now o) (sym c.in-Some.is ∙ c.truth_of.ensures)) c.push.ensures.pushed

pub returns-in-None : goal.returns-in-None
returns-in-None c =
    none c.args.types.now (judged.condition_types c.args.judge.now c.args.condition.now) (ap (here.truth_types c.args.judge.now)
    (sym c.truth_of.ensures ∙ c.in-None.is))
