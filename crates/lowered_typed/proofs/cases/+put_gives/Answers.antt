use Rattle.std.proofs.Common.{◌≡◌, ◌∙◌, ◌∷◌, ◌++◌, sym, ap}
use Rattle.lowered_steps.proofs.Lists.{first_of, none_of, others}
use Rattle.lowered_typed.proofs.Pushed.{none, pushed}
use Rattle.lowered_validity.specs.Typing.{gives_in}
use Rattle.std.proofs.lemmas.Result.{on_ok_weaker}
use Rattle.lowered_typed.proofs.cases.+put_gives.Goals as goal

pub returns-in-empty : goal.returns-in-empty
returns-in-empty t c = none c.args.types.now (gives_in c.args.cases.now) (ap (λ us. gives_in us) (none_of c.args.cases.now c.in-empty.len_below))

pub returns-in_ok-push-in-len1-up : goal.returns-in_ok-push-in-len1-up
returns-in_ok-push-in-len1-up t c =
    let more = gives_in (others c.args.cases.now) in
    on_ok_weaker c.put_gives.result (λ (e : c.put_gives.new.types ≡ c.push.new.self ++ more).
    pushed c.args.types.now c.push.new.self c.put_gives.new.types more
    (gives_in c.args.cases.now) c.in_ok-copy-in-len1-up.copy c.in_ok-push-in-len1-up.ensures.pushed e
    (ap (λ us. gives_in us) (first_of c.args.cases.now c.first-item.result c.in-len1-up.len_at_least c.first-item.is)
    ∙ ap (λ x. x ∷ more) (sym c.in_ok-copy-in-len1-up.ensures))) c.put_gives.ensures
