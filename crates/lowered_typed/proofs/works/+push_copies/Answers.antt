use Rattle.std.proofs.Common.{◌≡◌, ◌∙◌, ◌∷◌, ap, sym}
use Rattle.std.proofs.Common.{◌++◌}
use Rattle.std.proofs.lemmas.Result.{on_ok_weaker}
use Rattle.lowered_steps.proofs.Lists.{first_of, none_of, others}
use Rattle.lowered_typed.proofs.Pushed.{none, pushed}
use Rattle.lowered_typed.proofs.works.+push_copies.Goals as goal

pub returns-in-empty : goal.returns-in-empty
returns-in-empty t c = none c.args.copies.now (c.args.types.now) (ap (λ us. us) (none_of c.args.types.now c.in-empty.len_below))

pub returns-in_ok-push-in-len1-up : goal.returns-in_ok-push-in-len1-up
returns-in_ok-push-in-len1-up t c =
    on_ok_weaker c.push_copies.result (λ (e : c.push_copies.new.copies ≡ c.push.new.self ++ (others c.args.types.now)).
    pushed c.args.copies.now c.push.new.self c.push_copies.new.copies ((others c.args.types.now)) (c.args.types.now) (c.in_ok-copy-in-len1-up.copy)
    c.in_ok-push-in-len1-up.ensures.pushed e
    (first_of c.args.types.now c.first-item.result c.in-len1-up.len_at_least c.first-item.is
    ∙ ap (λ x. x ∷ others c.args.types.now) (sym c.in_ok-copy-in-len1-up.ensures))) c.push_copies.ensures
