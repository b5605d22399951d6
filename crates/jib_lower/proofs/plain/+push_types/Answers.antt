use Rattle.std.proofs.Common.{◌≡◌, ◌∙◌, ◌∷◌, ◌++◌, ap, map, sym}
use Rattle.std.proofs.lemmas.Result.{on_ok_weaker}
use Rattle.lowered_pieces.specs.Nodes.{told_as}
use Rattle.lowered_steps.proofs.Lists.{first_of, none_of, others}
use Rattle.lowered_typed.proofs.Pushed.{none, pushed}
use Rattle.jib_lower.proofs.plain.+push_types.Goals as goal

pub returns-in-empty : goal.returns-in-empty
returns-in-empty t c =
    none c.args.types.now (map told_as c.args.told.now) (ap (map told_as) (none_of c.args.told.now c.in-empty.len_below))

pub returns-in_ok-push-in-len1-up : goal.returns-in_ok-push-in-len1-up
returns-in_ok-push-in-len1-up t c =
    on_ok_weaker c.push_types.result (λ (e : c.push_types.new.types ≡ c.push.new.self ++ map told_as (others c.args.told.now)).
    pushed c.args.types.now c.push.new.self c.push_types.new.types (map told_as (others c.args.told.now)) (map told_as c.args.told.now)
    c.in_ok-typ-in-len1-up.typ c.in_ok-push-in-len1-up.ensures.pushed e
    (ap (map told_as) (first_of c.args.told.now c.first-item.result c.in-len1-up.len_at_least c.first-item.is)
    ∙ ap (λ x. x ∷ map told_as (others c.args.told.now)) (sym c.in_ok-typ-in-len1-up.ensures)))
    c.push_types.ensures
