use Rattle.std.proofs.Common.{◌≡◌, ◌∙◌, ap, sym}
use Rattle.std.proofs.lemmas.Result.{on_ok_weaker}
use Rattle.lowered_steps.proofs.Lists.{got_item, got_none}
use Rattle.jib_lower.specs.Crossings.{list_at, with_all}
use Rattle.jib_lower.proofs.crossings.add_list.Goals as goal

pub returns-in-Some : goal.returns-in-Some
returns-in-Some c =
    on_ok_weaker c.add_all.result
    (λ (e : c.add_all.new.seen ≡ with_all c.as_slice.result.now c.args.seen.now).
    e ∙ ap (λ ds. with_all ds c.args.seen.now)
    (c.as_slice.ensures
    ∙ sym (ap list_at (got_item c.args.lists.now c.args.at c.in-Some.list.now c.in-Some.ensures.lookup.0 c.in-Some.ensures.lookup.1))))
    c.add_all.ensures

pub returns-in-None : goal.returns-in-None
returns-in-None c = sym (ap (λ o. with_all (list_at o) c.args.seen.now) (got_none c.args.lists.now c.args.at c.in-None.ensures.lookup.0))
