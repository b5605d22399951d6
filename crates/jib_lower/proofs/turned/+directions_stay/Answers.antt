use Rattle.std.proofs.Common.{◌∙◌, subst, sym}
use Rattle.lowered_steps.proofs.Lists.{first_of, none_of, others}
use Rattle.jib_lower.specs.Crossings.{AllStay}
use Rattle.jib_lower.proofs.Basics.{and_left, and_right}
use Rattle.jib_lower.proofs.Crossed.{none_stay, stay_less, stay_more}
use Rattle.jib_lower.proofs.turned.+directions_stay.Goals as goal

pub returns-in-empty-clause-is : goal.returns-in-empty-clause-is
returns-in-empty-clause-is t c = λ h. none_stay c.args.directions.now (none_of c.args.directions.now c.in-empty.len_below)

pub returns-in-len1-up-clause-is : goal.returns-in-len1-up-clause-is
returns-in-len1-up-clause-is t c =
    λ h.
    let all = sym c.both.ensures ∙ h in
    subst (λ ms. AllStay ms) (sym (first_of c.args.directions.now c.first-item.result c.in-len1-up.len_at_least c.first-item.is))
    (stay_more c.first-item.result (others c.args.directions.now)
    (sym c.returns_nothing-one.ensures ∙ and_left c.returns_nothing-one.result c.directions_stay-others.result all)
    (c.directions_stay-others.ensures.is (and_right c.returns_nothing-one.result c.directions_stay-others.result all)))

pub returns-in-len1-up-clause-no : goal.returns-in-len1-up-clause-no
returns-in-len1-up-clause-no t c =
    λ h. stay_less c.first-item.result (others c.args.directions.now) c.args.directions.now
    (first_of c.args.directions.now c.first-item.result c.in-len1-up.len_at_least c.first-item.is) c.returns_nothing-one.result
    c.directions_stay-others.result c.returns_nothing-one.ensures c.directions_stay-others.ensures.no (sym c.both.ensures ∙ h)
