use Rattle.std.proofs.Common.{◌∙◌, [], ap, subst, sym}
use Rattle.lowered_steps.proofs.Lists.{first_of, none_of, others}
use Rattle.jib_lower.specs.Leads.{EachAlone, heads_alone}
use Rattle.jib_lower.proofs.Alone.{alone_heads, each_alone_less, each_alone_more, no_bodies_alone}
use Rattle.jib_lower.proofs.Basics.{and_left, and_right}
use Rattle.jib_lower.proofs.leads.+each_alone.Goals as goal

pub returns-in-empty-clause-is : goal.returns-in-empty-clause-is
returns-in-empty-clause-is t c = λ h. no_bodies_alone c.args.bodies.now (none_of c.args.bodies.now c.in-empty.len_below)

pub returns-in-len1-up-clause-is : goal.returns-in-len1-up-clause-is
returns-in-len1-up-clause-is t c =
    λ h.
    let all = sym c.both.ensures ∙ h in
    subst (λ xs. EachAlone xs) (sym (first_of c.args.bodies.now c.first-item.result c.in-len1-up.len_at_least c.first-item.is))
    (each_alone_more c.first-item.result (others c.args.bodies.now)
    (sym (alone_heads c.first-item.result) ∙ ap (λ xs. heads_alone xs []) (sym c.as_slice.ensures) ∙ sym c.heads_alone.ensures
    ∙ and_left c.heads_alone.result c.each_alone.result all)
    (c.each_alone.ensures.is (and_right c.heads_alone.result c.each_alone.result all)))

pub returns-in-len1-up-clause-no : goal.returns-in-len1-up-clause-no
returns-in-len1-up-clause-no t c =
    λ h. each_alone_less c.first-item.result (others c.args.bodies.now) c.args.bodies.now
    (first_of c.args.bodies.now c.first-item.result c.in-len1-up.len_at_least c.first-item.is) c.heads_alone.result c.each_alone.result
    (c.heads_alone.ensures ∙ ap (λ xs. heads_alone xs []) c.as_slice.ensures ∙ alone_heads c.first-item.result) c.each_alone.ensures.no
    (sym c.both.ensures ∙ h)
