use Rattle.std.proofs.Common.{◌∙◌, ap, subst, sym}
use Rattle.sized_meanings.specs.Sized.{joined_nodes}
use Rattle.lowered_steps.proofs.Lists.{first_of, none_of, others}
use Rattle.jib_lower.specs.Instances.{leads_alone}
use Rattle.jib_lower.specs.Leads.{AllAlone}
use Rattle.jib_lower.proofs.Alone.{all_alone_less, all_alone_more, none_alone}
use Rattle.jib_lower.proofs.Basics.{and_left, and_right}
use Rattle.jib_lower.proofs.leads.+instances_alone.Goals as goal

pub returns-in-empty-clause-is : goal.returns-in-empty-clause-is
returns-in-empty-clause-is t c = λ h. none_alone c.args.instances.now (none_of c.args.instances.now c.in-empty.len_below)

pub returns-in-len1-up-clause-is : goal.returns-in-len1-up-clause-is
returns-in-len1-up-clause-is t c =
    λ h.
    let all = sym c.both.ensures ∙ h in
    subst (λ xs. AllAlone xs) (sym (first_of c.args.instances.now c.first-item.result c.in-len1-up.len_at_least c.first-item.is))
    (all_alone_more c.first-item.result (others c.args.instances.now)
    (ap (λ xs. leads_alone (joined_nodes xs)) (sym c.as_slice.ensures) ∙ sym c.are_alone.ensures ∙ and_left c.are_alone.result c.instances_alone.result all)
    (c.instances_alone.ensures.is (and_right c.are_alone.result c.instances_alone.result all)))

pub returns-in-len1-up-clause-no : goal.returns-in-len1-up-clause-no
returns-in-len1-up-clause-no t c =
    λ h. all_alone_less c.first-item.result (others c.args.instances.now) c.args.instances.now
    (first_of c.args.instances.now c.first-item.result c.in-len1-up.len_at_least c.first-item.is) c.are_alone.result c.instances_alone.result
    (c.are_alone.ensures ∙ ap (λ xs. leads_alone (joined_nodes xs)) c.as_slice.ensures) c.instances_alone.ensures.no (sym c.both.ensures ∙ h)
