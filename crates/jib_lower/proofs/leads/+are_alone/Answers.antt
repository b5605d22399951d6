use Rattle.std.proofs.Common.{◌∙◌, ap, sym}
use Rattle.std.specs.Prelude.{◌&&◌}
use Rattle.sized_meanings.specs.Sized.{joined_nodes}
use Rattle.lowered_steps.proofs.Lists.{first_of, none_of, others}
use Rattle.jib_lower.specs.Instances.{leads_alone}
use Rattle.jib_lower.specs.Leads.{heads_alone}
use Rattle.jib_lower.proofs.Alone.{alone_both}
use Rattle.jib_lower.proofs.leads.+are_alone.Goals as goal

pub returns-in-empty : goal.returns-in-empty
returns-in-empty t c = ap (λ xs. leads_alone (joined_nodes xs)) (sym (none_of c.args.bodies.now c.in-empty.len_below))

pub returns-in-len1-up : goal.returns-in-len1-up
returns-in-len1-up t c =
    c.both.ensures ∙ ap (λ b. b && c.are_alone.result) (c.heads_alone.ensures ∙ ap (λ xs. heads_alone xs (joined_nodes (others c.args.bodies.now)))
    c.as_slice.ensures)
    ∙ ap (λ b. heads_alone c.first-item.result (joined_nodes (others c.args.bodies.now)) && b) c.are_alone.ensures
    ∙ sym (alone_both c.first-item.result (joined_nodes (others c.args.bodies.now)))
    ∙ ap (λ xs. leads_alone (joined_nodes xs)) (sym (first_of c.args.bodies.now c.first-item.result c.in-len1-up.len_at_least c.first-item.is))
