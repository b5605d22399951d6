use Rattle.std.proofs.Common.{◌∙◌, ap, sym}
use Rattle.std.specs.Prelude.{◌&&◌}
use Rattle.sized_meanings.specs.Sized.{joined_nodes}
use Rattle.lowered_steps.proofs.Lists.{first_of, none_of, others}
use Rattle.jib_lower.specs.Instances.{no_other_leads}
use Rattle.jib_lower.proofs.Alone.{no_other_both}
use Rattle.jib_lower.proofs.leads.+no_other_in.Goals as goal

pub returns-in-empty : goal.returns-in-empty
returns-in-empty t c = ap (λ xs. no_other_leads c.args.number (joined_nodes xs)) (sym (none_of c.args.bodies.now c.in-empty.len_below))

pub returns-in-len1-up : goal.returns-in-len1-up
returns-in-len1-up t c =
    c.both.ensures ∙ ap (λ b. b && c.no_other_in.result) (c.no_other.ensures ∙ ap (λ xs. no_other_leads c.args.number xs) c.as_slice.ensures)
    ∙ ap (λ b. no_other_leads c.args.number c.first-item.result && b) c.no_other_in.ensures
    ∙ sym (no_other_both c.args.number c.first-item.result (joined_nodes (others c.args.bodies.now)))
    ∙ ap (λ xs. no_other_leads c.args.number (joined_nodes xs)) (sym (first_of c.args.bodies.now c.first-item.result c.in-len1-up.len_at_least c.first-item.is))
