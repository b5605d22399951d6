use Rattle.std.proofs.Common.{◌∙◌, ◌∷◌, ap, sym}
use Rattle.std.specs.Prelude.{◌&&◌}
use Rattle.sized_meanings.specs.Sized.{joined_nodes}
use Rattle.lowered_steps.proofs.Lists.{first_of, none_of, others}
use Rattle.jib_lower.specs.Instances.{no_other_leads}
use Rattle.jib_lower.specs.Leads.{heads_alone}
use Rattle.jib_lower.proofs.leads.+heads_alone.Goals as goal

pub returns-in-empty : goal.returns-in-empty
returns-in-empty t c = ap (λ xs. heads_alone xs (joined_nodes c.args.bodies.now)) (sym (none_of c.args.nodes.now c.in-empty.len_below))

pub returns-in-Calls : goal.returns-in-Calls
returns-in-Calls t c =
    c.both.ensures
    ∙ ap (λ b. b && c.heads_alone.result)
    (c.both-here.ensures ∙ ap (λ b. b && c.no_other_in.result) c.no_other.ensures
    ∙ ap (λ b. no_other_leads c.in-Calls.number (others c.args.nodes.now) && b) c.no_other_in.ensures)
    ∙ ap (λ b. (no_other_leads c.in-Calls.number (others c.args.nodes.now) && no_other_leads c.in-Calls.number (joined_nodes c.args.bodies.now)) && b)
    c.heads_alone.ensures
    ∙ ap (λ xs. heads_alone xs (joined_nodes c.args.bodies.now)) (sym (first_of c.args.nodes.now c.first-item.result c.in-len1-up.len_at_least c.first-item.is
    ∙ ap (λ x. x ∷ others c.args.nodes.now) c.in-Calls.is))

pub returns-in-Makes : goal.returns-in-Makes
returns-in-Makes t c =
    c.heads_alone-in-Makes.ensures ∙ ap (λ xs. heads_alone xs (joined_nodes c.args.bodies.now)) (sym
    (first_of c.args.nodes.now c.first-item.result c.in-len1-up.len_at_least c.first-item.is
    ∙ ap (λ x. x ∷ others c.args.nodes.now) c.in-Makes.is))

pub returns-in-Gives : goal.returns-in-Gives
returns-in-Gives t c =
    c.heads_alone-in-Gives.ensures ∙ ap (λ xs. heads_alone xs (joined_nodes c.args.bodies.now)) (sym
    (first_of c.args.nodes.now c.first-item.result c.in-len1-up.len_at_least c.first-item.is
    ∙ ap (λ x. x ∷ others c.args.nodes.now) c.in-Gives.is))
