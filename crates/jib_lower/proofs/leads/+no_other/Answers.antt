use Rattle.std.proofs.Common.{◌∙◌, ◌∷◌, ap, sym}
use Rattle.std.specs.Prelude.{◌&&◌, nat_eq, not}
use Rattle.lowered_steps.proofs.Lists.{first_of, none_of, others}
use Rattle.jib_lower.specs.Instances.{no_other_leads}
use Rattle.jib_lower.proofs.leads.+no_other.Goals as goal

pub returns-in-empty : goal.returns-in-empty
returns-in-empty t c = ap (λ xs. no_other_leads c.args.number xs) (sym (none_of c.args.nodes.now c.in-empty.len_below))

pub returns-in-Calls : goal.returns-in-Calls
returns-in-Calls t c =
    c.both.ensures ∙ ap (λ b. b && c.no_other.result) c.differ.ensures ∙ ap (λ b. not (nat_eq c.args.number c.in-Calls.other) && b) c.no_other.ensures
    ∙ ap (λ xs. no_other_leads c.args.number xs) (sym (first_of c.args.nodes.now c.first-item.result c.in-len1-up.len_at_least c.first-item.is
    ∙ ap (λ x. x ∷ others c.args.nodes.now) c.in-Calls.is))

pub returns-in-Makes : goal.returns-in-Makes
returns-in-Makes t c =
    c.no_other-in-Makes.ensures ∙ ap (λ xs. no_other_leads c.args.number xs) (sym (first_of c.args.nodes.now c.first-item.result c.in-len1-up.len_at_least
    c.first-item.is
    ∙ ap (λ x. x ∷ others c.args.nodes.now) c.in-Makes.is))

pub returns-in-Gives : goal.returns-in-Gives
returns-in-Gives t c =
    c.no_other-in-Gives.ensures ∙ ap (λ xs. no_other_leads c.args.number xs) (sym (first_of c.args.nodes.now c.first-item.result c.in-len1-up.len_at_least
    c.first-item.is
    ∙ ap (λ x. x ∷ others c.args.nodes.now) c.in-Gives.is))
