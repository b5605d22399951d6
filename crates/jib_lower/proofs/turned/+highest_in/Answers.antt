use Rattle.std.proofs.Common.{◌∙◌, ◌∷◌, ap, sym}
use Rattle.lowered_steps.proofs.Lists.{first_of, none_of, others}
use Rattle.jib_lower.specs.Crossings.{higher, highest_in, highest_lead}
use Rattle.jib_lower.proofs.turned.+highest_in.Goals as goal

pub returns-in-empty : goal.returns-in-empty
returns-in-empty t c = ap (highest_in c.args.numbers.now c.args.instances.now) (sym (none_of c.args.nodes.now c.in-empty.len_below))

pub returns-in-Calls : goal.returns-in-Calls
returns-in-Calls t c =
    let ns = c.args.numbers.now in let xs = c.args.instances.now in
    c.higher.ensures
    ∙ ap (λ n. higher n c.highest_in.result) (c.highest_lead.ensures ∙ ap (highest_lead ns xs) c.as_slice.ensures)
    ∙ ap (higher (highest_lead ns xs c.in-Calls.leads)) c.highest_in.ensures
    ∙ ap (highest_in ns xs) (sym (first_of c.args.nodes.now c.first-item.result c.in-len1-up.len_at_least c.first-item.is
    ∙ ap (λ x. x ∷ others c.args.nodes.now) c.in-Calls.is))

pub returns-in-Makes : goal.returns-in-Makes
returns-in-Makes t c =
    c.highest_in-in-Makes.ensures
    ∙ ap (highest_in c.args.numbers.now c.args.instances.now) (sym (first_of c.args.nodes.now c.first-item.result c.in-len1-up.len_at_least c.first-item.is
    ∙ ap (λ x. x ∷ others c.args.nodes.now) c.in-Makes.is))

pub returns-in-Gives : goal.returns-in-Gives
returns-in-Gives t c =
    c.highest_in-in-Gives.ensures
    ∙ ap (highest_in c.args.numbers.now c.args.instances.now) (sym (first_of c.args.nodes.now c.first-item.result c.in-len1-up.len_at_least c.first-item.is
    ∙ ap (λ x. x ∷ others c.args.nodes.now) c.in-Gives.is))
