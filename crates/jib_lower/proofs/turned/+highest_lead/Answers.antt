use Rattle.std.proofs.Common.{◌∙◌, ap, sym}
use Rattle.lowered_steps.proofs.Lists.{first_of, none_of, others}
use Rattle.jib_lower.specs.Crossings.{higher, highest_lead}
use Rattle.jib_lower.specs.Cycles.{cycle_at}
use Rattle.jib_lower.proofs.turned.+highest_lead.Goals as goal

pub returns-in-empty : goal.returns-in-empty
returns-in-empty t c = ap (highest_lead c.args.numbers.now c.args.instances.now) (sym (none_of c.args.leads.now c.in-empty.len_below))

pub returns-in-len1-up : goal.returns-in-len1-up
returns-in-len1-up t c =
    let ns = c.args.numbers.now in let xs = c.args.instances.now in
    c.higher.ensures ∙ ap (λ n. higher n c.highest_lead.result) c.cycle_at.ensures
    ∙ ap (higher (cycle_at ns xs c.first-item.result.instance)) c.highest_lead.ensures
    ∙ ap (highest_lead ns xs) (sym (first_of c.args.leads.now c.first-item.result c.in-len1-up.len_at_least c.first-item.is))
