use Rattle.std.proofs.Common.{◌∙◌, ◌&&◌, sym, ap}
use Rattle.lowered_steps.proofs.Lists.{first_of, none_of, others}
use Rattle.lowered_typed.proofs.More.{leads_more}
use Rattle.lowered_typed.specs.Here as here
use Rattle.lowered_typed.proofs.cases.+are_leads.Goals as goal

pub returns-in-empty : goal.returns-in-empty
returns-in-empty t c = ap (here.leads_right c.args.judge.now c.args.cases.now) (sym (none_of c.args.leads.now c.in-empty.len_below))

pub returns-in_ok-other-in-len1-up : goal.returns-in_ok-other-in-len1-up
returns-in_ok-other-in-len1-up t c =
    c.both-all.ensures ∙ (λ i. c.in_ok-one-in-len1-up.ensures i && c.in_ok-other-in-len1-up.ensures i)
    ∙ leads_more c.args.judge.now c.args.cases.now c.first-item.result (others c.args.leads.now)
    ∙ ap (here.leads_right c.args.judge.now c.args.cases.now) (sym
    (first_of c.args.leads.now c.first-item.result c.in-len1-up.len_at_least c.first-item.is))
