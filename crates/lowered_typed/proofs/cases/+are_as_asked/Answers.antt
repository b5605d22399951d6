use Rattle.std.proofs.Common.{◌∙◌, ◌&&◌, sym, ap}
use Rattle.lowered_steps.proofs.Lists.{first_of, none_of, others}
use Rattle.lowered_typed.proofs.More.{case_more}
use Rattle.lowered_typed.specs.Asked.{asked}
use Rattle.lowered_typed.specs.Judging.{cases_typed}
use Rattle.lowered_typed.proofs.cases.+are_as_asked.Goals as goal

pub returns-in-empty : goal.returns-in-empty
returns-in-empty t c = ap (cases_typed c.args.judge.now (asked c.args.judge.now c.args.asked)) (sym (none_of c.args.cases.now c.in-empty.len_below))

pub returns-in_ok-other-in-len1-up : goal.returns-in_ok-other-in-len1-up
returns-in_ok-other-in-len1-up t c =
    c.both-all.ensures ∙ (λ i. c.in_ok-one-in-len1-up.ensures i && c.in_ok-other-in-len1-up.ensures i)
    ∙ case_more c.args.judge.now (asked c.args.judge.now c.args.asked) c.case-item.result (others c.args.cases.now)
    ∙ ap (cases_typed c.args.judge.now (asked c.args.judge.now c.args.asked)) (sym
    (first_of c.args.cases.now c.case-item.result c.in-len1-up.len_at_least c.case-item.is))
