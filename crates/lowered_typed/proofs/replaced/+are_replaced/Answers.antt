use Rattle.std.proofs.Common.{◌∙◌, ◌&&◌, sym, ap}
use Rattle.lowered_steps.proofs.Lists.{first_of, none_of, others}
use Rattle.lowered_typed.proofs.More.{case_more}
use Rattle.lowered_typed.specs.Judging.{cases_typed}
use Rattle.lowered_typed.specs.Here as here
use Rattle.lowered_typed.proofs.replaced.+are_replaced.Goals as goal

pub returns-in-empty : goal.returns-in-empty
returns-in-empty t c =
    ap (cases_typed c.args.judge.now
    (λ x. here.replaces c.args.judge.now c.args.suffixes.now x.gives c.args.new.now)) (sym (none_of c.args.cases.now c.in-empty.len_below))

pub returns-in_ok-other-in-len1-up : goal.returns-in_ok-other-in-len1-up
returns-in_ok-other-in-len1-up t c =
    c.both-all.ensures ∙ (λ i. c.in_ok-one-in-len1-up.ensures i && c.in_ok-other-in-len1-up.ensures i)
    ∙ case_more c.args.judge.now
    (λ x. here.replaces c.args.judge.now c.args.suffixes.now x.gives c.args.new.now) c.first-item.result (others c.args.cases.now)
    ∙ ap (cases_typed c.args.judge.now
    (λ x. here.replaces c.args.judge.now c.args.suffixes.now x.gives c.args.new.now)) (sym
    (first_of c.args.cases.now c.first-item.result c.in-len1-up.len_at_least c.first-item.is))
