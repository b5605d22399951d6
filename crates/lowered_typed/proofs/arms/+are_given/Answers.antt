use Rattle.std.proofs.Common.{◌∙◌, ◌&&◌, sym, ap}
use Rattle.lowered_pieces.specs.Forms.{cases_ends}
use Rattle.lowered_steps.proofs.Lists.{first_of, none_of, others}
use Rattle.lowered_typed.proofs.More.{ends_more}
use Rattle.lowered_typed.specs.Here as here
use Rattle.lowered_typed.proofs.arms.+are_given.Goals as goal

pub returns-in-empty : goal.returns-in-empty
returns-in-empty t c =
    ap (λ us. here.ends_right c.args.judge.now c.args.arm.now (cases_ends us)) (sym (none_of c.args.cases.now c.in-empty.len_below))

pub returns-in_ok-other-in-len1-up : goal.returns-in_ok-other-in-len1-up
returns-in_ok-other-in-len1-up t c =
    c.both-all.ensures ∙ (λ i. c.in_ok-one-in-len1-up.ensures i && c.in_ok-other-in-len1-up.ensures i)
    ∙ ends_more c.args.judge.now c.args.arm.now c.first-item.result (others c.args.cases.now)
    ∙ ap (λ us. here.ends_right c.args.judge.now c.args.arm.now (cases_ends us)) (sym
    (first_of c.args.cases.now c.first-item.result c.in-len1-up.len_at_least c.first-item.is))
