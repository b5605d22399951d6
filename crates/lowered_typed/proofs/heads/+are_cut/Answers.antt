use Rattle.std.proofs.Common.{◌∙◌, ◌&&◌, ◌-◌, sym, ap}
use Rattle.lowered_steps.proofs.Lists.{first_of, none_of, others}
use Rattle.lowered_typed.specs.Here as here
use Rattle.lowered_typed.specs.Judged as judged
use Rattle.lowered_typed.proofs.heads.+are_cut.Goals as goal

pub returns-in-empty : goal.returns-in-empty
returns-in-empty t c =
    ap (λ ws. here.cut_right c.args.judge.now c.args.whole.now c.args.left (judged.widths_by c.args.judge.now c.args.rest ws)) (sym
    (none_of c.args.widths.now c.in-empty.len_below))

pub returns-in_ok-other-in-len1-up : goal.returns-in_ok-other-in-len1-up
returns-in_ok-other-in-len1-up t c =
    c.both-all.ensures ∙ (λ i. (c.in_ok-one-in-len1-up.ensures
    ∙ ap (judged.cut_fits c.args.judge.now c.args.whole.now c.args.left) c.width_of-width.ensures) i
    && (c.in_ok-other-in-len1-up.ensures
    ∙ ap (λ m. here.cut_right c.args.judge.now c.args.whole.now m (judged.widths_by c.args.judge.now c.args.rest (others c.args.widths.now)))
    (c.saturating_sub-behind.ensures ∙ ap (λ n. c.args.left - n) c.width_of-width.ensures)) i)
    ∙ ap (λ ws. here.cut_right c.args.judge.now c.args.whole.now c.args.left (judged.widths_by c.args.judge.now c.args.rest ws)) (sym
    (first_of c.args.widths.now c.first-item.result c.in-len1-up.len_at_least c.first-item.is))
