use Rattle.std.proofs.Common.{◌∙◌, ◌&&◌, sym, ap}
use Rattle.lowered_steps.proofs.Lists.{first_of, none_of}
use Rattle.lowered_typed.specs.Here as here
use Rattle.lowered_typed.proofs.kinds.+are_kept.Goals as goal

pub returns-in-empty : goal.returns-in-empty
returns-in-empty t c = ap (λ us. here.kept_right c.args.judge.now us c.args.types.now) (sym (none_of c.args.reads.now c.in-empty.len_below))

pub returns-in_ok-other-in-len1-up : goal.returns-in_ok-other-in-len1-up
returns-in_ok-other-in-len1-up t c =
    c.both-all.ensures ∙ (λ i. c.in_ok-one-in-len1-up.ensures i && c.in_ok-other-in-len1-up.ensures i)
    ∙ ap (λ us. here.kept_right c.args.judge.now us c.args.types.now) (sym
    (first_of c.args.reads.now c.first-item.result c.in-len1-up.len_at_least c.first-item.is))
