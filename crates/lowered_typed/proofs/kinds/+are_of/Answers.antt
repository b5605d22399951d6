use Rattle.std.proofs.Common.{◌∙◌, ◌&&◌, sym, ap}
use Rattle.lowered_steps.proofs.Lists.{first_of, none_of}
use Rattle.std.specs.Prelude.{nat_eq}
use Rattle.lowered_typed.specs.Here as here
use Rattle.lowered_typed.proofs.kinds.+are_of.Goals as goal

pub returns-in-empty : goal.returns-in-empty
returns-in-empty t c = ap (here.are_of c.args.judge.now c.args.number) (sym (none_of c.args.types.now c.in-empty.len_below))

pub returns-in_ok-other-in-len1-up : goal.returns-in_ok-other-in-len1-up
returns-in_ok-other-in-len1-up t c =
    c.both-all.ensures ∙ (λ i. nat_eq (c.in_ok-found-in-len1-up.ensures i) c.args.number && c.in_ok-other-in-len1-up.ensures i)
    ∙ ap (here.are_of c.args.judge.now c.args.number) (sym (first_of c.args.types.now c.first-item.result c.in-len1-up.len_at_least c.first-item.is))
