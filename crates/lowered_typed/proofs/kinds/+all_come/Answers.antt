use Rattle.std.proofs.Common.{◌∙◌, ◌&&◌, sym, ap}
use Rattle.lowered_steps.proofs.Lists.{first_of, none_of}
use Rattle.lowered_typed.specs.Judging.{signs_here}
use Rattle.lowered_validity.specs.Typing.{comes}
use Rattle.lowered_typed.specs.Here as here
use Rattle.lowered_typed.proofs.kinds.+all_come.Goals as goal

pub returns-in-empty : goal.returns-in-empty
returns-in-empty t c = ap (λ us. here.all_come c.args.judge.now us c.args.typ.now) (sym (none_of c.args.types.now c.in-empty.len_below))

pub returns-in_ok-other-in-len1-up : goal.returns-in_ok-other-in-len1-up
returns-in_ok-other-in-len1-up t c =
    c.both-all.ensures ∙ (λ i. (c.comes-one.ensures
    ∙ (λ k. comes (signs_here c.args.judge.now) (c.in_ok-from-in-len1-up.ensures k)
    (c.in_ok-to-in-len1-up.ensures k))) i && c.in_ok-other-in-len1-up.ensures i)
    ∙ ap (λ us. here.all_come c.args.judge.now us c.args.typ.now) (sym
    (first_of c.args.types.now c.first-item.result c.in-len1-up.len_at_least c.first-item.is))
