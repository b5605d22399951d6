use Rattle.std.proofs.Common.{◌∙◌, ◌&&◌, sym, ap}
use Rattle.lowered_steps.proofs.Lists.{first_of, none_of}
use Rattle.lowered_validity.specs.Typing.{gives_in}
use Rattle.lowered_typed.specs.Here as here
use Rattle.lowered_typed.proofs.replaced.+all_replaced.Goals as goal

pub returns-in-empty : goal.returns-in-empty
returns-in-empty t c =
    ap (λ us. here.replaces_all c.args.judge.now c.args.suffixes.now c.args.old.now (gives_in us)) (sym (none_of c.args.new.now c.in-empty.len_below))

pub returns-in_ok-other-in-len1-up : goal.returns-in_ok-other-in-len1-up
returns-in_ok-other-in-len1-up t c =
    c.both-all.ensures ∙ (λ i. c.in_ok-one-in-len1-up.ensures i && c.in_ok-other-in-len1-up.ensures i)
    ∙ ap (λ us. here.replaces_all c.args.judge.now c.args.suffixes.now c.args.old.now (gives_in us)) (sym
    (first_of c.args.new.now c.first-item.result c.in-len1-up.len_at_least c.first-item.is))
