use Rattle.std.proofs.Common.{◌∙◌, ◌&&◌, sym, ap}
use Rattle.lowered_steps.proofs.Lists.{none_of, one_of}
use Rattle.lowered_typed.proofs.More.{state_many}
use Rattle.jib.specs.declared.code.Operation.TheVariants as O
use Rattle.lowered_typed.specs.Here as here
use Rattle.lowered_typed.proofs.calls.is_state.Goals as goal

pub returns-in-empty : goal.returns-in-empty
returns-in-empty c =
    ap (λ us. here.state_right c.args.judge.now c.args.row us c.args.types.now) (sym (none_of c.args.cases.now c.in-empty.len_below))

pub returns-in_ok-other-in-len1 : goal.returns-in_ok-other-in-len1
returns-in_ok-other-in-len1 c =
    c.both-all.ensures ∙ (λ i. c.in_ok-one-in-len1.ensures i && (c.in_ok-other-in-len1.ensures
    ∙ ap (λ rs. here.works c.args.judge.now (O.Builtin c.args.row) rs c.args.types.now c.only-item.result.gives) (c.as_slice.ensures
    ∙ c.in_ok-sources-in-len1.ensures)) i)
    ∙ ap (λ us. here.state_right c.args.judge.now c.args.row us c.args.types.now) (sym
    (one_of c.args.cases.now c.only-item.result c.in-len1.len_at_least c.in-len1.len_below c.only-item.is))

pub returns-in-len2-up : goal.returns-in-len2-up
returns-in-len2-up c = state_many c.args.judge.now c.args.row c.args.cases.now c.args.types.now c.in-len2-up.len_at_least
