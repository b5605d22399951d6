use Rattle.std.proofs.Common.{◌≡◌, Bool, sym, ap, arith}
use Rattle.lowered_steps.proofs.Lists.{head_of, none_of, only_of, others, others_many}
use Rattle.lowered_typed.proofs.More.{replaced_last, replaced_step}
use Rattle.std.proofs.lemmas.Result.{IfOk-weaker}
use Rattle.lowered_typed.specs.Here as here
use Rattle.lowered_typed.proofs.replaced.+is_replaced.Goals as goal

pub returns-in-empty : goal.returns-in-empty
returns-in-empty t c =
    ap (λ us. here.replaces c.args.judge.now us c.args.whole.now c.args.new.now) (sym (none_of c.args.suffixes.now c.in-empty.len_below))

pub returns-in-len1 : goal.returns-in-len1
returns-in-len1 t c =
    IfOk-weaker c.is_put.result _ (λ (a : Bool). a ≡ here.replaces c.args.judge.now c.args.suffixes.now c.args.whole.now c.args.new.now)
    (λ a e. replaced_last c.args.judge.now _ c.args.suffixes.now c.args.whole.now c.args.new.now a
    (only_of c.args.suffixes.now _ c.in-len1.len_at_least c.in-len1.len_below) e) c.is_put.ensures

pub returns-in_ok-other-in-len1-up : goal.returns-in_ok-other-in-len1-up
returns-in_ok-other-in-len1-up t c =
    replaced_step c.args.judge.now _ c.args.suffixes.now
    (others c.args.suffixes.now) c.args.whole.now c.args.new.now c.in_ok-part-in-len1-up.part _ _ _ _ _ (head_of c.args.suffixes.now _ (omega
    (arith, c.in-len1-up.len_at_least)))
    (others_many c.args.suffixes.now c.in-len1-up.len_at_least) c.in_ok-part-in-len1-up.ensures c.both-all.ensures c.both-goes.ensures
    c.in_ok-begins-in-len1-up.ensures c.in_ok-one-in-len1-up.ensures c.in_ok-other-in-len1-up.ensures
