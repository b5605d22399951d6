use Rattle.std.proofs.Common.{◌∙◌, ◌+◌, ap, drop, refl, sym}
use Rattle.lowered_steps.specs.Hands.{types_of}
use Rattle.lowered_typed.specs.Judged as judged
use Rattle.lowered_typed.proofs.Onward.{ends_here, from_here, goes_on, past_all}
use Rattle.lowered_typed.proofs.arms.are_ends_typed.Goals as goal

pub loop-arm-init : goal.loop-arm-init
loop-arm-init c = refl

pub loop-arm-preserved : goal.loop-arm-preserved
loop-arm-preserved c =
    let l = c.loop-arm in
    let all = c.args.arms.now in
    goes_on c.in_ok-one.one _ (judged.all_end_right c.args.judge.now (drop (l.arm-index + 1) all) (types_of c.args.ends.now))
    (judged.all_end_right c.args.judge.now all (types_of c.args.ends.now))
    (l.invariant ∙ ap (λ us. judged.all_end_right c.args.judge.now us (types_of c.args.ends.now))
    (from_here all l.arm-index c.arm-item.result c.loop-arm-test.true c.arm-item.is))
    c.in_ok-one.ensures c.if-not-one.false

pub returns-then-not-one : goal.returns-then-not-one
returns-then-not-one c =
    let l = c.loop-arm in
    let all = c.args.arms.now in
    ends_here c.in_ok-one.one _ (judged.all_end_right c.args.judge.now (drop (l.arm-index + 1) all) (types_of c.args.ends.now))
    (judged.all_end_right c.args.judge.now all (types_of c.args.ends.now))
    (l.invariant ∙ ap (λ us. judged.all_end_right c.args.judge.now us (types_of c.args.ends.now))
    (from_here all l.arm-index c.arm-item.result c.loop-arm-test.true c.arm-item.is))
    c.in_ok-one.ensures c.if-not-one.true

pub returns : goal.returns
returns c =
    let l = c.loop-arm in
    sym (l.invariant ∙ ap (λ us. judged.all_end_right c.args.judge.now us (types_of c.args.ends.now))
    (past_all c.args.arms.now l.arm-index c.loop-arm-test.false))
