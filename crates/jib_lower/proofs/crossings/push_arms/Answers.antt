use Rattle.std.proofs.Common.{◌∙◌, ◌++◌, ◌+◌, ap, drop}
use Rattle.lowered_pieces.specs.Arms.{steps_in}
use Rattle.lowered_typed.proofs.Pushed.{joined, none}
use Rattle.jib_lower.specs.Crossings.{seen_by, seen_in}
use Rattle.jib_lower.proofs.Gathered.{from_here, past_all}
use Rattle.jib_lower.proofs.crossings.push_arms.Goals as goal

pub loop-arm-init : goal.loop-arm-init
loop-arm-init c = λ new e. e

pub loop-arm-preserved : goal.loop-arm-preserved
loop-arm-preserved c = λ new e.
    let l = c.loop-arm in
    let all = c.args.arms.now in
    l.invariant new (joined l.asked c.push_steps.new.asked new (seen_in (steps_in c.arm-item.result))
    (seen_by (drop (l.arm-index + 1) all)) (seen_by (drop l.arm-index all))
    (c.in_ok-push_steps.ensures ∙ ap (λ ss. l.asked ++ seen_in ss) c.arm_steps-steps.ensures) e
    (ap seen_by (from_here all l.arm-index c.arm-item.result c.loop-arm-test.true c.arm-item.is)))

pub returns : goal.returns
returns c =
    let l = c.loop-arm in
    l.invariant l.asked (none l.asked (seen_by (drop l.arm-index c.args.arms.now))
    (ap seen_by (past_all c.args.arms.now l.arm-index c.loop-arm-test.false)))
