use Rattle.std.proofs.Common.{◌+◌, ap, drop}
use Rattle.lowered_typed.proofs.Pushed.{joined, none}
use Rattle.jib_lower.specs.Crossings.{seen_as, seen_in}
use Rattle.jib_lower.proofs.Gathered.{from_here, past_all}
use Rattle.jib_lower.proofs.crossings.push_steps.Goals as goal

pub loop-step-init : goal.loop-step-init
loop-step-init c = λ new e. e

pub loop-step-preserved : goal.loop-step-preserved
loop-step-preserved c = λ new e.
    let l = c.loop-step in
    let all = c.args.steps.now in
    l.invariant new (joined l.asked c.push_step.new.asked new (seen_as c.step-item.result)
    (seen_in (drop (l.step-index + 1) all)) (seen_in (drop l.step-index all))
    c.in_ok-push_step.ensures e
    (ap seen_in (from_here all l.step-index c.step-item.result c.loop-step-test.true c.step-item.is)))

pub returns : goal.returns
returns c =
    let l = c.loop-step in
    l.invariant l.asked (none l.asked (seen_in (drop l.step-index c.args.steps.now))
    (ap seen_in (past_all c.args.steps.now l.step-index c.loop-step-test.false)))
