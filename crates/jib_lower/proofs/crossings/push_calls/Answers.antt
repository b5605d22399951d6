use Rattle.std.proofs.Common.{◌∙◌, ◌∷◌, ◌+◌, ap, drop, sym}
use Rattle.lowered_typed.proofs.Pushed.{none, pushed}
use Rattle.jib_lower.specs.Crossings.{calls_of}
use Rattle.jib_lower.proofs.Gathered.{from_here, past_all}
use Rattle.jib_lower.proofs.crossings.push_calls.Goals as goal

pub loop-direction-init : goal.loop-direction-init
loop-direction-init c = λ new e. e

pub loop-direction-preserved : goal.loop-direction-preserved
loop-direction-preserved c = λ new e.
    let l = c.loop-direction in
    let all = c.args.directions.now in
    let behind = calls_of (drop (l.direction-index + 1) all) in
    l.invariant new (pushed l.calls c.push.new.self new behind (calls_of (drop l.direction-index all)) c.in_ok-asked.asked c.in_ok-push.ensures.pushed e
    (ap calls_of (from_here all l.direction-index c.direction-item.result c.loop-direction-test.true c.direction-item.is)
    ∙ ap (λ ds. ds ∷ behind) (sym c.in_ok-asked.ensures)))

pub returns : goal.returns
returns c =
    let l = c.loop-direction in
    l.invariant l.calls (none l.calls (calls_of (drop l.direction-index c.args.directions.now))
    (ap calls_of (past_all c.args.directions.now l.direction-index c.loop-direction-test.false)))
