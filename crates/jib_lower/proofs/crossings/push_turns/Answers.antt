use Rattle.std.proofs.Common.{◌∙◌, ◌∷◌, ◌+◌, ap, drop, sym}
use Rattle.lowered_typed.proofs.Pushed.{none, pushed}
use Rattle.jib_lower.specs.Crossings.{turns_by}
use Rattle.jib_lower.proofs.Gathered.{from_here, past_all}
use Rattle.jib_lower.proofs.crossings.push_turns.Goals as goal

pub loop-function-init : goal.loop-function-init
loop-function-init c = λ new e. e

pub loop-function-preserved : goal.loop-function-preserved
loop-function-preserved c = λ new e.
    let l = c.loop-function in
    let all = c.args.functions.now in
    let by = turns_by c.args.calls.now in
    let behind = by (drop (l.function-index + 1) all) in
    l.invariant new (pushed l.turns c.push.new.self new behind (by (drop l.function-index all)) c.in_ok-turn.turn c.in_ok-push.ensures.pushed e
    (ap by (from_here all l.function-index c.function-item.result c.loop-function-test.true c.function-item.is)
    ∙ ap (λ ds. ds ∷ behind) (sym c.in_ok-turn.ensures)))

pub returns : goal.returns
returns c =
    let l = c.loop-function in
    let by = turns_by c.args.calls.now in
    l.invariant l.turns (none l.turns (by (drop l.function-index c.args.functions.now))
    (ap by (past_all c.args.functions.now l.function-index c.loop-function-test.false)))
