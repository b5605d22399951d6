use Rattle.std.proofs.Common.{◌∙◌, ◌∷◌, ◌+◌, ap, drop, sym}
use Rattle.lowered_typed.proofs.Pushed.{none, pushed}
use Rattle.jib_lower.specs.Entering.{mapped_by, mapped_from}
use Rattle.jib_lower.proofs.Gathered.{from_here, past_all}
use Rattle.jib_lower.proofs.entering.push_mapped.Goals as goal

pub loop-direction-init : goal.loop-direction-init
loop-direction-init c = λ new e. e

pub loop-direction-preserved : goal.loop-direction-preserved
loop-direction-preserved c = λ new e.
    let l = c.loop-direction in
    let all = c.args.directions.now in
    let from = mapped_from c.args.types.now c.args.order.now in
    let behind = drop (l.direction-index + 1) all in
    l.invariant new (pushed l.all c.push.new.self new (from c.in_ok-place.place behind) (from l.place (drop l.direction-index all))
    c.in_ok-one.one c.in_ok-push.ensures.pushed e
    (ap (from l.place) (from_here all l.direction-index c.direction-item.result c.loop-direction-test.true c.direction-item.is)
    ∙ ap (λ n. mapped_by c.args.types.now n c.direction-item.result ∷ from (l.place + 1) behind) (sym c.in_ok-function.ensures)
    ∙ ap (λ x. x ∷ from (l.place + 1) behind) (sym c.in_ok-one.ensures) ∙ ap (λ n. c.in_ok-one.one ∷ from n behind) (sym c.in_ok-place.ensures)))

pub returns : goal.returns
returns c =
    let l = c.loop-direction in
    let from = mapped_from c.args.types.now c.args.order.now l.place in
    l.invariant l.all (none l.all (from (drop l.direction-index c.args.directions.now))
    (ap from (past_all c.args.directions.now l.direction-index c.loop-direction-test.false)))
