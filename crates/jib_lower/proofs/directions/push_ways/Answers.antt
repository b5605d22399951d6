use Rattle.std.proofs.Common.{◌+◌, drop}
use Rattle.jib_lower.proofs.Gathered.{copied_here, past_all}
use Rattle.jib_lower.proofs.Unmade.{exit_more}
use Rattle.jib_lower.proofs.Ways.{first_left, later_left, no_ways, way_next}
use Rattle.jib_lower.proofs.directions.push_ways.Goals as goal

pub loop-direction-init : goal.loop-direction-init
loop-direction-init c = record { added = λ new h. h; left = λ h. h }

pub loop-direction-preserved : goal.loop-direction-preserved
loop-direction-preserved c =
    let l = c.loop-direction in
    let all = c.args.order.now in
    record {
      added = λ new h. l.invariant.added new (way_next c.args.model.now l.place c.in_ok-place.place _ (drop (l.direction-index + 1) all)
          (drop l.direction-index all) c.in_ok-way.way l.ways c.push.new.self new c.in_ok-push.ensures.pushed c.in_ok-place.ensures
          c.in_ok-way.ensures.made (copied_here all l.direction-index _ c.loop-direction-test.true) h);
      left = λ h. l.invariant.left (later_left c.args.model.now l.place c.in_ok-place.place _ (drop (l.direction-index + 1) all)
          (drop l.direction-index all) c.in_ok-place.ensures (copied_here all l.direction-index 0 c.loop-direction-test.true) h);
    }

pub returns-clause-added : goal.returns-clause-added
returns-clause-added c =
    let l = c.loop-direction in
    l.invariant.added l.ways (no_ways c.args.model.now l.place (drop l.direction-index c.args.order.now) l.ways
    (past_all c.args.order.now l.direction-index c.loop-direction-test.false))

pub returns-in_err-way-clause-left : goal.returns-in_err-way-clause-left
returns-in_err-way-clause-left c =
    let l = c.loop-direction in
    let all = c.args.order.now in
    exit_more _ _ c.from_residual.ensures.1 (λ why. l.invariant.left (first_left c.args.model.now l.place _
    (drop (l.direction-index + 1) all) (drop l.direction-index all)
    (copied_here all l.direction-index _ c.loop-direction-test.true) why)) c.in_err-way.ensures.left
