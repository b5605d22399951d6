use Rattle.std.proofs.Common.{◌+◌, ap, drop, sym}
use Rattle.jib_lower.specs.Rounds.{all_left, all_placed}
use Rattle.jib_lower.proofs.Gathered.{copied_here, past_all}
use Rattle.jib_lower.proofs.Rounding.{next_left, next_placed}
use Rattle.jib_lower.proofs.order.place_all.Goals as goal

pub loop-direction-init : goal.loop-direction-init
loop-direction-init c = record { placed = λ new e. e; left = λ new e. e }

pub loop-direction-preserved : goal.loop-direction-preserved
loop-direction-preserved c =
    let l = c.loop-direction in
    let all = c.args.directions.now in
    let behind = drop (l.direction-index + 1) all in
    record {
      placed = λ new e. l.invariant.placed new (next_placed c.args.calls.now l.placed c.place_one.new.placed behind (drop l.direction-index all) new
          _ (copied_here all l.direction-index _ c.loop-direction-test.true) c.in_ok-place_one.ensures.placed e);
      left = λ new e. l.invariant.left new (next_left c.args.calls.now l.placed c.place_one.new.placed behind (drop l.direction-index all) new
          _ (copied_here all l.direction-index _ c.loop-direction-test.true)
          c.in_ok-place_one.ensures.placed l.left c.place_one.new.left c.in_ok-place_one.ensures.left e);
    }

pub returns-clause-placed : goal.returns-clause-placed
returns-clause-placed c =
    let l = c.loop-direction in
    l.invariant.placed l.placed
    (ap (all_placed c.args.calls.now l.placed) (sym (past_all c.args.directions.now l.direction-index c.loop-direction-test.false)))

pub returns-clause-left : goal.returns-clause-left
returns-clause-left c =
    let l = c.loop-direction in
    l.invariant.left l.left
    (ap (all_left c.args.calls.now l.placed l.left) (sym (past_all c.args.directions.now l.direction-index c.loop-direction-test.false)))
