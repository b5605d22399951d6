use Rattle.std.proofs.Common.{arith}
use Rattle.std.proofs.lemmas.List.Sorted.{IsNonDecreasingBy-from_sort}
use Rattle.fact_index.proofs.Picks.{passed, one_picked, all_read}
use Rattle.fact_index.proofs.picking.push_picked.Goals as goal
use Rattle.fact_index.proofs.picking.push_picked.Goals.{then-position-first+then-place-next+then-place-facts+in_ok-push_condition}
use Rattle.fact_index.proofs.picking.push_picked.Goals.{then-position-first+else-place-next}
use Rattle.fact_index.proofs.picking.push_picked.Goals.{else-place-next-via-then-place-next+else-place-facts}
use Rattle.fact_index.proofs.picking.push_picked.Goals.{else-place-next-via-else-place-next}
use Rattle.fact_index.proofs.picking.push_picked.Goals.{else-position-first}

pub loop-position-preserved : goal.loop-position-preserved
loop-position-preserved c =
    let l = c.loop-position in
    let f = c.args.facts.now in
    let ps = c.args.positions.now in
    let after = c.if-position-first.next in
    let new = c.if-position-first.made in
    elim c.if-position-first.branch [
      | then-position-first+then-place-next+then-place-facts+in_ok-push_condition w ↦
          one_picked f c.args.first ps c.args.made.now l.position-index l.next l.made l.invariant _ after w.index-facts-place.result w.push_condition.new.made
          new (IsNonDecreasingBy-from_sort (λ x. x) ps c.requires) c.loop-position-test.true (omega arith) w.if-place-next.true w.if-place-facts.true
          w.index-facts-place.is w.in_ok-push_condition.ensures w.next-is w.made-is
      | then-position-first+else-place-next w ↦
          elim w.else-place-next.branch [
            | else-place-next-via-then-place-next+else-place-facts v ↦
                passed f c.args.first ps c.args.made.now l.position-index l.next l.made l.invariant after new w.next-is w.made-is (omega arith)
            | else-place-next-via-else-place-next v ↦
                passed f c.args.first ps c.args.made.now l.position-index l.next l.made l.invariant after new w.next-is w.made-is (omega arith)
          ]
      | else-position-first w ↦
          passed f c.args.first ps c.args.made.now l.position-index l.next l.made l.invariant after new w.next-is w.made-is (λ below. omega arith)
    ]

pub returns : goal.returns
returns c =
    let l = c.loop-position in
    all_read c.args.facts.now c.args.first c.args.positions.now c.args.made.now l.position-index l.next l.made l.invariant c.loop-position-test.false
