use Rattle.std.proofs.Common.{◌∙◌, ◌≤◌, ◌+ℤ◌, ◌≤ℤ◌, ◌<ℤ◌, pos, SFits, to_z, of_z, rules, arith}
use Rattle.std.proofs.lemmas.Int.{to_z-of_z}
use Rattle.std.specs.Int.{w128}
use Rattle.size_splits.specs.Splits.{up_to}
use Rattle.size_splits.proofs.Ranges.{test_fails, test_holds, up_last, up_next, up_none}
use Rattle.size_splits.proofs.domains.up_to.Goals as goal

pub loop-at-preserved : goal.loop-at-preserved
loop-at-preserved c =
    let l = c.loop-at in
    let next = to_z w128 l.next-bits in
    let low = to_z w128 (of_z w128 c.args.low) in
    let high = to_z w128 (of_z w128 c.args.high) in
    let less : next <ℤ high = test_fails high next c.if-next-high.false in
    let fits : SFits w128 (next +ℤ pos 1) = search rules in
    up_next c.args.count l._at next high l.made (up_to c.args.count low high) l.invariant c.push.new.self
    (to_z w128 (of_z w128 (next +ℤ pos 1))) c.loop-at-test.true less c.in_ok-push.ensures.pushed (to_z-of_z w128 (next +ℤ pos 1) fits)

pub returns-then-next-high : goal.returns-then-next-high
returns-then-next-high c =
    let l = c.loop-at in
    let next = to_z w128 l.next-bits in
    let low = to_z w128 (of_z w128 c.args.low) in
    let high = to_z w128 (of_z w128 c.args.high) in
    let past : high ≤ℤ next = test_holds high next c.if-next-high.true in
    up_last c.args.count l._at next high l.made (up_to c.args.count low high) l.invariant c.push.new.self c.loop-at-test.true past
    c.in_ok-push.ensures.pushed
    ∙ (λ j. up_to c.args.count (to_z-of_z w128 c.args.low c.ranges.low j) (to_z-of_z w128 c.args.high c.ranges.high j))

pub returns : goal.returns
returns c =
    let l = c.loop-at in
    let low = to_z w128 (of_z w128 c.args.low) in
    let high = to_z w128 (of_z w128 c.args.high) in
    let past : c.args.count ≤ l._at = omega arith in
    up_none c.args.count l._at (to_z w128 l.next-bits) high l.made (up_to c.args.count low high) l.invariant past
    ∙ (λ j. up_to c.args.count (to_z-of_z w128 c.args.low c.ranges.low j) (to_z-of_z w128 c.args.high c.ranges.high j))
