use Rattle.std.proofs.Common.{◌≡◌, ◌<◌, length, arith}
use Rattle.size_notes.proofs.Lists.{got_again}
use Rattle.monomorph.proofs.Given.{given_next, given_end}
use Rattle.monomorph.proofs.calls.given.Goals as goal

pub loop-at-preserved : goal.loop-at-preserved
loop-at-preserved c =
    let l = c.loop-at in
    let within : l.at < length c.args.flags.now = omega arith in
    given_next c.args.flags.now c.args.constants.now l.at _ c.index-constants-at.result l.made c.push.new.self c.number_given.result _ within
    (omega arith) (got_again c.args.flags.now l.at _ within) c.index-constants-at.is c.number_given.ensures c.in_ok-push.ensures.pushed l.invariant

pub returns : goal.returns
returns c =
    let l = c.loop-at in
    let at : l.at ≡ c.lesser-count.result = omega (arith, c.loop-at-test.false, l.auto.at-end) in
    given_end c.args.flags.now c.args.constants.now l.at l.made _ (omega (arith, at, c.lesser-count.ensures)) l.invariant
