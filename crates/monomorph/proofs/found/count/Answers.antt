use Rattle.std.proofs.Common.{arith}
use Rattle.monomorph.proofs.Over.{count_next, count_end}
use Rattle.monomorph.proofs.found.count.Goals as goal

pub loop-one-preserved : goal.loop-one-preserved
loop-one-preserved c =
    let l = c.loop-one in
    let one = c.count_one-count.ensures in
    record {
      within = omega (arith, l.invariant.within, one.within);
      counted = count_next c.args.found.now l.one-index c.one-item.result l.count c.count_one-count.result _ c.loop-one-test.true c.one-item.is
          one.count l.invariant.counted;
    }

pub returns : goal.returns
returns c =
    let l = c.loop-one in
    count_end c.args.found.now l.one-index l.count _ c.loop-one-test.false l.invariant.counted
