use Rattle.std.proofs.Common.{refl}
use Rattle.fact_index.proofs.Reaching.{puts_nothing, puts_next, puts_all}
use Rattle.fact_index.proofs.gathering.put_keys.Goals as goal

pub loop-key-init : goal.loop-key-init
loop-key-init c = puts_nothing c.args.keys.now

pub loop-key-preserved : goal.loop-key-preserved
loop-key-preserved c =
    let l = c.loop-key in
    puts_next c.args.keys.now l.keys c.put_key.new.keys c.args.more.now l.key-index _ c.loop-key-test.true refl l.invariant c.in_ok-put_key.ensures

pub returns : goal.returns
returns c = puts_all c.args.keys.now c.loop-key.keys c.args.more.now c.loop-key.key-index c.loop-key-test.false c.loop-key.invariant
