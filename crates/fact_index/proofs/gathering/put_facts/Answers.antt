use Rattle.std.proofs.Common.{refl}
use Rattle.fact_index.proofs.Reaching.{puts_nothing, puts_fact, puts_facts}
use Rattle.fact_index.proofs.gathering.put_facts.Goals as goal

pub loop-position-init : goal.loop-position-init
loop-position-init c = puts_nothing c.args.keys.now

pub loop-position-preserved : goal.loop-position-preserved
loop-position-preserved c =
    puts_fact c.args.facts.now c.args.keys.now c.loop-position.keys c.put_fact.new.keys c.args.positions.now c.loop-position.position-index _
    c.loop-position-test.true refl c.loop-position.invariant c.in_ok-put_fact.ensures

pub returns : goal.returns
returns c =
    puts_facts c.args.facts.now c.args.keys.now c.loop-position.keys c.args.positions.now c.loop-position.position-index c.loop-position-test.false
    c.loop-position.invariant
