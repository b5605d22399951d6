use Rattle.fact_index.proofs.Picks.{conditions_read}
use Rattle.fact_index.proofs.picking.push_conditions.Goals as goal

pub loop-fact-preserved : goal.loop-fact-preserved
loop-fact-preserved c =
    conditions_read c.args.facts.now c.loop-fact.fact-index c.fact-item.result c.args.made.now c.loop-fact.made c.push_condition.new.made
    c.loop-fact-test.true c.fact-item.is c.loop-fact.invariant c.in_ok-push_condition.ensures
