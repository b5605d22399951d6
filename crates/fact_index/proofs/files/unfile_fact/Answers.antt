use Rattle.fact_index.proofs.Filing.{keeps_below_then}
use Rattle.fact_index.proofs.files.unfile_fact.Goals as goal

pub loop-key-preserved : goal.loop-key-preserved
loop-key-preserved c =
    keeps_below_then c.args.mark c.args.lists.now.items c.loop-key.lists.items c.pop_position.new.lists.items c.loop-key.invariant c.pop_position.ensures
