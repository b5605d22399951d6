use Rattle.fact_index.proofs.Filing.{keeps_below_then}
use Rattle.fact_index.proofs.files.unfile.Goals as goal

pub loop-position-preserved : goal.loop-position-preserved
loop-position-preserved c =
    keeps_below_then c.args.kept c.args.lists.now.items c.loop-position.lists.items c.unfile_fact.new.lists.items c.loop-position.invariant
    c.in_ok-unfile_fact.ensures
