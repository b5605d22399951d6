use Rattle.std.proofs.Common.{arith}
use Rattle.fact_index.proofs.Filing.{filed_more, all_filed}
use Rattle.fact_index.proofs.files.file.Goals as goal

pub loop-position-preserved : goal.loop-position-preserved
loop-position-preserved c = λ h.
    filed_more c.args.facts.now c.loop-position.lists.items c.file_fact.new.lists.items c.loop-position.position c.index-facts-position.result
    (omega arith) c.index-facts-position.is c.in_ok-file_fact.ensures.kept c.in_ok-file_fact.ensures.put (c.loop-position.invariant h)

pub returns : goal.returns
returns c = λ h. all_filed c.args.facts.now c.loop-position.lists.items c.loop-position.position (omega arith) (c.loop-position.invariant h)
