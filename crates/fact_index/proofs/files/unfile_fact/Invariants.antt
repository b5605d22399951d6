use Rattle.fact_index.specs.Filed.{KeepsBelow}
use Rattle.fact_index.proofs.files.unfile_fact.Given as goal

abbrev pub invariant-loop-key : goal.invariant-loop-key
invariant-loop-key l = KeepsBelow l.mark l.fn.lists.items l.lists.items
