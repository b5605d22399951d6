use Rattle.fact_index.specs.Filed.{KeepsBelow}
use Rattle.fact_index.proofs.files.unfile.Given as goal

abbrev pub invariant-loop-position : goal.invariant-loop-position
invariant-loop-position l = KeepsBelow l.kept l.fn.lists.items l.lists.items
