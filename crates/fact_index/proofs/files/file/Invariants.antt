use Rattle.fact_index.specs.Filed.{IsFiledBelow}
use Rattle.fact_index.proofs.files.file.Given as goal

abbrev pub invariant-loop-position : goal.invariant-loop-position
invariant-loop-position l = IsFiledBelow l.kept l.facts l.fn.lists.items → IsFiledBelow l.position l.facts l.lists.items
