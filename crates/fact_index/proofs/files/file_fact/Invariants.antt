use Rattle.std.proofs.Common.{take}
use Rattle.fact_index.specs.Filed.{AreIn, Keeps}
use Rattle.fact_index.proofs.files.file_fact.Given as goal

abbrev pub invariant-loop-key : goal.invariant-loop-key
invariant-loop-key l = record {
  kept : Keeps l.fn.lists.items l.lists.items;
  put : AreIn l.lists.items (take l.key-index l.key-items) l.position;
}
