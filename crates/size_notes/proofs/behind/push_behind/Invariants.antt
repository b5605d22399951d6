use Rattle.std.proofs.Common.{◌≡◌, ◌++◌, length}
use Rattle.std.specs.Vec.Iter.{into_iter_items, into_iter_len}
use Rattle.size_notes.specs.Behind.{all_behind}
use Rattle.size_notes.proofs.behind.push_behind.Given as goal

-- the rest makes up all of them
abbrev pub invariant-loop-written : goal.invariant-loop-written
invariant-loop-written l = record {
  known : into_iter_len l.written-iterator ≡ length (into_iter_items l.written-iterator);
  made : l.made ++ all_behind l.number (into_iter_items l.written-iterator) ≡ l.initial.made ++ all_behind l.number l.fn.sizes;
}
