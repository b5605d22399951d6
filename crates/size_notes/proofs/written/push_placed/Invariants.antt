use Rattle.std.proofs.Common.{◌≡◌, ◌++◌, length}
use Rattle.std.specs.Vec.Iter.{into_iter_items, into_iter_len}
use Rattle.size_notes.specs.Written.{placed_sizes}
use Rattle.size_notes.proofs.written.push_placed.Given as goal

-- the rest makes up all of them
abbrev pub invariant-loop-part : goal.invariant-loop-part
invariant-loop-part l = record {
  known : into_iter_len l.part-iterator ≡ length (into_iter_items l.part-iterator);
  made : l.made ++ placed_sizes l.fn.place l.left (into_iter_items l.part-iterator) ≡ l.initial.made ++ placed_sizes l.fn.place l.fn.places l.fn.parts;
}
