use Rattle.std.proofs.Common.{◌≡◌, length}
use Rattle.std.specs.Vec.Iter.{into_iter_items, into_iter_len}
use Rattle.value_indices.specs.Walking.{run, seen}
use Rattle.size_notes.specs.Bodies.{sizes_read}
use Rattle.size_notes.proofs.parameters.read_sizes.Given as goal

-- the rest makes up all of them
abbrev pub invariant-loop-size : goal.invariant-loop-size
invariant-loop-size l = record {
  known : into_iter_len l.size-iterator ≡ length (into_iter_items l.size-iterator);
  walked : run (sizes_read (into_iter_items l.size-iterator)) (seen l.walking) ≡ run (sizes_read l.fn.sizes) (seen l.initial.walking);
}
