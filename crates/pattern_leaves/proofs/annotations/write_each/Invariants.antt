use Rattle.std.proofs.Common.{◌≡◌, ◌++◌, map, length}
use Rattle.std.specs.Vec.Iter.{into_iter_items, into_iter_len}
use Rattle.value_indices.specs.declared.indices.Naming.TheOpen as G
use Rattle.pattern_leaves.specs.Annotations.{written_at}
use Rattle.pattern_leaves.proofs.annotations.write_each.Given as goal

-- what is left to write makes up what there was to write
abbrev pub invariant-loop-bound : goal.invariant-loop-bound
invariant-loop-bound l = record {
  known : into_iter_len l.bound-iterator ≡ length (into_iter_items l.bound-iterator);
  written : l.all ++ map (written_at (G.Named l.name) l.reading) (into_iter_items l.bound-iterator) ≡ map (written_at (G.Named l.name) l.reading) l.fn.found;
}
