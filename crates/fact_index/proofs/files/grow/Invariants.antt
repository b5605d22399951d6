use Rattle.std.proofs.Common.{◌≡◌, ℕ, [], length}
use Rattle.std.specs.Prelude.{slice_index_or}
use Rattle.fact_index.proofs.files.grow.Given as goal

abbrev pub invariant-loop-at : goal.invariant-loop-at
invariant-loop-at l = record {
  count : length l.lists.items ≡ l._at;
  same : (other : ℕ) → slice_index_or l.lists.items other [] ≡ slice_index_or l.fn.lists.items other [];
}
