use Rattle.std.proofs.Common.{◌≤◌, ℕ, vec_len}
use Rattle.std.specs.Prelude.{Contains}
use Rattle.call_graph.specs.Search.{IsAscending}
use Rattle.call_graph.proofs.search.cut.Given as goal

abbrev pub invariant-loop-last : goal.invariant-loop-last
invariant-loop-last l = record {
  ascends : IsAscending l.starts.items;
  kept : (s : ℕ) → Contains l.starts.items s → Contains l.fn.starts.items s;
  keeps : (s : ℕ) → Contains l.fn.starts.items s → s ≤ l.place → Contains l.starts.items s;
}

abbrev pub decreases-loop-last : goal.decreases-loop-last
decreases-loop-last l = vec_len l.starts
