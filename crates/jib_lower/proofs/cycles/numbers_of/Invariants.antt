use Rattle.std.proofs.Common.{◌≡◌, ◌<◌, ℕ, length}
use Rattle.std.specs.Prelude.{slice_index_or}
use Rattle.call_graph.specs.Components.{component_of}
use Rattle.jib_lower.proofs.cycles.numbers_of.Given as goal

abbrev pub invariant-loop-at : goal.invariant-loop-at
invariant-loop-at l = record {
  many : length l.numbers ≡ l.at;
  each : (node : ℕ) → node < l.at → slice_index_or l.numbers node 0 ≡ component_of l.cycles node;
}
