use Rattle.std.proofs.Common.{◌≡◌, ℕ, ◌<◌, length}
use Rattle.std.specs.Prelude.{slice_index}
use Rattle.call_graph.specs.declared.search.Mark.TheVariants.{Numbered}
use Rattle.call_graph.specs.Search.{mark_of}
use Rattle.call_graph.proofs.finding.numbers.Given as goal

abbrev pub invariant-loop-mark : goal.invariant-loop-mark
invariant-loop-mark l = record {
  every : length l.numbers.items ≡ l.mark-index;
  numbers : (node : ℕ) → node < l.mark-index → mark_of l.marks node ≡ Numbered (slice_index l.numbers.items node);
}
