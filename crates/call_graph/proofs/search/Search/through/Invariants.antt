use Rattle.std.proofs.Common.{◌≡◌, ◌≢◌, ℕ, ◌<◌, []}
use Rattle.call_graph.specs.declared.search.Mark.TheVariants.{New}
use Rattle.call_graph.specs.Search.{Sound, mark_of}
use Rattle.call_graph.proofs.search.Search.through.Given as goal

abbrev pub invariant-loop-node : goal.invariant-loop-node
invariant-loop-node l = record {
  sound : Sound l.graph l.search;
  path : l.search.path.items ≡ [];
  seen : (u : ℕ) → u < l.node → mark_of l.search.marks.items u ≢ New;
}
