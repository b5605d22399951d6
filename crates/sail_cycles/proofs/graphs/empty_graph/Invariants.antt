use Rattle.std.proofs.Common.{◌≡◌, [], length}
use Rattle.sail_cycles.specs.Cycles.{HasEdges}
use Rattle.sail_cycles.proofs.graphs.empty_graph.Given as goal

abbrev pub invariant-loop : goal.invariant-loop
invariant-loop l = record {
  nodes : length l.graph ≡ l.index;
  edges : HasEdges [] l.graph;
}
