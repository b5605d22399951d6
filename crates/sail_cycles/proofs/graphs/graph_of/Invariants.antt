use Rattle.std.proofs.Common.{◌≡◌, length, take}
use Rattle.sail_names.specs.Known.{known_of}
use Rattle.sail_cycles.specs.Cycles.{HasEdges, all_edges}
use Rattle.sail_cycles.proofs.graphs.graph_of.Given as goal

abbrev pub invariant-loop-definition : goal.invariant-loop-definition
invariant-loop-definition l = record {
  nodes : length l.graph ≡ length l.definitions;
  edges : HasEdges (all_edges l.which (known_of l.names) (take l.definition-index l.definitions)) l.graph;
}
