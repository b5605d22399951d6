use Rattle.std.proofs.Common.{◌≡◌, List, ◌++◌, length, map, take}
use Rattle.sail_cycles.specs.Cycles.{Edge, HasEdges}
use Rattle.sail_cycles.proofs.graphs.add_edges_to.Given as goal

abbrev pub invariant-loop-to : goal.invariant-loop-to
invariant-loop-to l = record {
  nodes : length l.graph ≡ length l.initial.graph;
  edges : (all : List Edge) → HasEdges all l.initial.graph → HasEdges (all ++ map (λ to. (l.from, to)) (take l.to-index l.numbers)) l.graph;
}
