use Rattle.call_graph.proofs.Numbering.{FirstNumbered}
use Rattle.call_graph.proofs.search.number_nodes.Given as goal

abbrev pub invariant-loop-node : goal.invariant-loop-node
invariant-loop-node l = FirstNumbered l.fn.marks l.marks l.nodes l.number l.node-index
