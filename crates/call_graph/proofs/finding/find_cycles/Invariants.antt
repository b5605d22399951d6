use Rattle.call_graph.proofs.Components.{ShowsBelow}
use Rattle.call_graph.proofs.finding.find_cycles.Given as goal

abbrev pub invariant-loop-node : goal.invariant-loop-node
invariant-loop-node l = ShowsBelow l.graph l.components.items l.members l.node
