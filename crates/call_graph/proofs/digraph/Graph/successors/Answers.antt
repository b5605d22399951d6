use Rattle.std.proofs.Common.{ℕ, ◌<◌, List, length, sym, ap, ◌∙◌, subst}
use Rattle.call_graph.specs.Graphs.{LeadsToNodes, successors}
use Rattle.call_graph.proofs.Edges.{nodes_within, read_successors}
use Rattle.call_graph.proofs.digraph.Graph.successors.Goals as goal

pub returns-clause-nodes : goal.returns-clause-nodes
returns-clause-nodes c = nodes_within c.args.self.now c.args.node c.as_slice.result.now
    (c.as_slice.ensures ∙ read_successors c.self.inside.successors.items c.args.node c.index.result.now
    (subst (λ (g : List (List ℕ)). c.args.node < length g) (sym c.self.view_is) c.requires) c.index.ensures
    ∙ ap (λ g. successors g c.args.node) c.self.view_is)
    (subst LeadsToNodes c.self.view_is c.self.invariant)
