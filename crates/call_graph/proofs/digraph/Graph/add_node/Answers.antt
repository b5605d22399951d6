use Rattle.std.proofs.Common.{◌∷◌, [], ◌++◌, sym, ap, ◌∙◌, subst}
use Rattle.call_graph.specs.Graphs.{LeadsToNodes}
use Rattle.call_graph.proofs.Edges.{more_nodes}
use Rattle.call_graph.proofs.digraph.Graph.add_node.Goals as goal

pub invariant_of-self : goal.invariant_of-self
invariant_of-self c = subst LeadsToNodes (sym c.in_err-push.ensures.items) c.self.invariant

pub invariant_of-self-2 : goal.invariant_of-self-2
invariant_of-self-2 c = subst LeadsToNodes
    (sym (c.in_ok-push.ensures.items ∙ ap (λ nodes. c.self.inside.successors.items ++ nodes ∷ []) c.new.ensures))
    (more_nodes c.self.inside.successors.items c.self.invariant)
