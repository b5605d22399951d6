use Rattle.std.proofs.Common.{ℕ, ◌<◌, List, length, sym, subst}
use Rattle.call_graph.proofs.Edges.{pushed}
use Rattle.call_graph.proofs.digraph.Graph.add_edge.Goals as goal

pub invariant_of-self : goal.invariant_of-self
invariant_of-self c =
    pushed c.push.result c.self.inside.successors.items c.args.from c.args.to c.index_mut.result.now c.push.new.self
    (subst (λ (g : List (List ℕ)). c.args.from < length g) (sym c.self.view_is) c.requires.from_a_node)
    (subst (λ (g : List (List ℕ)). c.args.to < length g) (sym c.self.view_is) c.requires.to_a_node)
    c.self.invariant c.index_mut.ensures.value c.push.ensures.pushed c.push.ensures.unchanged
