use Rattle.std.proofs.Common.{◌∙◌, ◌++◌, map, subst}
use Rattle.std.proofs.lemmas.List.{take_all}
use Rattle.sail_cycles.specs.Cycles.{HasEdges}
use Rattle.sail_cycles.proofs.Edges.{edges_to_more}
use Rattle.sail_cycles.proofs.graphs.add_edges_to.Goals as goal

pub loop-to-preserved : goal.loop-to-preserved
loop-to-preserved c = record {
  nodes = c.in_ok-add_edge.ensures.nodes ∙ c.loop-to.invariant.nodes;
  edges = λ all h.
      subst (λ es. HasEdges es c.add_edge.new.graph) (edges_to_more all c.args.from c.args.numbers.now c.loop-to.to-index c.loop-to-test.true)
      (c.in_ok-add_edge.ensures.edges _ (c.loop-to.invariant.edges all h));
}

pub returns-clause-edges : goal.returns-clause-edges
returns-clause-edges c =
    λ all h. subst (λ numbers. HasEdges (all ++ map (λ to. (c.args.from, to)) numbers) c.loop-to.graph)
    (take_all c.loop-to.to-index c.args.numbers.now c.loop-to-test.false) (c.loop-to.invariant.edges all h)
