use Rattle.std.proofs.Common.{◌∙◌, ◌++◌, take, ap, subst}
use Rattle.std.proofs.lemmas.List.{take_all}
use Rattle.sail_names.specs.Known.{known_of}
use Rattle.sail_cycles.specs.Cycles.{HasEdges, edges, all_edges}
use Rattle.sail_cycles.proofs.Edges.{all_edges_more, same_graph}
use Rattle.sail_cycles.proofs.graphs.graph_of.Goals as goal

pub loop-definition-preserved : goal.loop-definition-preserved
loop-definition-preserved c =
    let text = c.args.definitions.now in
    let known = known_of c.args.names.now in
    let index = c.loop-definition.definition-index in record {
      nodes = c.in_ok-add_edges.ensures.nodes ∙ c.loop-definition.invariant.nodes;
      edges = subst (λ es. HasEdges es c.add_edges.new.graph)
          (ap (λ d. all_edges c.args.which known (take index text) ++ edges c.args.which known d) c.definition-item.is
          ∙ all_edges_more c.args.which known text index c.definition-item.result c.loop-definition-test.true)
          (c.in_ok-add_edges.ensures.edges (all_edges c.args.which known (take index text)) c.loop-definition.invariant.edges);
    }

pub returns : goal.returns
returns c =
    let text = c.args.definitions.now in
    let known = known_of c.args.names.now in
    let every = take_all c.loop-definition.definition-index text c.loop-definition-test.false in
    same_graph (all_edges c.args.which known text) text c.loop-definition.graph c.loop-definition.invariant.nodes
    (subst (λ ds. HasEdges (all_edges c.args.which known ds) c.loop-definition.graph) every c.loop-definition.invariant.edges)
