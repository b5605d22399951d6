use Rattle.std.proofs.Common.{◌≡◌, ◌∙◌, ◌≤◌, length, subst, sym, true}
use Rattle.jib_lower.specs.Cycles.{all_there}
use Rattle.jib_lower.proofs.Falling.{graph_joined}
use Rattle.jib_lower.proofs.Passing.{same_few}
use Rattle.jib_lower.proofs.cycles.graph_of.Goals as goal

pub join_turns-requires : goal.join_turns-requires
join_turns-requires c = record {
  callers = subst (λ n. all_there n c.args.instances.now ≡ true) (sym (c.in_ok-join_callers.ensures.many ∙ c.in_ok-graph.ensures.nodes)) c.requires.there;
}

pub add_rings-requires : goal.add_rings-requires
add_rings-requires c = record {
  many = same_few (length c.join_turns.new.graph) (length c.args.functions.now)
      (c.in_ok-join_turns.ensures.many ∙ c.in_ok-join_callers.ensures.many ∙ c.in_ok-graph.ensures.nodes);
}

pub returns : goal.returns
returns c =
    graph_joined c.args.functions.now c.args.instances.now c.args.mappings.now c.args.turns.now c.in_ok-graph.graph c.join_callers.new.graph
    c.join_turns.new.graph c.add_rings.new.graph c.in_ok-graph.ensures.nodes c.in_ok-graph.ensures.falls c.in_ok-join_callers.ensures
    c.in_ok-join_turns.ensures c.in_ok-add_rings.ensures
