use Rattle.std.proofs.Common.{◌≡◌, ◌/◌, true}
use Rattle.std.specs.Prelude.{slice_get, slice_index_or}
use Rattle.std.proofs.lemmas.Result.{on_ok_weaker}
use Rattle.lowered_steps.proofs.Lists.{got_item, got_none}
use Rattle.jib_lower.specs.Cycles.{Joined, nodes_fall}
use Rattle.jib_lower.proofs.Passing.{mapping_nowhere, mapping_there}
use Rattle.jib_lower.proofs.turns.join_mapping.Goals as goal

pub returns-in-Some : goal.returns-in-Some
returns-in-Some c =
    on_ok_weaker c.join_nodes.result
    (λ (h : Joined (λ ns. nodes_fall ns c.args.instances.now (slice_index_or ns c.args.caller 0) c.as_slice.result.now ≡ true) c.args.graph.now
    c.join_nodes.new.graph).
    mapping_there c.args.instances.now c.args.mappings.now c.args.caller (slice_get c.args.mappings.now (c.args.direction / 2)) c.in-Some.nodes.now
    c.as_slice.result.now c.args.graph.now c.join_nodes.new.graph
    (got_item c.args.mappings.now (c.args.direction / 2) c.in-Some.nodes.now c.in-Some.ensures.lookup.0 c.in-Some.ensures.lookup.1)
    c.as_slice.ensures h) c.join_nodes.ensures

pub returns-in-None : goal.returns-in-None
returns-in-None c =
    mapping_nowhere c.args.instances.now c.args.mappings.now c.args.caller (slice_get c.args.mappings.now (c.args.direction / 2)) c.args.graph.now
    (got_none c.args.mappings.now (c.args.direction / 2) c.in-None.ensures.lookup.0)
