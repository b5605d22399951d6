use Rattle.std.proofs.Common.{◌≡◌, true}
use Rattle.std.specs.Prelude.{slice_index_or}
use Rattle.std.proofs.lemmas.Result.{on_ok_weaker}
use Rattle.lowered_steps.proofs.Lists.{first_of, none_of, others}
use Rattle.jib_lower.specs.Cycles.{Joined, bodies_fall}
use Rattle.jib_lower.proofs.Falling.{bodies_more, no_bodies}
use Rattle.jib_lower.proofs.cycles.+join_bodies.Goals as goal

pub returns-in-empty : goal.returns-in-empty
returns-in-empty t c = no_bodies c.args.instances.now c.args.caller c.args.graph.now c.args.bodies.now (none_of c.args.bodies.now c.in-empty.len_below)

pub returns-in_ok-join_nodes-in-len1-up : goal.returns-in_ok-join_nodes-in-len1-up
returns-in_ok-join_nodes-in-len1-up t c =
    on_ok_weaker c.join_bodies.result
    (λ (more : Joined (λ ns. bodies_fall ns c.args.instances.now (slice_index_or ns c.args.caller 0) (others c.args.bodies.now) ≡ true) c.join_nodes.new.graph
    c.join_bodies.new.graph).
    bodies_more c.args.instances.now c.args.caller c.first-item.result c.as_slice.result.now (others c.args.bodies.now) c.args.bodies.now c.args.graph.now
    c.join_nodes.new.graph c.join_bodies.new.graph (first_of c.args.bodies.now c.first-item.result c.in-len1-up.len_at_least c.first-item.is)
    c.as_slice.ensures c.in_ok-join_nodes-in-len1-up.ensures more)
    c.join_bodies.ensures
