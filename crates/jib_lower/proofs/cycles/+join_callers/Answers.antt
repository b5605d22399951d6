use Rattle.std.proofs.Common.{◌≡◌, true}
use Rattle.std.proofs.lemmas.Result.{on_ok_weaker}
use Rattle.lowered_steps.proofs.Lists.{first_of, none_of, others}
use Rattle.jib_lower.specs.Cycles.{Joined, instances_fall}
use Rattle.jib_lower.proofs.Falling.{callers_more, no_callers}
use Rattle.jib_lower.proofs.cycles.+join_callers.Goals as goal

pub returns-in-empty : goal.returns-in-empty
returns-in-empty t c = no_callers c.args.instances.now c.args.graph.now c.args.callers.now (none_of c.args.callers.now c.in-empty.len_below)

pub returns-in_ok-join_bodies-in-len1-up : goal.returns-in_ok-join_bodies-in-len1-up
returns-in_ok-join_bodies-in-len1-up t c =
    on_ok_weaker c.join_callers.result
    (λ (more : Joined (λ ns. instances_fall ns c.args.instances.now (others c.args.callers.now) ≡ true) c.join_bodies.new.graph c.join_callers.new.graph).
    callers_more c.args.instances.now c.first-item.result c.as_slice.result.now (others c.args.callers.now) c.args.callers.now c.args.graph.now
    c.join_bodies.new.graph c.join_callers.new.graph (first_of c.args.callers.now c.first-item.result c.in-len1-up.len_at_least c.first-item.is)
    c.as_slice.ensures c.in_ok-join_bodies-in-len1-up.ensures more)
    c.join_callers.ensures
