use Rattle.std.proofs.Common.{◌≡◌, true}
use Rattle.std.specs.Prelude.{slice_index_or}
use Rattle.std.proofs.lemmas.Result.{on_ok_weaker}
use Rattle.lowered_steps.proofs.Lists.{head_of, none_of, others}
use Rattle.jib_lower.specs.Cycles.{Joined, directions_fall}
use Rattle.jib_lower.proofs.Passing.{directions_more, no_directions}
use Rattle.jib_lower.proofs.turns.+join_directions.Goals as goal

pub returns-in-empty : goal.returns-in-empty
returns-in-empty t c =
    no_directions c.args.instances.now c.args.mappings.now c.args.caller c.args.graph.now c.args.directions.now
    (none_of c.args.directions.now c.in-empty.len_below)

pub returns-in_ok-join_mapping-in-len1-up : goal.returns-in_ok-join_mapping-in-len1-up
returns-in_ok-join_mapping-in-len1-up t c =
    on_ok_weaker c.join_directions.result
    (λ (more : Joined (λ ns. directions_fall ns c.args.instances.now c.args.mappings.now (slice_index_or ns c.args.caller 0) (others c.args.directions.now)
    ≡ true) c.join_mapping.new.graph c.join_directions.new.graph).
    directions_more c.args.instances.now c.args.mappings.now c.args.caller _ (others c.args.directions.now) c.args.directions.now
    c.args.graph.now c.join_mapping.new.graph c.join_directions.new.graph
    (head_of c.args.directions.now _ c.in-len1-up.len_at_least) c.in_ok-join_mapping-in-len1-up.ensures more)
    c.join_directions.ensures
