use Rattle.std.proofs.Common.{◌≡◌, true}
use Rattle.std.specs.Prelude.{slice_get, slice_index_or}
use Rattle.std.proofs.lemmas.Result.{on_ok_weaker}
use Rattle.lowered_steps.proofs.Lists.{got_item, got_none}
use Rattle.jib_lower.specs.Cycles.{Joined, directions_fall}
use Rattle.jib_lower.proofs.Passing.{turn_nowhere, turn_there}
use Rattle.jib_lower.proofs.turns.join_turn.Goals as goal

pub returns-in-Some : goal.returns-in-Some
returns-in-Some c =
    on_ok_weaker c.join_directions.result
    (λ (h : Joined (λ ns. directions_fall ns c.args.instances.now c.args.mappings.now (slice_index_or ns c.args.function 0) c.as_slice.result.now ≡ true)
    c.args.graph.now c.join_directions.new.graph).
    turn_there c.args.instances.now c.args.mappings.now c.args.function (slice_get c.args.turns.now c.args.function) c.in-Some.directions.now
    c.as_slice.result.now c.args.graph.now c.join_directions.new.graph
    (got_item c.args.turns.now c.args.function c.in-Some.directions.now c.in-Some.ensures.lookup.0 c.in-Some.ensures.lookup.1) c.as_slice.ensures h)
    c.join_directions.ensures

pub returns-in-None : goal.returns-in-None
returns-in-None c =
    turn_nowhere c.args.instances.now c.args.mappings.now c.args.function (slice_get c.args.turns.now c.args.function) c.args.graph.now
    (got_none c.args.turns.now c.args.function c.in-None.ensures.lookup.0)
