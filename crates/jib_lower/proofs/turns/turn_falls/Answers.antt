use Rattle.std.proofs.Common.{◌∙◌, ap, sym}
use Rattle.std.specs.Prelude.{slice_index_or}
use Rattle.lowered_steps.proofs.Lists.{got_item, got_none}
use Rattle.jib_lower.specs.Cycles.{directions_fall, turn_falls}
use Rattle.jib_lower.proofs.turns.turn_falls.Goals as goal

pub returns-in-Some : goal.returns-in-Some
returns-in-Some c =
    let ns = c.args.numbers.now in let xs = c.args.instances.now in let ms = c.args.mappings.now in
    c.directions_fall.ensures ∙ ap (λ own. directions_fall ns xs ms own c.as_slice.result.now) c.number_at-own.ensures
    ∙ ap (directions_fall ns xs ms (slice_index_or ns c.args.function 0)) c.as_slice.ensures
    ∙ sym (ap (turn_falls ns xs ms (slice_index_or ns c.args.function 0))
    (got_item c.args.turns.now c.args.function c.in-Some.directions.now c.in-Some.ensures.lookup.0 c.in-Some.ensures.lookup.1))

pub returns-in-None : goal.returns-in-None
returns-in-None c =
    sym (ap (turn_falls c.args.numbers.now c.args.instances.now c.args.mappings.now (slice_index_or c.args.numbers.now c.args.function 0))
    (got_none c.args.turns.now c.args.function c.in-None.ensures.lookup.0))
