use Rattle.std.proofs.Common.{◌∙◌, ap, ◌++◌, ◌∷◌, []}
use Rattle.jib_values.specs.Sources.{source_values}
use Rattle.jib_machine.proofs.NeedLaws.{entered}
use Rattle.jib_machine.proofs.step.entry_slots.Goals as goal

pub returns : goal.returns
returns g c =
    let vs = source_values c.args.machine.now.lets c.args.hart c.args.state.now c.args.slots.now c.args.call.now.arguments in
    entered c.args.machine.now.program c.args.call.now.function c.args.machine.now.needs c.needs.result.now c.slots-types.result.now c.slot_type.result
    c.in_ok-slot_zero.field-0 vs c.push_values.new.values.items c.fill.new.slots.items c.args.machine.now.unread c.needs.ensures c.slots-types.ensures
    c.slot_type.ensures c.in_ok-slot_zero.ensures
    (c.in_ok-push_values.ensures ∙ ap (λ q. q ++ vs) (c.in_ok-push.ensures.items
    ∙ ap (λ q. q ++ c.in_ok-slot_zero.field-0 ∷ []) c.in_ok-new.ensures.items)) c.in_ok-fill.ensures
