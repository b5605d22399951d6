use Rattle.std.proofs.Common.{◌∙◌, ap, ◌++◌, ◌∷◌, []}
use Rattle.jib_machine.proofs.NeedLaws.{entered}
use Rattle.jib_machine.proofs.step.first_slots.Goals as goal

pub returns : goal.returns
returns c =
    entered c.args.machine.now.program c.args.function c.args.machine.now.needs c.needs.result.now c.slots-types.result.now c.slot_type.result
    c.in_ok-slot_zero.field-0 c.args.arguments.items c.append.new.self.items c.fill.new.slots.items c.args.machine.now.unread c.needs.ensures
    c.slots-types.ensures c.slot_type.ensures c.in_ok-slot_zero.ensures
    (c.in_ok-append.ensures.items ∙ ap (λ q. q ++ c.args.arguments.items) (c.in_ok-push.ensures.items
    ∙ ap (λ q. q ++ c.in_ok-slot_zero.field-0 ∷ []) c.in_ok-new.ensures.items)) c.in_ok-fill.ensures
