use Rattle.std.proofs.Common.{◌≡◌, ◌∙◌, ℕ, IfOk, List, ap, subst, sym}
use Rattle.lowered_slots.specs.declared.slots.Slot.{Slot}
use Rattle.lowered_slots.specs.Slots.{name_in}
use Rattle.lowered_slots.proofs.Found.{put_number}
use Rattle.lowered_slots.proofs.slots.number_slot.Goals as goal

pub returns-clause-number : goal.returns-clause-number
returns-clause-number c =
    let before = put_number c.args.slots.now c.args.place c.args.typ in
    let now = ap (λ (ss : List Slot). name_in ss c.args.place c.args.typ) c.in_ok-put_slot.ensures.put in
    let found = c.find-at.ensures ∙ ap (λ (ss : List Slot). name_in ss c.args.place c.args.typ) c.as_slice.ensures in
    subst (λ (n : ℕ). IfOk c.as_number.result (λ number. number ≡ n)) (found ∙ sym (now ∙ before)) c.as_number.ensures
