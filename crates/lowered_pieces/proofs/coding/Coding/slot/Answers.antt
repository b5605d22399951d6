use Rattle.std.proofs.Common.{◌<◌, length, refl}
use Rattle.std.proofs.lemmas.Result.{on_ok_weaker}
use Rattle.std.proofs.Common.{◌≡◌}
use Rattle.lowered_slots.specs.Slots.{name_in, with_slot}
use Rattle.lowered_pieces.specs.Emitted.{HasNumber}
use Rattle.lowered_pieces.proofs.Emitting.{both_hold, slot_behind, slot_numbered}
use Rattle.lowered_pieces.proofs.coding.Coding.slot.Goals as goal

pub returns-clause-number : goal.returns-clause-number
returns-clause-number c =
    let ss = c.args.self.now.slots in
    let ts = c.number_slot.new.slots in
    let p = c.args.place in
    let t = c.args.typ in
    both_hold c.number_slot.result (λ n. n ≡ name_in ts p t) (ts ≡ with_slot p t ss) (λ n. HasNumber ts p t n) c.number_slot.ensures.number
    c.number_slot.ensures.put (λ n e is. (slot_numbered ss ts p t n is e).0)

pub returns-clause-there : goal.returns-clause-there
returns-clause-there c =
    let ss = c.args.self.now.slots in
    let ts = c.number_slot.new.slots in
    let p = c.args.place in
    let t = c.args.typ in
    both_hold c.number_slot.result (λ n. n ≡ name_in ts p t) (ts ≡ with_slot p t ss) (λ n. n < length ts) c.number_slot.ensures.number
    c.number_slot.ensures.put (λ n e is. (slot_numbered ss ts p t n is e).1)

pub returns-clause-grown : goal.returns-clause-grown
returns-clause-grown c =
    let ss = c.args.self.now.slots in
    let ts = c.number_slot.new.slots in
    let p = c.args.place in
    let t = c.args.typ in
    on_ok_weaker c.number_slot.result
    (λ (is : ts ≡ with_slot p t ss). record { slots = slot_behind ss ts p t is; code = refl; labels = refl })
    c.number_slot.ensures.put

pub returns-clause-slots : goal.returns-clause-slots
returns-clause-slots c = c.number_slot.ensures.put
