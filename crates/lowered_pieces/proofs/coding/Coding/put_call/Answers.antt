use Rattle.std.proofs.Common.{◌∙◌, [], ◌∷◌, length, ap, sym}
use Rattle.lowered_slots.specs.Slots.{name_in}
use Rattle.jib.specs.declared.code.Instruction.TheVariants as I
use Rattle.lowered_pieces.proofs.Emitting.{ok_put, slot_read, sourced_lasts}
use Rattle.lowered_pieces.proofs.coding.Coding.put_call.Goals as goal

pub returns : goal.returns
returns c = λ by s.
    let old = c.args.self.now in
    let mid = c.slot.new.self in
    let slot = c.in_ok-slot.slot in
    let grown = c.in_ok-slot.ensures.grown in
    let there = sourced_lasts old.slots mid.slots c.args.arguments by grown.slots s in
    ok_put c.put_plain.result old mid c.put_plain.new.self (I.Call (record {
      slot = slot;
      function = c.args.function;
      arguments = c.args.arguments;
      on_throw = c.args.on_throw;
      place = c.args.place;
    })) (λ name l. (I.Call (record {
      slot = (name c.args.to c.args.typ);
      function = c.args.function;
      arguments = (by name);
      on_throw = c.args.on_throw;
      place = c.args.place;
    })) ∷ []) grown c.put_plain.ensures
    (λ ys b l.
    ap (λ j. (I.Call (record { slot = j; function = c.args.function; arguments = (by (name_in ys)); on_throw = c.args.on_throw; place = c.args.place })) ∷
    []) (c.in_ok-slot.ensures.number ys b)
    ∙ ap (λ rs. (I.Call (record { slot = slot; function = c.args.function; arguments = rs; on_throw = c.args.on_throw; place = c.args.place })) ∷ [])
    (sym (there.same ys b)))
    (slot_read (length mid.slots) slot c.args.arguments c.in_ok-slot.ensures.there there.there)
