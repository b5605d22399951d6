use Rattle.std.proofs.Common.{◌∙◌, [], ◌∷◌, length, ap, sym}
use Rattle.lowered_slots.specs.Slots.{name_in}
use Rattle.jib.specs.declared.code.Instruction.TheVariants as I
use Rattle.jib.specs.declared.code.Target.TheVariants as G
use Rattle.lowered_pieces.proofs.Emitting.{ok_put, slot_read, sourced_lasts}
use Rattle.lowered_pieces.proofs.coding.Coding.put_apply.Goals as goal

pub returns : goal.returns
returns c = λ by s.
    let old = c.args.self.now in
    let mid = c.slot.new.self in
    let slot = c.in_ok-target.target in
    let grown = c.in_ok-target.ensures.grown in
    let there = sourced_lasts old.slots mid.slots c.args.sources by grown.slots s in
    ok_put c.put_plain.result old mid c.put_plain.new.self (I.Apply (G.Slot slot) c.args.op c.args.sources)
    (λ name l. (I.Apply (G.Slot (name c.args.to c.args.typ)) c.args.op (by name)) ∷ []) grown c.put_plain.ensures
    (λ ys b l.
    ap (λ j. (I.Apply (G.Slot j) c.args.op (by (name_in ys))) ∷ []) (c.in_ok-target.ensures.number ys b)
    ∙ ap (λ rs. (I.Apply (G.Slot slot) c.args.op rs) ∷ []) (sym (there.same ys b)))
    (slot_read (length mid.slots) slot c.args.sources c.in_ok-target.ensures.there there.there)
