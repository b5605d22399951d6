use Rattle.std.proofs.Common.{[], ◌∷◌}
use Rattle.jib.specs.declared.code.Instruction.TheVariants as I
use Rattle.jib.specs.declared.code.Source.TheVariants as R
use Rattle.lowered_pieces.proofs.Emitting.{no_reads, ok_put_two, slot_read}
use Rattle.lowered_pieces.proofs.coding.Coding.put_payload.Goals as goal

pub returns : goal.returns
returns c =
    ok_put_two c.put_plain.result c.args.self.now c.slot.new.self c.slot-2.new.self c.put_plain.new.self _ _ _ _ _ _
    (λ j k. I.Payload j (R.Slot k) c.args.constructor c.args.label)
    c.in_ok-slot.ensures.grown c.in_ok-slot.ensures.number c.in_ok-slot.ensures.there
    c.in_ok-source.ensures.grown c.in_ok-source.ensures.number c.in_ok-source.ensures.there c.put_plain.ensures
    (λ lt less. slot_read _ _ (R.Slot c.in_ok-slot.slot ∷ []) less (slot_read _ _ [] lt (no_reads _)))
