use Rattle.std.proofs.Common.{[]}
use Rattle.jib.specs.declared.code.Instruction.TheVariants as I
use Rattle.jib.specs.declared.code.Source.TheVariants as R
use Rattle.jib.specs.declared.code.Target.TheVariants as G
use Rattle.lowered_pieces.proofs.Emitting.{no_reads, ok_put_one, slot_read}
use Rattle.lowered_pieces.proofs.coding.Coding.put_register.Goals as goal

pub returns : goal.returns
returns c =
    ok_put_one c.put_plain.result c.args.self.now c.slot.new.self c.put_plain.new.self _ _ _ (λ j. I.Copy (G.Slot j) (R.Register c.args.register))
    c.in_ok-target.ensures.grown c.in_ok-target.ensures.number
    c.in_ok-target.ensures.there c.put_plain.ensures (λ lt. slot_read _ _ [] lt (no_reads _))
