use Rattle.std.proofs.Common.{[], ◌∷◌, subst}
use Rattle.lowered_pieces.specs.Emitted.{Emits, no_labels}
use Rattle.lowered_pieces.specs.Places.{Temp}
use Rattle.std.specs.Prelude.{OnOk}
use Rattle.jib.specs.declared.code.Instruction.TheVariants as I
use Rattle.jib.specs.declared.code.Source.TheVariants as R
use Rattle.jib.specs.declared.code.Target.TheVariants as G
use Rattle.jib.specs.declared.code.Operation.TheVariants as O
use Rattle.lowered_steps.proofs.notes.put_taken.Goals as goal

pub returns : goal.returns
returns c =
    subst (λ k. OnOk c.put_apply_one.result (Emits c.args.coding.now c.put_apply_one.new.self (λ name l. I.Apply (G.Slot (name (Temp c.args.free) k))
    (O.Field c.args.part) (R.Slot (name c.args.place c.args.typ) ∷ []) ∷ []) no_labels))
    c.in_ok-number.ensures c.put_apply_one.ensures
