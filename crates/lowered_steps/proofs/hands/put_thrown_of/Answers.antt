use Rattle.std.proofs.Common.{[], ◌∷◌, subst}
use Rattle.lowered_pieces.specs.Emitted.{Emits, no_labels}
use Rattle.lowered_pieces.specs.Places.{Temp}
use Rattle.std.specs.Prelude.{OnOk}
use Rattle.jib.specs.declared.code.Instruction.TheVariants as I
use Rattle.jib.specs.declared.code.Source.TheVariants as R
use Rattle.jib.specs.declared.code.Target.TheVariants as G
use Rattle.lowered_pieces.specs.Places.{Raised}
use Rattle.lowered_steps.proofs.hands.put_thrown_of.Goals as goal

pub returns : goal.returns
returns c =
    subst (λ k. OnOk c.put_copy.result (Emits c.args.coding.now c.put_copy.new.self (λ name l. I.Copy (G.Slot (name Raised c.args.setting.now.exception))
    (R.Slot (name (Temp c.args.temp) k)) ∷ []) no_labels))
    c.in_ok-number.ensures c.put_copy.ensures
