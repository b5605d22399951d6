use Rattle.std.proofs.Common.{◌∷◌, [], subst}
use Rattle.std.specs.Prelude.{OnOk}
use Rattle.jib.specs.declared.code.Instruction.TheVariants as I
use Rattle.jib.specs.declared.code.Source.TheVariants as R
use Rattle.jib.specs.declared.code.Target.TheVariants as G
use Rattle.lowered_pieces.proofs.Emitting.{ok_next}
use Rattle.lowered_pieces.specs.Emitted.{Emits, no_labels}
use Rattle.lowered_pieces.specs.Moves.{kept_all}
use Rattle.lowered_pieces.specs.Places.{Temp}
use Rattle.lowered_steps.specs.Setting.{kit_for}
use Rattle.lowered_steps.proofs.moves.put_kept.Goals as goal

pub returns : goal.returns
returns c =
    let setting = c.args.setting.now in let place = c.args.place in let temp = c.args.temp in
    subst (λ k. OnOk c.put_kept_all.result (Emits c.args.coding.now c.put_kept_all.new.coding
    (λ name l. I.Copy (G.Slot (name place k)) (R.Slot (name (Temp temp) k)) ∷ kept_all (kit_for setting name) place temp k c.args.types.now) no_labels))
    c.in_ok-from.ensures
    (ok_next c.put_kept_all.result c.args.coding.now c.put_copy.new.self c.put_kept_all.new.coding
    (λ name. I.Copy (G.Slot (name place c.in_ok-from.from)) (R.Slot (name (Temp temp) c.in_ok-from.from)) ∷ [])
    (λ name. kept_all (kit_for setting name) place temp c.in_ok-from.from c.args.types.now) c.in_ok-put_copy.ensures c.put_kept_all.ensures)
