use Rattle.std.proofs.Common.{[], ◌∷◌, refl, subst, sym}
use Rattle.std.specs.Prelude.{OnOk}
use Rattle.lowered_pieces.specs.Counted.{turn_code}
use Rattle.lowered_pieces.specs.Emitted.{Emits, no_labels}
use Rattle.lowered_steps.specs.Setting.{kit_for}
use Rattle.jib.specs.declared.code.Instruction.TheVariants as I
use Rattle.jib.specs.declared.code.Source.TheVariants as R
use Rattle.jib.specs.declared.code.Target.TheVariants as G
use Rattle.jib.specs.declared.code.Operation.TheVariants as O
use Rattle.sail_types.specs.declared.rows.Row.TheVariants as B
use Rattle.lowered_pieces.specs.Places.{Temp}
use Rattle.lowered_nodes.proofs.Joining.{ok_as, ok_first}
use Rattle.lowered_nodes.proofs.loops.put_turn.Goals as goal

pub returns-in_ok-put_apply_two-in-Up : goal.returns-in_ok-put_apply_two-in-Up
returns-in_ok-put_apply_two-in-Up c =
    let setting = c.args.walk.now.setting.now in
    let n = c.args.temp in
    subst (λ w. OnOk c.put_jump_if.result (Emits c.args.coding.now c.put_jump_if.new.self (λ name l. turn_code
    (kit_for setting name) w n c.args.label) no_labels)) (sym c.in-Up.is)
    (ok_as c.put_jump_if.result _ _ _ _ _ _
    (ok_first c.put_jump_if.result _ _ _ _ _ _ c.in_ok-put_apply_two-in-Up.ensures c.put_jump_if.ensures)
    (λ name i. I.Apply (G.Slot (name (Temp (c.in_ok-further-2.ensures i)) setting.truth)) (O.Builtin B.LteqInt)
    (R.Slot (name (Temp n) setting.integer) ∷ R.Slot (name (Temp (c.in_ok-further.ensures i)) setting.integer) ∷ [])
    ∷ I.JumpIf (R.Slot (name (Temp (c.in_ok-further-2.ensures i)) setting.truth)) c.args.label ∷ [])
    (λ name. refl))

pub returns-in_ok-put_apply_two-in-Down : goal.returns-in_ok-put_apply_two-in-Down
returns-in_ok-put_apply_two-in-Down c =
    let setting = c.args.walk.now.setting.now in
    let n = c.args.temp in
    subst (λ w. OnOk c.put_jump_if-in-Down.result (Emits c.args.coding.now c.put_jump_if-in-Down.new.self (λ name l. turn_code
    (kit_for setting name) w n c.args.label) no_labels)) (sym c.in-Down.is)
    (ok_as c.put_jump_if-in-Down.result _ _ _ _ _ _
    (ok_first c.put_jump_if-in-Down.result _ _ _ _ _ _ c.in_ok-put_apply_two-in-Down.ensures c.put_jump_if-in-Down.ensures)
    (λ name i. I.Apply (G.Slot (name (Temp (c.in_ok-further-2.ensures i)) setting.truth)) (O.Builtin B.LteqInt)
    (R.Slot (name (Temp (c.in_ok-further.ensures i)) setting.integer) ∷ R.Slot (name (Temp n) setting.integer) ∷ [])
    ∷ I.JumpIf (R.Slot (name (Temp (c.in_ok-further-2.ensures i)) setting.truth)) c.args.label ∷ [])
    (λ name. refl))
