use Rattle.std.proofs.Common.{pos, [], ◌∷◌, refl, subst, sym}
use Rattle.std.specs.Prelude.{OnOk}
use Rattle.lowered_pieces.specs.Counted.{next_code}
use Rattle.lowered_pieces.specs.Emitted.{Emits, no_labels}
use Rattle.lowered_steps.specs.Setting.{kit_for}
use Rattle.sail_types.specs.Limits.{largest}
use Rattle.jib.specs.declared.code.Instruction.TheVariants as I
use Rattle.jib.specs.declared.code.Source.TheVariants as R
use Rattle.jib.specs.declared.code.Target.TheVariants as G
use Rattle.jib.specs.declared.code.Operation.TheVariants as O
use Rattle.sail_types.specs.declared.rows.Row.TheVariants as B
use Rattle.jib.specs.declared.code.Literal.TheVariants as L
use Rattle.lowered_pieces.specs.Places.{Temp}
use Rattle.lowered_nodes.proofs.Joining.{ok_as, ok_first}
use Rattle.lowered_nodes.proofs.loops.put_next.Goals as goal

pub returns-in_ok-put_jump_if-in-Up : goal.returns-in_ok-put_jump_if-in-Up
unfolding largest
returns-in_ok-put_jump_if-in-Up c =
    let setting = c.args.walk.now.setting.now in
    let n = c.args.temp in
    subst (λ w. OnOk c.put_apply_two-in-Up.result (Emits c.args.coding.now c.put_apply_two-in-Up.new.self (λ name l. next_code
    (kit_for setting name) w n c.args.end) no_labels)) (sym c.in-Up.is)
    (ok_as c.put_apply_two-in-Up.result _ _ _ _ _ _
    (ok_first c.put_apply_two-in-Up.result _ _ _ _ _ _ c.in_ok-put_apply_of-in-Up.ensures
    (ok_first c.put_apply_two-in-Up.result _ _ _ _ _ _ c.in_ok-put_apply_two-in-Up.ensures
    (ok_first c.put_apply_two-in-Up.result _ _ _ _ _ _ c.in_ok-put_jump_if-in-Up.ensures c.put_apply_two-in-Up.ensures)))
    (λ name i. I.Apply (G.Slot (name (Temp (c.in_ok-further-2.ensures i)) setting.integer)) (O.Builtin B.SubInt)
    (R.Constant setting.integer (L.Integer (pos largest)) ∷ R.Slot (name (Temp (c.in_ok-further.ensures i)) setting.integer) ∷ [])
    ∷ I.Apply (G.Slot (name (Temp (c.in_ok-further-2.ensures i)) setting.truth)) (O.Builtin B.LtInt)
    (R.Slot (name (Temp (c.in_ok-further-2.ensures i)) setting.integer) ∷ R.Slot (name (Temp n) setting.integer) ∷ [])
    ∷ I.JumpIf (R.Slot (name (Temp (c.in_ok-further-2.ensures i)) setting.truth)) c.args.end
    ∷ I.Apply (G.Slot (name (Temp n) setting.integer)) (O.Builtin B.AddInt) (R.Slot (name (Temp n) setting.integer)
    ∷ R.Slot (name (Temp (c.in_ok-further.ensures i)) setting.integer) ∷ []) ∷ [])
    (λ name. refl))

pub returns-in_ok-put_jump_if-in-Down : goal.returns-in_ok-put_jump_if-in-Down
unfolding largest
returns-in_ok-put_jump_if-in-Down c =
    let setting = c.args.walk.now.setting.now in
    let n = c.args.temp in
    subst (λ w. OnOk c.put_apply_two-in-Down-2.result (Emits c.args.coding.now c.put_apply_two-in-Down-2.new.self (λ name l. next_code
    (kit_for setting name) w n c.args.end) no_labels)) (sym c.in-Down.is)
    (ok_as c.put_apply_two-in-Down-2.result _ _ _ _ _ _
    (ok_first c.put_apply_two-in-Down-2.result _ _ _ _ _ _ c.in_ok-put_apply_at-in-Down.ensures
    (ok_first c.put_apply_two-in-Down-2.result _ _ _ _ _ _ c.in_ok-put_apply_two-in-Down.ensures
    (ok_first c.put_apply_two-in-Down-2.result _ _ _ _ _ _ c.in_ok-put_jump_if-in-Down.ensures c.put_apply_two-in-Down-2.ensures)))
    (λ name i. I.Apply (G.Slot (name (Temp (c.in_ok-further-2.ensures i)) setting.integer)) (O.Builtin B.SubInt)
    (R.Slot (name (Temp (c.in_ok-further.ensures i)) setting.integer) ∷ R.Constant setting.integer (L.Integer (pos largest)) ∷ [])
    ∷ I.Apply (G.Slot (name (Temp (c.in_ok-further-2.ensures i)) setting.truth)) (O.Builtin B.LtInt) (R.Slot (name (Temp n) setting.integer)
    ∷ R.Slot (name (Temp (c.in_ok-further-2.ensures i)) setting.integer) ∷ [])
    ∷ I.JumpIf (R.Slot (name (Temp (c.in_ok-further-2.ensures i)) setting.truth)) c.args.end
    ∷ I.Apply (G.Slot (name (Temp n) setting.integer)) (O.Builtin B.SubInt) (R.Slot (name (Temp n) setting.integer)
    ∷ R.Slot (name (Temp (c.in_ok-further.ensures i)) setting.integer) ∷ []) ∷ [])
    (λ name. refl))
