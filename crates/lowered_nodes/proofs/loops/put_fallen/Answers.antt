use Rattle.std.proofs.Common.{pos, [], ◌∷◌, refl}
use Rattle.jib.specs.declared.code.Instruction.TheVariants as I
use Rattle.jib.specs.declared.code.Source.TheVariants as R
use Rattle.jib.specs.declared.code.Target.TheVariants as G
use Rattle.jib.specs.declared.code.Operation.TheVariants as O
use Rattle.sail_types.specs.declared.rows.Row.TheVariants as B
use Rattle.jib.specs.declared.code.Literal.TheVariants as L
use Rattle.model_state.specs.declared.cause.Cause.TheVariants.{Measure}
use Rattle.lowered_pieces.specs.Places.{Temp}
use Rattle.lowered_nodes.proofs.Joining.{ok_as, ok_first}
use Rattle.lowered_nodes.proofs.loops.put_fallen.Goals as goal

pub returns : goal.returns
returns c =
    let setting = c.args.walk.now.setting.now in
    let n = c.args.temp in
    ok_as c.put_copy.result _ _ _ _ _ _
    (ok_first c.put_copy.result _ _ _ _ _ _ c.in_ok-put_apply_two.ensures (ok_first c.put_copy.result _ _ _ _ _ _ c.in_ok-put_jump_if.ensures
    (ok_first c.put_copy.result _ _ _ _ _ _ c.in_ok-put_apply_at.ensures (ok_first c.put_copy.result _ _ _ _ _ _ c.in_ok-put_jump_if-2.ensures
    (ok_first c.put_copy.result _ _ _ _ _ _ c.in_ok-put_stop.ensures
    (ok_first c.put_copy.result _ _ _ _ _ _ c.in_ok-put_label.ensures c.put_copy.ensures))))))
    (λ name i. I.Apply (G.Slot (name (Temp (c.in_ok-further-2.ensures i)) setting.truth)) (O.Builtin B.LtInt)
    (R.Slot (name (Temp (c.in_ok-further.ensures i)) setting.integer) ∷ R.Slot (name (Temp n) setting.integer) ∷ [])
    ∷ I.JumpIf (R.Slot (name (Temp (c.in_ok-further-2.ensures i)) setting.truth)) c.args.label
    ∷ I.Apply (G.Slot (name (Temp (c.in_ok-further-2.ensures i)) setting.truth)) (O.Builtin B.LtInt)
    (R.Slot (name (Temp n) setting.integer) ∷ R.Constant setting.integer (L.Integer (pos 0)) ∷ [])
    ∷ I.JumpIf (R.Slot (name (Temp (c.in_ok-further-2.ensures i)) setting.truth)) c.args.label
    ∷ I.Stop (Measure c.args.place) ∷ I.Label c.args.label
    ∷ I.Copy (G.Slot (name (Temp n) setting.integer)) (R.Slot (name (Temp (c.in_ok-further.ensures i)) setting.integer)) ∷ [])
    (λ name. refl)
