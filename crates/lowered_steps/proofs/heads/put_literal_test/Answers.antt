use Rattle.std.proofs.Common.{[], ◌∷◌, subst}
use Rattle.lowered_pieces.proofs.Emitting.{ok_next}
use Rattle.lowered_pieces.specs.Emitted.{Emits, no_labels}
use Rattle.lowered_pieces.specs.Places.{Temp}
use Rattle.std.specs.Prelude.{OnOk}
use Rattle.lowered_pieces.specs.Arms.{constant_of}
use Rattle.jib.specs.declared.code.Instruction.TheVariants as I
use Rattle.jib.specs.declared.code.Source.TheVariants as R
use Rattle.jib.specs.declared.code.Target.TheVariants as G
use Rattle.jib.specs.declared.code.Operation.TheVariants as O
use Rattle.sail_types.specs.declared.rows.Row.TheVariants as B
use Rattle.lowered_steps.proofs.heads.put_literal_test.Goals as goal

pub returns : goal.returns
returns c =
    subst (λ k. OnOk c.put_jump_if.result (Emits c.args.coding.now c.put_jump_if.new.self (λ name l. I.Apply
    (G.Slot (name (Temp c.args.free) c.args.setting.now.truth)) (O.Builtin B.Neq) (R.Constant k (constant_of c.args.literal.now) ∷ R.Slot
    (name c.args.value.now.place k) ∷ []) ∷ I.JumpIf (R.Slot (name (Temp c.args.free) c.args.setting.now.truth)) c.args.fail ∷ []) no_labels))
    c.in_ok-typ.ensures
    (subst (λ v. OnOk c.put_jump_if.result (Emits c.args.coding.now c.put_jump_if.new.self (λ name l. I.Apply
    (G.Slot (name (Temp c.args.free) c.args.setting.now.truth)) (O.Builtin B.Neq) (R.Constant c.in_ok-typ.typ v ∷ R.Slot
    (name c.args.value.now.place c.in_ok-typ.typ) ∷ []) ∷ I.JumpIf (R.Slot (name (Temp c.args.free) c.args.setting.now.truth)) c.args.fail ∷ [])
    no_labels)) c.in_ok-copy_literal.ensures
    (ok_next c.put_jump_if.result c.args.coding.now c.put_apply_of.new.self c.put_jump_if.new.self
    (λ name. I.Apply (G.Slot (name (Temp c.args.free) c.args.setting.now.truth)) (O.Builtin B.Neq) (R.Constant c.in_ok-typ.typ c.in_ok-copy_literal.field-0
    ∷ R.Slot (name c.args.value.now.place c.in_ok-typ.typ) ∷ []) ∷ [])
    (λ name. I.JumpIf (R.Slot (name (Temp c.args.free) c.args.setting.now.truth)) c.args.fail ∷ []) c.in_ok-put_apply_of.ensures c.put_jump_if.ensures))
