use Rattle.std.proofs.Common.{◌∙◌, [], ◌∷◌, sym, subst}
use Rattle.lowered_pieces.proofs.Emitting.{emits_none}
use Rattle.lowered_pieces.specs.Emitted.{Emits, no_labels}
use Rattle.lowered_pieces.specs.Forms.{kit_at, known_noted}
use Rattle.lowered_steps.specs.Setting.{kit_for, number_for}
use Rattle.lowered_steps.specs.Stands.{depths_of}
use Rattle.std.specs.Prelude.{OnOk}
use Rattle.lowered_pieces.specs.Places.{Number}
use Rattle.jib.specs.declared.code.Instruction.TheVariants as I
use Rattle.jib.specs.declared.code.Source.TheVariants as R
use Rattle.jib.specs.declared.code.Target.TheVariants as G
use Rattle.jib.specs.declared.code.Literal.TheVariants as L
use Rattle.lowered_steps.proofs.notes.put_known.Goals as goal

pub returns-in_ok-depth-in-Some : goal.returns-in_ok-depth-in-Some
returns-in_ok-depth-in-Some c =
    subst (λ o. OnOk c.put_constant.result (Emits c.args.coding.now c.put_constant.new.self (λ name l. known_noted
    (kit_at (kit_for c.args.setting.now name) (depths_of c.args.levels.now)) (number_for c.args.setting.now) o c.args.known.now) no_labels))
    (sym (sym c.number_variable.ensures ∙ c.in-Some.is))
    (subst (λ d. OnOk c.put_constant.result (Emits c.args.coding.now c.put_constant.new.self (λ name l. I.Copy
    (G.Slot (name (Number c.in-Some.variable d) c.args.setting.now.integer)) (R.Constant c.args.setting.now.integer (L.Integer c.args.known.now)) ∷ [])
    no_labels))
    c.in_ok-depth-in-Some.ensures
    (subst (λ v. OnOk c.put_constant.result (Emits c.args.coding.now c.put_constant.new.self (λ name l. I.Copy
    (G.Slot (name (Number c.in-Some.variable c.in_ok-depth-in-Some.depth) c.args.setting.now.integer)) (R.Constant c.args.setting.now.integer v) ∷ [])
    no_labels))
    c.number_literal.ensures c.put_constant.ensures))

pub returns-in-None : goal.returns-in-None
returns-in-None c =
    subst (λ o. Emits c.args.coding.now c.args.coding.now (λ name l. known_noted (kit_at (kit_for c.args.setting.now name) (depths_of c.args.levels.now))
    (number_for c.args.setting.now) o c.args.known.now) no_labels) (sym (sym c.number_variable.ensures ∙ c.in-None.is)) (emits_none c.args.coding.now)
