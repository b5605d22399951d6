use Rattle.std.proofs.Common.{◌≡◌, ◌∙◌, [], ◌∷◌, sym, ap, subst, Some}
use Rattle.lowered_pieces.proofs.Emitting.{emits_none}
use Rattle.lowered_pieces.specs.Emitted.{Emits, no_labels}
use Rattle.lowered_pieces.specs.Forms.{kit_at, number_noted}
use Rattle.lowered_steps.specs.Setting.{kit_for, number_for}
use Rattle.lowered_steps.specs.Stands.{depths_of}
use Rattle.std.specs.Prelude.{OnOk}
use Rattle.lowered_pieces.specs.Places.{from, Number}
use Rattle.size_values.specs.declared.sized.Sized.{out-Sized}
use Rattle.jib.specs.declared.code.Instruction.TheVariants as I
use Rattle.jib.specs.declared.code.Source.TheVariants as R
use Rattle.jib.specs.declared.code.Target.TheVariants as G
use Rattle.size_values.specs.declared.sized.Sized.TheOpen as Z
use Rattle.size_values.specs.declared.sized.Sized.TheVariants as T
use Rattle.size_values.specs.declared.sized.Sized.TheViews.{out-roll-Sized}
use Rattle.lowered_steps.proofs.notes.put_integer.Goals as goal

pub returns-in_ok-depth-in-Some : goal.returns-in_ok-depth-in-Some
returns-in_ok-depth-in-Some c =
    let is : out-Sized c.args.sized.now ≡ Z.Int = ap out-Sized (c.requires.integer ∙ sym T.rolls-Int) ∙ out-roll-Sized Z.Int in
    subst (λ o. OnOk c.put_copy.result (Emits c.args.coding.now c.put_copy.new.self (λ name l. number_noted
    (kit_at (kit_for c.args.setting.now name) (depths_of c.args.levels.now)) (number_for c.args.setting.now) o (out-Sized c.args.sized.now)
    (from (kit_for c.args.setting.now name) c.args.place ((number_for c.args.setting.now) c.args.sized.now))) no_labels))
    (sym (sym c.number_variable.ensures ∙ c.in-Some.is))
    (subst (λ w. OnOk c.put_copy.result (Emits c.args.coding.now c.put_copy.new.self (λ name l. number_noted
    (kit_at (kit_for c.args.setting.now name) (depths_of c.args.levels.now)) (number_for c.args.setting.now) (Some c.in-Some.variable) w
    (from (kit_for c.args.setting.now name) c.args.place ((number_for c.args.setting.now) c.args.sized.now))) no_labels)) (sym is)
    (subst (λ k. OnOk c.put_copy.result (Emits c.args.coding.now c.put_copy.new.self (λ name l. I.Copy
    (G.Slot (name (Number c.in-Some.variable ((depths_of c.args.levels.now).of c.in-Some.variable)) c.args.setting.now.integer))
    (R.Slot (name c.args.place k)) ∷ []) no_labels)) c.in_ok-typ-in-Some.ensures
    (subst (λ d. OnOk c.put_copy.result (Emits c.args.coding.now c.put_copy.new.self (λ name l. I.Copy
    (G.Slot (name (Number c.in-Some.variable d) c.args.setting.now.integer)) (R.Slot (name c.args.place c.in_ok-typ-in-Some.typ)) ∷ []) no_labels))
    c.in_ok-depth-in-Some.ensures c.put_copy.ensures)))

pub returns-in-None : goal.returns-in-None
returns-in-None c =
    subst (λ o. Emits c.args.coding.now c.args.coding.now (λ name l. number_noted (kit_at (kit_for c.args.setting.now name) (depths_of c.args.levels.now))
    (number_for c.args.setting.now) o (out-Sized c.args.sized.now) (from (kit_for c.args.setting.now name) c.args.place
    ((number_for c.args.setting.now) c.args.sized.now))) no_labels) (sym (sym c.number_variable.ensures ∙ c.in-None.is)) (emits_none c.args.coding.now)
