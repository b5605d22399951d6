use Rattle.std.proofs.Common.{[], ◌∷◌, sym, subst}
use Rattle.lowered_pieces.proofs.Emitting.{emits_none}
use Rattle.lowered_steps.proofs.Lists.{first_of, none_of}
use Rattle.lowered_pieces.specs.Emitted.{Emits, no_labels}
use Rattle.lowered_steps.specs.Setting.{kit_for}
use Rattle.std.specs.Prelude.{OnOk}
use Rattle.lowered_pieces.specs.Arms.{given_held, thrown_code}
use Rattle.jib.specs.declared.code.Instruction.TheVariants as I
use Rattle.jib.specs.declared.code.Source.TheVariants as R
use Rattle.jib.specs.declared.code.Target.TheVariants as G
use Rattle.lowered_pieces.specs.Places.{Given, Raised}
use Rattle.lowered_steps.proofs.hands.put_thrown_given.Goals as goal

pub returns-in-empty : goal.returns-in-empty
returns-in-empty c =
    subst (λ us. Emits c.args.coding.now c.args.coding.now (λ name l. thrown_code c.args.setting.now.types.now (kit_for c.args.setting.now name)
    (given_held 0 us)) no_labels) (sym (none_of c.args.types.now c.in-empty.len_below)) (emits_none c.args.coding.now)

pub returns-in_ok-number-in-len1-up : goal.returns-in_ok-number-in-len1-up
returns-in_ok-number-in-len1-up c =
    subst (λ us. OnOk c.put_copy.result (Emits c.args.coding.now c.put_copy.new.self (λ name l. thrown_code c.args.setting.now.types.now
    (kit_for c.args.setting.now name) (given_held 0 us)) no_labels)) (sym (first_of c.args.types.now c.first-item.result c.in-len1-up.len_at_least
    c.first-item.is))
    (subst (λ k. OnOk c.put_copy.result (Emits c.args.coding.now c.put_copy.new.self (λ name l. I.Copy (G.Slot (name Raised c.args.setting.now.exception))
    (R.Slot (name (Given 0) k)) ∷ []) no_labels))
    c.in_ok-number-in-len1-up.ensures c.put_copy.ensures)
