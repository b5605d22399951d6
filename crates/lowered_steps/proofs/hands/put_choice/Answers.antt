use Rattle.std.proofs.Common.{◌∙◌, ◌++◌, map, ap, subst}
use Rattle.lowered_pieces.specs.Emitted.{Emits, no_labels}
use Rattle.lowered_pieces.specs.Forms.{kit_at}
use Rattle.lowered_steps.specs.Setting.{kit_for, nodes_in}
use Rattle.lowered_steps.specs.Stands.{depths_of}
use Rattle.lowered_pieces.specs.Arms.{arm_noted}
use Rattle.lowered_steps.specs.Hands.{held_of}
use Rattle.lowered_steps.proofs.Chosen.{chosen_hand, chosen_code}
use Rattle.sized_meanings.specs.Present.{gives_at}
use Rattle.lowered_steps.proofs.hands.put_choice.Goals as goal

pub returns-clause-code : goal.returns-clause-code
returns-clause-code c =
    chosen_code c.args.setting.now c.args.stand.now c.args.steps.now c.args.free c.args.values.now c.copy_held.new.copies c.begin_hand-hand.result
    c.put_steps.new.hand c.begin_hand-hand.ensures
    (c.in_ok-copy_held.ensures ∙ ap (λ us. map held_of us ++ map held_of c.args.values.now) c.new-begun.ensures) c.in_ok-put_steps.ensures.hand
    (gives_at (nodes_in c.args.setting.now) c.args.giver) c.args.coding.now c.put_steps.new.coding c.put_arm_notes.new.coding c.in_ok-noted.noted
    (c.in_ok-noted.ensures ∙ ap (λ us. map held_of c.args.values.now ++ map held_of us) c.as_slice.ensures) c.in_ok-put_steps.ensures.code
    (subst (λ us. Emits c.put_steps.new.coding c.put_arm_notes.new.coding (λ name l. arm_noted
    (kit_at (kit_for c.args.setting.now name) (depths_of c.args.stand.now.levels.now)) (gives_at (nodes_in c.args.setting.now) c.args.giver)
    (map held_of us) c.put_steps.new.hand.free) no_labels) c.as_slice-held.ensures c.in_ok-put_arm_notes.ensures)

pub returns-clause-hand : goal.returns-clause-hand
returns-clause-hand c =
    chosen_hand c.args.setting.now c.args.stand.now c.args.steps.now c.args.free c.args.values.now c.copy_held.new.copies c.begin_hand-hand.result
    c.put_steps.new.hand c.begin_hand-hand.ensures
    (c.in_ok-copy_held.ensures ∙ ap (λ us. map held_of us ++ map held_of c.args.values.now) c.new-begun.ensures) c.in_ok-put_steps.ensures.hand
