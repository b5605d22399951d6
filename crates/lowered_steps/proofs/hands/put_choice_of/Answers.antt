use Rattle.std.proofs.Common.{◌≡◌, ◌∙◌, [], map, ap, subst}
use Rattle.lowered_pieces.specs.Emitted.{Emits, no_labels}
use Rattle.lowered_steps.specs.Setting.{kit_for, nodes_in}
use Rattle.lowered_steps.specs.Stands.{stand_of}
use Rattle.std.specs.Prelude.{OnOk}
use Rattle.lowered_steps.specs.Hands.{held_of, choice_of}
use Rattle.lowered_pieces.specs.Arms.{arm_hand, choice_code}
use Rattle.sized_meanings.specs.Present.{gives_at}
use Rattle.std.specs.Prelude.{IfOk}
use Rattle.lowered_steps.specs.Hands.{hand_of as hand_so_far}
use Rattle.lowered_steps.proofs.hands.put_choice_of.Goals as goal

pub returns-clause-code : goal.returns-clause-code
returns-clause-code c =
    subst (λ us. OnOk c.put_choice.result (Emits c.args.coding.now c.put_choice.new.coding (λ name. choice_code c.args.setting.now.types.now
    (kit_for c.args.setting.now name) (gives_at (nodes_in c.args.setting.now) c.args.giver) c.args.steps.now c.args.free (stand_of c.args.stand.now)
    (choice_of [] us)) no_labels)) (ap (λ us. map held_of us) c.as_slice-held.ensures ∙ c.in_ok-values.ensures) c.put_choice.ensures.code

pub returns-clause-hand : goal.returns-clause-hand
returns-clause-hand c =
    subst (λ us. IfOk c.put_choice.result (λ h. hand_so_far h ≡ arm_hand c.args.setting.now.types.now (kit_for c.args.setting.now (λ place typ. 0))
    c.args.steps.now c.args.free c.args.stand.now.on_no us)) (ap (λ us. map held_of us) c.as_slice-held.ensures ∙ c.in_ok-values.ensures)
    c.put_choice.ensures.hand
