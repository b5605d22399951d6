use Rattle.std.proofs.Common.{◌∙◌, ◌+◌, sym, ap, subst}
use Rattle.lowered_pieces.proofs.Emitting.{emits_none}
use Rattle.lowered_pieces.specs.Emitted.{Emits}
use Rattle.lowered_pieces.specs.Forms.{kit_at}
use Rattle.lowered_pieces.specs.Chains.{by_case}
use Rattle.lowered_steps.specs.Setting.{kit_for}
use Rattle.lowered_steps.specs.Stands.{depths_of}
use Rattle.std.specs.Prelude.{OnOk}
use Rattle.lowered_pieces.specs.Arms.{choices, picked_of, thrown_code, choice_labels, places_of}
use Rattle.lowered_pieces.specs.Arms as A
use Rattle.lowered_steps.specs.Hands.{matched_of, types_of}
use Rattle.lowered_steps.proofs.hands.put_thrown.Goals as goal

pub returns-in-Unsaid : goal.returns-in-Unsaid
returns-in-Unsaid c =
    subst (λ m. (Emits c.args.coding.now c.args.coding.now (λ name l. by_case picked_of (kit_at (kit_for c.args.setting.now name)
    (depths_of c.args.stand.now.levels.now)) (c.args.stand.now.temp + places_of m) 0 (λ ch i. thrown_code c.args.setting.now.types.now
    (kit_for c.args.setting.now name) ch.values) l (choices m c.args.stand.now.temp)) (λ name. choice_labels m)))
    (sym (ap matched_of c.in-InHand.is ∙ ap (λ e. A.in_hand (types_of e)) c.in-Unsaid.is)) (emits_none c.args.coding.now)

pub returns-in-Cases : goal.returns-in-Cases
returns-in-Cases c =
    subst (λ m. OnOk c.put_thrown_cases.result (Emits c.args.coding.now c.put_thrown_cases.new.coding
    (λ name l. by_case picked_of (kit_at (kit_for c.args.setting.now name) (depths_of c.args.stand.now.levels.now)) (c.args.stand.now.temp + places_of m) 0
    (λ ch i. thrown_code c.args.setting.now.types.now (kit_for c.args.setting.now name) ch.values) l (choices m c.args.stand.now.temp))
    (λ name. choice_labels m))) (sym (ap matched_of c.in-InHand.is ∙ ap (λ e. A.in_hand (types_of e)) c.in-Cases.is)) c.put_thrown_cases.ensures

pub returns-in-One : goal.returns-in-One
returns-in-One c =
    subst (λ m. OnOk c.put_thrown_of.result (Emits c.args.coding.now c.put_thrown_of.new.coding (λ name l. by_case picked_of
    (kit_at (kit_for c.args.setting.now name) (depths_of c.args.stand.now.levels.now)) (c.args.stand.now.temp + places_of m) 0
    (λ ch i. thrown_code c.args.setting.now.types.now (kit_for c.args.setting.now name) ch.values) l (choices m c.args.stand.now.temp))
    (λ name. choice_labels m))) (sym (ap matched_of c.in-InHand.is ∙ ap (λ e. A.in_hand (types_of e)) c.in-One.is)) c.put_thrown_of.ensures

pub returns-in-Arguments : goal.returns-in-Arguments
returns-in-Arguments c =
    subst (λ m. OnOk c.put_thrown_given.result (Emits c.args.coding.now c.put_thrown_given.new.coding
    (λ name l. by_case picked_of (kit_at (kit_for c.args.setting.now name) (depths_of c.args.stand.now.levels.now)) (c.args.stand.now.temp + places_of m) 0
    (λ ch i. thrown_code c.args.setting.now.types.now (kit_for c.args.setting.now name) ch.values) l (choices m c.args.stand.now.temp))
    (λ name. choice_labels m))) (sym (ap matched_of c.in-Arguments.is)) c.put_thrown_given.ensures
