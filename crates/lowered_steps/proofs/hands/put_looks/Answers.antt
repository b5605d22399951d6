use Rattle.std.proofs.Common.{◌≡◌, ◌∙◌, [], ◌∷◌, map, sym, ap, subst}
use Rattle.lowered_pieces.proofs.Emitting.{emits_none}
use Rattle.lowered_pieces.specs.Emitted.{Emits, no_labels}
use Rattle.lowered_pieces.specs.Forms.{kit_at, cases_ends}
use Rattle.lowered_pieces.specs.Chains.{by_case, many}
use Rattle.lowered_steps.specs.Setting.{kit_for, nodes_in}
use Rattle.lowered_steps.specs.Stands.{depths_of, stand_of}
use Rattle.std.specs.Prelude.{OnOk}
use Rattle.lowered_steps.specs.Hands.{held_of, choice_of}
use Rattle.lowered_pieces.specs.Arms.{held_at, given_held, arm_hand, first_hand, choice_code, choices_at, picked_of, hand_of, looks_code, choice_labels}
use Rattle.sized_meanings.specs.Present.{gives_at}
use Rattle.lowered_pieces.specs.Arms as A
use Rattle.lowered_steps.specs.Hands.{matched_of, types_of}
use Rattle.std.specs.Prelude.{IfOk}
use Rattle.lowered_steps.specs.Hands.{begun_with, hand_of as hand_so_far}
use Rattle.lowered_steps.proofs.Arms.{zero}
use Rattle.lowered_steps.proofs.hands.put_looks.Goals as goal

pub returns-in-Unsaid-clause-code : goal.returns-in-Unsaid-clause-code
returns-in-Unsaid-clause-code c =
    subst (λ m. (Emits c.args.coding.now c.args.coding.now (λ name l. looks_code c.args.setting.now.types.now (kit_for c.args.setting.now name)
    (gives_at (nodes_in c.args.setting.now) c.args.giver) m c.args.steps.now (stand_of c.args.stand.now) l) (λ name. choice_labels m)))
    (sym (ap matched_of c.in-InHand.is ∙ ap (λ e. A.in_hand (types_of e)) c.in-Unsaid.is)) (emits_none c.args.coding.now)

pub returns-in-Unsaid-clause-hand : goal.returns-in-Unsaid-clause-hand
returns-in-Unsaid-clause-hand c =
    c.begin_hand.ensures ∙ ap (λ us. begun_with (map held_of us) c.in_ok-free-in-InHand.free) c.new.ensures ∙ ap (λ q. begun_with [] q)
    c.in_ok-free-in-InHand.ensures
    ∙ ap (λ m. hand_of c.args.setting.now.types.now (kit_for c.args.setting.now (λ place typ. 0)) m c.args.steps.now (stand_of c.args.stand.now))
    (sym (ap matched_of c.in-InHand.is ∙ ap (λ e. A.in_hand (types_of e)) c.in-Unsaid.is))

pub returns-in-Cases-clause-code : goal.returns-in-Cases-clause-code
returns-in-Cases-clause-code c =
    subst (λ m. OnOk c.put_cases.result (Emits c.args.coding.now c.put_cases.new.coding (λ name l. looks_code c.args.setting.now.types.now
    (kit_for c.args.setting.now name) (gives_at (nodes_in c.args.setting.now) c.args.giver) m c.args.steps.now (stand_of c.args.stand.now) l)
    (λ name. choice_labels m))) (sym (ap matched_of c.in-InHand.is ∙ ap (λ e. A.in_hand (types_of e)) c.in-Cases.is))
    (subst (λ q. OnOk c.put_cases.result (Emits c.args.coding.now c.put_cases.new.coding (λ name l. by_case picked_of
    (kit_at (kit_for c.args.setting.now name) (depths_of c.args.stand.now.levels.now)) q 0 (choice_code c.args.setting.now.types.now
    (kit_for c.args.setting.now name) (gives_at (nodes_in c.args.setting.now) c.args.giver) c.args.steps.now q (stand_of c.args.stand.now)) l
    (choices_at c.args.stand.now.temp (cases_ends c.in-Cases.cases.now))) (λ name. many 0 (cases_ends c.in-Cases.cases.now))))
    c.in_ok-free-in-InHand.ensures c.put_cases.ensures.code)

pub returns-in-Cases-clause-hand : goal.returns-in-Cases-clause-hand
returns-in-Cases-clause-hand c =
    subst (λ m. IfOk c.put_cases.result (λ h. hand_so_far h ≡ hand_of c.args.setting.now.types.now (kit_for c.args.setting.now (λ place typ. 0)) m
    c.args.steps.now (stand_of c.args.stand.now))) (sym (ap matched_of c.in-InHand.is ∙ ap (λ e. A.in_hand (types_of e)) c.in-Cases.is))
    (subst (λ q. IfOk c.put_cases.result (λ h. hand_so_far h ≡ first_hand c.args.setting.now.types.now (kit_for c.args.setting.now (λ place typ. 0))
    c.args.steps.now q c.args.stand.now.on_no (choices_at c.args.stand.now.temp (cases_ends c.in-Cases.cases.now)))) c.in_ok-free-in-InHand.ensures
    c.put_cases.ensures.hand)

pub returns-in-One-clause-code : goal.returns-in-One-clause-code
returns-in-One-clause-code c =
    subst (λ m. OnOk c.put_choice_of.result (Emits c.args.coding.now c.put_choice_of.new.coding (λ name l. looks_code c.args.setting.now.types.now
    (kit_for c.args.setting.now name) (gives_at (nodes_in c.args.setting.now) c.args.giver) m c.args.steps.now (stand_of c.args.stand.now) l)
    (λ name. choice_labels m))) (sym (ap matched_of c.in-InHand.is ∙ ap (λ e. A.in_hand (types_of e)) c.in-One.is))
    (subst (λ q. OnOk c.put_choice_of.result (Emits c.args.coding.now c.put_choice_of.new.coding (λ name.
    (choice_code c.args.setting.now.types.now (kit_for c.args.setting.now name) (gives_at (nodes_in c.args.setting.now) c.args.giver) c.args.steps.now q
    (stand_of c.args.stand.now)) (choice_of [] (held_at c.args.stand.now.temp c.in-One.typ ∷ []))) no_labels)) c.in_ok-free-in-InHand.ensures
    c.put_choice_of.ensures.code)

pub returns-in-One-clause-hand : goal.returns-in-One-clause-hand
returns-in-One-clause-hand c =
    subst (λ m. IfOk c.put_choice_of.result (λ h. hand_so_far h ≡ hand_of c.args.setting.now.types.now (kit_for c.args.setting.now (λ place typ. 0)) m
    c.args.steps.now (stand_of c.args.stand.now))) (sym (ap matched_of c.in-InHand.is ∙ ap (λ e. A.in_hand (types_of e)) c.in-One.is))
    (subst (λ q. IfOk c.put_choice_of.result (λ h. hand_so_far h ≡ arm_hand c.args.setting.now.types.now (kit_for c.args.setting.now (λ place typ. 0))
    c.args.steps.now q c.args.stand.now.on_no (held_at c.args.stand.now.temp c.in-One.typ ∷ []))) c.in_ok-free-in-InHand.ensures
    c.put_choice_of.ensures.hand)

pub returns-in_ok-values-in-Arguments-clause-code : goal.returns-in_ok-values-in-Arguments-clause-code
returns-in_ok-values-in-Arguments-clause-code c =
    subst (λ m. OnOk c.put_choice.result (Emits c.args.coding.now c.put_choice.new.coding (λ name l. looks_code c.args.setting.now.types.now
    (kit_for c.args.setting.now name) (gives_at (nodes_in c.args.setting.now) c.args.giver) m c.args.steps.now (stand_of c.args.stand.now) l)
    (λ name. choice_labels m))) (sym (ap matched_of c.in-Arguments.is))
    (subst (λ q. OnOk c.put_choice.result (Emits c.args.coding.now c.put_choice.new.coding (λ name.
    (choice_code c.args.setting.now.types.now (kit_for c.args.setting.now name) (gives_at (nodes_in c.args.setting.now) c.args.giver) c.args.steps.now q
    (stand_of c.args.stand.now)) (choice_of [] (given_held 0 c.in-Arguments.types.now))) no_labels)) (zero c.args.stand.now.temp)
    (subst (λ us. OnOk c.put_choice.result (Emits c.args.coding.now c.put_choice.new.coding (λ name.
    (choice_code c.args.setting.now.types.now (kit_for c.args.setting.now name) (gives_at (nodes_in c.args.setting.now) c.args.giver) c.args.steps.now
    c.args.stand.now.temp (stand_of c.args.stand.now)) (choice_of [] us)) no_labels))
    (ap (λ us. map held_of us) c.as_slice-held.ensures ∙ c.in_ok-values-in-Arguments.ensures) c.put_choice.ensures.code))

pub returns-in_ok-values-in-Arguments-clause-hand : goal.returns-in_ok-values-in-Arguments-clause-hand
returns-in_ok-values-in-Arguments-clause-hand c =
    subst (λ m. IfOk c.put_choice.result (λ h. hand_so_far h ≡ hand_of c.args.setting.now.types.now (kit_for c.args.setting.now (λ place typ. 0)) m
    c.args.steps.now (stand_of c.args.stand.now))) (sym (ap matched_of c.in-Arguments.is))
    (subst (λ q. IfOk c.put_choice.result (λ h. hand_so_far h ≡ arm_hand c.args.setting.now.types.now (kit_for c.args.setting.now (λ place typ. 0))
    c.args.steps.now q c.args.stand.now.on_no (given_held 0 c.in-Arguments.types.now))) (zero c.args.stand.now.temp)
    (subst (λ us. IfOk c.put_choice.result (λ h. hand_so_far h ≡ arm_hand c.args.setting.now.types.now (kit_for c.args.setting.now (λ place typ. 0))
    c.args.steps.now c.args.stand.now.temp c.args.stand.now.on_no us))
    (ap (λ us. map held_of us) c.as_slice-held.ensures ∙ c.in_ok-values-in-Arguments.ensures) c.put_choice.ensures.hand))
