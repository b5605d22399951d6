use Rattle.std.proofs.Common.{◌≡◌, ◌∙◌, ◌≤◌, [], ◌∷◌, map, sym, ap, subst, arith}
use Rattle.lowered_steps.proofs.Lists.{first_of, none_of, one_of, others, others_many}
use Rattle.lowered_steps.proofs.Arms.{choices_counted}
use Rattle.lowered_pieces.specs.Emitted.{Emits, no_labels}
use Rattle.lowered_pieces.specs.Forms.{kit_at, cases_ends}
use Rattle.lowered_steps.specs.Setting.{kit_for, nodes_in}
use Rattle.lowered_steps.specs.Stands.{depths_of, stand_of}
use Rattle.std.proofs.lemmas.Result.{IfOk-weaker}
use Rattle.lowered_pieces.proofs.Framing.{arms_none, ok_one, arms_next}
use Rattle.lowered_pieces.specs.Chains.{tests}
use Rattle.lowered_steps.specs.Hands.{held_of}
use Rattle.lowered_pieces.specs.Arms.{held_at, arm_hand, first_hand, choice_code, choices_at, picked_of}
use Rattle.sized_meanings.specs.Present.{gives_at}
use Rattle.lowered_steps.specs.Hands.{hand_of as hand_so_far}
use Rattle.lowered_steps.proofs.hands.+put_choices.Goals as goal

pub returns-in-empty-clause-code : goal.returns-in-empty-clause-code
returns-in-empty-clause-code t c =
    arms_none picked_of (λ name. kit_at (kit_for c.args.setting.now name) (depths_of c.args.stand.now.levels.now)) c.args.free no_labels
    (λ name. (choice_code c.args.setting.now.types.now (kit_for c.args.setting.now name) (gives_at (nodes_in c.args.setting.now) c.args.giver)
    c.args.steps.now c.args.free (stand_of c.args.stand.now))) c.args.end (choices_at c.args.stand.now.temp (cases_ends c.args.cases.now))
    c.args.coding.now (ap (λ us. choices_at c.args.stand.now.temp (cases_ends us)) (none_of c.args.cases.now c.in-empty.len_below))

pub returns-in-empty-clause-hand : goal.returns-in-empty-clause-hand
returns-in-empty-clause-hand t c =
    c.begin_hand.ensures ∙ ap (λ us. record { values = map held_of us; names = []; named = []; free = c.args.free }) c.new.ensures ∙ ap
    (λ us. first_hand c.args.setting.now.types.now (kit_for c.args.setting.now (λ place typ. 0)) c.args.steps.now c.args.free c.args.stand.now.on_no
    (choices_at c.args.stand.now.temp (cases_ends us))) (sym (none_of c.args.cases.now c.in-empty.len_below))

pub returns-in-len1-clause-code : goal.returns-in-len1-clause-code
returns-in-len1-clause-code t c =
    ok_one picked_of (λ name. kit_at (kit_for c.args.setting.now name) (depths_of c.args.stand.now.levels.now)) c.args.free no_labels
    (λ name. (choice_code c.args.setting.now.types.now (kit_for c.args.setting.now name) (gives_at (nodes_in c.args.setting.now) c.args.giver)
    c.args.steps.now c.args.free (stand_of c.args.stand.now))) c.put_choice_of.result c.args.end _ (choices_at c.args.stand.now.temp
    (cases_ends c.args.cases.now)) c.args.coding.now c.put_choice_of.new.coding (ap (λ us. choices_at c.args.stand.now.temp (cases_ends us))
    (one_of c.args.cases.now c.only-item.result c.in-len1.len_at_least c.in-len1.len_below c.only-item.is)) c.put_choice_of.ensures.code

pub returns-in-len1-clause-hand : goal.returns-in-len1-clause-hand
returns-in-len1-clause-hand t c =
    IfOk-weaker c.put_choice_of.result
    (λ h. hand_so_far h ≡ arm_hand c.args.setting.now.types.now (kit_for c.args.setting.now (λ place typ. 0)) c.args.steps.now c.args.free
    c.args.stand.now.on_no (held_at c.args.stand.now.temp c.only-item.result.gives ∷ []))
    (λ h. hand_so_far h ≡ first_hand c.args.setting.now.types.now (kit_for c.args.setting.now (λ place typ. 0)) c.args.steps.now c.args.free
    c.args.stand.now.on_no (choices_at c.args.stand.now.temp (cases_ends c.args.cases.now))) (λ h e. e ∙ ap
    (λ us. first_hand c.args.setting.now.types.now (kit_for c.args.setting.now (λ place typ. 0)) c.args.steps.now c.args.free c.args.stand.now.on_no
    (choices_at c.args.stand.now.temp (cases_ends us))) (sym (one_of c.args.cases.now c.only-item.result c.in-len1.len_at_least c.in-len1.len_below
    c.only-item.is))) c.put_choice_of.ensures.hand

pub returns-in_ok-put_choices-in-len1-up-clause-code : goal.returns-in_ok-put_choices-in-len1-up-clause-code
returns-in_ok-put_choices-in-len1-up-clause-code t c =
    arms_next picked_of (λ name. kit_at (kit_for c.args.setting.now name) (depths_of c.args.stand.now.levels.now)) c.args.free no_labels
    (λ name. (choice_code c.args.setting.now.types.now (kit_for c.args.setting.now name) (gives_at (nodes_in c.args.setting.now) c.args.giver)
    c.args.steps.now c.args.free (stand_of c.args.stand.now))) c.args.end c.in_ok-next-in-len1-up.next _
    (choices_at c.args.stand.now.temp (cases_ends (others c.args.cases.now))) (choices_at c.args.stand.now.temp (cases_ends c.args.cases.now))
    c.args.coding.now c.begin_arm.new.coding
    c.put_choice_of-in-len1-up.new.coding c.end_arm.new.coding c.put_choices.new.coding (ap (λ us. choices_at c.args.stand.now.temp (cases_ends us))
    (first_of c.args.cases.now c.first-item.result (omega (arith, c.in-len1-up.len_at_least)) c.first-item.is))
    (subst (λ n. 1 ≤ n) (sym (choices_counted c.args.stand.now.temp (others c.args.cases.now))) (others_many c.args.cases.now c.in-len1-up.len_at_least))
    c.in_ok-next-in-len1-up.ensures.next
    (subst (λ us. Emits c.args.coding.now c.begin_arm.new.coding (λ name l. tests (kit_at (kit_for c.args.setting.now name) (depths_of
    c.args.stand.now.levels.now)) c.args.free l us) (λ name. 1)) c.as_slice-picked.ensures
    c.in_ok-next-in-len1-up.ensures.code)
    c.in_ok-hand-in-len1-up.ensures.code c.in_ok-end_arm-in-len1-up.ensures c.in_ok-put_choices-in-len1-up.ensures.code

pub returns-in_ok-put_choices-in-len1-up-clause-hand : goal.returns-in_ok-put_choices-in-len1-up-clause-hand
returns-in_ok-put_choices-in-len1-up-clause-hand t c =
    c.in_ok-hand-in-len1-up.ensures.hand ∙ ap (λ us. first_hand c.args.setting.now.types.now (kit_for c.args.setting.now (λ place typ. 0)) c.args.steps.now
    c.args.free c.args.stand.now.on_no (choices_at c.args.stand.now.temp (cases_ends us))) (sym
    (first_of c.args.cases.now c.first-item.result (omega (arith, c.in-len1-up.len_at_least)) c.first-item.is))
