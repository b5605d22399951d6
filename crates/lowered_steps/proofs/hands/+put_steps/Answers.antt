use Rattle.std.proofs.Common.{◌≡◌, ◌∙◌, ◌∷◌, ◌++◌, sym, ap, subst}
use Rattle.lowered_pieces.proofs.Emitting.{emits_none, ok_next, ok_same}
use Rattle.lowered_steps.proofs.Lists.{first_of, none_of, others}
use Rattle.lowered_steps.proofs.Framed.{step_same}
use Rattle.lowered_pieces.specs.Emitted.{Emits, no_labels}
use Rattle.lowered_steps.specs.Setting.{kit_for}
use Rattle.std.proofs.lemmas.Result.{on_ok_weaker}
use Rattle.std.specs.Prelude.{OnOk}
use Rattle.lowered_pieces.specs.Arms.{step_code, steps_code, steps_hand}
use Rattle.lowered_steps.specs.Hands.{hand_of as hand_so_far}
use Rattle.lowered_steps.proofs.hands.+put_steps.Goals as goal

pub returns-in-empty-clause-code : goal.returns-in-empty-clause-code
returns-in-empty-clause-code t c =
    subst (λ us. Emits c.args.coding.now c.args.coding.now (λ name l. steps_code c.args.setting.now.types.now (kit_for c.args.setting.now name) us
    (hand_so_far c.args.hand.now) c.args.throw c.args.fail) no_labels) (sym (none_of c.args.steps.now c.in-empty.len_below)) (emits_none c.args.coding.now)

pub returns-in-empty-clause-hand : goal.returns-in-empty-clause-hand
returns-in-empty-clause-hand t c =
    ap (λ us. steps_hand c.args.setting.now.types.now (kit_for c.args.setting.now (λ place typ. 0)) us (hand_so_far c.args.hand.now) c.args.fail)
    (sym (none_of c.args.steps.now c.in-empty.len_below))

pub returns-in_ok-put_step-in-len1-up-clause-code : goal.returns-in_ok-put_step-in-len1-up-clause-code
returns-in_ok-put_step-in-len1-up-clause-code t c =
    let hand = hand_so_far c.args.hand.now in
    subst (λ us. OnOk c.put_steps.result (Emits c.args.coding.now c.put_steps.new.coding (λ name l. steps_code c.args.setting.now.types.now
    (kit_for c.args.setting.now name) us hand c.args.throw c.args.fail) no_labels)) (sym (first_of c.args.steps.now c.step-item.result c.in-len1-up.len_at_least
    c.step-item.is))
    (ok_same c.put_steps.result c.args.coding.now c.put_steps.new.coding
    (λ name l. step_code c.args.setting.now.types.now (kit_for c.args.setting.now name) c.step-item.result hand c.args.throw c.args.fail ++ steps_code
    c.args.setting.now.types.now (kit_for c.args.setting.now name) (others c.args.steps.now) (hand_so_far c.put_step.new.hand) c.args.throw c.args.fail)
    (λ name l. steps_code c.args.setting.now.types.now (kit_for c.args.setting.now name) (c.step-item.result ∷ others c.args.steps.now) hand
    c.args.throw c.args.fail)
    no_labels
    (λ name. ap (λ h. step_code c.args.setting.now.types.now (kit_for c.args.setting.now name) c.step-item.result hand c.args.throw c.args.fail ++ steps_code
    c.args.setting.now.types.now (kit_for c.args.setting.now name) (others c.args.steps.now) h c.args.throw c.args.fail)
    (c.in_ok-put_step-in-len1-up.ensures.hand ∙ step_same c.args.setting.now.types.now c.args.setting.now (λ place typ. 0) name c.step-item.result hand
    c.args.fail))
    (ok_next c.put_steps.result c.args.coding.now c.put_step.new.coding c.put_steps.new.coding (λ name.
    step_code c.args.setting.now.types.now (kit_for c.args.setting.now name) c.step-item.result hand c.args.throw c.args.fail)
    (λ name. steps_code c.args.setting.now.types.now (kit_for c.args.setting.now name) (others c.args.steps.now) (hand_so_far c.put_step.new.hand)
    c.args.throw c.args.fail) c.in_ok-put_step-in-len1-up.ensures.code c.put_steps.ensures.code))

pub returns-in_ok-put_step-in-len1-up-clause-hand : goal.returns-in_ok-put_step-in-len1-up-clause-hand
returns-in_ok-put_step-in-len1-up-clause-hand t c =
    on_ok_weaker c.put_steps.result
    (λ (e : hand_so_far c.put_steps.new.hand ≡ steps_hand c.args.setting.now.types.now (kit_for c.args.setting.now (λ place typ. 0))
    (others c.args.steps.now) (hand_so_far c.put_step.new.hand) c.args.fail).
    e ∙ ap (λ h. steps_hand c.args.setting.now.types.now (kit_for c.args.setting.now (λ place typ. 0)) (others c.args.steps.now) h c.args.fail)
    c.in_ok-put_step-in-len1-up.ensures.hand
    ∙ ap (λ us. steps_hand c.args.setting.now.types.now (kit_for c.args.setting.now (λ place typ. 0)) us (hand_so_far c.args.hand.now) c.args.fail)
    (sym (first_of c.args.steps.now c.step-item.result c.in-len1-up.len_at_least c.step-item.is))) c.put_steps.ensures.hand
