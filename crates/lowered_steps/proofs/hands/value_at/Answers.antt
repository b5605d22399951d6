use Rattle.std.proofs.Common.{◌≡◌, ◌∙◌, map, ap}
use Rattle.lowered_steps.proofs.Taking.{found_at, none_at}
use Rattle.lowered_steps.specs.Setting.{kit_for}
use Rattle.std.proofs.lemmas.Result.{IfOk-weaker}
use Rattle.lowered_steps.specs.Hands.{held_of}
use Rattle.lowered_pieces.specs.Arms.{held_at, at_hand}
use Rattle.lowered_steps.proofs.Lists.{got_item, got_none}
use Rattle.lowered_steps.proofs.hands.value_at.Goals as goal

pub returns-in-Some : goal.returns-in-Some
returns-in-Some c =
    IfOk-weaker c.copy.result (λ h. h ≡ c.in-Some.value.now) (λ h. held_of h ≡ at_hand c.args.setting.now.types.now
    (kit_for c.args.setting.now (λ place typ. 0)) (map held_of c.args.values.now) c.args.number)
    (λ h e. ap held_of e ∙ found_at c.args.setting.now.types.now (kit_for c.args.setting.now (λ place typ. 0)) c.args.values.now c.args.number
    c.in-Some.value.now (got_item c.args.values.now c.args.number c.in-Some.value.now c.in-Some.ensures.lookup.0 c.in-Some.ensures.lookup.1)) c.copy.ensures

pub returns-in_ok-copy_sized-in-None : goal.returns-in_ok-copy_sized-in-None
returns-in_ok-copy_sized-in-None c =
    ap (λ t. held_at 0 t) c.in_ok-copy_sized-in-None.ensures
    ∙ none_at c.args.setting.now.types.now (kit_for c.args.setting.now (λ place typ. 0)) c.args.values.now c.args.number
    (got_none c.args.values.now c.args.number c.in-None.ensures.lookup.0)
