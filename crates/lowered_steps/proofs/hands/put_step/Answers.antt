use Rattle.std.proofs.Common.{◌≡◌, ◌∙◌, [], ◌∷◌, ◌++◌, map, refl, ap}
use Rattle.lowered_steps.specs.Setting.{kit_for}
use Rattle.std.proofs.lemmas.Result.{on_ok_weaker}
use Rattle.lowered_steps.specs.Hands.{held_of}
use Rattle.lowered_pieces.specs.Arms.{at_hand}
use Rattle.lowered_steps.proofs.Taking.{just}
use Rattle.lowered_steps.proofs.Stepped.{opened, opens, named_code, names_put, seen, sees}
use Rattle.lowered_steps.proofs.hands.put_step.Goals as goal

pub returns-in_ok-next-in-Opens-clause-code : goal.returns-in_ok-next-in-Opens-clause-code
returns-in_ok-next-in-Opens-clause-code c =
    opened c.args.setting.now c.args.step.now c.in-Opens.number c.args.hand.now.values c.args.hand.now.names c.args.hand.now.named c.args.hand.now.free
    c.args.throw c.args.fail c.in_ok-value-in-Opens.value
    (c.in_ok-value-in-Opens.ensures ∙ ap (λ us. at_hand c.args.setting.now.types.now (kit_for c.args.setting.now (λ place typ. 0)) (map held_of us)
    c.in-Opens.number) c.as_slice.ensures) c.in-Opens.head c.in-Opens.count c.in-Opens.is c.args.coding.now c.put_head.new.coding
    c.in_ok-next-in-Opens.ensures.code

pub returns-in_ok-next-in-Opens-clause-hand : goal.returns-in_ok-next-in-Opens-clause-hand
returns-in_ok-next-in-Opens-clause-hand c =
    opens c.args.setting.now c.args.step.now c.in-Opens.number c.args.hand.now.values c.args.hand.now.names c.args.hand.now.named c.args.hand.now.free
    c.args.throw c.args.fail c.in_ok-value-in-Opens.value
    (c.in_ok-value-in-Opens.ensures ∙ ap (λ us. at_hand c.args.setting.now.types.now (kit_for c.args.setting.now (λ place typ. 0)) (map held_of us)
    c.in-Opens.number) c.as_slice.ensures) c.in-Opens.head c.in-Opens.count c.in-Opens.is c.put_head.new.parts c.in_ok-next-in-Opens.next
    c.in_ok-next-in-Opens.ensures.parts c.in_ok-next-in-Opens.ensures.free

pub returns-in_ok-push-in-Names-clause-code : goal.returns-in_ok-push-in-Names-clause-code
returns-in_ok-push-in-Names-clause-code c =
    just c.push-in-Names.result (named_code c.args.setting.now c.args.step.now c.in-Names.number c.args.hand.now.values c.args.hand.now.names
    c.args.hand.now.named c.args.hand.now.free c.args.throw c.args.fail c.in_ok-value-in-Names.value
    (c.in_ok-value-in-Names.ensures ∙ ap (λ us. at_hand c.args.setting.now.types.now (kit_for c.args.setting.now (λ place typ. 0)) (map held_of us)
    c.in-Names.number) c.as_slice-in-Names.ensures) c.in-Names.name c.in-Names.is c.args.coding.now)

pub returns-in_ok-push-in-Names-clause-hand : goal.returns-in_ok-push-in-Names-clause-hand
returns-in_ok-push-in-Names-clause-hand c =
    on_ok_weaker c.push-in-Names.result (λ (e : c.push-in-Names.new.self ≡ c.args.hand.now.named ++ c.in_ok-value-in-Names.value ∷ []).
    names_put c.args.setting.now c.args.step.now c.in-Names.number c.args.hand.now.values c.args.hand.now.names c.args.hand.now.named c.args.hand.now.free
    c.args.throw c.args.fail c.in_ok-value-in-Names.value
    (c.in_ok-value-in-Names.ensures ∙ ap (λ us. at_hand c.args.setting.now.types.now (kit_for c.args.setting.now (λ place typ. 0)) (map held_of us)
    c.in-Names.number) c.as_slice-in-Names.ensures) c.in-Names.name c.in-Names.is _ c.push.new.self c.push-in-Names.new.self
    c.in_ok-push-in-Names.ensures.pushed e refl) c.push-in-Names.ensures.pushed

pub returns-in_ok-next-in-Sees-clause-code : goal.returns-in_ok-next-in-Sees-clause-code
returns-in_ok-next-in-Sees-clause-code c =
    seen c.args.setting.now c.args.step.now c.in-Sees.number c.args.hand.now.values c.args.hand.now.names c.args.hand.now.named c.args.hand.now.free
    c.args.throw c.args.fail c.in_ok-value-in-Sees.value
    (c.in_ok-value-in-Sees.ensures ∙ ap (λ us. at_hand c.args.setting.now.types.now (kit_for c.args.setting.now (λ place typ. 0)) (map held_of us)
    c.in-Sees.number) c.as_slice-in-Sees.ensures) c.in-Sees.direction c.in-Sees.is c.args.coding.now c.put_seen.new.coding
    c.in_ok-next-in-Sees.ensures.code

pub returns-in_ok-next-in-Sees-clause-hand : goal.returns-in_ok-next-in-Sees-clause-hand
returns-in_ok-next-in-Sees-clause-hand c =
    sees c.args.setting.now c.args.step.now c.in-Sees.number c.args.hand.now.values c.args.hand.now.names c.args.hand.now.named c.args.hand.now.free
    c.args.throw c.args.fail c.in_ok-value-in-Sees.value
    (c.in_ok-value-in-Sees.ensures ∙ ap (λ us. at_hand c.args.setting.now.types.now (kit_for c.args.setting.now (λ place typ. 0)) (map held_of us)
    c.in-Sees.number) c.as_slice-in-Sees.ensures) c.in-Sees.direction c.in-Sees.is c.put_seen.new.values c.in_ok-next-in-Sees.next
    c.in_ok-next-in-Sees.ensures.hand c.in_ok-next-in-Sees.ensures.next
