use Rattle.std.proofs.Common.{refl}
use Rattle.lowered_steps.specs.Setting.{kit_for}
use Rattle.lowered_steps.specs.Hands.{held_of}
use Rattle.lowered_steps.proofs.Taking.{just, one_put, many_put, one_parts, one_free, many_parts, many_free}
use Rattle.lowered_steps.proofs.heads.put_payload.Goals as goal

pub returns-in_ok-push-clause-code : goal.returns-in_ok-push-clause-code
returns-in_ok-push-clause-code c =
    one_put c.args.setting.now c.args.coding.now c.put_payload.new.self (held_of c.args.value.now) c.args.union c.args.constructor c.args.count c.args.free
    c.args.fail c.in_ok-number.number c.in_ok-whole.whole c.in_ok-typ.typ c.in_ok-typ.ensures c.in_ok-number.ensures c.in_ok-whole.ensures
    c.if-count-eq1.true c.in_ok-put_payload.ensures

pub returns-in_ok-push-clause-parts : goal.returns-in_ok-push-clause-parts
returns-in_ok-push-clause-parts c =
    one_parts c.args.setting.now.types.now (kit_for c.args.setting.now (λ place typ. 0)) (held_of c.args.value.now) c.args.union c.args.constructor
    c.args.count c.args.free c.args.fail c.in_ok-typ.typ c.in_ok-typ.ensures c.in_ok-next.next c.in_ok-next.ensures c.args.parts.now c.push.new.self _
    c.if-count-eq1.true c.in_ok-push.ensures.pushed refl

pub returns-in_ok-push-clause-free : goal.returns-in_ok-push-clause-free
returns-in_ok-push-clause-free c =
    one_free c.args.setting.now.types.now (kit_for c.args.setting.now (λ place typ. 0)) (held_of c.args.value.now) c.args.union c.args.constructor
    c.args.count c.args.free c.args.fail c.in_ok-typ.typ c.in_ok-typ.ensures c.in_ok-next.next c.in_ok-next.ensures c.if-count-eq1.true

pub returns-in_ok-put_fields-clause-code : goal.returns-in_ok-put_fields-clause-code
returns-in_ok-put_fields-clause-code c =
    just c.further-else-count-eq1.result (many_put c.args.setting.now c.args.coding.now c.put_payload.new.self (held_of c.args.value.now) c.args.union
    c.args.constructor c.args.count c.args.free c.args.fail c.in_ok-number.number c.in_ok-whole.whole c.in_ok-typ.typ c.in_ok-typ.ensures
    c.in_ok-number.ensures c.in_ok-whole.ensures c.put_fields.new.coding c.in_ok-next.next c.if-count-eq1.false c.in_ok-next.ensures
    c.in_ok-put_payload.ensures
    c.in_ok-put_fields.ensures.code)

pub returns-in_ok-put_fields-clause-parts : goal.returns-in_ok-put_fields-clause-parts
returns-in_ok-put_fields-clause-parts c =
    just c.further-else-count-eq1.result (many_parts c.args.setting.now.types.now (kit_for c.args.setting.now (λ place typ. 0)) (held_of c.args.value.now)
    c.args.union c.args.constructor c.args.count c.args.free c.args.fail c.in_ok-typ.typ c.in_ok-typ.ensures c.in_ok-next.next c.in_ok-next.ensures
    c.args.parts.now c.put_fields.new.parts c.if-count-eq1.false c.in_ok-put_fields.ensures.parts)

pub returns-in_ok-put_fields-clause-free : goal.returns-in_ok-put_fields-clause-free
returns-in_ok-put_fields-clause-free c =
    many_free c.args.setting.now.types.now (kit_for c.args.setting.now (λ place typ. 0)) (held_of c.args.value.now) c.args.union c.args.constructor
    c.args.count c.args.free c.args.fail c.in_ok-typ.typ c.in_ok-typ.ensures c.in_ok-next.next c.in_ok-next.ensures c.further-else-count-eq1.result
    c.if-count-eq1.false c.further-else-count-eq1.ensures
