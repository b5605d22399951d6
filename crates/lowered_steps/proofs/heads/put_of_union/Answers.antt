use Rattle.std.proofs.Common.{◌≡◌, ◌∙◌, ◌++◌, map, sym, subst}
use Rattle.std.specs.Prelude.{IfOk, OnOk, if◌then◌else◌}
use Rattle.lowered_pieces.specs.Arms.{payload_taken, skipped}
use Rattle.lowered_pieces.specs.Emitted.{Emits, no_labels}
use Rattle.lowered_steps.specs.Setting.{kit_for}
use Rattle.lowered_steps.specs.Hands.{held_of}
use Rattle.lowered_steps.proofs.heads.put_of_union.Goals as goal

pub returns-then-is_union-clause-code : goal.returns-then-is_union-clause-code
returns-then-is_union-clause-code c =
    (subst (λ b. OnOk c.put_payload.result (Emits c.args.coding.now c.put_payload.new.coding
    (λ name l. (if b then payload_taken c.args.setting.now.types.now (kit_for c.args.setting.now name) (held_of c.args.value.now) c.args.union
    c.args.constructor c.args.count c.args.free c.args.fail else skipped c.args.fail (payload_taken c.args.setting.now.types.now
    (kit_for c.args.setting.now name) (held_of c.args.value.now) c.args.union c.args.constructor c.args.count c.args.free
    c.args.fail)).code) no_labels)) (sym (sym c.is_union.ensures ∙ c.if-is_union.true)) c.put_payload.ensures.code)

pub returns-then-is_union-clause-parts : goal.returns-then-is_union-clause-parts
returns-then-is_union-clause-parts c =
    (subst (λ b. OnOk c.put_payload.result (map held_of c.put_payload.new.parts ≡ map held_of
    c.args.parts.now ++ (if b then payload_taken c.args.setting.now.types.now (kit_for c.args.setting.now (λ place typ. 0)) (held_of c.args.value.now)
    c.args.union c.args.constructor c.args.count c.args.free c.args.fail else skipped c.args.fail
    (payload_taken c.args.setting.now.types.now (kit_for c.args.setting.now (λ place typ. 0)) (held_of c.args.value.now) c.args.union
    c.args.constructor c.args.count c.args.free c.args.fail)).parts)) (sym (sym c.is_union.ensures ∙ c.if-is_union.true))
    c.put_payload.ensures.parts)

pub returns-then-is_union-clause-free : goal.returns-then-is_union-clause-free
returns-then-is_union-clause-free c =
    (subst (λ b. IfOk c.put_payload.result (λ m. m ≡ (if b then payload_taken c.args.setting.now.types.now (kit_for c.args.setting.now (λ place typ. 0))
    (held_of c.args.value.now) c.args.union c.args.constructor c.args.count c.args.free c.args.fail else skipped c.args.fail
    (payload_taken c.args.setting.now.types.now (kit_for c.args.setting.now (λ place typ. 0)) (held_of c.args.value.now) c.args.union
    c.args.constructor c.args.count c.args.free c.args.fail)).free)) (sym (sym c.is_union.ensures ∙ c.if-is_union.true)) c.put_payload.ensures.free)

pub returns-else-is_union-clause-code : goal.returns-else-is_union-clause-code
returns-else-is_union-clause-code c =
    (subst (λ b. OnOk c.skip_payload.result (Emits c.args.coding.now c.skip_payload.new.coding
    (λ name l. (if b then payload_taken c.args.setting.now.types.now (kit_for c.args.setting.now name) (held_of c.args.value.now) c.args.union
    c.args.constructor c.args.count c.args.free c.args.fail else skipped c.args.fail (payload_taken c.args.setting.now.types.now
    (kit_for c.args.setting.now name) (held_of c.args.value.now) c.args.union c.args.constructor c.args.count c.args.free
    c.args.fail)).code) no_labels)) (sym (sym c.is_union.ensures ∙ c.if-is_union.false)) c.skip_payload.ensures.code)

pub returns-else-is_union-clause-parts : goal.returns-else-is_union-clause-parts
returns-else-is_union-clause-parts c =
    (subst (λ b. OnOk c.skip_payload.result (map held_of c.skip_payload.new.parts ≡ map held_of
    c.args.parts.now ++ (if b then payload_taken c.args.setting.now.types.now (kit_for c.args.setting.now (λ place typ. 0)) (held_of c.args.value.now)
    c.args.union c.args.constructor c.args.count c.args.free c.args.fail else skipped c.args.fail
    (payload_taken c.args.setting.now.types.now (kit_for c.args.setting.now (λ place typ. 0)) (held_of c.args.value.now) c.args.union
    c.args.constructor c.args.count c.args.free c.args.fail)).parts)) (sym (sym c.is_union.ensures ∙ c.if-is_union.false))
    c.skip_payload.ensures.parts)

pub returns-else-is_union-clause-free : goal.returns-else-is_union-clause-free
returns-else-is_union-clause-free c =
    (subst (λ b. IfOk c.skip_payload.result (λ m. m ≡ (if b then payload_taken c.args.setting.now.types.now (kit_for c.args.setting.now (λ place typ. 0))
    (held_of c.args.value.now) c.args.union c.args.constructor c.args.count c.args.free c.args.fail else skipped c.args.fail
    (payload_taken c.args.setting.now.types.now (kit_for c.args.setting.now (λ place typ. 0)) (held_of c.args.value.now) c.args.union
    c.args.constructor c.args.count c.args.free c.args.fail)).free)) (sym (sym c.is_union.ensures ∙ c.if-is_union.false))
    c.skip_payload.ensures.free)
