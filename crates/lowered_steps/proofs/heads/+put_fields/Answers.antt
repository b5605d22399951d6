use Rattle.std.proofs.Common.{◌-◌, [], refl, sym, ap}
use Rattle.lowered_pieces.proofs.Emitting.{emits_as, emits_none}
use Rattle.lowered_steps.proofs.Taking.{held_done, ok_held, fields_none, no_fields, fields_put, fields_on}
use Rattle.lowered_pieces.specs.Emitted.{no_labels}
use Rattle.lowered_steps.specs.Setting.{kit_for}
use Rattle.lowered_steps.specs.Hands.{held_of}
use Rattle.size_values.specs.declared.sized.Sized.{out-Sized}
use Rattle.lowered_pieces.specs.Arms.{fields_held, fields_code, held_at}
use Rattle.checked_meaning.specs.Items.{component_typ}
use Rattle.lowered_steps.proofs.heads.+put_fields.Goals as goal

pub returns-then-count-eq0-clause-code : goal.returns-then-count-eq0-clause-code
returns-then-count-eq0-clause-code t c =
    emits_as c.args.coding.now c.args.coding.now (λ name l. []) (λ name l. fields_code c.args.setting.now.types.now (kit_for c.args.setting.now name)
    (held_of c.args.value.now) c.args.from c.args.free c.args.count) no_labels no_labels
    (λ name. sym (no_fields c.args.setting.now.types.now (kit_for c.args.setting.now name) (held_of c.args.value.now) c.args.from c.args.free c.args.count
    c.if-count-eq0.true)) (λ name. refl) (emits_none c.args.coding.now)

pub returns-then-count-eq0-clause-parts : goal.returns-then-count-eq0-clause-parts
returns-then-count-eq0-clause-parts t c =
    held_done c.args.parts.now (fields_held c.args.setting.now.types.now (kit_for c.args.setting.now (λ place typ. 0)) (held_of c.args.value.now)
    c.args.from c.args.free c.args.count) (fields_none c.args.setting.now.types.now (kit_for c.args.setting.now (λ place typ. 0))
    (held_of c.args.value.now) c.args.from c.args.free c.args.count c.if-count-eq0.true)

pub returns-clause-code : goal.returns-clause-code
returns-clause-code t c =
    fields_put c.put_fields.result c.args.setting.now (held_of c.args.value.now) c.args.coding.now c.put_apply_one.new.self c.put_fields.new.coding
    c.args.from c.args.free c.args.count c.in_ok-number.number c.in_ok-whole.whole
    c.in_ok-further.field-0 c.in_ok-further-2.field-0 c.in_ok-typ.typ c.if-count-eq0.false c.in_ok-typ.ensures c.in_ok-number.ensures c.in_ok-whole.ensures
    c.in_ok-further.ensures
    c.in_ok-further-2.ensures c.in_ok-put_apply_one.ensures c.put_fields.ensures.code

pub returns-clause-parts : goal.returns-clause-parts
returns-clause-parts t c =
    ok_held c.put_fields.result c.args.parts.now c.push.new.self c.put_fields.new.parts _ (held_at c.args.free
    (component_typ c.args.from (out-Sized c.args.value.now.typ)))
    (fields_held c.args.setting.now.types.now (kit_for c.args.setting.now (λ place typ. 0)) (held_of c.args.value.now) c.in_ok-further.field-0
    c.in_ok-further-2.field-0 (c.args.count - 1)) (fields_held c.args.setting.now.types.now (kit_for c.args.setting.now (λ place typ. 0))
    (held_of c.args.value.now) c.args.from c.args.free c.args.count) c.in_ok-push.ensures.pushed
    (ap (λ u. held_at c.args.free u) c.in_ok-typ.ensures)
    (fields_on c.args.setting.now.types.now (kit_for c.args.setting.now (λ place typ. 0)) (held_of c.args.value.now) c.args.from c.args.free c.args.count
    c.in_ok-further.field-0 c.in_ok-further-2.field-0 c.if-count-eq0.false c.in_ok-further.ensures c.in_ok-further-2.ensures)
    c.put_fields.ensures.parts
