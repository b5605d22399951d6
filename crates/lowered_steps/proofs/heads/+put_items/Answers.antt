use Rattle.std.proofs.Common.{◌-◌, [], refl, sym, ap}
use Rattle.lowered_pieces.proofs.Emitting.{emits_as, emits_none}
use Rattle.lowered_steps.proofs.Taking.{held_done, ok_held, items_none, no_items, items_put, items_on}
use Rattle.lowered_pieces.specs.Emitted.{no_labels}
use Rattle.lowered_steps.specs.Setting.{kit_for}
use Rattle.lowered_steps.specs.Hands.{held_of, items_code, items_held}
use Rattle.size_values.specs.declared.sized.Sized.{out-Sized}
use Rattle.lowered_pieces.specs.Arms.{held_at}
use Rattle.checked_meaning.specs.Items.{item_typ}
use Rattle.lowered_steps.proofs.heads.+put_items.Goals as goal

pub returns-then-count-eq0-clause-code : goal.returns-then-count-eq0-clause-code
returns-then-count-eq0-clause-code t c =
    emits_as c.args.coding.now c.args.coding.now (λ name l. []) (λ name l. items_code c.args.setting.now.types.now (kit_for c.args.setting.now name)
    (held_of c.args.value.now) c.args.count c.args.free) no_labels no_labels
    (λ name. sym (no_items c.args.setting.now.types.now (kit_for c.args.setting.now name) (held_of c.args.value.now) c.args.count c.args.free
    c.if-count-eq0.true)) (λ name. refl) (emits_none c.args.coding.now)

pub returns-then-count-eq0-clause-parts : goal.returns-then-count-eq0-clause-parts
returns-then-count-eq0-clause-parts t c =
    held_done c.args.parts.now (items_held c.args.setting.now.types.now (kit_for c.args.setting.now (λ place typ. 0)) (held_of c.args.value.now)
    c.args.count c.args.free) (items_none c.args.setting.now.types.now (kit_for c.args.setting.now (λ place typ. 0)) (held_of c.args.value.now)
    c.args.count c.args.free c.if-count-eq0.true)

pub returns-clause-code : goal.returns-clause-code
returns-clause-code t c =
    items_put c.put_items.result c.args.setting.now (held_of c.args.value.now) c.args.coding.now c.put_apply_at.new.self c.put_items.new.coding
    c.args.count c.args.free c.in_ok-number.number c.in_ok-whole.whole c.in_ok-next.next
    c.in_ok-typ.typ c.count_literal.result c.count_literal.ensures c.if-count-eq0.false c.in_ok-typ.ensures c.in_ok-number.ensures c.in_ok-whole.ensures
    c.in_ok-next.ensures c.in_ok-put_apply_at.ensures c.put_items.ensures.code

pub returns-clause-parts : goal.returns-clause-parts
returns-clause-parts t c =
    ok_held c.put_items.result c.args.parts.now c.push.new.self c.put_items.new.parts _ (held_at c.args.free (item_typ (out-Sized c.args.value.now.typ)))
    (items_held c.args.setting.now.types.now (kit_for c.args.setting.now (λ place typ. 0)) (held_of c.args.value.now) (c.args.count - 1) c.in_ok-next.next)
    (items_held c.args.setting.now.types.now (kit_for c.args.setting.now (λ place typ. 0)) (held_of c.args.value.now) c.args.count c.args.free)
    c.in_ok-push.ensures.pushed
    (ap (λ u. held_at c.args.free u) c.in_ok-typ.ensures)
    (items_on c.args.setting.now.types.now (kit_for c.args.setting.now (λ place typ. 0)) (held_of c.args.value.now) c.args.count c.args.free
    c.in_ok-next.next c.if-count-eq0.false c.in_ok-next.ensures) c.put_items.ensures.parts
