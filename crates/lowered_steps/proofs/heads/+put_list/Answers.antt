use Rattle.std.proofs.Common.{sym, ap}
use Rattle.lowered_pieces.specs.Arms.{list_code, list_held}
use Rattle.lowered_pieces.specs.Emitted.{no_labels}
use Rattle.lowered_pieces.proofs.Emitting.{ok_same}
use Rattle.lowered_steps.specs.Setting.{kit_for}
use Rattle.lowered_steps.specs.Hands.{held_of}
use Rattle.lowered_steps.proofs.Opened.{list_parts, list_put, no_list}
use Rattle.lowered_steps.proofs.Taking.{held_done, just}
use Rattle.lowered_steps.proofs.heads.+put_list.Goals as goal

pub returns-then-count-eq0-clause-code : goal.returns-then-count-eq0-clause-code
returns-then-count-eq0-clause-code t c =
    ok_same c.put_end_test.result c.args.coding.now c.put_end_test.new.coding
    (λ name l. list_code c.args.setting.now.types.now (kit_for c.args.setting.now name) (held_of c.args.value.now) 0 c.args.free c.args.fail)
    (λ name l. list_code c.args.setting.now.types.now (kit_for c.args.setting.now name) (held_of c.args.value.now) c.args.count c.args.free c.args.fail)
    no_labels
    (λ name. ap (λ k. list_code c.args.setting.now.types.now (kit_for c.args.setting.now name) (held_of c.args.value.now) k c.args.free c.args.fail)
    (sym c.if-count-eq0.true)) c.put_end_test.ensures

pub returns-then-count-eq0-clause-parts : goal.returns-then-count-eq0-clause-parts
returns-then-count-eq0-clause-parts t c =
    just c.put_end_test.result (held_done c.args.parts.now (list_held c.args.setting.now.types.now (kit_for c.args.setting.now (λ place typ. 0))
    (held_of c.args.value.now) c.args.count c.args.free)
    (no_list c.args.setting.now.types.now (kit_for c.args.setting.now (λ place typ. 0)) (held_of c.args.value.now) c.args.count c.args.free
    c.if-count-eq0.true))

pub returns-clause-code : goal.returns-clause-code
returns-clause-code t c =
    list_put c.args.setting.now (held_of c.args.value.now) c.put_list.result (held_of c.in_ok-rest.rest) c.args.coding.now c.put_first_item.new.coding
    c.put_list.new.coding
    c.args.count c.args.free c.args.fail c.in_ok-next.next c.if-count-eq0.false c.in_ok-rest.ensures.rest c.in_ok-next.ensures c.in_ok-rest.ensures.code
    c.put_list.ensures.code

pub returns-clause-parts : goal.returns-clause-parts
returns-clause-parts t c =
    list_parts c.args.setting.now.types.now (kit_for c.args.setting.now (λ place typ. 0)) (held_of c.args.value.now) c.put_list.result
    (held_of c.in_ok-rest.rest) c.args.count c.args.free c.in_ok-next.next c.args.parts.now
    c.put_first_item.new.parts c.put_list.new.parts c.if-count-eq0.false c.in_ok-rest.ensures.rest c.in_ok-next.ensures c.in_ok-rest.ensures.parts
    c.put_list.ensures.parts
