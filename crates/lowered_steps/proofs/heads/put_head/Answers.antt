use Rattle.std.proofs.Common.{◌≡◌, ◌++◌, map, sym, ap, subst}
use Rattle.lowered_steps.proofs.Opened.{two_held}
use Rattle.lowered_steps.proofs.Taking.{held_done, just}
use Rattle.lowered_pieces.specs.Emitted.{Emits, no_labels}
use Rattle.lowered_steps.specs.Setting.{kit_for}
use Rattle.std.specs.Prelude.{OnOk}
use Rattle.lowered_steps.specs.Hands.{held_of}
use Rattle.lowered_pieces.specs.Arms.{head_taken, takes_code, takes_held, word_takes}
use Rattle.std.specs.Prelude.{IfOk}
use Rattle.lowered_steps.proofs.heads.put_head.Goals as goal

pub returns-in_ok-put_literal_test-in-Is-clause-code : goal.returns-in_ok-put_literal_test-in-Is-clause-code
returns-in_ok-put_literal_test-in-Is-clause-code c =
    subst (λ x. Emits c.args.coding.now c.put_literal_test.new.coding (λ name l. (head_taken c.args.setting.now.types.now (kit_for c.args.setting.now name)
    (held_of c.args.value.now) x c.args.count c.args.free c.args.fail).code) no_labels) (sym c.in-Is.is) c.in_ok-put_literal_test-in-Is.ensures

pub returns-in_ok-put_literal_test-in-Is-clause-parts : goal.returns-in_ok-put_literal_test-in-Is-clause-parts
returns-in_ok-put_literal_test-in-Is-clause-parts c =
    held_done c.args.parts.now (head_taken c.args.setting.now.types.now (kit_for c.args.setting.now (λ place typ. 0)) (held_of c.args.value.now)
    c.args.head.now c.args.count c.args.free c.args.fail).parts (ap (λ x. (head_taken c.args.setting.now.types.now (kit_for c.args.setting.now
    (λ place typ. 0)) (held_of c.args.value.now) x c.args.count c.args.free c.args.fail).parts) c.in-Is.is)

pub returns-in_ok-put_literal_test-in-Is-clause-free : goal.returns-in_ok-put_literal_test-in-Is-clause-free
returns-in_ok-put_literal_test-in-Is-clause-free c =
    ap (λ x. (head_taken c.args.setting.now.types.now (kit_for c.args.setting.now (λ place typ. 0)) (held_of c.args.value.now) x c.args.count c.args.free
    c.args.fail).free) (sym c.in-Is.is)

pub returns-in_ok-put_fields-in-Tuple-clause-code : goal.returns-in_ok-put_fields-in-Tuple-clause-code
returns-in_ok-put_fields-in-Tuple-clause-code c =
    subst (λ x. OnOk c.further.result (Emits c.args.coding.now c.put_fields.new.coding (λ name l.
    (head_taken c.args.setting.now.types.now (kit_for c.args.setting.now name) (held_of c.args.value.now) x c.args.count c.args.free c.args.fail).code)
    no_labels)) (sym c.in-Tuple.is) (just c.further.result c.in_ok-put_fields-in-Tuple.ensures.code)

pub returns-in_ok-put_fields-in-Tuple-clause-parts : goal.returns-in_ok-put_fields-in-Tuple-clause-parts
returns-in_ok-put_fields-in-Tuple-clause-parts c =
    subst (λ x. OnOk c.further.result (map held_of c.put_fields.new.parts ≡ map held_of c.args.parts.now ++
    (head_taken c.args.setting.now.types.now (kit_for c.args.setting.now (λ place typ. 0)) (held_of c.args.value.now) x c.args.count c.args.free
    c.args.fail).parts)) (sym c.in-Tuple.is) (just c.further.result c.in_ok-put_fields-in-Tuple.ensures.parts)

pub returns-in_ok-put_fields-in-Tuple-clause-free : goal.returns-in_ok-put_fields-in-Tuple-clause-free
returns-in_ok-put_fields-in-Tuple-clause-free c =
    subst (λ x. IfOk c.further.result (λ m. m ≡ (head_taken c.args.setting.now.types.now (kit_for c.args.setting.now (λ place typ. 0))
    (held_of c.args.value.now) x c.args.count c.args.free c.args.fail).free)) (sym c.in-Tuple.is) c.further.ensures

pub returns-in_ok-put_items-in-Vector-clause-code : goal.returns-in_ok-put_items-in-Vector-clause-code
returns-in_ok-put_items-in-Vector-clause-code c =
    subst (λ x. OnOk c.further-in-Vector.result (Emits c.args.coding.now c.put_items.new.coding (λ name l.
    (head_taken c.args.setting.now.types.now (kit_for c.args.setting.now name) (held_of c.args.value.now) x c.args.count c.args.free c.args.fail).code)
    no_labels)) (sym c.in-Vector.is) (just c.further-in-Vector.result c.in_ok-put_items-in-Vector.ensures.code)

pub returns-in_ok-put_items-in-Vector-clause-parts : goal.returns-in_ok-put_items-in-Vector-clause-parts
returns-in_ok-put_items-in-Vector-clause-parts c =
    subst (λ x. OnOk c.further-in-Vector.result (map held_of c.put_items.new.parts ≡ map held_of c.args.parts.now ++
    (head_taken c.args.setting.now.types.now (kit_for c.args.setting.now (λ place typ. 0)) (held_of c.args.value.now) x c.args.count c.args.free
    c.args.fail).parts)) (sym c.in-Vector.is) (just c.further-in-Vector.result c.in_ok-put_items-in-Vector.ensures.parts)

pub returns-in_ok-put_items-in-Vector-clause-free : goal.returns-in_ok-put_items-in-Vector-clause-free
returns-in_ok-put_items-in-Vector-clause-free c =
    subst (λ x. IfOk c.further-in-Vector.result (λ m. m ≡ (head_taken c.args.setting.now.types.now (kit_for c.args.setting.now (λ place typ. 0))
    (held_of c.args.value.now) x c.args.count c.args.free c.args.fail).free)) (sym c.in-Vector.is) c.further-in-Vector.ensures

pub returns-in_ok-put_list-in-List-clause-code : goal.returns-in_ok-put_list-in-List-clause-code
returns-in_ok-put_list-in-List-clause-code c =
    subst (λ x. OnOk c.behind_list.result (Emits c.args.coding.now c.put_list.new.coding (λ name l.
    (head_taken c.args.setting.now.types.now (kit_for c.args.setting.now name) (held_of c.args.value.now) x c.args.count c.args.free c.args.fail).code)
    no_labels)) (sym c.in-List.is)
    (just c.behind_list.result c.in_ok-put_list-in-List.ensures.code)

pub returns-in_ok-put_list-in-List-clause-parts : goal.returns-in_ok-put_list-in-List-clause-parts
returns-in_ok-put_list-in-List-clause-parts c =
    subst (λ x. OnOk c.behind_list.result (map held_of c.put_list.new.parts ≡ map held_of c.args.parts.now ++
    (head_taken c.args.setting.now.types.now (kit_for c.args.setting.now (λ place typ. 0)) (held_of c.args.value.now) x c.args.count c.args.free
    c.args.fail).parts)) (sym c.in-List.is)
    (just c.behind_list.result c.in_ok-put_list-in-List.ensures.parts)

pub returns-in_ok-put_list-in-List-clause-free : goal.returns-in_ok-put_list-in-List-clause-free
returns-in_ok-put_list-in-List-clause-free c =
    subst (λ x. IfOk c.behind_list.result (λ m. m ≡ (head_taken c.args.setting.now.types.now (kit_for c.args.setting.now (λ place typ. 0))
    (held_of c.args.value.now) x c.args.count c.args.free c.args.fail).free)) (sym c.in-List.is) c.behind_list.ensures

pub returns-in_ok-push-in-Cons-clause-code : goal.returns-in_ok-push-in-Cons-clause-code
returns-in_ok-push-in-Cons-clause-code c =
    subst (λ x. OnOk c.further-in-Cons.result (Emits c.args.coding.now c.put_first_item.new.coding (λ name l.
    (head_taken c.args.setting.now.types.now (kit_for c.args.setting.now name) (held_of c.args.value.now) x c.args.count c.args.free c.args.fail).code)
    no_labels)) (sym c.in-Cons.is)
    (just c.further-in-Cons.result c.in_ok-rest-in-Cons.ensures.code)

pub returns-in_ok-push-in-Cons-clause-parts : goal.returns-in_ok-push-in-Cons-clause-parts
returns-in_ok-push-in-Cons-clause-parts c =
    subst (λ x. OnOk c.further-in-Cons.result (map held_of c.push.new.self ≡ map held_of c.args.parts.now ++
    (head_taken c.args.setting.now.types.now (kit_for c.args.setting.now (λ place typ. 0)) (held_of c.args.value.now) x c.args.count c.args.free
    c.args.fail).parts)) (sym c.in-Cons.is)
    (just c.further-in-Cons.result (two_held c.args.setting.now.types.now (kit_for c.args.setting.now (λ place typ. 0)) (held_of c.args.value.now)
    c.args.free c.in_ok-rest-in-Cons.rest c.args.parts.now c.put_first_item.new.parts c.push.new.self c.in_ok-rest-in-Cons.ensures.rest
    c.in_ok-rest-in-Cons.ensures.parts
    c.in_ok-push-in-Cons.ensures.pushed))

pub returns-in_ok-push-in-Cons-clause-free : goal.returns-in_ok-push-in-Cons-clause-free
returns-in_ok-push-in-Cons-clause-free c =
    subst (λ x. IfOk c.further-in-Cons.result (λ m. m ≡ (head_taken c.args.setting.now.types.now (kit_for c.args.setting.now (λ place typ. 0))
    (held_of c.args.value.now) x c.args.count c.args.free c.args.fail).free)) (sym c.in-Cons.is) c.further-in-Cons.ensures

pub returns-in_ok-put_word_parts-in-Cut-clause-code : goal.returns-in_ok-put_word_parts-in-Cut-clause-code
returns-in_ok-put_word_parts-in-Cut-clause-code c =
    subst (λ x. OnOk c.further-in-Cut.result (Emits c.args.coding.now c.put_word_parts.new.coding (λ name l.
    (head_taken c.args.setting.now.types.now (kit_for c.args.setting.now name) (held_of c.args.value.now) x c.args.count c.args.free c.args.fail).code)
    no_labels)) (sym c.in-Cut.is)
    (just c.further-in-Cut.result (subst (λ ws. Emits c.args.coding.now c.put_word_parts.new.coding (λ name l. takes_code c.args.setting.now.types.now
    (kit_for c.args.setting.now name) (word_takes c.args.setting.now.types.now (kit_for c.args.setting.now name) (held_of c.args.value.now) ws) c.args.free)
    no_labels) c.as_slice-widths.ensures c.in_ok-put_word_parts-in-Cut.ensures.code))

pub returns-in_ok-put_word_parts-in-Cut-clause-parts : goal.returns-in_ok-put_word_parts-in-Cut-clause-parts
returns-in_ok-put_word_parts-in-Cut-clause-parts c =
    subst (λ x. OnOk c.further-in-Cut.result (map held_of c.put_word_parts.new.parts ≡ map held_of c.args.parts.now ++
    (head_taken c.args.setting.now.types.now (kit_for c.args.setting.now (λ place typ. 0)) (held_of c.args.value.now) x c.args.count c.args.free
    c.args.fail).parts)) (sym c.in-Cut.is)
    (just c.further-in-Cut.result (subst (λ ws. map held_of c.put_word_parts.new.parts ≡ map held_of c.args.parts.now ++ takes_held
    c.args.setting.now.types.now (kit_for c.args.setting.now (λ place typ. 0)) (word_takes c.args.setting.now.types.now
    (kit_for c.args.setting.now (λ place typ. 0)) (held_of c.args.value.now) ws) c.args.free)
    c.as_slice-widths.ensures c.in_ok-put_word_parts-in-Cut.ensures.parts))

pub returns-in_ok-put_word_parts-in-Cut-clause-free : goal.returns-in_ok-put_word_parts-in-Cut-clause-free
returns-in_ok-put_word_parts-in-Cut-clause-free c =
    subst (λ x. IfOk c.further-in-Cut.result (λ m. m ≡ (head_taken c.args.setting.now.types.now (kit_for c.args.setting.now (λ place typ. 0))
    (held_of c.args.value.now) x c.args.count c.args.free c.args.fail).free)) (sym c.in-Cut.is) c.further-in-Cut.ensures

pub returns-in-Constructor-clause-code : goal.returns-in-Constructor-clause-code
returns-in-Constructor-clause-code c =
    subst (λ x. OnOk c.put_of_union.result (Emits c.args.coding.now c.put_of_union.new.coding (λ name l.
    (head_taken c.args.setting.now.types.now (kit_for c.args.setting.now name) (held_of c.args.value.now) x c.args.count c.args.free c.args.fail).code) no_labels)) (sym c.in-Constructor.is) c.put_of_union.ensures.code

pub returns-in-Constructor-clause-parts : goal.returns-in-Constructor-clause-parts
returns-in-Constructor-clause-parts c =
    subst (λ x. OnOk c.put_of_union.result (map held_of c.put_of_union.new.parts ≡ map held_of c.args.parts.now ++
    (head_taken c.args.setting.now.types.now (kit_for c.args.setting.now (λ place typ. 0)) (held_of c.args.value.now) x c.args.count c.args.free c.args.fail).parts)) (sym c.in-Constructor.is) c.put_of_union.ensures.parts

pub returns-in-Constructor-clause-free : goal.returns-in-Constructor-clause-free
returns-in-Constructor-clause-free c =
    subst (λ x. IfOk c.put_of_union.result (λ m. m ≡ (head_taken c.args.setting.now.types.now (kit_for c.args.setting.now (λ place typ. 0)) (held_of c.args.value.now) x c.args.count c.args.free c.args.fail).free)) (sym c.in-Constructor.is)
    c.put_of_union.ensures.free
