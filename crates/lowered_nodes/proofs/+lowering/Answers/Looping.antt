-- Answers: loops.
use Rattle.std.proofs.Common.{◌∙◌, ◌+◌, ◌-◌, List, [], ◌∷◌, ◌++◌, map, ap, subst, arith, ◌&&◌}
use Rattle.lowered_ends.proofs.Counts.{foreach_parts, repeat_parts, while_parts}
use Rattle.lowered_ends.proofs.Masses.{four_masses, mass_some, masses, three_masses}
use Rattle.lowered_ends.proofs.Opened.{lowered_with, so_many, with_is}
use Rattle.lowered_ends.specs.Around.{callees_of, node_for}
use Rattle.lowered_nodes.proofs.Built.{bounds_put}
use Rattle.lowered_nodes.proofs.Joining.{ok_first}
use Rattle.lowered_ends.proofs.Lists.{four_of, three_of}
use Rattle.lowered_nodes.proofs.Pieces.{foreach_put, raised_jump, raised_stays, repeat_put, while_put}
use Rattle.lowered_nodes.proofs.Putting.{only_pushed, put_as}
use Rattle.lowered_nodes.specs.Walk.{inside_for, node_ok, nodes_for, piece_at}
use Rattle.lowered_pieces.specs.Emitted.{Emits, no_labels}
use Rattle.lowered_pieces.specs.Forms.{Piece, code_of, count_of}
use Rattle.lowered_pieces.specs.Places.{Local, Naming, Temp}
use Rattle.lowered_pieces.specs.Nodes.{is_empty}
use Rattle.lowered_steps.specs.Setting.{kit_for, reads_at, tables_for}
use Rattle.lowered_steps.specs.Stands.{named_of, stand_of}
use Rattle.lowered_steps.specs.Tails.{tail_of}
use Rattle.lowered_steps.specs.declared.stands.Named.{Named}
use Rattle.sail_core.specs.declared.tree.Core.{out-Core}
use Rattle.std.proofs.lemmas.Bool.{and_parts}
use Rattle.std.specs.Prelude.{OnOk}
use Rattle.jib.specs.declared.code.Instruction.TheVariants as I
use Rattle.jib.specs.declared.code.Target.TheVariants as J
use Rattle.sail_core.specs.declared.tree.Kind.TheVariants as K
use Rattle.jib.specs.declared.code.Source.TheVariants as R
use Rattle.lowered_nodes.proofs.+lowering.Goals as goal

pub put_while-returns-in_ok-put_jump_if-in-len3 : goal.loops::put_while-returns-in_ok-put_jump_if-in-len3
put_while-returns-in_ok-put_jump_if-in-len3 t c =
    let walk = c.args.walk.now in let setting = walk.setting.now in let around = walk.around.now in let node = c.args.node.now in let s = stand_of
    c.args.stand.now in let three = three_of _ _ _ _ c.in-len3.len_at_least c.in-len3.len_below c.measure-item.is c.test-item.is c.body-item.is in put_as
    c.put_nothing.result _ _ walk c.args.stand.now c.args.tail.now _ _ (λ name. with_is setting around name K.While node _ _ c.as_slice.ensures three)
    (while_put c.put_nothing.result (λ name. kit_for setting name) s (λ name. tail_of setting name c.args.tail.now) (out-Core node).place (λ name.
    inside_for walk name c.measure-item.result) (λ name. inside_for walk name c.test-item.result) (λ name. inside_for walk name c.body-item.result) _ _ _ _
    _ _ _ _ _ _ _ _ _ c.in_ok-label-in-len3.label c.in_ok-at_test-in-len3.at_test c.in_ok-fallen-in-len3.fallen c.in_ok-label-in-len3.ensures.first
    c.in_ok-at_test-in-len3.ensures c.in_ok-fallen-in-len3.ensures c.in_ok-label-in-len3.ensures.taken c.in_ok-put_constant-in-len3.ensures
    c.in_ok-put_goto-in-len3.ensures c.in_ok-put_label-in-len3.ensures c.in_ok-put_tick-in-len3.ensures (raised_stays _ _ s _ (λ name. inside_for walk name
    c.measure-item.result) c.in_ok-further-in-len3.ensures c.in_ok-put_inside-in-len3.ensures) c.in_ok-put_fallen-in-len3.ensures (raised_stays _ _ s _ (λ
    name. inside_for walk name c.body-item.result) c.in_ok-further-in-len3.ensures c.in_ok-put_inside-in-len3-2.ensures) c.in_ok-put_label-in-len3-2.ensures
    (raised_stays _ _ s _ (λ name. inside_for walk name c.test-item.result) c.in_ok-further-in-len3.ensures c.in_ok-put_inside-in-len3-3.ensures)
    (raised_jump (λ name. kit_for setting name) _ _ s _ _ c.in_ok-further-in-len3.ensures c.in_ok-put_jump_if-in-len3.ensures) c.put_nothing.ensures)

pub put_repeat-returns-in_ok-end_arm-in-len3 : goal.loops::put_repeat-returns-in_ok-end_arm-in-len3
put_repeat-returns-in_ok-end_arm-in-len3 t c =
    let walk = c.args.walk.now in let setting = walk.setting.now in let around = walk.around.now in let node = c.args.node.now in let s = stand_of
    c.args.stand.now in let three = three_of _ _ _ _ c.in-len3.len_at_least c.in-len3.len_below c.measure-item.is c.body-item.is c.test-item.is in put_as
    c.put_nothing.result _ _ walk c.args.stand.now c.args.tail.now _ _ (λ name. with_is setting around name K.Repeat node _ _ c.as_slice.ensures three)
    (repeat_put c.put_nothing.result (λ name. kit_for setting name) s (λ name. tail_of setting name c.args.tail.now) (out-Core node).place (λ name.
    inside_for walk name c.measure-item.result) (λ name. inside_for walk name c.body-item.result) (λ name. inside_for walk name c.test-item.result) _ _ _ _
    _ _ _ _ _ _ _ _ c.in_ok-label-in-len3.label c.in_ok-fallen-in-len3.fallen c.in_ok-end-in-len3.end c.in_ok-label-in-len3.ensures.first
    c.in_ok-fallen-in-len3.ensures c.in_ok-end-in-len3.ensures c.in_ok-label-in-len3.ensures.taken c.in_ok-put_constant-in-len3.ensures
    c.in_ok-put_label-in-len3.ensures c.in_ok-put_tick-in-len3.ensures (raised_stays _ _ s _ (λ name. inside_for walk name c.measure-item.result)
    c.in_ok-further-in-len3.ensures c.in_ok-put_inside-in-len3.ensures) c.in_ok-put_fallen-in-len3.ensures (raised_stays _ _ s _ (λ name. inside_for walk
    name c.body-item.result) c.in_ok-further-in-len3.ensures c.in_ok-put_inside-in-len3-2.ensures) (raised_stays _ _ s _ (λ name. inside_for walk name
    c.test-item.result) c.in_ok-further-in-len3.ensures c.in_ok-put_inside-in-len3-3.ensures) (raised_jump (λ name. kit_for setting name) _ _ s _ _
    c.in_ok-further-in-len3.ensures c.in_ok-put_jump_if-in-len3.ensures) c.in_ok-end_arm-in-len3.ensures c.put_nothing.ensures)

pub put_while-put_inside-requires : goal.loops::put_while-put_inside-requires
put_while-put_inside-requires t c =
    let walk = c.args.walk.now in let setting = walk.setting.now in let around = walk.around.now in let node = c.args.node.now in let three = three_of _ _ _
    _ c.in-len3.len_at_least c.in-len3.len_below c.measure-item.is c.test-item.is c.body-item.is in (
      omega (
        arith,
        three_masses _ _ _ _
            c.in-len3.len_at_least c.measure-item.is c.test-item.is c.body-item.is,
        ap masses c.as_slice.ensures,
        mass_some c.test-item.result,
        c.decreases,
      ),
      λ
          name. (and_parts (node_ok walk name c.measure-item.result) (node_ok walk name c.test-item.result && node_ok walk name c.body-item.result)
          (lowered_with
          setting around name K.While node _ _ c.as_slice.ensures three (c.requires name))).0,
    )

pub put_while-put_inside-requires-in-len3 : goal.loops::put_while-put_inside-requires-in-len3
put_while-put_inside-requires-in-len3 t c =
    let walk = c.args.walk.now in let setting = walk.setting.now in let around = walk.around.now in let node = c.args.node.now in let three = three_of _ _ _
    _ c.in-len3.len_at_least c.in-len3.len_below c.measure-item.is c.test-item.is c.body-item.is in (
      omega (
        arith,
        three_masses _ _ _ _
            c.in-len3.len_at_least c.measure-item.is c.test-item.is c.body-item.is,
        ap masses c.as_slice.ensures,
        mass_some c.measure-item.result,
        c.decreases,
      ),
      λ
          name. (and_parts (node_ok walk name c.test-item.result) (node_ok walk name c.body-item.result) (and_parts (node_ok walk name c.measure-item.result)
          (node_ok walk name c.test-item.result && node_ok walk name c.body-item.result) (lowered_with setting around name K.While node _ _ c.as_slice.ensures
          three (c.requires name))).1).1,
    )

pub put_while-put_inside-requires-in-len3-2 : goal.loops::put_while-put_inside-requires-in-len3-2
put_while-put_inside-requires-in-len3-2 t c =
    let walk = c.args.walk.now in let setting = walk.setting.now in let around = walk.around.now in let node = c.args.node.now in let three = three_of _ _ _
    _ c.in-len3.len_at_least c.in-len3.len_below c.measure-item.is c.test-item.is c.body-item.is in (
      omega (
        arith,
        three_masses _ _ _ _
            c.in-len3.len_at_least c.measure-item.is c.test-item.is c.body-item.is,
        ap masses c.as_slice.ensures,
        mass_some c.measure-item.result,
        c.decreases,
      ),
      λ
          name. (and_parts (node_ok walk name c.test-item.result) (node_ok walk name c.body-item.result) (and_parts (node_ok walk name c.measure-item.result)
          (node_ok walk name c.test-item.result && node_ok walk name c.body-item.result) (lowered_with setting around name K.While node _ _ c.as_slice.ensures
          three (c.requires name))).1).0,
    )

pub put_while-returns-in_default : goal.loops::put_while-returns-in_default
put_while-returns-in_default t c =
    let walk = c.args.walk.now in let setting = walk.setting.now in let around = walk.around.now in let node = c.args.node.now in let here : Naming = λ
    place typ. 0 in absurd (omega (
      arith,
      so_many (node_for setting around here) _ _ _ c.as_slice.ensures (while_parts setting.types.now (callees_of setting
          around) (tables_for setting around.instances.now) (out-Core node).number (nodes_for walk here (out-Core node).parts) (c.requires here)),
    ))

pub put_while-returns-in_default-2 : goal.loops::put_while-returns-in_default-2
put_while-returns-in_default-2 t c =
    let walk = c.args.walk.now in let setting = walk.setting.now in let around = walk.around.now in let node = c.args.node.now in let here : Naming = λ
    place typ. 0 in absurd (omega (
      arith,
      so_many (node_for setting around here) _ _ _ c.as_slice.ensures (while_parts setting.types.now (callees_of setting
          around) (tables_for setting around.instances.now) (out-Core node).number (nodes_for walk here (out-Core node).parts) (c.requires here)),
    ))

pub put_repeat-put_inside-requires : goal.loops::put_repeat-put_inside-requires
put_repeat-put_inside-requires t c =
    let walk = c.args.walk.now in let setting = walk.setting.now in let around = walk.around.now in let node = c.args.node.now in let three = three_of _ _ _
    _ c.in-len3.len_at_least c.in-len3.len_below c.measure-item.is c.body-item.is c.test-item.is in (
      omega (
        arith,
        three_masses _ _ _ _
            c.in-len3.len_at_least c.measure-item.is c.body-item.is c.test-item.is,
        ap masses c.as_slice.ensures,
        mass_some c.body-item.result,
        c.decreases,
      ),
      λ
          name. (and_parts (node_ok walk name c.measure-item.result) (node_ok walk name c.body-item.result && node_ok walk name c.test-item.result)
          (lowered_with
          setting around name K.Repeat node _ _ c.as_slice.ensures three (c.requires name))).0,
    )

pub put_repeat-put_inside-requires-in-len3 : goal.loops::put_repeat-put_inside-requires-in-len3
put_repeat-put_inside-requires-in-len3 t c =
    let walk = c.args.walk.now in let setting = walk.setting.now in let around = walk.around.now in let node = c.args.node.now in let three = three_of _ _ _
    _ c.in-len3.len_at_least c.in-len3.len_below c.measure-item.is c.body-item.is c.test-item.is in (
      omega (
        arith,
        three_masses _ _ _ _
            c.in-len3.len_at_least c.measure-item.is c.body-item.is c.test-item.is,
        ap masses c.as_slice.ensures,
        mass_some c.measure-item.result,
        c.decreases,
      ),
      λ
          name. (and_parts (node_ok walk name c.body-item.result) (node_ok walk name c.test-item.result) (and_parts (node_ok walk name c.measure-item.result)
          (node_ok walk name c.body-item.result && node_ok walk name c.test-item.result) (lowered_with setting around name K.Repeat node _ _ c.as_slice.ensures
          three (c.requires name))).1).0,
    )

pub put_repeat-put_inside-requires-in-len3-2 : goal.loops::put_repeat-put_inside-requires-in-len3-2
put_repeat-put_inside-requires-in-len3-2 t c =
    let walk = c.args.walk.now in let setting = walk.setting.now in let around = walk.around.now in let node = c.args.node.now in let three = three_of _ _ _
    _ c.in-len3.len_at_least c.in-len3.len_below c.measure-item.is c.body-item.is c.test-item.is in (
      omega (
        arith,
        three_masses _ _ _ _
            c.in-len3.len_at_least c.measure-item.is c.body-item.is c.test-item.is,
        ap masses c.as_slice.ensures,
        mass_some c.measure-item.result,
        c.decreases,
      ),
      λ
          name. (and_parts (node_ok walk name c.body-item.result) (node_ok walk name c.test-item.result) (and_parts (node_ok walk name c.measure-item.result)
          (node_ok walk name c.body-item.result && node_ok walk name c.test-item.result) (lowered_with setting around name K.Repeat node _ _ c.as_slice.ensures
          three (c.requires name))).1).1,
    )

pub put_repeat-returns-in_default : goal.loops::put_repeat-returns-in_default
put_repeat-returns-in_default t c =
    let walk = c.args.walk.now in let setting = walk.setting.now in let around = walk.around.now in let node = c.args.node.now in let here : Naming = λ
    place typ. 0 in absurd (omega (
      arith,
      so_many (node_for setting around here) _ _ _ c.as_slice.ensures (repeat_parts setting.types.now (callees_of
          setting around) (tables_for setting around.instances.now) (out-Core node).number (nodes_for walk here (out-Core node).parts) (c.requires here)),
    ))

pub put_repeat-returns-in_default-2 : goal.loops::put_repeat-returns-in_default-2
put_repeat-returns-in_default-2 t c =
    let walk = c.args.walk.now in let setting = walk.setting.now in let around = walk.around.now in let node = c.args.node.now in let here : Naming = λ
    place typ. 0 in absurd (omega (
      arith,
      so_many (node_for setting around here) _ _ _ c.as_slice.ensures (repeat_parts setting.types.now (callees_of
          setting around) (tables_for setting around.instances.now) (out-Core node).number (nodes_for walk here (out-Core node).parts) (c.requires here)),
    ))

pub put_counted-returns-in-len4 : goal.loops::put_counted-returns-in-len4
put_counted-returns-in-len4 t c =
    let walk = c.args.walk.now in let setting = walk.setting.now in let around = walk.around.now in let node = c.args.node.now in let four = four_of _ _ _ _
    _ c.in-len4.len_at_least c.in-len4.len_below c.first-item.is c.last-item.is c.step-item.is c.body-item.is in put_as c.put_foreach.result _ _ walk
    c.args.stand.now c.args.tail.now _ _ (λ name. with_is setting around name (K.Foreach c.args.name.now c.args.counting) node _ _ c.as_slice.ensures four)
    c.put_foreach.ensures

pub put_counted-put_foreach-requires : goal.loops::put_counted-put_foreach-requires
put_counted-put_foreach-requires t c =
    let walk = c.args.walk.now in let setting = walk.setting.now in let around = walk.around.now in let node = c.args.node.now in let four = four_of _ _ _ _
    _ c.in-len4.len_at_least c.in-len4.len_below c.first-item.is c.last-item.is c.step-item.is c.body-item.is in (
      omega (
        arith,
        four_masses _ _ _ _ _
            c.in-len4.len_at_least c.first-item.is c.last-item.is c.step-item.is c.body-item.is,
        ap masses c.as_slice.ensures,
        c.decreases,
      ),
      λ name. (and_parts (is_empty (reads_at setting.reads.now c.args.name.now)) _ (lowered_with setting around name (K.Foreach c.args.name.now
          c.args.counting) node _ _ c.as_slice.ensures four (c.requires name))).1,
    )

pub put_counted-returns-in_default : goal.loops::put_counted-returns-in_default
put_counted-returns-in_default t c =
    let walk = c.args.walk.now in let setting = walk.setting.now in let around = walk.around.now in let node = c.args.node.now in let here : Naming = λ
    place typ. 0 in absurd (omega (
      arith,
      so_many (node_for setting around here) _ _ _ c.as_slice.ensures (foreach_parts setting.types.now (callees_of
          setting around) (tables_for setting around.instances.now) (out-Core node).number c.args.name.now c.args.counting (nodes_for walk here (out-Core
          node).parts) (c.requires here)),
    ))

pub put_counted-returns-in_default-2 : goal.loops::put_counted-returns-in_default-2
put_counted-returns-in_default-2 t c =
    let walk = c.args.walk.now in let setting = walk.setting.now in let around = walk.around.now in let node = c.args.node.now in let here : Naming = λ
    place typ. 0 in absurd (omega (
      arith,
      so_many (node_for setting around here) _ _ _ c.as_slice.ensures (foreach_parts setting.types.now (callees_of
          setting around) (tables_for setting around.instances.now) (out-Core node).number c.args.name.now c.args.counting (nodes_for walk here (out-Core
          node).parts) (c.requires here)),
    ))

pub put_bounds-put_held-requires : goal.loops::put_bounds-put_held-requires
put_bounds-put_held-requires t c =
    let walk = c.args.walk.now in (
      omega (arith, c.decreases),
      λ name. (and_parts (node_ok walk name c.args.counted.now.first.now) (node_ok walk name
          c.args.counted.now.last.now && (node_ok walk name c.args.counted.now.step.now && node_ok walk name c.args.counted.now.body.now)) (c.requires name)).0,
    )

pub put_bounds-put_held-requires-2 : goal.loops::put_bounds-put_held-requires-2
put_bounds-put_held-requires-2 t c =
    let walk = c.args.walk.now in (
      omega (arith, c.decreases),
      λ name. (and_parts (node_ok walk name c.args.counted.now.last.now) (node_ok walk name
          c.args.counted.now.step.now && node_ok walk name c.args.counted.now.body.now) (and_parts (node_ok walk name c.args.counted.now.first.now)
          (node_ok walk
          name c.args.counted.now.last.now && (node_ok walk name c.args.counted.now.step.now && node_ok walk name c.args.counted.now.body.now)) (c.requires
          name)).1).0,
    )

pub put_bounds-put_held-requires-3 : goal.loops::put_bounds-put_held-requires-3
put_bounds-put_held-requires-3 t c =
    let walk = c.args.walk.now in (
      omega (arith, c.decreases),
      λ name. (and_parts (node_ok walk name c.args.counted.now.step.now) (node_ok walk name
          c.args.counted.now.body.now) (and_parts (node_ok walk name c.args.counted.now.last.now) (node_ok walk name c.args.counted.now.step.now && node_ok walk
          name c.args.counted.now.body.now) (and_parts (node_ok walk name c.args.counted.now.first.now) (node_ok walk name c.args.counted.now.last.now &&
          (node_ok
          walk name c.args.counted.now.step.now && node_ok walk name c.args.counted.now.body.now)) (c.requires name)).1).1).0,
    )

pub put_bounds-returns : goal.loops::put_bounds-returns
put_bounds-returns t c =
    let walk = c.args.walk.now in let setting = walk.setting.now in let s = stand_of c.args.stand.now in let p : Naming → Piece = λ name. piece_at walk name
    c.args.counted.now.first.now in let q : Naming → Piece = λ name. piece_at walk name c.args.counted.now.last.now in let r : Naming → Piece = λ name.
    piece_at walk name c.args.counted.now.step.now in bounds_put c.put_held-3.result s p q r (λ name. kit_for setting name) _ _ _ _ _ _
    c.in_ok-further.ensures c.in_ok-further-2.ensures c.in_ok-put_held.ensures c.in_ok-put_held-2.ensures c.put_held-3.ensures

pub put_body-put_inside-requires : goal.loops::put_body-put_inside-requires
put_body-put_inside-requires t c =
    (omega (arith, c.decreases), c.requires)

pub put_foreach-put_bounds-requires : goal.loops::put_foreach-put_bounds-requires
put_foreach-put_bounds-requires t c =
    (omega (arith, c.decreases, mass_some c.args.counted.now.body.now), c.requires)

pub put_foreach-put_body-requires : goal.loops::put_foreach-put_body-requires
put_foreach-put_body-requires t c =
    let walk = c.args.walk.now in (
      omega (arith, c.decreases, mass_some c.args.counted.now.first.now),
      λ name. (and_parts (node_ok walk name
          c.args.counted.now.step.now) (node_ok walk name c.args.counted.now.body.now) (and_parts (node_ok walk name c.args.counted.now.last.now) (node_ok walk
          name c.args.counted.now.step.now && node_ok walk name c.args.counted.now.body.now) (and_parts (node_ok walk name c.args.counted.now.first.now)
          (node_ok
          walk name c.args.counted.now.last.now && (node_ok walk name c.args.counted.now.step.now && node_ok walk name c.args.counted.now.body.now)) (c.requires
          name)).1).1).1,
    )

pub put_foreach-returns : goal.loops::put_foreach-returns
put_foreach-returns t c =
    let walk = c.args.walk.now in let setting = walk.setting.now in let s = stand_of c.args.stand.now in foreach_put c.put_nothing.result (λ name. kit_for
    setting name) s (λ name. tail_of setting name c.args.tail.now) c.args.counted.now.name.now c.args.counted.now.counting (λ name. piece_at walk name
    c.args.counted.now.first.now) (λ name. piece_at walk name c.args.counted.now.last.now) (λ name. piece_at walk name c.args.counted.now.step.now) (λ name.
    inside_for walk name c.args.counted.now.body.now) _ _ _ _ _ _ _ _ _ _ _ _ c.in_ok-label.label c.in_ok-at_test.at_test c.in_ok-end.end
    c.in_ok-label.ensures.first c.in_ok-at_test.ensures c.in_ok-end.ensures c.in_ok-label.ensures.taken c.in_ok-put_bounds.ensures c.in_ok-put_goto.ensures
    c.in_ok-put_label.ensures c.in_ok-put_tick.ensures c.in_ok-put_body.ensures c.in_ok-put_next.ensures c.in_ok-put_label-2.ensures
    c.in_ok-put_turn.ensures c.in_ok-put_label-3.ensures c.put_nothing.ensures

pub put_body-returns : goal.loops::put_body-returns
put_body-returns t c =
    let walk = c.args.walk.now in let setting = walk.setting.now in let s = stand_of c.args.stand.now in let nm = c.args.counted.now.name.now in let inside
    : Naming → Piece = λ name. inside_for walk name c.args.counted.now.body.now in let names = c.as_slice.result.now in ok_first c.put_inside.result _ _ _ _
    _ _ (subst (λ n. Emits c.args.coding.now c.put_copy.new.self (λ name l. I.Copy (J.Slot (name (Local n) setting.integer)) (R.Slot (name (Temp s.temp)
    setting.integer)) ∷ []) no_labels) c.in_ok-count_names.ensures c.in_ok-put_copy.ensures) (subst (λ sc. OnOk c.put_inside.result (Emits
    c.put_copy.new.self c.put_inside.new.coding (λ name l. code_of (inside name) (record s { scope = sc; temp = s.temp + 3 }) l) (λ name. count_of (inside
    name)))) (ap (λ (ns : List Named). map named_of ns ++ s.scope) (only_pushed _ _ _ _ c.as_slice.ensures c.in_ok-push.ensures.pushed c.new-names.ensures)
    ∙ ap (λ k. record { name = nm; place = Local k } ∷ s.scope) c.in_ok-count_names.ensures) (subst (λ n. OnOk c.put_inside.result (Emits
    c.put_copy.new.self c.put_inside.new.coding (λ name l. code_of (inside name) (record s { scope = map named_of names ++ s.scope; temp = n }) l) (λ name.
    count_of (inside name)))) c.in_ok-further.ensures c.put_inside.ensures))
