-- Answers: branches of truths, and what ends a run or a function.
use Rattle.std.proofs.Common.{◌∙◌, ◌+◌, ◌-◌, List, [], ◌∷◌, ◌++◌, sym, ap, subst, arith, ◌&&◌}
use Rattle.lowered_ends.proofs.Counts.{assert_parts, both_parts, exit_parts, if_most, if_parts, or_parts, return_parts, throw_parts, when_parts}
use Rattle.lowered_ends.proofs.Lists.{behind_two, first_of, none_of, one_of, two_and, two_of}
use Rattle.lowered_ends.proofs.Masses.{mass_some, masses, one_mass, two_masses, two_rest_mass}
use Rattle.lowered_ends.proofs.Opened.{lowered_with, so_many, so_most, so_some, with_is}
use Rattle.lowered_ends.specs.Around.{callees_of, node_for}
use Rattle.lowered_nodes.proofs.Forms.{if_alone, if_both, if_lowered, met_if}
use Rattle.lowered_nodes.proofs.Joining.{ok_last, ok_more}
use Rattle.lowered_nodes.proofs.Pieces.{Plain, and_put, assert_put, if_put, or_put, when_put}
use Rattle.lowered_nodes.proofs.Putting.{put_as}
use Rattle.lowered_nodes.specs.Walk.{again_for, again_labels, if_for, inside_for, node_ok, nodes_for, piece_at, second_for, second_ok}
use Rattle.lowered_pieces.specs.Chains.{many}
use Rattle.lowered_pieces.specs.Emitted.{Emits}
use Rattle.lowered_pieces.specs.Forms.{met_tail, return_piece, stop_piece, throw_piece, unit_piece}
use Rattle.lowered_pieces.specs.Places.{Naming}
use Rattle.lowered_steps.specs.Setting.{kit_for, number_for, tables_for}
use Rattle.lowered_steps.specs.Stands.{stand_of}
use Rattle.lowered_steps.specs.Tails.{tail_of}
use Rattle.model_state.specs.declared.cause.Cause.{Cause}
use Rattle.sail_core.specs.declared.tree.Core.{Core, out-Core}
use Rattle.sized_nodes.specs.declared.trees.Case.{Case}
use Rattle.std.proofs.lemmas.Bool.{and_parts}
use Rattle.std.specs.Prelude.{OnOk}
use Rattle.model_state.specs.declared.cause.Cause.TheVariants as C
use Rattle.jib.specs.declared.code.Instruction.TheVariants as I
use Rattle.sail_core.specs.declared.tree.Kind.TheVariants as K
use Rattle.sail_types.specs.declared.shapes.Shape.TheVariants as S
use Rattle.lowered_nodes.proofs.+lowering.Goals as goal

pub put_return-returns-in-len1 : goal.stops::put_return-returns-in-len1
put_return-returns-in-len1 t c =
    let walk = c.args.walk.now in let setting = walk.setting.now in let around = walk.around.now in let node = c.args.node.now in let one = one_of _ _
    c.in-len1.len_at_least c.in-len1.len_below c.value-item.is in put_as c.put_node.result _ _ walk c.args.stand.now c.args.tail.now (λ name. return_piece
    (kit_for setting name) (piece_at walk name c.value-item.result)) _ (λ name. with_is setting around name K.Return node _ _ c.as_slice.ensures one)
    c.put_node.ensures

pub put_return-put_node-requires : goal.stops::put_return-put_node-requires
put_return-put_node-requires t c =
    let walk = c.args.walk.now in let setting = walk.setting.now in let around = walk.around.now in let node = c.args.node.now in let one = one_of _ _
    c.in-len1.len_at_least c.in-len1.len_below c.value-item.is in (
      omega (
        arith,
        one_mass _ _ c.in-len1.len_at_least c.value-item.is,
        ap masses
            c.as_slice.ensures,
        c.decreases,
      ),
      λ name. lowered_with setting around name K.Return node _ _ c.as_slice.ensures one (c.requires name),
    )

pub put_return-returns-in_default : goal.stops::put_return-returns-in_default
put_return-returns-in_default t c =
    let walk = c.args.walk.now in let setting = walk.setting.now in let around = walk.around.now in let node = c.args.node.now in let here : Naming = λ
    place typ. 0 in absurd (omega (
      arith,
      so_many (node_for setting around here) _ _ _ c.as_slice.ensures (return_parts setting.types.now (callees_of
          setting around) (tables_for setting around.instances.now) (out-Core node).number (nodes_for walk here (out-Core node).parts) (c.requires here)),
    ))

pub put_return-returns-in_default-2 : goal.stops::put_return-returns-in_default-2
put_return-returns-in_default-2 t c =
    let walk = c.args.walk.now in let setting = walk.setting.now in let around = walk.around.now in let node = c.args.node.now in let here : Naming = λ
    place typ. 0 in absurd (omega (
      arith,
      so_many (node_for setting around here) _ _ _ c.as_slice.ensures (return_parts setting.types.now (callees_of
          setting around) (tables_for setting around.instances.now) (out-Core node).number (nodes_for walk here (out-Core node).parts) (c.requires here)),
    ))

pub put_throw-returns-in-len1 : goal.stops::put_throw-returns-in-len1
put_throw-returns-in-len1 t c =
    let walk = c.args.walk.now in let setting = walk.setting.now in let around = walk.around.now in let node = c.args.node.now in let one = one_of _ _
    c.in-len1.len_at_least c.in-len1.len_below c.value-item.is in put_as c.put_node.result _ _ walk c.args.stand.now c.args.tail.now (λ name. throw_piece
    (kit_for setting name) (piece_at walk name c.value-item.result)) _ (λ name. with_is setting around name K.Throw node _ _ c.as_slice.ensures one)
    c.put_node.ensures

pub put_throw-put_node-requires : goal.stops::put_throw-put_node-requires
put_throw-put_node-requires t c =
    let walk = c.args.walk.now in let setting = walk.setting.now in let around = walk.around.now in let node = c.args.node.now in let one = one_of _ _
    c.in-len1.len_at_least c.in-len1.len_below c.value-item.is in (
      omega (
        arith,
        one_mass _ _ c.in-len1.len_at_least c.value-item.is,
        ap masses
            c.as_slice.ensures,
        c.decreases,
      ),
      λ name. lowered_with setting around name K.Throw node _ _ c.as_slice.ensures one (c.requires name),
    )

pub put_throw-returns-in_default : goal.stops::put_throw-returns-in_default
put_throw-returns-in_default t c =
    let walk = c.args.walk.now in let setting = walk.setting.now in let around = walk.around.now in let node = c.args.node.now in let here : Naming = λ
    place typ. 0 in absurd (omega (
      arith,
      so_many (node_for setting around here) _ _ _ c.as_slice.ensures (throw_parts setting.types.now (callees_of setting
          around) (tables_for setting around.instances.now) (out-Core node).number (nodes_for walk here (out-Core node).parts) (c.requires here)),
    ))

pub put_throw-returns-in_default-2 : goal.stops::put_throw-returns-in_default-2
put_throw-returns-in_default-2 t c =
    let walk = c.args.walk.now in let setting = walk.setting.now in let around = walk.around.now in let node = c.args.node.now in let here : Naming = λ
    place typ. 0 in absurd (omega (
      arith,
      so_many (node_for setting around here) _ _ _ c.as_slice.ensures (throw_parts setting.types.now (callees_of setting
          around) (tables_for setting around.instances.now) (out-Core node).number (nodes_for walk here (out-Core node).parts) (c.requires here)),
    ))

pub put_exit-returns-in_ok-put_held-in-len1 : goal.stops::put_exit-returns-in_ok-put_held-in-len1
put_exit-returns-in_ok-put_held-in-len1 t c =
    let walk = c.args.walk.now in let setting = walk.setting.now in let around = walk.around.now in let node = c.args.node.now in let one = one_of _ _
    c.in-len1.len_at_least c.in-len1.len_below c.value-item.is in put_as c.put_stop.result _ _ walk c.args.stand.now c.args.tail.now (λ name. stop_piece
    (C.Exit (out-Core node).place) (piece_at walk name c.value-item.result)) _ (λ name. with_is setting around name K.Exit node _ _ c.as_slice.ensures one)
    (ok_last c.put_stop.result _ _ _ _ _ _ c.in_ok-put_held-in-len1.ensures c.put_stop.ensures)

pub put_exit-put_held-requires : goal.stops::put_exit-put_held-requires
put_exit-put_held-requires t c =
    let walk = c.args.walk.now in let setting = walk.setting.now in let around = walk.around.now in let node = c.args.node.now in let one = one_of _ _
    c.in-len1.len_at_least c.in-len1.len_below c.value-item.is in (
      omega (
        arith,
        one_mass _ _ c.in-len1.len_at_least c.value-item.is,
        ap masses
            c.as_slice.ensures,
        c.decreases,
      ),
      λ name. lowered_with setting around name K.Exit node _ _ c.as_slice.ensures one (c.requires name),
    )

pub put_exit-returns-in_default : goal.stops::put_exit-returns-in_default
put_exit-returns-in_default t c =
    let walk = c.args.walk.now in let setting = walk.setting.now in let around = walk.around.now in let node = c.args.node.now in let here : Naming = λ
    place typ. 0 in absurd (omega (
      arith,
      so_many (node_for setting around here) _ _ _ c.as_slice.ensures (exit_parts setting.types.now (callees_of setting
          around) (tables_for setting around.instances.now) (out-Core node).number (nodes_for walk here (out-Core node).parts) (c.requires here)),
    ))

pub put_exit-returns-in_default-2 : goal.stops::put_exit-returns-in_default-2
put_exit-returns-in_default-2 t c =
    let walk = c.args.walk.now in let setting = walk.setting.now in let around = walk.around.now in let node = c.args.node.now in let here : Naming = λ
    place typ. 0 in absurd (omega (
      arith,
      so_many (node_for setting around here) _ _ _ c.as_slice.ensures (exit_parts setting.types.now (callees_of setting
          around) (tables_for setting around.instances.now) (out-Core node).number (nodes_for walk here (out-Core node).parts) (c.requires here)),
    ))

pub put_assert-returns-in_ok-put_label-in-len1 : goal.stops::put_assert-returns-in_ok-put_label-in-len1
put_assert-returns-in_ok-put_label-in-len1 t c =
    let walk = c.args.walk.now in let setting = walk.setting.now in let around = walk.around.now in let node = c.args.node.now in let s = stand_of
    c.args.stand.now in let one = one_of _ _ c.in-len1.len_at_least c.in-len1.len_below c.value-item.is in put_as c.put_nothing.result _ _ walk
    c.args.stand.now c.args.tail.now _ _ (λ name. with_is setting around name (K.Assert c.args.text.now) node _ _ c.as_slice.ensures one) (assert_put
    c.put_nothing.result (λ name. kit_for setting name) s (λ name. tail_of setting name c.args.tail.now) (C.Assertion (out-Core node).place c.args.text.now)
    (λ name. piece_at walk name c.value-item.result) _ _ _ _ _ _ _ c.in_ok-label-in-len1.label c.in_ok-label-in-len1.ensures.first
    c.in_ok-label-in-len1.ensures.taken c.in_ok-put_held-in-len1.ensures c.in_ok-put_jump_if-in-len1.ensures (subst (λ (cause : Cause). Plain
    c.put_jump_if.new.self c.put_stop.new.self (λ name. I.Stop cause ∷ [])) c.in_ok-cause-in-len1.ensures c.in_ok-put_stop-in-len1.ensures)
    c.in_ok-put_label-in-len1.ensures c.put_nothing.ensures)

pub put_assert-put_held-requires : goal.stops::put_assert-put_held-requires
put_assert-put_held-requires t c =
    let walk = c.args.walk.now in let setting = walk.setting.now in let around = walk.around.now in let node = c.args.node.now in let one = one_of _ _
    c.in-len1.len_at_least c.in-len1.len_below c.value-item.is in (
      omega (
        arith,
        one_mass _ _ c.in-len1.len_at_least c.value-item.is,
        ap masses
            c.as_slice.ensures,
        c.decreases,
      ),
      λ name. lowered_with setting around name (K.Assert c.args.text.now) node _ _ c.as_slice.ensures one (c.requires name),
    )

pub put_assert-returns-in_default : goal.stops::put_assert-returns-in_default
put_assert-returns-in_default t c =
    let walk = c.args.walk.now in let setting = walk.setting.now in let around = walk.around.now in let node = c.args.node.now in let here : Naming = λ
    place typ. 0 in absurd (omega (
      arith,
      so_many (node_for setting around here) _ _ _ c.as_slice.ensures (assert_parts setting.types.now (callees_of
          setting around) (tables_for setting around.instances.now) (out-Core node).number c.args.text.now (nodes_for walk here (out-Core node).parts)
          (c.requires
          here)),
    ))

pub put_assert-returns-in_default-2 : goal.stops::put_assert-returns-in_default-2
put_assert-returns-in_default-2 t c =
    let walk = c.args.walk.now in let setting = walk.setting.now in let around = walk.around.now in let node = c.args.node.now in let here : Naming = λ
    place typ. 0 in absurd (omega (
      arith,
      so_many (node_for setting around here) _ _ _ c.as_slice.ensures (assert_parts setting.types.now (callees_of
          setting around) (tables_for setting around.instances.now) (out-Core node).number c.args.text.now (nodes_for walk here (out-Core node).parts)
          (c.requires
          here)),
    ))

pub put_and-returns-in_ok-put_label-in-len2 : goal.branches::put_and-returns-in_ok-put_label-in-len2
put_and-returns-in_ok-put_label-in-len2 t c =
    let walk = c.args.walk.now in let setting = walk.setting.now in let around = walk.around.now in let node = c.args.node.now in let s = stand_of
    c.args.stand.now in let two = two_of _ _ _ c.in-len2.len_at_least c.in-len2.len_below c.first-item.is c.second-item.is in put_as c.put_tail.result _ _
    walk c.args.stand.now c.args.tail.now _ _ (λ name. with_is setting around name K.And node _ _ c.as_slice.ensures two) (and_put c.put_tail.result (λ
    name. kit_for setting name) s (λ name. tail_of setting name c.args.tail.now) (λ name. piece_at walk name c.first-item.result) (λ name. inside_for walk
    name c.second-item.result) _ _ _ _ _ _ _ _ c.in_ok-label-in-len2.label c.in_ok-end-in-len2.end c.in_ok-label-in-len2.ensures.first
    c.in_ok-end-in-len2.ensures c.in_ok-label-in-len2.ensures.taken c.in_ok-put_held-in-len2.ensures c.in_ok-put_jump_if-in-len2.ensures
    c.in_ok-end_arm-in-len2.ensures c.in_ok-put_inside-in-len2.ensures c.in_ok-put_label-in-len2.ensures c.put_tail.ensures)

pub put_or-returns-in_ok-put_label-in-len2 : goal.branches::put_or-returns-in_ok-put_label-in-len2
put_or-returns-in_ok-put_label-in-len2 t c =
    let walk = c.args.walk.now in let setting = walk.setting.now in let around = walk.around.now in let node = c.args.node.now in let s = stand_of
    c.args.stand.now in let two = two_of _ _ _ c.in-len2.len_at_least c.in-len2.len_below c.first-item.is c.second-item.is in put_as c.put_tail.result _ _
    walk c.args.stand.now c.args.tail.now _ _ (λ name. with_is setting around name K.Or node _ _ c.as_slice.ensures two) (or_put c.put_tail.result (λ name.
    kit_for setting name) s (λ name. tail_of setting name c.args.tail.now) (λ name. piece_at walk name c.first-item.result) (λ name. inside_for walk name
    c.second-item.result) _ _ _ _ _ _ _ c.in_ok-label-in-len2.label c.in_ok-label-in-len2.ensures.first c.in_ok-label-in-len2.ensures.taken
    c.in_ok-put_held-in-len2.ensures c.in_ok-put_jump_if-in-len2.ensures c.in_ok-put_inside-in-len2.ensures c.in_ok-put_label-in-len2.ensures
    c.put_tail.ensures)

pub put_when-returns-in_ok-put_label-in-len2 : goal.branches::put_when-returns-in_ok-put_label-in-len2
put_when-returns-in_ok-put_label-in-len2 t c =
    let walk = c.args.walk.now in let setting = walk.setting.now in let around = walk.around.now in let node = c.args.node.now in let s = stand_of
    c.args.stand.now in let two = two_of _ _ _ c.in-len2.len_at_least c.in-len2.len_below c.test-item.is c.behind-item.is in put_as c.put_node.result _ _
    walk c.args.stand.now c.args.tail.now _ _ (λ name. with_is setting around name K.When node _ _ c.as_slice.ensures two) (when_put c.put_node.result (λ
    name. kit_for setting name) s (λ name. tail_of setting name c.args.tail.now) (λ name. piece_at walk name c.test-item.result) (λ name. piece_at walk name
    c.behind-item.result) _ _ _ _ _ _ _ c.in_ok-label-in-len2.label c.in_ok-label-in-len2.ensures.first c.in_ok-label-in-len2.ensures.taken
    c.in_ok-put_held-in-len2.ensures c.in_ok-put_jump_if-in-len2.ensures c.in_ok-put_goto-in-len2.ensures c.in_ok-put_label-in-len2.ensures
    c.put_node.ensures)

pub put_and-put_held-requires : goal.branches::put_and-put_held-requires
put_and-put_held-requires t c =
    let walk = c.args.walk.now in let setting = walk.setting.now in let around = walk.around.now in let node = c.args.node.now in let two = two_of _ _ _
    c.in-len2.len_at_least c.in-len2.len_below c.first-item.is c.second-item.is in (
      omega (
        arith,
        two_masses _ _ _ c.in-len2.len_at_least c.first-item.is
            c.second-item.is,
        ap masses c.as_slice.ensures,
        mass_some c.second-item.result,
        c.decreases,
      ),
      λ name. (and_parts (node_ok walk name c.first-item.result)
          (node_ok walk name c.second-item.result) (lowered_with setting around name K.And node _ _ c.as_slice.ensures two (c.requires name))).0,
    )

pub put_and-put_inside-requires : goal.branches::put_and-put_inside-requires
put_and-put_inside-requires t c =
    let walk = c.args.walk.now in let setting = walk.setting.now in let around = walk.around.now in let node = c.args.node.now in let two = two_of _ _ _
    c.in-len2.len_at_least c.in-len2.len_below c.first-item.is c.second-item.is in (
      omega (
        arith,
        two_masses _ _ _ c.in-len2.len_at_least c.first-item.is
            c.second-item.is,
        ap masses c.as_slice.ensures,
        mass_some c.first-item.result,
        c.decreases,
      ),
      λ name. (and_parts (node_ok walk name c.first-item.result)
          (node_ok walk name c.second-item.result) (lowered_with setting around name K.And node _ _ c.as_slice.ensures two (c.requires name))).1,
    )

pub put_and-returns-in_default : goal.branches::put_and-returns-in_default
put_and-returns-in_default t c =
    let walk = c.args.walk.now in let setting = walk.setting.now in let around = walk.around.now in let node = c.args.node.now in let here : Naming = λ
    place typ. 0 in absurd (omega (
      arith,
      so_many (node_for setting around here) _ _ _ c.as_slice.ensures (both_parts setting.types.now (callees_of setting
          around) (tables_for setting around.instances.now) (out-Core node).number (nodes_for walk here (out-Core node).parts) (c.requires here)),
    ))

pub put_and-returns-in_default-2 : goal.branches::put_and-returns-in_default-2
put_and-returns-in_default-2 t c =
    let walk = c.args.walk.now in let setting = walk.setting.now in let around = walk.around.now in let node = c.args.node.now in let here : Naming = λ
    place typ. 0 in absurd (omega (
      arith,
      so_many (node_for setting around here) _ _ _ c.as_slice.ensures (both_parts setting.types.now (callees_of setting
          around) (tables_for setting around.instances.now) (out-Core node).number (nodes_for walk here (out-Core node).parts) (c.requires here)),
    ))

pub put_or-put_held-requires : goal.branches::put_or-put_held-requires
put_or-put_held-requires t c =
    let walk = c.args.walk.now in let setting = walk.setting.now in let around = walk.around.now in let node = c.args.node.now in let two = two_of _ _ _
    c.in-len2.len_at_least c.in-len2.len_below c.first-item.is c.second-item.is in (
      omega (
        arith,
        two_masses _ _ _ c.in-len2.len_at_least c.first-item.is
            c.second-item.is,
        ap masses c.as_slice.ensures,
        mass_some c.second-item.result,
        c.decreases,
      ),
      λ name. (and_parts (node_ok walk name c.first-item.result)
          (node_ok walk name c.second-item.result) (lowered_with setting around name K.Or node _ _ c.as_slice.ensures two (c.requires name))).0,
    )

pub put_or-put_inside-requires : goal.branches::put_or-put_inside-requires
put_or-put_inside-requires t c =
    let walk = c.args.walk.now in let setting = walk.setting.now in let around = walk.around.now in let node = c.args.node.now in let two = two_of _ _ _
    c.in-len2.len_at_least c.in-len2.len_below c.first-item.is c.second-item.is in (
      omega (
        arith,
        two_masses _ _ _ c.in-len2.len_at_least c.first-item.is
            c.second-item.is,
        ap masses c.as_slice.ensures,
        mass_some c.first-item.result,
        c.decreases,
      ),
      λ name. (and_parts (node_ok walk name c.first-item.result)
          (node_ok walk name c.second-item.result) (lowered_with setting around name K.Or node _ _ c.as_slice.ensures two (c.requires name))).1,
    )

pub put_or-returns-in_default : goal.branches::put_or-returns-in_default
put_or-returns-in_default t c =
    let walk = c.args.walk.now in let setting = walk.setting.now in let around = walk.around.now in let node = c.args.node.now in let here : Naming = λ
    place typ. 0 in absurd (omega (
      arith,
      so_many (node_for setting around here) _ _ _ c.as_slice.ensures (or_parts setting.types.now (callees_of setting
          around) (tables_for setting around.instances.now) (out-Core node).number (nodes_for walk here (out-Core node).parts) (c.requires here)),
    ))

pub put_or-returns-in_default-2 : goal.branches::put_or-returns-in_default-2
put_or-returns-in_default-2 t c =
    let walk = c.args.walk.now in let setting = walk.setting.now in let around = walk.around.now in let node = c.args.node.now in let here : Naming = λ
    place typ. 0 in absurd (omega (
      arith,
      so_many (node_for setting around here) _ _ _ c.as_slice.ensures (or_parts setting.types.now (callees_of setting
          around) (tables_for setting around.instances.now) (out-Core node).number (nodes_for walk here (out-Core node).parts) (c.requires here)),
    ))

pub put_when-put_held-requires : goal.branches::put_when-put_held-requires
put_when-put_held-requires t c =
    let walk = c.args.walk.now in let setting = walk.setting.now in let around = walk.around.now in let node = c.args.node.now in let two = two_of _ _ _
    c.in-len2.len_at_least c.in-len2.len_below c.test-item.is c.behind-item.is in (
      omega (
        arith,
        two_masses _ _ _ c.in-len2.len_at_least c.test-item.is
            c.behind-item.is,
        ap masses c.as_slice.ensures,
        mass_some c.behind-item.result,
        c.decreases,
      ),
      λ name. (and_parts (node_ok walk name c.test-item.result)
          (node_ok walk name c.behind-item.result) (lowered_with setting around name K.When node _ _ c.as_slice.ensures two (c.requires name))).0,
    )

pub put_when-put_node-requires : goal.branches::put_when-put_node-requires
put_when-put_node-requires t c =
    let walk = c.args.walk.now in let setting = walk.setting.now in let around = walk.around.now in let node = c.args.node.now in let two = two_of _ _ _
    c.in-len2.len_at_least c.in-len2.len_below c.test-item.is c.behind-item.is in (
      omega (
        arith,
        two_masses _ _ _ c.in-len2.len_at_least c.test-item.is
            c.behind-item.is,
        ap masses c.as_slice.ensures,
        mass_some c.test-item.result,
        c.decreases,
      ),
      λ name. (and_parts (node_ok walk name c.test-item.result)
          (node_ok walk name c.behind-item.result) (lowered_with setting around name K.When node _ _ c.as_slice.ensures two (c.requires name))).1,
    )

pub put_when-returns-in_default : goal.branches::put_when-returns-in_default
put_when-returns-in_default t c =
    let walk = c.args.walk.now in let setting = walk.setting.now in let around = walk.around.now in let node = c.args.node.now in let here : Naming = λ
    place typ. 0 in absurd (omega (
      arith,
      so_many (node_for setting around here) _ _ _ c.as_slice.ensures (when_parts setting.types.now (callees_of setting
          around) (tables_for setting around.instances.now) (out-Core node).number (nodes_for walk here (out-Core node).parts) (c.requires here)),
    ))

pub put_when-returns-in_default-2 : goal.branches::put_when-returns-in_default-2
put_when-returns-in_default-2 t c =
    let walk = c.args.walk.now in let setting = walk.setting.now in let around = walk.around.now in let node = c.args.node.now in let here : Naming = λ
    place typ. 0 in absurd (omega (
      arith,
      so_many (node_for setting around here) _ _ _ c.as_slice.ensures (when_parts setting.types.now (callees_of setting
          around) (tables_for setting around.instances.now) (out-Core node).number (nodes_for walk here (out-Core node).parts) (c.requires here)),
    ))

pub put_if-returns : goal.branches::put_if-returns
put_if-returns t c =
    let walk = c.args.walk.now in let setting = walk.setting.now in let s = stand_of c.args.stand.now in if_put c.put_label.result (λ name. kit_for setting
    name) s (λ name. tail_of setting name c.args.tail.now) (λ name. piece_at walk name c.args.test.now) (λ name. inside_for walk name c.args.first.now) (λ
    name. second_for walk name c.args.second.now) _ _ _ _ _ _ _ _ c.in_ok-label.label c.in_ok-end.end c.in_ok-label.ensures.first c.in_ok-end.ensures
    c.in_ok-label.ensures.taken c.in_ok-put_held.ensures c.in_ok-put_jump_if.ensures c.in_ok-put_second.ensures c.in_ok-end_arm.ensures
    c.in_ok-put_inside.ensures c.put_label.ensures

pub put_if-put_held-requires : goal.branches::put_if-put_held-requires
put_if-put_held-requires t c =
    let walk = c.args.walk.now in (
      omega (arith, c.decreases),
      λ name. (and_parts (node_ok walk name c.args.test.now) (node_ok walk name c.args.first.now &&
          second_ok walk name c.args.second.now) (c.requires name)).0,
    )

pub put_if-put_second-requires : goal.branches::put_if-put_second-requires
put_if-put_second-requires t c =
    let walk = c.args.walk.now in (
      omega (arith, c.decreases, mass_some c.args.test.now, mass_some c.args.first.now),
      λ name. (and_parts (node_ok walk name
          c.args.first.now) (second_ok walk name c.args.second.now) (and_parts (node_ok walk name c.args.test.now) (node_ok walk name c.args.first.now &&
          second_ok walk name c.args.second.now) (c.requires name)).1).1,
    )

pub put_if-put_inside-requires : goal.branches::put_if-put_inside-requires
put_if-put_inside-requires t c =
    let walk = c.args.walk.now in (
      omega (arith, c.decreases),
      λ name. (and_parts (node_ok walk name c.args.first.now) (second_ok walk name
          c.args.second.now) (and_parts (node_ok walk name c.args.test.now) (node_ok walk name c.args.first.now && second_ok walk name c.args.second.now)
          (c.requires name)).1).0,
    )

pub put_second-returns-in-empty : goal.branches::put_second-returns-in-empty
put_second-returns-in-empty t c =
    let walk = c.args.walk.now in let setting = walk.setting.now in let s = stand_of c.args.stand.now in put_as c.put_nothing.result _ _ walk
    c.args.stand.now c.args.tail.now (λ name. unit_piece (kit_for setting name)) _ (λ name. ap (λ (cs : List Core). second_for walk name cs) (sym (none_of
    c.args.second.now c.in-empty.len_below))) c.put_nothing.ensures

pub put_second-returns-in-len1-up : goal.branches::put_second-returns-in-len1-up
put_second-returns-in-len1-up t c =
    let walk = c.args.walk.now in let setting = walk.setting.now in let s = stand_of c.args.stand.now in put_as c.put_inside.result _ _ walk
    c.args.stand.now c.args.tail.now _ _ (λ name. ap (λ (cs : List Core). second_for walk name cs) (sym (first_of c.args.second.now _
    c.in-len1-up.len_at_least c.second-item.is))) c.put_inside.ensures

pub put_second-put_inside-requires : goal.branches::put_second-put_inside-requires
put_second-put_inside-requires t c =
    let walk = c.args.walk.now in (
      omega (arith, one_mass _ _ c.in-len1-up.len_at_least c.second-item.is, c.decreases),
      λ name. ap (λ (cs : List Core).
          second_ok walk name cs) (sym (first_of c.args.second.now _ c.in-len1-up.len_at_least c.second-item.is)) ∙ c.requires name,
    )

pub put_branches-returns-in-empty : goal.branches::put_branches-returns-in-empty
put_branches-returns-in-empty t c =
    let walk = c.args.walk.now in let setting = walk.setting.now in let around = walk.around.now in let node = c.args.node.now in let there = two_and _ _ _
    c.in-len2-up.len_at_least c.test-item.is c.first-item.is in put_as c.put_if.result _ _ walk c.args.stand.now c.args.tail.now _ _ (λ name. if_alone walk
    name node c.test-item.result c.first-item.result (behind_two c.as_slice.result.now) (none_of (behind_two c.as_slice.result.now) c.in-empty.len_below) ∙
    with_is setting around name (K.If S.Unit) node _ _ c.as_slice.ensures there) c.put_if.ensures

pub put_branches-put_if-requires : goal.branches::put_branches-put_if-requires
put_branches-put_if-requires t c =
    let walk = c.args.walk.now in let setting = walk.setting.now in let around = walk.around.now in let node = c.args.node.now in let there = two_and _ _ _
    c.in-len2-up.len_at_least c.test-item.is c.first-item.is in (
      omega (
        arith,
        two_rest_mass _ _ _ c.in-len2-up.len_at_least c.test-item.is c.first-item.is,
        ap masses c.as_slice.ensures,
        c.decreases,
      ),
      λ name. if_lowered walk name node c.test-item.result c.first-item.result (behind_two c.as_slice.result.now)
          (lowered_with setting around name (K.If S.Unit) node _ _ c.as_slice.ensures there (c.requires name)),
    )

pub put_branches-put_if-requires-in-len1 : goal.branches::put_branches-put_if-requires-in-len1
put_branches-put_if-requires-in-len1 t c =
    let walk = c.args.walk.now in let setting = walk.setting.now in let around = walk.around.now in let node = c.args.node.now in let there = two_and _ _ _
    c.in-len2-up.len_at_least c.test-item.is c.first-item.is in (
      omega (
        arith,
        two_rest_mass _ _ _ c.in-len2-up.len_at_least c.test-item.is c.first-item.is,
        ap masses c.as_slice.ensures,
        c.decreases,
      ),
      λ name. if_lowered walk name node c.test-item.result c.first-item.result (behind_two c.as_slice.result.now)
          (lowered_with setting around name (K.If S.Unit) node _ _ c.as_slice.ensures there (c.requires name)),
    )

pub put_branches-returns-in_default-second : goal.branches::put_branches-returns-in_default-second
put_branches-returns-in_default-second t c =
    let walk = c.args.walk.now in let setting = walk.setting.now in let around = walk.around.now in let node = c.args.node.now in let here : Naming = λ
    place typ. 0 in absurd (omega (
      arith,
      so_most (node_for setting around here) _ _ _ c.as_slice.ensures (if_most setting.types.now (callees_of setting
          around) (tables_for setting around.instances.now) (out-Core node).number S.Unit (nodes_for walk here (out-Core node).parts) (c.requires here)),
    ))

pub put_branches-returns-in_default : goal.branches::put_branches-returns-in_default
put_branches-returns-in_default t c =
    let walk = c.args.walk.now in let setting = walk.setting.now in let around = walk.around.now in let node = c.args.node.now in let here : Naming = λ
    place typ. 0 in absurd (omega (
      arith,
      so_some (node_for setting around here) _ _ _ c.as_slice.ensures (if_parts setting.types.now (callees_of setting
          around) (tables_for setting around.instances.now) (out-Core node).number S.Unit (nodes_for walk here (out-Core node).parts) (c.requires here)),
    ))

pub put_branches-returns-in_ok-put_if-in-len1 : goal.branches::put_branches-returns-in_ok-put_if-in-len1
put_branches-returns-in_ok-put_if-in-len1 t c =
    let walk = c.args.walk.now in let setting = walk.setting.now in let around = walk.around.now in let node = c.args.node.now in let s = stand_of
    c.args.stand.now in let there = two_and _ _ _ c.in-len2-up.len_at_least c.test-item.is c.first-item.is in put_as c.put_again.result _ _ walk
    c.args.stand.now c.args.tail.now (λ name. met_if walk name node c.test-item.result c.first-item.result (behind_two c.as_slice.result.now)) _ (λ name.
    if_both walk name node c.test-item.result c.first-item.result (behind_two c.as_slice.result.now) (omega (
      arith,
      c.in-len1.len_at_least,
      c.in-len1.len_below,
    )) ∙ with_is setting around name (K.If S.Unit) node _ _ c.as_slice.ensures there) (subst (λ (cs : List Case). OnOk c.put_again.result
    (Emits c.args.coding.now c.put_again.new.coding (λ name l. (if_for walk name c.test-item.result c.first-item.result (behind_two
    c.as_slice.result.now)).ended (met_tail (kit_for setting name) (number_for setting) cs s) s l ++ again_for walk name c.args.stand.now c.args.tail.now
    (out-Core node).number (l + (if_for walk name c.test-item.result c.first-item.result (behind_two c.as_slice.result.now)).labels (many 0 cs))) (λ name.
    (if_for walk name c.test-item.result c.first-item.result (behind_two c.as_slice.result.now)).labels (many 0 cs) + again_labels walk name c.args.tail.now
    (out-Core node).number))) c.cases.ensures (ok_more c.put_again.result _ _ _ _ _ _ _ c.in_ok-put_if-in-len1.ensures c.put_again.ensures))
