-- Answers: values that are made of parts, and calls.
use Rattle.std.proofs.Common.{◌∙◌, ℕ, ◌≤◌, ◌-◌, List, [], length, sym, ap, subst, arith, None, true, false}
use Rattle.jib.specs.declared.code.Source.{Source}
use Rattle.lowered_ends.proofs.Counts.{cast_parts, item_parts, slice_parts}
use Rattle.lowered_ends.proofs.Masses.{mass_some, masses, one_mass, rest_mass}
use Rattle.lowered_ends.proofs.Opened.{lowered_with, many_nodes, so_many, with_is}
use Rattle.lowered_ends.specs.Around.{callees_of, node_for}
use Rattle.lowered_nodes.proofs.Built.{call_from, made_from, state_put}
use Rattle.lowered_nodes.proofs.Forms.{state_none}
use Rattle.lowered_nodes.proofs.Joining.{ok_more}
use Rattle.lowered_ends.proofs.Lists.{first_of, none_of, one_of, others}
use Rattle.lowered_nodes.proofs.Lowered.{first_lowered, rest_lowered}
use Rattle.lowered_nodes.proofs.Made.{all_more}
use Rattle.lowered_nodes.proofs.Putting.{put_as, put_nothing_here}
use Rattle.lowered_nodes.proofs.Shapes.{call_all, call_is, item_all, item_form, made_is, only_is, row_all, several, slice_all, slice_form, state_is}
use Rattle.lowered_nodes.proofs.Shapes.{with_all, with_form, with_some, work_is}
use Rattle.lowered_nodes.specs.Walk.{all_lowered_for, as_for, as_ok, made_for, nodes_for, only_of, operands_for, piece_at, pieces_for, state_of}
use Rattle.lowered_pieces.proofs.Emitting.{emits_none}
use Rattle.lowered_pieces.specs.Emitted.{Emits, Sourced}
use Rattle.lowered_pieces.specs.Forms.{Piece, all_code, all_labels, no_tail}
use Rattle.lowered_pieces.specs.Lowering.{Node}
use Rattle.lowered_pieces.specs.Nodes.{cases_at}
use Rattle.lowered_pieces.specs.Places.{Naming}
use Rattle.lowered_steps.proofs.Sourcing.{sourced_none}
use Rattle.lowered_steps.specs.Setting.{kit_for, nodes_in, number_for, tables_for}
use Rattle.lowered_steps.specs.Stands.{stand_of}
use Rattle.sail_core.specs.declared.tree.Callee.{Callee}
use Rattle.sail_core.specs.declared.tree.Core.{Core, out-Core}
use Rattle.sized_nodes.specs.declared.trees.Case.{Case}
use Rattle.std.proofs.lemmas.Bool.{false≢true}
use Rattle.std.specs.Prelude.{OnOk}
use Rattle.sail_core.specs.declared.tree.Kind.TheVariants as K
use Rattle.lowered_steps.specs.declared.making.Making.TheVariants as M
use Rattle.jib.specs.declared.code.Operation.TheVariants as O
use Rattle.lowered_steps.specs.declared.making.Order.TheVariants as W
use Rattle.lowered_nodes.proofs.+lowering.Goals as goal

pub put_held-returns : goal.operands::put_held-returns
put_held-returns t c =
    c.put_node.ensures

pub put_held-put_node-requires : goal.operands::put_held-put_node-requires
put_held-put_node-requires t c =
    (omega (arith, c.decreases), c.requires)

pub put_all-returns-in-empty : goal.operands::put_all-returns-in-empty
put_all-returns-in-empty t c =
    let walk = c.args.walk.now in let setting = walk.setting.now in let s = stand_of c.args.stand.now in let old = c.args.coding.now in subst (λ (cs : List
    Core). Emits old old (λ name x. all_code (kit_for setting name) (number_for setting) (pieces_for walk name cs) s x) (λ name. all_labels (kit_for setting
    name) (number_for setting) (pieces_for walk name cs))) (sym (none_of c.args.nodes.now c.in-empty.len_below)) (emits_none old)

pub put_all-returns-in_ok-further-in-len1-up : goal.operands::put_all-returns-in_ok-further-in-len1-up
put_all-returns-in_ok-further-in-len1-up t c =
    let walk = c.args.walk.now in let setting = walk.setting.now in let s = stand_of c.args.stand.now in let old = c.args.coding.now in let x =
    c.first-item.result in let xs = c.args.nodes.now in subst (λ (cs : List Core). OnOk c.put_all.result (Emits old c.put_all.new.coding (λ name l. all_code
    (kit_for setting name) (number_for setting) (pieces_for walk name cs) s l) (λ name. all_labels (kit_for setting name) (number_for setting) (pieces_for
    walk name cs)))) (sym (first_of xs x c.in-len1-up.len_at_least c.first-item.is)) (all_more c.put_all.result (λ name. kit_for setting name) (number_for
    setting) s (λ name. no_tail) (λ name. piece_at walk name x) (λ name. pieces_for walk name (others xs)) _ _ _ _ c.in_ok-further-in-len1-up.ensures
    c.in_ok-put_held-in-len1-up.ensures c.put_all.ensures)

pub put_all-put_held-requires : goal.operands::put_all-put_held-requires
put_all-put_held-requires t c = (
  omega (arith, rest_mass _ _ c.in-len1-up.len_at_least c.first-item.is, c.decreases),
  λ name. first_lowered c.args.walk.now name _ _ _ (first_of _ _
      c.in-len1-up.len_at_least c.first-item.is) (c.requires name),
)

pub put_all-put_all-requires : goal.operands::put_all-put_all-requires
put_all-put_all-requires t c = (
  omega (arith, rest_mass _ _ c.in-len1-up.len_at_least c.first-item.is, mass_some c.first-item.result, c.decreases),
  λ name. rest_lowered
      c.args.walk.now name _ _ _ (first_of _ _ c.in-len1-up.len_at_least c.first-item.is) (c.requires name),
)

pub put_made_of-returns : goal.operands::put_made_of-returns
put_made_of-returns t c =
    let walk = c.args.walk.now in let setting = walk.setting.now in let around = walk.around.now in let node = c.args.node.now in let s = stand_of
    c.args.stand.now in made_from c.put_made.result walk c.args.stand.now c.args.tail.now node c.args.making.now _ _ c.as_slice.ensures c.len-count.ensures
    _ _ _ c.in_ok-put_all.ensures c.put_made.ensures

pub put_made_of-put_all-requires : goal.operands::put_made_of-put_all-requires
put_made_of-put_all-requires t c = (
  omega (arith, ap masses c.as_slice.ensures, c.decreases),
  λ name. ap (λ (cs : List Core). all_lowered_for c.args.walk.now name cs) c.as_slice.ensures ∙
      c.requires name,
)

pub put_cast-returns : goal.operands::put_cast-returns
put_cast-returns t c =
    ok_more c.put_made.result _ _ _ _ _ _ _ c.in_ok-put_held.ensures c.put_made.ensures

pub put_cast-put_held-requires : goal.operands::put_cast-put_held-requires
put_cast-put_held-requires t c =
    (omega (arith, c.decreases), c.requires)

pub put_own_cast-returns-in-len1 : goal.operands::put_own_cast-returns-in-len1
put_own_cast-returns-in-len1 t c =
    let walk = c.args.walk.now in let setting = walk.setting.now in let around = walk.around.now in let node = c.args.node.now in let one = one_of _ _
    c.in-len1.len_at_least c.in-len1.len_below c.value-item.is in put_as c.put_cast.result _ _ walk c.args.stand.now c.args.tail.now _ _ (λ name. with_is
    setting around name (K.Cast None) node _ _ c.as_slice.ensures one) c.put_cast.ensures

pub put_own_cast-put_cast-requires : goal.operands::put_own_cast-put_cast-requires
put_own_cast-put_cast-requires t c =
    let walk = c.args.walk.now in let setting = walk.setting.now in let around = walk.around.now in let node = c.args.node.now in let one = one_of _ _
    c.in-len1.len_at_least c.in-len1.len_below c.value-item.is in (
      omega (
        arith,
        one_mass _ _ c.in-len1.len_at_least c.value-item.is,
        ap masses
            c.as_slice.ensures,
        c.decreases,
      ),
      λ name. lowered_with setting around name (K.Cast None) node _ _ c.as_slice.ensures one (c.requires name),
    )

pub put_own_cast-returns-in_default : goal.operands::put_own_cast-returns-in_default
put_own_cast-returns-in_default t c =
    let walk = c.args.walk.now in let setting = walk.setting.now in let around = walk.around.now in let node = c.args.node.now in let here : Naming = λ
    place typ. 0 in absurd (omega (
      arith,
      so_many (node_for setting around here) _ _ _ c.as_slice.ensures (cast_parts setting.types.now (callees_of setting
          around) (tables_for setting around.instances.now) (out-Core node).number None (nodes_for walk here (out-Core node).parts) (c.requires here)),
    ))

pub put_own_cast-returns-in_default-2 : goal.operands::put_own_cast-returns-in_default-2
put_own_cast-returns-in_default-2 t c =
    let walk = c.args.walk.now in let setting = walk.setting.now in let around = walk.around.now in let node = c.args.node.now in let here : Naming = λ
    place typ. 0 in absurd (omega (
      arith,
      so_many (node_for setting around here) _ _ _ c.as_slice.ensures (cast_parts setting.types.now (callees_of setting
          around) (tables_for setting around.instances.now) (out-Core node).number None (nodes_for walk here (out-Core node).parts) (c.requires here)),
    ))

pub put_with-put_made_of-requires : goal.operands::put_with-put_made_of-requires
put_with-put_made_of-requires t c =
    let walk = c.args.walk.now in let setting = walk.setting.now in let around = walk.around.now in let node = c.args.node.now in (
      omega (
        arith,
        c.decreases,
      ),
      λ name. with_all setting.types.now (callees_of setting around) (tables_for setting around.instances.now) (out-Core node).number
          c.args.fields.now (nodes_for walk name (out-Core node).parts) (c.requires name),
    )

pub put_with_item-returns-in-len3 : goal.operands::put_with_item-returns-in-len3
put_with_item-returns-in-len3 t c =
    let walk = c.args.walk.now in let setting = walk.setting.now in let around = walk.around.now in let node = c.args.node.now in let making = M.Works
    O.WithItem W.Forwards in put_as c.put_made_of.result _ _ walk c.args.stand.now c.args.tail.now (λ name. made_for walk name making node) _ (λ
    name. made_is walk name node making ∙ item_form setting.types.now (kit_for setting name) (number_for setting) (callees_of
    setting around) (tables_for setting around.instances.now) (out-Core node).place (out-Core node).number (pieces_for walk name (out-Core node).parts)
    (many_nodes (λ (n : Node). n.piece) (nodes_for walk name (out-Core node).parts) ∙ item_parts setting.types.now (callees_of setting around) (tables_for
    setting around.instances.now) (out-Core node).number (nodes_for walk name (out-Core node).parts) (c.requires name))) c.put_made_of.ensures

pub put_with_item-put_made_of-requires : goal.operands::put_with_item-put_made_of-requires
put_with_item-put_made_of-requires t c =
    let walk = c.args.walk.now in let setting = walk.setting.now in let around = walk.around.now in let node = c.args.node.now in (
      omega (
        arith,
        c.decreases,
      ),
      λ name. item_all setting.types.now (callees_of setting around) (tables_for setting around.instances.now) (out-Core node).number (nodes_for
          walk name (out-Core node).parts) (c.requires name),
    )

pub put_with_item-returns-in_default : goal.operands::put_with_item-returns-in_default
put_with_item-returns-in_default t c =
    let walk = c.args.walk.now in let setting = walk.setting.now in let around = walk.around.now in let node = c.args.node.now in let here : Naming = λ
    place typ. 0 in absurd (omega (
      arith,
      so_many (node_for setting around here) _ _ _ c.as_slice.ensures (item_parts setting.types.now (callees_of setting
          around) (tables_for setting around.instances.now) (out-Core node).number (nodes_for walk here (out-Core node).parts) (c.requires here)),
    ))

pub put_with_item-returns-in_default-2 : goal.operands::put_with_item-returns-in_default-2
put_with_item-returns-in_default-2 t c =
    let walk = c.args.walk.now in let setting = walk.setting.now in let around = walk.around.now in let node = c.args.node.now in let here : Naming = λ
    place typ. 0 in absurd (omega (
      arith,
      so_many (node_for setting around here) _ _ _ c.as_slice.ensures (item_parts setting.types.now (callees_of setting
          around) (tables_for setting around.instances.now) (out-Core node).number (nodes_for walk here (out-Core node).parts) (c.requires here)),
    ))

pub put_with_slice-returns-in-len4 : goal.operands::put_with_slice-returns-in-len4
put_with_slice-returns-in-len4 t c =
    let walk = c.args.walk.now in let setting = walk.setting.now in let around = walk.around.now in let node = c.args.node.now in let making = M.Works
    O.WithSlice W.Forwards in put_as c.put_made_of.result _ _ walk c.args.stand.now c.args.tail.now (λ name. made_for walk name making node) _ (λ
    name. made_is walk name node making ∙ slice_form setting.types.now (kit_for setting name) (number_for setting)
    (callees_of setting around) (tables_for setting around.instances.now) (out-Core node).place (out-Core node).number (pieces_for walk name (out-Core
    node).parts) (many_nodes (λ (n : Node). n.piece) (nodes_for walk name (out-Core node).parts) ∙ slice_parts setting.types.now (callees_of setting around)
    (tables_for setting around.instances.now) (out-Core node).number (nodes_for walk name (out-Core node).parts) (c.requires name))) c.put_made_of.ensures

pub put_with_slice-put_made_of-requires : goal.operands::put_with_slice-put_made_of-requires
put_with_slice-put_made_of-requires t c =
    let walk = c.args.walk.now in let setting = walk.setting.now in let around = walk.around.now in let node = c.args.node.now in (
      omega (
        arith,
        c.decreases,
      ),
      λ name. slice_all setting.types.now (callees_of setting around) (tables_for setting around.instances.now) (out-Core node).number
          (nodes_for walk name (out-Core node).parts) (c.requires name),
    )

pub put_with_slice-returns-in_default : goal.operands::put_with_slice-returns-in_default
put_with_slice-returns-in_default t c =
    let walk = c.args.walk.now in let setting = walk.setting.now in let around = walk.around.now in let node = c.args.node.now in let here : Naming = λ
    place typ. 0 in absurd (omega (
      arith,
      so_many (node_for setting around here) _ _ _ c.as_slice.ensures (slice_parts setting.types.now (callees_of setting
          around) (tables_for setting around.instances.now) (out-Core node).number (nodes_for walk here (out-Core node).parts) (c.requires here)),
    ))

pub put_with_slice-returns-in_default-2 : goal.operands::put_with_slice-returns-in_default-2
put_with_slice-returns-in_default-2 t c =
    let walk = c.args.walk.now in let setting = walk.setting.now in let around = walk.around.now in let node = c.args.node.now in let here : Naming = λ
    place typ. 0 in absurd (omega (
      arith,
      so_many (node_for setting around here) _ _ _ c.as_slice.ensures (slice_parts setting.types.now (callees_of setting
          around) (tables_for setting around.instances.now) (out-Core node).number (nodes_for walk here (out-Core node).parts) (c.requires here)),
    ))

pub put_call-returns : goal.calls::put_call-returns
put_call-returns t c =
    let walk = c.args.walk.now in let setting = walk.setting.now in let around = walk.around.now in let node = c.args.node.now in let s = stand_of
    c.args.stand.now in call_from c.put_calling.result walk c.args.stand.now c.args.tail.now node _ _ c.as_slice.ensures c.len.ensures _ _ _
    c.in_ok-put_all.ensures c.put_calling.ensures

pub put_call-put_all-requires : goal.calls::put_call-put_all-requires
put_call-put_all-requires t c = (
  omega (arith, ap masses c.as_slice.ensures, c.decreases),
  λ name. ap (λ (cs : List Core). all_lowered_for c.args.walk.now name cs) c.as_slice.ensures ∙
      c.requires name,
)

pub put_row-returns-then-has_state : goal.calls::put_row-returns-then-has_state
put_row-returns-then-has_state t c =
    let walk = c.args.walk.now in let setting = walk.setting.now in let around = walk.around.now in let node = c.args.node.now in put_as
    c.put_state_row.result _ _ walk c.args.stand.now c.args.tail.now _ _ (λ name. state_is walk name node c.args.row (sym c.has_state.ensures ∙
    c.if-has_state.true)) c.put_state_row.ensures

pub put_row-returns-else-has_state : goal.calls::put_row-returns-else-has_state
put_row-returns-else-has_state t c =
    let walk = c.args.walk.now in let setting = walk.setting.now in let around = walk.around.now in let node = c.args.node.now in put_as
    c.put_made_of.result _ _ walk c.args.stand.now c.args.tail.now _ _ (λ name. made_is walk name node (M.Works (O.Builtin c.args.row) W.Forwards) ∙ work_is
    walk name node c.args.row (sym c.has_state.ensures ∙ c.if-has_state.false)) c.put_made_of.ensures

pub put_row-put_state_row-requires : goal.calls::put_row-put_state_row-requires
put_row-put_state_row-requires t c =
    let walk = c.args.walk.now in let setting = walk.setting.now in let around = walk.around.now in let node = c.args.node.now in (
      omega (
        arith,
        c.decreases,
      ),
      λ name. row_all setting.types.now (callees_of setting around) (tables_for setting around.instances.now) (out-Core node).number c.args.row
          (nodes_for walk name (out-Core node).parts) (c.requires name),
    )

pub put_row-put_made_of-requires : goal.calls::put_row-put_made_of-requires
put_row-put_made_of-requires t c =
    let walk = c.args.walk.now in let setting = walk.setting.now in let around = walk.around.now in let node = c.args.node.now in (
      omega (
        arith,
        c.decreases,
      ),
      λ name. row_all setting.types.now (callees_of setting around) (tables_for setting around.instances.now) (out-Core node).number c.args.row
          (nodes_for walk name (out-Core node).parts) (c.requires name),
    )

pub put_callee-returns-in-Function : goal.calls::put_callee-returns-in-Function
put_callee-returns-in-Function t c =
    let walk = c.args.walk.now in let setting = walk.setting.now in let around = walk.around.now in let node = c.args.node.now in put_as c.put_call.result _
    _ walk c.args.stand.now c.args.tail.now _ _ (λ name. call_is walk name node c.in-Function.field-0 ∙ ap (λ (f : Callee). as_for walk name (K.Call f)
    node) (sym c.in-Function.is)) c.put_call.ensures

pub put_callee-put_call-requires : goal.calls::put_callee-put_call-requires
put_callee-put_call-requires t c =
    let walk = c.args.walk.now in let setting = walk.setting.now in let around = walk.around.now in let node = c.args.node.now in (
      omega (
        arith,
        c.decreases,
      ),
      λ name. call_all setting.types.now (callees_of setting around) (tables_for setting around.instances.now) (out-Core node).number
          c.in-Function.field-0 (nodes_for walk name (out-Core node).parts) (ap (λ (f : Callee). as_ok walk name (K.Call f) node) (sym c.in-Function.is) ∙
          c.requires name),
    )

pub put_callee-returns-in-Row : goal.calls::put_callee-returns-in-Row
put_callee-returns-in-Row t c =
    let walk = c.args.walk.now in let setting = walk.setting.now in let around = walk.around.now in let node = c.args.node.now in put_as c.put_row.result _
    _ walk c.args.stand.now c.args.tail.now _ _ (λ name. ap (λ (f : Callee). as_for walk name (K.Call f) node) (sym c.in-Row.is)) c.put_row.ensures

pub put_callee-put_row-requires : goal.calls::put_callee-put_row-requires
put_callee-put_row-requires t c =
    let walk = c.args.walk.now in let setting = walk.setting.now in let around = walk.around.now in let node = c.args.node.now in (
      omega (
        arith,
        c.decreases,
      ),
      λ name. ap (λ (f : Callee). as_ok walk name (K.Call f) node) (sym c.in-Row.is) ∙ c.requires name,
    )

pub put_callee-returns-in-Constructor : goal.calls::put_callee-returns-in-Constructor
put_callee-returns-in-Constructor t c =
    let walk = c.args.walk.now in let setting = walk.setting.now in let around = walk.around.now in let node = c.args.node.now in put_as
    c.put_made_of.result _ _ walk c.args.stand.now c.args.tail.now _ _ (λ name. made_is walk name node (M.Constructs c.in-Constructor.union
    c.in-Constructor.constructor) ∙ ap (λ (f : Callee). as_for walk name (K.Call f) node) (sym c.in-Constructor.is)) c.put_made_of.ensures

pub put_callee-put_made_of-requires : goal.calls::put_callee-put_made_of-requires
put_callee-put_made_of-requires t c =
    let walk = c.args.walk.now in let setting = walk.setting.now in let around = walk.around.now in let node = c.args.node.now in (
      omega (
        arith,
        c.decreases,
      ),
      λ name. ap (λ (f : Callee). as_ok walk name (K.Call f) node) (sym c.in-Constructor.is) ∙ c.requires name,
    )

pub put_callee-returns-in-Converts : goal.calls::put_callee-returns-in-Converts
put_callee-returns-in-Converts t c =
    let walk = c.args.walk.now in let setting = walk.setting.now in let around = walk.around.now in let node = c.args.node.now in let here : Naming = λ
    place typ. 0 in absurd (false≢true (ap (λ (f : Callee). as_ok walk here (K.Call f) node) (sym c.in-Converts.is) ∙ c.requires here))

pub put_callee-returns-in-Applies : goal.calls::put_callee-returns-in-Applies
put_callee-returns-in-Applies t c =
    let walk = c.args.walk.now in let setting = walk.setting.now in let around = walk.around.now in let node = c.args.node.now in put_as
    c.put_crossing.result _ _ walk c.args.stand.now c.args.tail.now _ _ (λ name. ap (λ (f : Callee). as_for walk name (K.Call f) node) (sym
    c.in-Applies.is)) c.put_crossing.ensures

pub put_callee-put_crossing-requires : goal.calls::put_callee-put_crossing-requires
put_callee-put_crossing-requires t c =
    let walk = c.args.walk.now in let setting = walk.setting.now in let around = walk.around.now in let node = c.args.node.now in (
      omega (
        arith,
        c.decreases,
      ),
      λ name. ap (λ (f : Callee). as_ok walk name (K.Call f) node) (sym c.in-Applies.is) ∙ c.requires name,
    )

pub put_state_row-returns-in_ok-put_apply-in-len1 : goal.operands::put_state_row-returns-in_ok-put_apply-in-len1
put_state_row-returns-in_ok-put_apply-in-len1 t c =
    let walk = c.args.walk.now in let setting = walk.setting.now in let s = stand_of c.args.stand.now in let old = c.args.coding.now in let node =
    c.args.node.now in let none = c.new-sources.ensures in let by : Naming → List Source = λ name. operands_for walk name c.args.stand.now.temp
    c.as_slice-in-len1.result.now in let start : Sourced c.put_all.new.coding.slots c.new-sources.result (λ name. []) = subst (λ (rs : List Source). Sourced
    c.put_all.new.coding.slots rs (λ name. [])) (sym none) (sourced_none c.put_all.new.coding.slots) in let read =
    c.in_ok-list_operands-in-len1.ensures.read (λ name. []) start in state_put c.put_noted_tail.result walk c.args.stand.now c.args.tail.now node c.args.row
    c.only-item.result c.len.result c.len.ensures (sym c.cases.ensures ∙ one_of _ _ c.in-len1.len_at_least c.in-len1.len_below c.only-item.is) _ _
    c.as_slice.ensures c.as_slice-in-len1.ensures c.in_ok-gives-in-len1.gives c.in_ok-gives-in-len1.ensures _ _ _ _ _ c.in_ok-put_all-in-len1.ensures
    c.in_ok-list_operands-in-len1.ensures.grown (c.in_ok-put_apply-in-len1.ensures by read) c.put_noted_tail.ensures

pub put_state_row-put_all-requires : goal.operands::put_state_row-put_all-requires
put_state_row-put_all-requires t c = (
  omega (arith, ap masses c.as_slice.ensures, c.decreases),
  λ name. ap (λ (cs : List Core). all_lowered_for c.args.walk.now name cs) c.as_slice.ensures ∙
      c.requires name,
)

pub put_state_row-returns-in_default : goal.operands::put_state_row-returns-in_default
put_state_row-returns-in_default t c =
    let walk = c.args.walk.now in let setting = walk.setting.now in let s = stand_of c.args.stand.now in let old = c.args.coding.now in let node =
    c.args.node.now in put_nothing_here old walk c.args.stand.now c.args.tail.now (λ name. state_none walk name c.args.row node c.cases.result.now (λ e.
    omega (arith, e)) ∙ ap (λ (cs : List Case). state_of walk name c.args.row node cs) (c.cases.ensures ∙ ap (λ n. cases_at (out-Core node).number n
    (nodes_in setting)) c.len.ensures))

pub put_state_row-returns-in_default-2 : goal.operands::put_state_row-returns-in_default-2
put_state_row-returns-in_default-2 t c =
    let walk = c.args.walk.now in let setting = walk.setting.now in let s = stand_of c.args.stand.now in let old = c.args.coding.now in let node =
    c.args.node.now in put_nothing_here old walk c.args.stand.now c.args.tail.now (λ name. state_none walk name c.args.row node c.cases.result.now (λ e.
    omega (arith, e)) ∙ ap (λ (cs : List Case). state_of walk name c.args.row node cs) (c.cases.ensures ∙ ap (λ n. cases_at (out-Core node).number n
    (nodes_in setting)) c.len.ensures))

pub put_with-returns-in-Some : goal.operands::put_with-returns-in-Some
put_with-returns-in-Some t c =
    let walk = c.args.walk.now in let setting = walk.setting.now in let around = walk.around.now in let node = c.args.node.now in put_as
    c.put_made_of.result _ _ walk c.args.stand.now c.args.tail.now _ _ (λ name. made_is walk name node (M.Works (O.WithField c.in-Some.field) W.Forwards) ∙
    ap (λ (is : List ℕ). as_for walk name (K.With 0 is) node) (sym (only_is c.args.fields.now c.in-Some.field (ap only_of (sym c.as_slice.ensures) ∙ sym
    c.only_field.ensures ∙ c.in-Some.is)))) c.put_made_of.ensures

pub put_with-returns-in-None : goal.operands::put_with-returns-in-None
put_with-returns-in-None t c =
    let walk = c.args.walk.now in let setting = walk.setting.now in let around = walk.around.now in let node = c.args.node.now in put_as
    c.put_made_of-in-None.result _ _ walk c.args.stand.now c.args.tail.now _ _ (λ name. made_is walk name node (M.Changes c.as_slice-in-None.result) ∙
    with_form setting.types.now (kit_for setting name) (number_for setting) (callees_of setting around) (tables_for setting around.instances.now) (out-Core
    node).place (out-Core node).number c.as_slice-in-None.result.now (subst (λ (is : List ℕ). 2 ≤ length is) (sym c.as_slice-in-None.ensures) (several
    c.args.fields.now (with_some setting.types.now (callees_of setting around) (tables_for setting around.instances.now) (out-Core node).number
    c.args.fields.now (nodes_for walk name (out-Core node).parts) (c.requires name)) (ap only_of (sym c.as_slice.ensures) ∙ sym c.only_field.ensures ∙
    c.in-None.is))) (pieces_for walk name (out-Core node).parts) ∙ ap (λ (is : List ℕ). as_for walk name (K.With 0 is) node) c.as_slice-in-None.ensures)
    c.put_made_of-in-None.ensures

pub put_with-put_made_of-requires-in-None : goal.operands::put_with-put_made_of-requires-in-None
put_with-put_made_of-requires-in-None t c =
    let walk = c.args.walk.now in let setting = walk.setting.now in let around = walk.around.now in let node = c.args.node.now in (
      omega (
        arith,
        c.decreases,
      ),
      λ name. with_all setting.types.now (callees_of setting around) (tables_for setting around.instances.now) (out-Core node).number
          c.args.fields.now (nodes_for walk name (out-Core node).parts) (c.requires name),
    )
