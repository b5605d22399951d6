-- Answers: blocks, and names that are bound.
use Rattle.std.proofs.Common.{◌∙◌, ◌+◌, ◌-◌, List, [], ◌∷◌, ◌++◌, map, sym, ap, subst, arith, None}
use Rattle.lowered_ends.proofs.Counts.{let_parts, var_parts}
use Rattle.lowered_ends.proofs.Masses.{mass_some, masses, one_mass, rest_mass}
use Rattle.lowered_ends.proofs.Opened.{lowered_with, so_many, with_is}
use Rattle.lowered_ends.specs.Around.{callees_of, node_for}
use Rattle.lowered_nodes.proofs.Armed.{let_put}
use Rattle.lowered_nodes.proofs.Forms.{block_short, define_lowered, last_parts, let_form, let_lowered, var_form, var_lowered}
use Rattle.lowered_ends.proofs.Lists.{first_of, none_of, one_of, others, others_many}
use Rattle.lowered_nodes.proofs.Pieces.{bind_put, seq_put}
use Rattle.lowered_nodes.proofs.Putting.{only_pushed, put_as, put_nothing_here}
use Rattle.lowered_nodes.specs.Walk.{block_for, block_ok, node_ok, nodes_for, piece_at, statement_for, statement_ok}
use Rattle.lowered_pieces.specs.Emitted.{Emits}
use Rattle.lowered_pieces.specs.Forms.{Piece, unit_piece, unsaid}
use Rattle.lowered_pieces.specs.Places.{Local, Naming}
use Rattle.lowered_steps.specs.Hands.{types_of}
use Rattle.lowered_steps.specs.Setting.{kit_for, nodes_in, reads_at, tables_for}
use Rattle.lowered_steps.specs.Stands.{named_of, stand_of}
use Rattle.lowered_steps.specs.Tails.{tail_of}
use Rattle.lowered_steps.specs.declared.stands.Named.{Named}
use Rattle.sail_core.specs.declared.tree.Core.{Core, out-Core}
use Rattle.sail_core.specs.declared.tree.Statement.{Statement}
use Rattle.sized_meanings.specs.Present.{gives_at}
use Rattle.std.proofs.lemmas.Bool.{and_parts}
use Rattle.std.specs.Prelude.{OnOk}
use Rattle.model_state.specs.declared.cause.Cause.TheVariants as C
use Rattle.sail_core.specs.declared.tree.Kind.TheVariants as K
use Rattle.lowered_nodes.proofs.+lowering.Goals as goal

pub put_last-returns-in-empty : goal.bindings::put_last-returns-in-empty
put_last-returns-in-empty t c =
    let walk = c.args.walk.now in let setting = walk.setting.now in let s = stand_of c.args.stand.now in put_as c.put_nothing.result _ _ walk
    c.args.stand.now c.args.tail.now (λ name. unsaid (unit_piece (kit_for setting name))) _
    (λ name. ap (λ (cs : List Core). block_for walk name c.args.number [] cs) (sym (none_of c.args.parts.now c.in-empty.len_below))) c.put_nothing.ensures

pub put_last-returns-in-len1 : goal.bindings::put_last-returns-in-len1
put_last-returns-in-len1 t c =
    let walk = c.args.walk.now in let setting = walk.setting.now in let s = stand_of c.args.stand.now in put_as c.put_node.result _ _ walk c.args.stand.now
    c.args.tail.now _ _ (λ name. ap (λ (cs : List Core). block_for walk name c.args.number [] cs) (sym (one_of c.args.parts.now _ c.in-len1.len_at_least
    c.in-len1.len_below c.value-item.is))) c.put_node.ensures

pub put_last-put_node-requires : goal.bindings::put_last-put_node-requires
put_last-put_node-requires t c =
    let walk = c.args.walk.now in (
      omega (arith, one_mass _ _ c.in-len1.len_at_least c.value-item.is, c.decreases),
      λ name. ap (λ (cs : List Core). block_ok
          walk name [] cs) (sym (one_of c.args.parts.now _ c.in-len1.len_at_least c.in-len1.len_below c.value-item.is)) ∙ c.requires name,
    )

pub put_last-returns-in_default : goal.bindings::put_last-returns-in_default
put_last-returns-in_default t c =
    let walk = c.args.walk.now in let here : Naming = λ place typ. 0 in absurd (omega (arith, last_parts walk here c.args.parts.now (c.requires here)))

pub put_statement-returns-in_ok-put_held-in-Evaluate : goal.bindings::put_statement-returns-in_ok-put_held-in-Evaluate
put_statement-returns-in_ok-put_held-in-Evaluate t c =
    let walk = c.args.walk.now in let setting = walk.setting.now in let s = stand_of c.args.stand.now in put_as c.put_block.result _ _ walk c.args.stand.now
    c.args.tail.now _ _ (λ name. ap (λ (x : Statement). statement_for walk name c.args.number x c.args.rest.now c.args.first.now c.args.others.now) (sym
    c.in-Evaluate.is)) (seq_put c.put_block.result (λ name. kit_for setting name) s (λ name. tail_of setting name c.args.tail.now) (λ name. piece_at walk
    name c.args.first.now) (λ name. block_for walk name c.args.number c.args.rest.now c.args.others.now) _ _ _ c.in_ok-put_held-in-Evaluate.ensures
    c.put_block.ensures)

pub put_statement-returns-in-Declare : goal.bindings::put_statement-returns-in-Declare
put_statement-returns-in-Declare t c =
    let walk = c.args.walk.now in let setting = walk.setting.now in let s = stand_of c.args.stand.now in put_as c.put_bind.result _ _ walk c.args.stand.now
    c.args.tail.now _ _ (λ name. ap (λ (x : Statement). statement_for walk name c.args.number x c.args.rest.now c.args.first.now c.args.others.now) (sym
    c.in-Declare.is)) c.put_bind.ensures

pub put_statement-put_held-requires : goal.bindings::put_statement-put_held-requires
put_statement-put_held-requires t c =
    let walk = c.args.walk.now in (
      omega (arith, c.decreases),
      λ name. (and_parts (node_ok walk name c.args.first.now) (block_ok walk name c.args.rest.now
          c.args.others.now) (ap (λ (x : Statement). statement_ok walk name x c.args.rest.now c.args.first.now c.args.others.now) (sym c.in-Evaluate.is) ∙
          c.requires name)).0,
    )

pub put_statement-put_block-requires : goal.bindings::put_statement-put_block-requires
put_statement-put_block-requires t c =
    let walk = c.args.walk.now in (
      omega (arith, c.decreases, mass_some c.args.first.now),
      λ name. (and_parts (node_ok walk name c.args.first.now) (block_ok
          walk name c.args.rest.now c.args.others.now) (ap (λ (x : Statement). statement_ok walk name x c.args.rest.now c.args.first.now c.args.others.now) (sym
          c.in-Evaluate.is) ∙ c.requires name)).1,
    )

pub put_statement-put_bind-requires : goal.bindings::put_statement-put_bind-requires
put_statement-put_bind-requires t c =
    let walk = c.args.walk.now in (
      omega (arith, c.decreases),
      λ name. ap (λ (x : Statement). statement_ok walk name x c.args.rest.now c.args.first.now
          c.args.others.now) (sym c.in-Declare.is) ∙ c.requires name,
    )

pub put_statement-put_let-requires : goal.bindings::put_statement-put_let-requires
put_statement-put_let-requires t c =
    let walk = c.args.walk.now in (
      omega (arith, c.decreases),
      λ name. define_lowered walk name c.in-Define.place c.in-Define.arm c.args.rest.now
          c.args.first.now c.args.others.now (ap (λ (x : Statement). statement_ok walk name x c.args.rest.now c.args.first.now c.args.others.now) (sym
          c.in-Define.is) ∙ c.requires name),
    )

pub put_block-returns-in-empty : goal.bindings::put_block-returns-in-empty
put_block-returns-in-empty t c =
    let walk = c.args.walk.now in let setting = walk.setting.now in let s = stand_of c.args.stand.now in put_as c.put_last.result _ _ walk c.args.stand.now
    c.args.tail.now _ _ (λ name. ap (λ (ss : List Statement). block_for walk name c.args.number ss c.args.parts.now) (sym (none_of c.args.statements.now
    c.in-empty.len_below))) c.put_last.ensures

pub put_block-put_last-requires : goal.bindings::put_block-put_last-requires
put_block-put_last-requires t c =
    let walk = c.args.walk.now in (
      omega (arith, c.decreases),
      λ name. ap (λ (ss : List Statement). block_ok walk name ss c.args.parts.now) (sym (none_of
          c.args.statements.now c.in-empty.len_below)) ∙ c.requires name,
    )

pub put_block-returns-in-empty-parts : goal.bindings::put_block-returns-in-empty-parts
put_block-returns-in-empty-parts t c =
    let walk = c.args.walk.now in let setting = walk.setting.now in let s = stand_of c.args.stand.now in put_nothing_here c.args.coding.now walk
    c.args.stand.now c.args.tail.now (λ name. block_short walk name c.args.number _ _ _ _ (first_of c.args.statements.now _ c.in-len1-up.len_at_least
    c.statement-item.is) (none_of c.args.parts.now c.in-empty-parts.len_below))

pub put_block-returns-in-len1-up-parts : goal.bindings::put_block-returns-in-len1-up-parts
put_block-returns-in-len1-up-parts t c =
    let walk = c.args.walk.now in let setting = walk.setting.now in let s = stand_of c.args.stand.now in put_as c.put_statement.result _ _ walk
    c.args.stand.now c.args.tail.now _ _ (λ name. λ i. block_for walk name c.args.number (sym (first_of c.args.statements.now _ c.in-len1-up.len_at_least
    c.statement-item.is) i) (sym (first_of c.args.parts.now _ c.in-len1-up-parts.len_at_least c.first-item.is) i)) c.put_statement.ensures

pub put_block-put_statement-requires : goal.bindings::put_block-put_statement-requires
put_block-put_statement-requires t c =
    let walk = c.args.walk.now in (
      omega (arith, rest_mass _ _ c.in-len1-up-parts.len_at_least c.first-item.is, c.decreases),
      λ name. (λ i. block_ok walk
          name (sym (first_of c.args.statements.now _ c.in-len1-up.len_at_least c.statement-item.is) i) (sym (first_of c.args.parts.now _
          c.in-len1-up-parts.len_at_least c.first-item.is) i)) ∙ c.requires name,
    )

pub put_statements-returns : goal.bindings::put_statements-returns
put_statements-returns t c =
    let walk = c.args.walk.now in let setting = walk.setting.now in let around = walk.around.now in let node = c.args.node.now in put_as c.put_block.result
    _ _ walk c.args.stand.now c.args.tail.now (λ name. block_for walk name (out-Core node).number c.as_slice.result.now c.as_slice-2.result.now) _
    (λ name. λ i. block_for walk name (out-Core node).number (c.as_slice.ensures i) (c.as_slice-2.ensures i)) c.put_block.ensures

pub put_statements-put_block-requires : goal.bindings::put_statements-put_block-requires
put_statements-put_block-requires t c =
    let walk = c.args.walk.now in let setting = walk.setting.now in let around = walk.around.now in let node = c.args.node.now in (
      omega (
        arith,
        ap masses
            c.as_slice-2.ensures,
        c.decreases,
      ),
      λ name. (λ i. block_ok walk name (c.as_slice.ensures i) (c.as_slice-2.ensures i)) ∙ c.requires name,
    )

pub put_let_in-returns-in-len1 : goal.bindings::put_let_in-returns-in-len1
put_let_in-returns-in-len1 t c =
    let walk = c.args.walk.now in let setting = walk.setting.now in let around = walk.around.now in let node = c.args.node.now in put_as c.put_let.result _
    _ walk c.args.stand.now c.args.tail.now _ _ (λ name. let_form walk name node c.args.arm.now c.value-item.result (others c.as_slice.result.now) (omega
    (arith, c.in-len1.len_at_least, c.in-len1.len_below)) ∙ with_is setting around name (K.Let c.args.arm.now) node _ _ c.as_slice.ensures (first_of _ _
    c.in-len1-up.len_at_least c.value-item.is)) c.put_let.ensures

pub put_let_in-put_let-requires : goal.bindings::put_let_in-put_let-requires
put_let_in-put_let-requires t c =
    let walk = c.args.walk.now in let setting = walk.setting.now in let around = walk.around.now in let node = c.args.node.now in (
      omega (
        arith,
        rest_mass _
            _ c.in-len1-up.len_at_least c.value-item.is,
        ap masses c.as_slice.ensures,
        c.decreases,
      ),
      λ name. let_lowered walk name node c.args.arm.now
          c.value-item.result (others c.as_slice.result.now) (omega (arith, c.in-len1.len_at_least, c.in-len1.len_below)) (lowered_with setting around name
          (K.Let
          c.args.arm.now) node _ _ c.as_slice.ensures (first_of _ _ c.in-len1-up.len_at_least c.value-item.is) (c.requires name)),
    )

pub put_let_in-returns-in-empty : goal.bindings::put_let_in-returns-in-empty
put_let_in-returns-in-empty t c =
    let walk = c.args.walk.now in let setting = walk.setting.now in let around = walk.around.now in let node = c.args.node.now in let here : Naming = λ
    place typ. 0 in absurd (omega (
      arith,
      so_many (node_for setting around here) _ _ _ c.as_slice.ensures (let_parts setting.types.now (callees_of setting
          around) (tables_for setting around.instances.now) (out-Core node).number c.args.arm.now (nodes_for walk here (out-Core node).parts)
          (c.requires here)),
    ))

pub put_let_in-returns-in_default : goal.bindings::put_let_in-returns-in_default
put_let_in-returns-in_default t c =
    let walk = c.args.walk.now in let setting = walk.setting.now in let around = walk.around.now in let node = c.args.node.now in let here : Naming = λ
    place typ. 0 in absurd (omega (
      arith,
      others_many _ c.in-len1-up.len_at_least,
      so_many (node_for setting around here) _ _ _ c.as_slice.ensures
          (let_parts setting.types.now (callees_of setting around) (tables_for setting around.instances.now) (out-Core node).number c.args.arm.now
          (nodes_for walk
          here (out-Core node).parts) (c.requires here)),
    ))

pub put_let_in-returns-in_default-2 : goal.bindings::put_let_in-returns-in_default-2
put_let_in-returns-in_default-2 t c =
    let walk = c.args.walk.now in let setting = walk.setting.now in let around = walk.around.now in let node = c.args.node.now in let here : Naming = λ
    place typ. 0 in absurd (omega (
      arith,
      others_many _ c.in-len1-up.len_at_least,
      so_many (node_for setting around here) _ _ _ c.as_slice.ensures
          (let_parts setting.types.now (callees_of setting around) (tables_for setting around.instances.now) (out-Core node).number c.args.arm.now
          (nodes_for walk
          here (out-Core node).parts) (c.requires here)),
    ))

pub put_var_in-returns-in-len1 : goal.bindings::put_var_in-returns-in-len1
put_var_in-returns-in-len1 t c =
    let walk = c.args.walk.now in let setting = walk.setting.now in let around = walk.around.now in let node = c.args.node.now in put_as c.put_bind.result _
    _ walk c.args.stand.now c.args.tail.now _ _ (λ name. var_form walk name node c.args.name.now c.value-item.result (others c.as_slice.result.now) (omega
    (arith, c.in-len1.len_at_least, c.in-len1.len_below)) ∙ with_is setting around name (K.Var c.args.name.now None) node _ _ c.as_slice.ensures (first_of _
    _ c.in-len1-up.len_at_least c.value-item.is)) c.put_bind.ensures

pub put_var_in-put_bind-requires : goal.bindings::put_var_in-put_bind-requires
put_var_in-put_bind-requires t c =
    let walk = c.args.walk.now in let setting = walk.setting.now in let around = walk.around.now in let node = c.args.node.now in (
      omega (
        arith,
        rest_mass _
            _ c.in-len1-up.len_at_least c.value-item.is,
        ap masses c.as_slice.ensures,
        c.decreases,
      ),
      λ name. var_lowered walk name node c.args.name.now
          c.value-item.result (others c.as_slice.result.now) (omega (arith, c.in-len1.len_at_least, c.in-len1.len_below)) (lowered_with setting around name
          (K.Var
          c.args.name.now None) node _ _ c.as_slice.ensures (first_of _ _ c.in-len1-up.len_at_least c.value-item.is) (c.requires name)),
    )

pub put_var_in-returns-in-empty : goal.bindings::put_var_in-returns-in-empty
put_var_in-returns-in-empty t c =
    let walk = c.args.walk.now in let setting = walk.setting.now in let around = walk.around.now in let node = c.args.node.now in let here : Naming = λ
    place typ. 0 in absurd (omega (
      arith,
      so_many (node_for setting around here) _ _ _ c.as_slice.ensures (var_parts setting.types.now (callees_of setting
          around) (tables_for setting around.instances.now) (out-Core node).number c.args.name.now None (nodes_for walk here (out-Core node).parts) (c.requires
          here)),
    ))

pub put_var_in-returns-in_default : goal.bindings::put_var_in-returns-in_default
put_var_in-returns-in_default t c =
    let walk = c.args.walk.now in let setting = walk.setting.now in let around = walk.around.now in let node = c.args.node.now in let here : Naming = λ
    place typ. 0 in absurd (omega (
      arith,
      others_many _ c.in-len1-up.len_at_least,
      so_many (node_for setting around here) _ _ _ c.as_slice.ensures
          (var_parts setting.types.now (callees_of setting around) (tables_for setting around.instances.now) (out-Core node).number c.args.name.now None
          (nodes_for walk here (out-Core node).parts) (c.requires here)),
    ))

pub put_var_in-returns-in_default-2 : goal.bindings::put_var_in-returns-in_default-2
put_var_in-returns-in_default-2 t c =
    let walk = c.args.walk.now in let setting = walk.setting.now in let around = walk.around.now in let node = c.args.node.now in let here : Naming = λ
    place typ. 0 in absurd (omega (
      arith,
      others_many _ c.in-len1-up.len_at_least,
      so_many (node_for setting around here) _ _ _ c.as_slice.ensures
          (var_parts setting.types.now (callees_of setting around) (tables_for setting around.instances.now) (out-Core node).number c.args.name.now None
          (nodes_for walk here (out-Core node).parts) (c.requires here)),
    ))

pub put_bind-put_node-requires : goal.bindings::put_bind-put_node-requires
put_bind-put_node-requires t c =
    let walk = c.args.walk.now in (
      omega (arith, c.decreases),
      λ name. (and_parts (node_ok walk name c.args.value.now) (block_ok walk name
          c.args.statements.now c.args.parts.now) (c.requires name)).0,
    )

pub put_bind-put_block-requires : goal.bindings::put_bind-put_block-requires
put_bind-put_block-requires t c =
    let walk = c.args.walk.now in (
      omega (arith, c.decreases, mass_some c.args.value.now),
      λ name. (and_parts (node_ok walk name c.args.value.now) (block_ok
          walk name c.args.statements.now c.args.parts.now) (c.requires name)).1,
    )

pub put_let-put_held-requires : goal.bindings::put_let-put_held-requires
put_let-put_held-requires t c =
    let walk = c.args.walk.now in (
      omega (arith, c.decreases),
      λ name. (and_parts (node_ok walk name c.args.value.now) (block_ok walk name
          c.args.statements.now c.args.parts.now) (c.requires name)).0,
    )

pub put_let-put_arm-requires : goal.bindings::put_let-put_arm-requires
put_let-put_arm-requires t c =
    let walk = c.args.walk.now in (
      omega (arith, c.decreases, mass_some c.args.value.now),
      λ name. (and_parts (node_ok walk name c.args.value.now) (block_ok
          walk name c.args.statements.now c.args.parts.now) (c.requires name)).1,
    )

pub put_let-returns : goal.bindings::put_let-returns
put_let-returns t c =
    let walk = c.args.walk.now in let setting = walk.setting.now in let s = stand_of c.args.stand.now in let value = c.args.value.now in let ends = types_of
    c.in_ok-ends.ends in let_put setting.types.now (λ name. kit_for setting name) (λ name. tail_of setting name c.args.tail.now) c.put_label.result s
    (gives_at (nodes_in setting) c.args.giver) ends c.args.arm.now (C.MatchFailure c.args.place) (λ name. piece_at walk name value) (λ name. block_for walk
    name c.args.number c.args.statements.now c.args.parts.now) c.in_ok-label.label c.in_ok-end.end (λ name. c.in_ok-ends.ensures name) _ _ _ _ _ _ _
    c.in_ok-label.ensures.first c.in_ok-end.ensures c.in_ok-put_held.ensures c.in_ok-label.ensures.taken c.in_ok-put_arm.ensures c.in_ok-end_arm.ensures
    c.in_ok-put_stop.ensures c.put_label.ensures

pub put_statement-returns-in-Define : goal.bindings::put_statement-returns-in-Define
put_statement-returns-in-Define t c =
    let walk = c.args.walk.now in let setting = walk.setting.now in let s = stand_of c.args.stand.now in put_as c.put_let.result _ _ walk c.args.stand.now
    c.args.tail.now _ _ (λ name. ap (λ (x : Statement). statement_for walk name c.args.number x c.args.rest.now c.args.first.now c.args.others.now) (sym
    c.in-Define.is)) c.put_let.ensures

pub put_bind-returns : goal.bindings::put_bind-returns
put_bind-returns t c =
    let walk = c.args.walk.now in let setting = walk.setting.now in let s = stand_of c.args.stand.now in let nm = c.args.name.now in let rest : Naming →
    Piece = λ name. block_for walk name c.args.number c.args.statements.now c.args.parts.now in let scope_is = ap (λ (ns : List Named). map named_of ns ++
    s.scope) (only_pushed _ _ _ _ c.as_slice.ensures c.in_ok-push.ensures.pushed c.new-names.ensures) ∙ ap (λ k. record { name = nm; place = Local k } ∷
    s.scope) c.in_ok-count_names.ensures in bind_put c.put_block.result (λ name. kit_for setting name) s (λ name. tail_of setting name c.args.tail.now)
    (reads_at
    setting.reads.now nm) (λ name. piece_at walk name c.args.value.now) rest nm _ _ _ c.in_ok-put_node.ensures (subst (λ sc. OnOk c.put_block.result (Emits
    c.put_node.new.coding
    c.put_block.new.coding (λ name l. (rest name).ended (tail_of setting name c.args.tail.now) (record s { scope = sc }) l) (λ name. (rest name).labels
    (tail_of setting name c.args.tail.now).labels))) scope_is c.put_block.ensures)
