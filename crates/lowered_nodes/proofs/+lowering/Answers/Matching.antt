-- Answers: arms.
use Rattle.std.proofs.Common.{◌∙◌, ℕ, ◌+◌, ◌-◌, List, ◌∷◌, ◌++◌, length, map, sym, ap, subst, arith, ◌&&◌}
use Rattle.lowered_ends.proofs.Counts.{match_parts, try_parts}
use Rattle.lowered_ends.proofs.Masses.{mass_some, masses, one_mass, rest_mass}
use Rattle.lowered_ends.proofs.Opened.{lowered_with, so_some, with_is}
use Rattle.lowered_ends.specs.Around.{callees_of, node_for}
use Rattle.lowered_nodes.proofs.Arming.{caught_put, match_put, try_put}
use Rattle.lowered_nodes.proofs.Forms.{first_of_given, match_bodies, match_value, try_lowered}
use Rattle.lowered_ends.proofs.Lists.{first_of, none_of, others}
use Rattle.lowered_nodes.proofs.Looks.{armed_put}
use Rattle.lowered_nodes.proofs.Lowered.{first_lowered, rest_lowered}
use Rattle.lowered_nodes.proofs.Made.{inside_put}
use Rattle.lowered_nodes.proofs.Pieces.{Plain, else_put}
use Rattle.lowered_nodes.proofs.Putting.{put_as, put_nothing_here}
use Rattle.lowered_nodes.specs.Walk.{all_lowered_for, armed_for, block_for, first_for, node_ok, nodes_for, piece_at, pieces_for}
use Rattle.lowered_pieces.specs.Arms.{arms_fit, moved}
use Rattle.lowered_pieces.specs.Emitted.{Emits}
use Rattle.lowered_pieces.specs.Forms.{Piece, enter_code, inner, inside_piece}
use Rattle.lowered_pieces.specs.Mapped.{with_ends}
use Rattle.lowered_pieces.specs.Places.{Naming}
use Rattle.lowered_steps.specs.Hands.{hand_of as hand_so_far, matched_of, types_of}
use Rattle.lowered_steps.specs.Setting.{crosses_for, kit_for, nodes_in, number_for, reads_at, size_for, tables_for}
use Rattle.lowered_steps.specs.Stands.{named_of, stand_of}
use Rattle.lowered_steps.specs.Tails.{tail_of}
use Rattle.lowered_steps.specs.declared.stands.Named.{Named}
use Rattle.sail_core.specs.declared.patterns.Arm.{Arm}
use Rattle.sail_core.specs.declared.tree.Core.{Core, out-Core}
use Rattle.sized_meanings.specs.Present.{gives_at}
use Rattle.std.proofs.lemmas.Bool.{and_parts}
use Rattle.std.specs.Prelude.{OnOk}
use Rattle.sail_core.specs.declared.tree.Giver.TheVariants as G
use Rattle.sail_core.specs.declared.tree.Kind.TheVariants as K
use Rattle.sail_types.specs.declared.shapes.Shape.TheVariants as S
use Rattle.lowered_nodes.proofs.+lowering.Goals as goal

pub put_inside-returns : goal.arms::put_inside-returns
put_inside-returns t c =
    let walk = c.args.walk.now in let setting = walk.setting.now in let s = stand_of c.args.stand.now in let notes = c.list_noted.new.noted in inside_put
    c.put_node.result (λ name. kit_for setting name) (number_for setting) s (λ name. tail_of setting name c.args.tail.now) (λ name. piece_at walk name
    c.args.node.now) notes (λ name. c.in_ok-list_noted.ensures name ∙ ap (λ (ns : List ℕ). ns ++ (piece_at walk name c.args.node.now).notes)
    c.new-noted.ensures) _ _ _ (subst (λ (ns : List ℕ). Plain c.args.coding.now c.put_enter.new.coding (λ name. enter_code (kit_for setting name) s.depths
    ns)) c.as_slice.ensures c.in_ok-put_enter.ensures) (subst (λ (ns : List ℕ). OnOk c.put_node.result (Emits c.put_enter.new.coding c.put_node.new.coding
    (λ name l. (piece_at walk name c.args.node.now).ended (tail_of setting name c.args.tail.now) (inner ns s) l) (λ name. (piece_at walk name
    c.args.node.now).labels (tail_of setting name c.args.tail.now).labels))) c.as_slice-2.ensures c.put_node.ensures)

pub put_inside-put_node-requires : goal.arms::put_inside-put_node-requires
put_inside-put_node-requires t c =
    (omega (arith, c.decreases), c.requires)

pub put_first-returns-in-empty : goal.arms::put_first-returns-in-empty
put_first-returns-in-empty t c =
    let walk = c.args.walk.now in let setting = walk.setting.now in let s = stand_of c.args.stand.now in put_as c.put_no_arm.result _ _ walk
    c.args.stand.now c.args.tail.now _ _ (λ name. ap (λ (bs : List Arm). first_for walk name c.args.node c.args.matched.now bs c.args.bodies.now
    c.args.otherwise) (sym (none_of c.args.arms.now c.in-empty.len_below))) (c.put_no_arm.ensures c.args.node c.args.tail.now)

pub put_first-returns-in-len1-up : goal.arms::put_first-returns-in-len1-up
put_first-returns-in-len1-up t c =
    let walk = c.args.walk.now in let setting = walk.setting.now in let s = stand_of c.args.stand.now in put_as c.put_choice.result _ _ walk
    c.args.stand.now c.args.tail.now _ _ (λ name. ap (λ (bs : List Arm). first_for walk name c.args.node c.args.matched.now bs c.args.bodies.now
    c.args.otherwise) (sym (first_of c.args.arms.now _ c.in-len1-up.len_at_least c.arm-item.is))) c.put_choice.ensures

pub put_first-put_choice-requires : goal.arms::put_first-put_choice-requires
put_first-put_choice-requires t c =
    (omega (arith, c.decreases), c.requires)

pub put_choice-returns-in-empty : goal.arms::put_choice-returns-in-empty
put_choice-returns-in-empty t c =
    let walk = c.args.walk.now in let setting = walk.setting.now in let s = stand_of c.args.stand.now in put_nothing_here c.args.coding.now walk
    c.args.stand.now c.args.tail.now (λ name. ap (λ (cs : List Core). first_for walk name c.args.node c.args.matched.now (c.args.arm.now ∷ c.args.rest.now)
    cs c.args.otherwise) (sym (none_of c.args.bodies.now c.in-empty.len_below)))

pub put_choice-put_taken-requires : goal.arms::put_choice-put_taken-requires
put_choice-put_taken-requires t c = (
  omega (arith, one_mass _ _ c.in-len1-up.len_at_least c.body-item.is, c.decreases),
  λ name. first_lowered c.args.walk.now name _ _ _ (first_of _ _
      c.in-len1-up.len_at_least c.body-item.is) (c.requires name),
)

pub put_choice-put_first-requires : goal.arms::put_choice-put_first-requires
put_choice-put_first-requires t c = (
  omega (arith, rest_mass _ _ c.in-len1-up.len_at_least c.body-item.is, mass_some c.body-item.result, c.decreases),
  λ name. rest_lowered c.args.walk.now
      name _ _ _ (first_of _ _ c.in-len1-up.len_at_least c.body-item.is) (c.requires name),
)

pub put_taken-put_armed-requires : goal.arms::put_taken-put_armed-requires
put_taken-put_armed-requires t c =
    (omega (arith, c.decreases), c.requires)

pub put_armed-put_node-requires : goal.arms::put_armed-put_node-requires
put_armed-put_node-requires t c =
    (omega (arith, c.decreases), c.requires)

pub put_arm-put_block-requires : goal.arms::put_arm-put_block-requires
put_arm-put_block-requires t c =
    (omega (arith, c.decreases), c.requires)

pub put_match-put_held-requires : goal.arms::put_match-put_held-requires
put_match-put_held-requires t c =
    let walk = c.args.walk.now in let setting = walk.setting.now in let around = walk.around.now in let node = c.args.node.now in let there = first_of _ _
    c.in-len1-up.len_at_least c.value-item.is in (
      omega (
        arith,
        rest_mass _ _ c.in-len1-up.len_at_least c.value-item.is,
        ap masses c.as_slice.ensures,
        c.decreases,
      ),
      λ name. match_value walk name node c.args.arms.now c.value-item.result (others c.as_slice.result.now) (lowered_with setting around name
          (K.Match c.args.arms.now S.Unit) node _ _ c.as_slice.ensures there (c.requires name)),
    )

pub put_match-put_first-requires : goal.arms::put_match-put_first-requires
put_match-put_first-requires t c =
    let walk = c.args.walk.now in let setting = walk.setting.now in let around = walk.around.now in let node = c.args.node.now in let there = first_of _ _
    c.in-len1-up.len_at_least c.value-item.is in (
      omega (
        arith,
        rest_mass _ _ c.in-len1-up.len_at_least c.value-item.is,
        ap masses c.as_slice.ensures,
        mass_some c.value-item.result,
        c.decreases,
      ),
      λ name. match_bodies walk name node c.args.arms.now c.value-item.result (others c.as_slice.result.now)
          (lowered_with setting around name (K.Match c.args.arms.now S.Unit) node _ _ c.as_slice.ensures there (c.requires name)),
    )

pub put_match-returns-in-empty : goal.arms::put_match-returns-in-empty
put_match-returns-in-empty t c =
    let walk = c.args.walk.now in let setting = walk.setting.now in let around = walk.around.now in let node = c.args.node.now in let here : Naming = λ
    place typ. 0 in absurd (omega (
      arith,
      so_some (node_for setting around here) _ _ _ c.as_slice.ensures (match_parts setting.types.now (callees_of setting
          around) (tables_for setting around.instances.now) (out-Core node).number c.args.arms.now S.Unit (nodes_for walk here (out-Core node).parts)
          (c.requires
          here)),
    ))

pub put_caught-returns-in-empty : goal.arms::put_caught-returns-in-empty
put_caught-returns-in-empty t c =
    let walk = c.args.walk.now in let setting = walk.setting.now in let around = walk.around.now in let node = c.args.node.now in let here : Naming = λ
    place typ. 0 in absurd (omega (
      arith,
      so_some (node_for setting around here) _ _ _ c.as_slice.ensures (try_parts setting.types.now (callees_of setting
          around) (tables_for setting around.instances.now) (out-Core node).number c.args.arms.now S.Unit (nodes_for walk here (out-Core node).parts)
          (c.requires
          here)),
    ))

pub put_caught-put_try-requires : goal.arms::put_caught-put_try-requires
put_caught-put_try-requires t c =
    let walk = c.args.walk.now in let setting = walk.setting.now in let around = walk.around.now in let node = c.args.node.now in let there = first_of _ _
    c.in-len1-up.len_at_least c.value-item.is in (
      omega (
        arith,
        rest_mass _ _ c.in-len1-up.len_at_least c.value-item.is,
        ap masses c.as_slice.ensures,
        c.decreases,
      ),
      λ name. try_lowered walk name node c.args.arms.now c.value-item.result (others c.as_slice.result.now) _ c.as_slice-arms.ensures
          (lowered_with setting around name (K.Try c.args.arms.now S.Unit) node _ _ c.as_slice.ensures there (c.requires name)),
    )

pub put_try-put_inside-requires : goal.arms::put_try-put_inside-requires
put_try-put_inside-requires t c =
    let walk = c.args.walk.now in let setting = walk.setting.now in (
      omega (arith, c.decreases),
      λ name. (and_parts (node_ok walk name c.args.value.now)
          (arms_fit (size_for setting) (crosses_for setting) (reads_at setting.reads.now) c.args.arms.now
          && all_lowered_for walk name c.args.bodies.now) (c.requires name)).0,
    )

pub put_try-put_first-requires : goal.arms::put_try-put_first-requires
put_try-put_first-requires t c =
    let walk = c.args.walk.now in let setting = walk.setting.now in (
      omega (arith, c.decreases, mass_some c.args.value.now),
      λ name. (and_parts
          (arms_fit (size_for setting) (crosses_for setting) (reads_at setting.reads.now) c.args.arms.now)
          (all_lowered_for walk name c.args.bodies.now) (and_parts (node_ok walk
          name c.args.value.now)
          (arms_fit (size_for setting) (crosses_for setting) (reads_at setting.reads.now) c.args.arms.now
          && all_lowered_for walk name c.args.bodies.now) (c.requires name)).1).1,
    )

pub put_clauses-put_first-requires : goal.arms::put_clauses-put_first-requires
put_clauses-put_first-requires t c =
    let walk = c.args.walk.now in let setting = walk.setting.now in let around = walk.around.now in let node = c.args.node.now in (
      omega (
        arith,
        ap masses
            c.as_slice-2.ensures,
        c.decreases,
      ),
      λ name. ap (λ (cs : List Core). all_lowered_for walk name cs) c.as_slice-2.ensures
          ∙ (and_parts (arms_fit (size_for setting) (crosses_for setting) (reads_at
          setting.reads.now) c.args.arms.now) (all_lowered_for walk name (out-Core node).parts) (c.requires name)).1,
    )

pub put_arm-returns : goal.arms::put_arm-returns
put_arm-returns t c =
    let walk = c.args.walk.now in let setting = walk.setting.now in let s = stand_of c.args.stand.now in let hand = c.in_ok-hand.hand in let p : Naming →
    Piece = λ name. block_for walk name c.args.number c.args.statements.now c.args.parts.now in armed_put setting c.put_block.result (λ name. tail_of
    setting name c.args.tail.now) s (gives_at (nodes_in setting) c.args.giver) (matched_of c.args.matched.now) c.args.arm.now p (hand_so_far hand)
    c.arm_steps.result.now c.arm_steps.ensures c.in_ok-hand.ensures.hand _ _ _ c.in_ok-hand.ensures.code (subst (λ (ns : List Named). OnOk
    c.put_block.result (Emits c.put_looks.new.coding c.put_block.new.coding (λ name l. (p name).ended (moved setting.types.now (kit_for setting name)
    hand.free s (tail_of setting name c.args.tail.now)) (record s { scope = map named_of ns ++ s.scope; temp = hand.free }) l) (λ name. (p name).labels
    (tail_of setting name c.args.tail.now).labels))) c.as_slice.ensures c.put_block.ensures)

pub put_armed-returns : goal.arms::put_armed-returns
put_armed-returns t c =
    let walk = c.args.walk.now in let setting = walk.setting.now in let s = stand_of c.args.stand.now in let hand = c.in_ok-hand.hand in let p : Naming →
    Piece = λ name. piece_at walk name c.args.body.now in armed_put setting c.put_node.result (λ name. tail_of setting name c.args.tail.now) s (gives_at
    (nodes_in setting) c.args.giver) (matched_of c.args.matched.now) c.args.arm.now p (hand_so_far hand) c.arm_steps.result.now c.arm_steps.ensures
    c.in_ok-hand.ensures.hand _ _ _ c.in_ok-hand.ensures.code (subst (λ (ns : List Named). OnOk c.put_node.result (Emits c.put_looks.new.coding
    c.put_node.new.coding (λ name l. (p name).ended (moved setting.types.now (kit_for setting name) hand.free s (tail_of setting name c.args.tail.now))
    (record s { scope = map named_of ns ++ s.scope; temp = hand.free }) l) (λ name. (p name).labels (tail_of setting name c.args.tail.now).labels)))
    c.as_slice.ensures c.put_node.ensures)

pub put_taken-returns : goal.arms::put_taken-returns
put_taken-returns t c =
    let walk = c.args.walk.now in let setting = walk.setting.now in let s = stand_of c.args.stand.now in let notes = c.list_arm.new.noted in let p : Naming
    → Piece = λ name. armed_for walk name c.args.giver c.args.matched.now c.args.arm.now c.args.body.now in let below = record s { on_no = c.args.label } in
    inside_put c.put_armed.result (λ name. kit_for setting name) (number_for setting) below (λ name. tail_of setting name c.args.tail.now) p notes (λ name.
    c.in_ok-list_arm.ensures name ∙ ap (λ (ns : List ℕ). ns ++ (p name).notes) c.new-noted.ensures) _ _ _ (subst (λ (ns : List ℕ). Plain c.args.coding.now
    c.put_enter.new.coding (λ name. enter_code (kit_for setting name) s.depths ns)) c.as_slice.ensures c.in_ok-put_enter.ensures) (subst (λ (ns : List ℕ).
    OnOk c.put_armed.result (Emits c.put_enter.new.coding c.put_armed.new.coding (λ name l. (p name).ended (tail_of setting name c.args.tail.now) (inner ns
    below) l) (λ name. (p name).labels (tail_of setting name c.args.tail.now).labels))) c.as_slice-2.ensures c.put_armed.ensures)

pub put_clauses-returns : goal.arms::put_clauses-returns
put_clauses-returns t c =
    let walk = c.args.walk.now in let setting = walk.setting.now in let around = walk.around.now in let node = c.args.node.now in put_as c.put_first.result
    _ _ walk c.args.stand.now c.args.tail.now (λ name. with_ends (first_of_given walk name node c.as_slice.result.now c.as_slice-2.result.now) (pieces_for
    walk name (out-Core node).parts)) _ (λ name. (λ i. with_ends (first_of_given walk name node (c.as_slice.ensures i) (c.as_slice-2.ensures i)) (pieces_for
    walk name (out-Core node).parts))) c.put_first.ensures

pub put_match-returns-in_ok-put_first-in-len1-up : goal.arms::put_match-returns-in_ok-put_first-in-len1-up
put_match-returns-in_ok-put_first-in-len1-up t c =
    let walk = c.args.walk.now in let setting = walk.setting.now in let around = walk.around.now in let node = c.args.node.now in let there = first_of _ _
    c.in-len1-up.len_at_least c.value-item.is in put_as c.put_again.result _ _ walk c.args.stand.now c.args.tail.now _ _ (λ name. with_is setting around
    name (K.Match c.args.arms.now S.Unit) node _ _ c.as_slice.ensures there) (match_put c.put_again.result walk c.args.stand.now c.args.tail.now node
    c.args.arms.now c.value-item.result (others c.as_slice.result.now) (types_of c.in_ok-ends-in-len1-up.ends) c.as_slice-in-len1-up.result.now
    c.cases.result.now c.as_slice-in-len1-up.ensures c.cases.ensures (λ name. c.in_ok-ends-in-len1-up.ensures name) _ _ _ _
    c.in_ok-put_held-in-len1-up.ensures c.in_ok-put_first-in-len1-up.ensures c.put_again.ensures)

pub put_caught-returns-in_ok-put_try-in-len1-up : goal.arms::put_caught-returns-in_ok-put_try-in-len1-up
put_caught-returns-in_ok-put_try-in-len1-up t c =
    let walk = c.args.walk.now in let setting = walk.setting.now in let around = walk.around.now in let node = c.args.node.now in let there = first_of _ _
    c.in-len1-up.len_at_least c.value-item.is in put_as c.put_again.result _ _ walk c.args.stand.now c.args.tail.now _ _ (λ name. with_is setting around
    name (K.Try c.args.arms.now S.Unit) node _ _ c.as_slice.ensures there) (caught_put c.put_again.result walk c.args.stand.now c.args.tail.now node
    c.args.arms.now c.value-item.result (others c.as_slice.result.now) c.as_slice-arms.result.now c.cases.result.now c.as_slice-arms.ensures c.cases.ensures
    _ _ _ c.in_ok-put_try-in-len1-up.ensures c.put_again.ensures)

pub put_try-returns : goal.arms::put_try-returns
put_try-returns t c =
    let walk = c.args.walk.now in let setting = walk.setting.now in let s = stand_of c.args.stand.now in try_put c.put_label.result walk c.args.stand.now
    c.args.tail.now c.args.number c.args.arms.now c.args.value.now c.args.bodies.now (types_of c.in_ok-ends.ends) c.in_ok-ends.ensures _ _ _ _ _ _ _
    c.in_ok-label.label c.in_ok-end.end c.in_ok-label.ensures.first c.in_ok-end.ensures c.in_ok-label.ensures.taken c.in_ok-put_inside.ensures
    c.in_ok-end_arm.ensures c.in_ok-put_made.ensures c.in_ok-put_first.ensures c.put_label.ensures

pub put_choice-returns-in_ok-put_first-in-len1-up : goal.arms::put_choice-returns-in_ok-put_first-in-len1-up
put_choice-returns-in_ok-put_first-in-len1-up t c =
    let walk = c.args.walk.now in let setting = walk.setting.now in let s = stand_of c.args.stand.now in let x = c.body-item.result in let xs = others
    c.args.bodies.now in put_as c.put_label.result _ _ walk c.args.stand.now c.args.tail.now _ _ (λ name. ap (λ (cs : List Core). first_for walk name
    c.args.node c.args.matched.now (c.args.arm.now ∷ c.args.rest.now) cs c.args.otherwise) (sym (first_of c.args.bodies.now x c.in-len1-up.len_at_least
    c.body-item.is))) (else_put c.put_label.result (λ name. kit_for setting name) s (λ name. tail_of setting name c.args.tail.now) setting.types.now (λ
    name. inside_piece (kit_for setting name) (armed_for walk name (G.Arm c.args.node (length c.args.rest.now)) c.args.matched.now c.args.arm.now x)) (λ
    name. first_for walk name c.args.node c.args.matched.now c.args.rest.now xs c.args.otherwise) _ _ _ _ _ _ c.in_ok-label-in-len1-up.label
    c.in_ok-end-in-len1-up.end c.in_ok-label-in-len1-up.ensures.first c.in_ok-end-in-len1-up.ensures c.in_ok-label-in-len1-up.ensures.taken
    c.in_ok-put_taken-in-len1-up.ensures c.in_ok-end_arm-in-len1-up.ensures c.in_ok-put_first-in-len1-up.ensures c.put_label.ensures)
