-- Answers: assignments, and directions of mappings.
use Rattle.std.proofs.Common.{◌≡◌, ◌∙◌, ◌+◌, ◌-◌, List, length, refl, sym, ap, arith, true, false, ◌&&◌}
use Rattle.lowered_ends.proofs.Counts.{applies_parts, assign_one}
use Rattle.lowered_ends.proofs.Lists.{but_last, last_count, last_of, one_of}
use Rattle.lowered_ends.proofs.Masses.{last_mass, mass_some, masses, one_mass}
use Rattle.lowered_ends.proofs.Opened.{lowered_with, many_nodes, so_many, with_is}
use Rattle.lowered_ends.specs.Around.{callees_of, node_for}
use Rattle.lowered_ends.specs.Targets.{spot_in}
use Rattle.lowered_nodes.proofs.Assigned.{last_lowered, one_is, several_is, written_is}
use Rattle.lowered_nodes.proofs.Built.{written_put}
use Rattle.lowered_nodes.proofs.Crossed.{applied_put}
use Rattle.lowered_nodes.proofs.Forms.{crossing_lowered}
use Rattle.lowered_nodes.proofs.Putting.{put_as}
use Rattle.lowered_nodes.proofs.Spots.{spot_some}
use Rattle.lowered_nodes.specs.Walk.{all_lowered_for, as_for, as_ok, assign_for, node_ok, nodes_for, pieces_for}
use Rattle.lowered_ends.specs.declared.targets.Spot.{Spot as SpotFound}
use Rattle.lowered_pieces.specs.Forms.{unsaid}
use Rattle.lowered_pieces.specs.Places.{Naming}
use Rattle.lowered_pieces.specs.Writes.{assign_piece, spot_lowered}
use Rattle.lowered_nodes.proofs.Written.{given_put, one_put, several_put}
use Rattle.lowered_steps.specs.Cells.{cells_of}
use Rattle.lowered_steps.specs.Hands.{types_of}
use Rattle.lowered_steps.specs.Setting.{kit_for, number_for, tables_for}
use Rattle.lowered_steps.specs.Stands.{stand_of}
use Rattle.sail_core.specs.declared.targets.Target.{Target}
use Rattle.sail_core.specs.declared.tree.Core.{Core, out-Core}
use Rattle.std.proofs.lemmas.Bool.{and_parts, false≢true}
use Rattle.std.specs.Option.{option_copied}
use Rattle.sail_core.specs.declared.tree.Callee.TheVariants as F
use Rattle.sail_core.specs.declared.tree.Kind.TheVariants as K
use Rattle.lowered_nodes.proofs.+lowering.Goals as goal

pub put_crossing-returns-in-len1 : goal.mappings::put_crossing-returns-in-len1
put_crossing-returns-in-len1 t c =
    let walk = c.args.walk.now in let setting = walk.setting.now in let around = walk.around.now in let node = c.args.node.now in let one = one_of _ _
    c.in-len1.len_at_least c.in-len1.len_below c.value-item.is in put_as c.put_applied.result _ _ walk c.args.stand.now c.args.tail.now _ _ (λ name. with_is
    setting around name (K.Call (F.Applies c.args.direction)) node _ _ c.as_slice.ensures one) c.put_applied.ensures

pub put_crossing-returns-in_default : goal.mappings::put_crossing-returns-in_default
put_crossing-returns-in_default t c =
    let walk = c.args.walk.now in let setting = walk.setting.now in let around = walk.around.now in let node = c.args.node.now in let here : Naming = λ
    place typ. 0 in absurd (omega (
      arith,
      so_many (node_for setting around here) _ _ _ c.as_slice.ensures (applies_parts setting.types.now (callees_of
          setting around) (tables_for setting around.instances.now) (out-Core node).number c.args.direction (nodes_for walk here (out-Core node).parts)
          (c.requires here)),
    ))

pub put_crossing-returns-in_default-2 : goal.mappings::put_crossing-returns-in_default-2
put_crossing-returns-in_default-2 t c =
    let walk = c.args.walk.now in let setting = walk.setting.now in let around = walk.around.now in let node = c.args.node.now in let here : Naming = λ
    place typ. 0 in absurd (omega (
      arith,
      so_many (node_for setting around here) _ _ _ c.as_slice.ensures (applies_parts setting.types.now (callees_of
          setting around) (tables_for setting around.instances.now) (out-Core node).number c.args.direction (nodes_for walk here (out-Core node).parts)
          (c.requires here)),
    ))

pub put_assigned-returns-in-One : goal.writes::put_assigned-returns-in-One
put_assigned-returns-in-One t c =
    let walk = c.args.walk.now in let v = c.value-item.result in let xs = c.args.parts.now in
    let last = last_of xs v c.in-len1-up.len_at_least c.value-item.is in
    put_as c.put_one.result _ _ walk c.args.stand.now c.args.tail.now _ _
    (λ name. one_is walk name c.in-One.cell xs (but_last xs) v last ∙ ap (λ (sp : SpotFound). assign_for walk name sp xs) (sym c.in-One.is)) c.put_one.ensures

pub put_assigned-put_one-requires : goal.writes::put_assigned-put_one-requires
put_assigned-put_one-requires t c =
    let walk = c.args.walk.now in let setting = walk.setting.now in let around = walk.around.now in let v = c.value-item.result in let xs = c.args.parts.now
    in let last = last_of xs v c.in-len1-up.len_at_least c.value-item.is in (
      omega (arith, last_mass xs v c.in-len1-up.len_at_least c.value-item.is, c.decreases),
      λ name. last_lowered walk name (but_last xs) v (ap (λ (cs : List Core). all_lowered_for walk name cs) (sym last) ∙ (and_parts
          (spot_lowered setting.types.now (tables_for setting around.instances.now) (spot_in c.args.spot) (length xs)) (all_lowered_for walk name xs)
          (c.requires
          name)).1),
    )

pub put_assigned-returns-in-Several : goal.writes::put_assigned-returns-in-Several
put_assigned-returns-in-Several t c =
    let walk = c.args.walk.now in let v = c.value-item.result in let xs = c.args.parts.now in
    let last = last_of xs v c.in-len1-up.len_at_least c.value-item.is in
    put_as c.put_shares.result _ _ walk c.args.stand.now c.args.tail.now _ _
    (λ name. several_is walk name (cells_of c.in-Several.targets.now) xs (but_last xs) v last
    ∙ ap (λ (sp : SpotFound). assign_for walk name sp xs) (sym c.in-Several.is)) c.put_shares.ensures

pub put_assigned-put_shares-requires : goal.writes::put_assigned-put_shares-requires
put_assigned-put_shares-requires t c =
    let walk = c.args.walk.now in let setting = walk.setting.now in let around = walk.around.now in let v = c.value-item.result in let xs = c.args.parts.now
    in let last = last_of xs v c.in-len1-up.len_at_least c.value-item.is in (
      omega (arith, last_mass xs v c.in-len1-up.len_at_least c.value-item.is, c.decreases),
      λ name. last_lowered walk name (but_last xs) v (ap (λ (cs : List Core). all_lowered_for walk name cs) (sym last) ∙ (and_parts
          (spot_lowered setting.types.now (tables_for setting around.instances.now) (spot_in c.args.spot) (length xs)) (all_lowered_for walk name xs)
          (c.requires
          name)).1),
    )

pub put_given-returns : goal.writes::put_given-returns
put_given-returns t c =
    given_put c.put_node.result c.args.walk.now c.args.stand.now c.args.gives.now c.args.takes c.args.indexes.now c.args.value.now _
    c.in_ok-further.ensures _ _ _ c.in_ok-put_all.ensures c.put_node.ensures

pub put_given-put_all-requires : goal.writes::put_given-put_all-requires
put_given-put_all-requires t c =
    let walk = c.args.walk.now in (
      omega (arith, c.decreases, mass_some c.args.value.now),
      λ name. (and_parts (all_lowered_for walk name c.args.indexes.now) (node_ok walk name c.args.value.now) (c.requires name)).0,
    )

pub put_given-put_node-requires : goal.writes::put_given-put_node-requires
put_given-put_node-requires t c =
    let walk = c.args.walk.now in (
      omega (arith, c.decreases),
      λ name. (and_parts (all_lowered_for walk name c.args.indexes.now) (node_ok walk name c.args.value.now) (c.requires name)).1,
    )

pub put_one-returns : goal.writes::put_one-returns
put_one-returns t c =
    one_put c.put_given.result c.args.walk.now c.args.stand.now c.args.tail.now c.args.cell _ c.args.indexes.now c.args.value.now c.in_ok-takes.ensures _ _
    c.put_given.ensures

pub put_one-put_given-requires : goal.writes::put_one-put_given-requires
put_one-put_given-requires t c = (omega (arith, c.decreases), c.requires)

pub put_shares-returns : goal.writes::put_shares-returns
put_shares-returns t c =
    several_put c.put_given.result c.args.walk.now c.args.stand.now c.args.tail.now (cells_of c.args.targets.now) _ c.args.indexes.now c.args.value.now
    c.in_ok-takes.ensures _ _ c.put_given.ensures

pub put_shares-put_given-requires : goal.writes::put_shares-put_given-requires
put_shares-put_given-requires t c = (omega (arith, c.decreases), c.requires)

pub put_assigned-returns-in-Called : goal.writes::put_assigned-returns-in-Called
put_assigned-returns-in-Called t c =
    let walk = c.args.walk.now in let setting = walk.setting.now in let around = walk.around.now in let v = c.value-item.result in let xs = c.args.parts.now
    in let last = last_of xs v c.in-len1-up.len_at_least c.value-item.is in put_as c.put_written.result _ _ walk c.args.stand.now c.args.tail.now _ _ (λ
    name. written_is walk name c.in-Called.number _ c.in-Called.field-2 _ c.in-Called.field-4 _ xs (but_last xs) v last refl ∙ ap (λ (sp : SpotFound).
    assign_for walk name sp xs) (sym c.in-Called.is)) c.put_written.ensures

pub put_written-put_all-requires : goal.writes::put_written-put_all-requires
put_written-put_all-requires t c =
    let walk = c.args.walk.now in (
      omega (arith, c.decreases, mass_some c.args.value.now),
      λ name. (and_parts (all_lowered_for walk name
          c.args.arguments.now) (node_ok walk name c.args.value.now) (c.requires.0 name)).0,
    )

pub put_written-put_cast-requires : goal.writes::put_written-put_cast-requires
put_written-put_cast-requires t c =
    let walk = c.args.walk.now in (
      omega (arith, c.decreases),
      λ name. (and_parts (all_lowered_for walk name c.args.arguments.now) (node_ok walk name
          c.args.value.now) (c.requires.0 name)).1,
    )

pub put_applied-put_held-requires : goal.mappings::put_applied-put_held-requires
put_applied-put_held-requires t c =
    (omega (arith, c.decreases), c.requires)

pub put_applied-returns-in_ok-payload-in-Some : goal.mappings::put_applied-returns-in_ok-payload-in-Some
put_applied-returns-in_ok-payload-in-Some t c =
    let walk = c.args.walk.now in let setting = walk.setting.now in let s = stand_of c.args.stand.now in applied_put c.put_made.result walk c.args.stand.now
    c.args.tail.now c.args.node.now c.args.value.now c.args.direction c.in-Some.mapped.now (sym c.direction.ensures ∙ ap option_copied c.in-Some.is)
    (types_of c.in_ok-ends-in-Some.ends) (λ name. c.in_ok-ends-in-Some.ensures name) _ _ _ _ _ _ _ _ c.in_ok-label.label c.in_ok-behind.behind
    c.in_ok-payload-in-Some.payload c.in_ok-label.ensures.first c.in_ok-behind.ensures c.in_ok-payload-in-Some.ensures c.in_ok-label.ensures.taken
    c.in_ok-put_held.ensures c.in_ok-put_direction-in-Some.ensures c.in_ok-end_arm-in-Some.ensures c.in_ok-put_stop-in-Some.ensures
    c.in_ok-put_label-in-Some.ensures c.put_made.ensures

pub put_crossing-put_applied-requires : goal.mappings::put_crossing-put_applied-requires
put_crossing-put_applied-requires t c =
    let walk = c.args.walk.now in let setting = walk.setting.now in let around = walk.around.now in let node = c.args.node.now in let one = one_of _ _
    c.in-len1.len_at_least c.in-len1.len_below c.value-item.is in (
      omega (
        arith,
        one_mass _ _ c.in-len1.len_at_least c.value-item.is,
        ap masses
            c.as_slice.ensures,
        c.decreases,
      ),
      λ name. crossing_lowered walk name node c.args.direction c.value-item.result (lowered_with setting around name (K.Call
          (F.Applies c.args.direction)) node _ _ c.as_slice.ensures one (c.requires name)),
    )

pub put_assigned-returns-in-empty : goal.writes::put_assigned-returns-in-empty
put_assigned-returns-in-empty t c =
    let walk = c.args.walk.now in let setting = walk.setting.now in let around = walk.around.now in let here : Naming = λ place typ. 0 in let some =
    spot_some setting.types.now (tables_for setting around.instances.now) (spot_in c.args.spot) (length c.args.parts.now) (and_parts (spot_lowered
    setting.types.now (tables_for setting around.instances.now) (spot_in c.args.spot) (length c.args.parts.now)) (all_lowered_for walk here
    c.args.parts.now) (c.requires here)).0 in absurd (omega (arith, some))

pub put_assigned-returns-in-Other : goal.writes::put_assigned-returns-in-Other
put_assigned-returns-in-Other t c =
    let walk = c.args.walk.now in let setting = walk.setting.now in let around = walk.around.now in let v = c.value-item.result in let xs = c.args.parts.now
    in let last = last_of xs v c.in-len1-up.len_at_least c.value-item.is in let here : Naming = λ place typ. 0 in absurd (false≢true (ap (λ (sp :
    SpotFound). spot_lowered setting.types.now (tables_for setting around.instances.now) (spot_in sp) (length xs)) (sym c.in-Other.is) ∙ (and_parts
    (spot_lowered setting.types.now (tables_for setting around.instances.now) (spot_in c.args.spot) (length xs)) (all_lowered_for walk here xs) (c.requires
    here)).0))

pub put_assign-returns-in-len1 : goal.writes::put_assign-returns-in-len1
put_assign-returns-in-len1 t c =
    let walk = c.args.walk.now in let setting = walk.setting.now in let around = walk.around.now in let node = c.args.node.now in let one = sym
    c.as_slice.ensures ∙ one_of c.as_slice.result.now _ c.in-len1.len_at_least c.in-len1.len_below c.target-item.is in put_as c.put_assigned.result _ _ walk
    c.args.stand.now c.args.tail.now (λ name. unsaid (assign_for walk name c.spot_of-spot.result c.as_slice-in-len1.result.now)) _ (λ name. (λ i. unsaid
    (assign_piece setting.types.now (kit_for setting name) (number_for setting) (callees_of setting around) (tables_for setting around.instances.now)
    (c.spot_of-spot.ensures i) (pieces_for walk name (c.as_slice-in-len1.ensures i)))) ∙ ap (λ (ts : List Target). as_for walk name (K.Assign ts) node) (sym
    one)) c.put_assigned.ensures

pub put_assign-put_assigned-requires : goal.writes::put_assign-put_assigned-requires
put_assign-put_assigned-requires t c =
    let walk = c.args.walk.now in let setting = walk.setting.now in let around = walk.around.now in let node = c.args.node.now in let one = sym
    c.as_slice.ensures ∙ one_of c.as_slice.result.now _ c.in-len1.len_at_least c.in-len1.len_below c.target-item.is in (
      omega (
        arith,
        ap masses
            c.as_slice-in-len1.ensures,
        c.decreases,
      ),
      λ name. (λ i. spot_lowered setting.types.now (tables_for setting around.instances.now) (c.spot_of-spot.ensures
          i) ((ap (λ (cs : List Core). length cs) c.as_slice-in-len1.ensures ∙ sym (many_nodes (node_for setting around name) (out-Core node).parts)) i) &&
          all_lowered_for walk name (c.as_slice-in-len1.ensures i)) ∙ ap (λ (ts : List Target). as_ok walk name (K.Assign ts) node) (sym one) ∙ c.requires name,
    )

pub put_assign-returns-in_default : goal.writes::put_assign-returns-in_default
put_assign-returns-in_default t c =
    let walk = c.args.walk.now in let setting = walk.setting.now in let around = walk.around.now in let node = c.args.node.now in let here : Naming = λ
    place typ. 0 in let same : length c.as_slice.result.now ≡ length c.args.targets.now = ap (λ (ts : List Target). length ts) c.as_slice.ensures in absurd
    (omega (
      arith,
      same,
      assign_one setting.types.now (callees_of setting around) (tables_for setting around.instances.now) (out-Core node).number
          c.args.targets.now (nodes_for walk here (out-Core node).parts) (c.requires here),
    ))

pub put_assign-returns-in_default-2 : goal.writes::put_assign-returns-in_default-2
put_assign-returns-in_default-2 t c =
    let walk = c.args.walk.now in let setting = walk.setting.now in let around = walk.around.now in let node = c.args.node.now in let here : Naming = λ
    place typ. 0 in let same : length c.as_slice.result.now ≡ length c.args.targets.now = ap (λ (ts : List Target). length ts) c.as_slice.ensures in absurd
    (omega (
      arith,
      same,
      assign_one setting.types.now (callees_of setting around) (tables_for setting around.instances.now) (out-Core node).number
          c.args.targets.now (nodes_for walk here (out-Core node).parts) (c.requires here),
    ))

pub put_written-returns : goal.writes::put_written-returns
put_written-returns t c =
    let walk = c.args.walk.now in let setting = walk.setting.now in let s = stand_of c.args.stand.now in written_put c.put_calling.result walk
    c.args.stand.now c.args.tail.now c.args.number c.args.calling c.args.arguments.now c.args.value.now c.requires.1 _ (c.in_ok-further.ensures ∙ ap (λ n.
    c.args.stand.now.temp + n) c.in_ok-as_number.ensures) _ _ _ _ c.in_ok-put_all.ensures c.in_ok-put_cast.ensures c.put_calling.ensures

pub put_assigned-put_written-requires : goal.writes::put_assigned-put_written-requires
put_assigned-put_written-requires t c =
    let walk = c.args.walk.now in let setting = walk.setting.now in let around = walk.around.now in let v = c.value-item.result in let xs = c.args.parts.now
    in let last = last_of xs v c.in-len1-up.len_at_least c.value-item.is in (
      omega (
        arith,
        last_mass xs v c.in-len1-up.len_at_least c.value-item.is,
        c.decreases,
      ),
      (
        λ name. last_lowered walk name (but_last xs) v (ap (λ (cs : List Core). all_lowered_for walk name cs) (sym last) ∙ (and_parts
            (spot_lowered setting.types.now (tables_for setting around.instances.now) (spot_in c.args.spot) (length xs)) (all_lowered_for walk name xs)
            (c.requires
            name)).1),
        last_count xs v c.in-len1-up.len_at_least c.value-item.is,
      ),
    )
