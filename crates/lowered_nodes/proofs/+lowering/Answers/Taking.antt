-- Answers: parts of values.
use Rattle.std.proofs.Common.{◌∙◌, ◌-◌, List, length, sym, ap, arith}
use Rattle.lowered_ends.proofs.Counts.{part_parts}
use Rattle.lowered_ends.proofs.Masses.{mass_some, masses, masses_drop, masses_take, rest_mass}
use Rattle.lowered_ends.proofs.Opened.{lowered_with, so_some, with_is}
use Rattle.lowered_ends.specs.Around.{callees_of, node_for}
use Rattle.lowered_nodes.proofs.Forms.{path_none}
use Rattle.lowered_ends.proofs.Lists.{first_at, first_of, none_of, others, others_many}
use Rattle.lowered_nodes.proofs.Putting.{put_as}
use Rattle.lowered_nodes.proofs.Ways.{before_ok, own_many, own_ok, way_alone, way_before, way_put}
use Rattle.lowered_nodes.specs.Walk.{node_ok, nodes_for, path_for, path_ok, piece_at, way_for, ways_ok}
use Rattle.lowered_pieces.specs.Places.{Naming}
use Rattle.lowered_steps.specs.Setting.{tables_for}
use Rattle.lowered_steps.specs.Stands.{stand_of}
use Rattle.sail_core.specs.declared.targets.Suffix.{Suffix}
use Rattle.sail_core.specs.declared.tree.Core.{out-Core}
use Rattle.std.proofs.lemmas.Bool.{and_parts}
use Rattle.sail_core.specs.declared.tree.Kind.TheVariants as K
use Rattle.lowered_nodes.proofs.+lowering.Goals as goal

pub put_part_of-returns-in-empty : goal.paths::put_part_of-returns-in-empty
put_part_of-returns-in-empty t c =
    let walk = c.args.walk.now in let setting = walk.setting.now in let around = walk.around.now in let node = c.args.node.now in let here : Naming = λ
    place typ. 0 in absurd (omega (
      arith,
      so_some (node_for setting around here) _ _ _ c.as_slice.ensures (part_parts setting.types.now (callees_of setting
          around) (tables_for setting around.instances.now) (out-Core node).number c.args.suffixes.now (nodes_for walk here (out-Core node).parts) (c.requires
          here)),
    ))

pub put_part_of-returns-in-len1-up : goal.paths::put_part_of-returns-in-len1-up
put_part_of-returns-in-len1-up t c =
    let walk = c.args.walk.now in let setting = walk.setting.now in let around = walk.around.now in let node = c.args.node.now in put_as c.put_path.result _
    _ walk c.args.stand.now c.args.tail.now (λ name. path_for walk name c.whole-item.result c.as_slice-suffixes.result.now (others
    c.as_slice.result.now)) _ (λ name. ap (λ (ss : List Suffix). path_for walk name c.whole-item.result ss (others c.as_slice.result.now))
    c.as_slice-suffixes.ensures ∙ with_is setting around name (K.Part c.args.suffixes.now) node _ _ c.as_slice.ensures (first_of _ _
    c.in-len1-up.len_at_least c.whole-item.is)) c.put_path.ensures

pub put_part_of-put_path-requires : goal.paths::put_part_of-put_path-requires
put_part_of-put_path-requires t c =
    let walk = c.args.walk.now in let setting = walk.setting.now in let around = walk.around.now in let node = c.args.node.now in (
      omega (
        arith,
        rest_mass _
            _ c.in-len1-up.len_at_least c.whole-item.is,
        ap masses c.as_slice.ensures,
        ap (λ (ss : List Suffix). length ss) c.as_slice-suffixes.ensures,
        c.decreases,
      ),
      λ name. ap (λ (ss : List Suffix). path_ok walk name c.whole-item.result ss (others c.as_slice.result.now)) c.as_slice-suffixes.ensures ∙
          lowered_with setting around name (K.Part c.args.suffixes.now) node _ _ c.as_slice.ensures (first_of _ _ c.in-len1-up.len_at_least c.whole-item.is)
          (c.requires name),
    )

pub put_path-returns-in-empty : goal.paths::put_path-returns-in-empty
put_path-returns-in-empty t c =
    let walk = c.args.walk.now in let setting = walk.setting.now in let s = stand_of c.args.stand.now in put_as c.put_node.result _ _ walk c.args.stand.now
    c.args.tail.now _ _ (λ name. path_none walk name c.args.whole.now c.args.suffixes.now c.args.indexes.now (none_of c.args.suffixes.now
    c.in-empty.len_below) (and_parts (node_ok walk name c.args.whole.now) (ways_ok walk name c.args.suffixes.now c.args.indexes.now) (c.requires name)).1)
    c.put_node.ensures

pub put_path-put_node-requires : goal.paths::put_path-put_node-requires
put_path-put_node-requires t c =
    let walk = c.args.walk.now in (
      omega (arith, c.decreases),
      λ name. (and_parts (node_ok walk name c.args.whole.now) (ways_ok walk name
          c.args.suffixes.now c.args.indexes.now) (c.requires name)).0,
    )

pub put_path-put_held-requires : goal.paths::put_path-put_held-requires
put_path-put_held-requires t c =
    let walk = c.args.walk.now in (
      omega (arith, c.decreases),
      λ name. (and_parts (node_ok walk name c.args.whole.now) (ways_ok walk name
          c.args.suffixes.now c.args.indexes.now) (c.requires name)).0,
    )

pub put_path-put_ways-requires : goal.paths::put_path-put_ways-requires
put_path-put_ways-requires t c =
    let walk = c.args.walk.now in (
      omega (
        arith,
        c.decreases,
        mass_some c.args.whole.now,
        others_many c.args.suffixes.now c.in-len1-up.len_at_least,
      ),
      λ name. ap (λ (ss : List Suffix). ways_ok walk name ss c.args.indexes.now) (sym (first_at c.args.suffixes.now _
          c.in-len1-up.len_at_least)) ∙ (and_parts (node_ok walk name c.args.whole.now) (ways_ok walk name c.args.suffixes.now c.args.indexes.now) (c.requires
          name)).1,
    )

pub put_path-returns-in_ok-put_held-in-len1-up : goal.paths::put_path-returns-in_ok-put_held-in-len1-up
put_path-returns-in_ok-put_held-in-len1-up t c =
    let walk = c.args.walk.now in let setting = walk.setting.now in let s = stand_of c.args.stand.now in put_as c.put_ways.result _ _ walk c.args.stand.now
    c.args.tail.now _ _ (λ name. ap (λ (ss : List Suffix). path_for walk name c.args.whole.now ss c.args.indexes.now) (sym (first_at c.args.suffixes.now _
    c.in-len1-up.len_at_least))) (c.put_ways.ensures c.args.coding.now (λ name. piece_at walk name c.args.whole.now) c.in_ok-put_held-in-len1-up.ensures)

pub put_way-put_all-requires : goal.paths::put_way-put_all-requires
put_way-put_all-requires t c =
    (omega (arith, c.decreases), c.requires.0)

pub put_way-returns : goal.paths::put_way-returns
put_way-returns t c =
    let walk = c.args.walk.now in let setting = walk.setting.now in let s = stand_of c.args.stand.now in λ old whole held. way_put c.put_made.result walk
    c.args.stand.now c.args.tail.now c.args.suffix.now c.args.indexes.now whole _ _ c.way_takes-takes.ensures.count c.way_op.ensures c.requires.1 _
    c.in_ok-further.ensures old _ _ _ held c.in_ok-put_all.ensures c.put_made.ensures

pub put_ways-returns-in-empty : goal.paths::put_ways-returns-in-empty
put_ways-returns-in-empty t c =
    let walk = c.args.walk.now in let setting = walk.setting.now in let s = stand_of c.args.stand.now in λ old whole held. put_as c.put_way.result _ _ walk
    c.args.stand.now c.args.tail.now _ _ (λ name. way_alone walk name c.args.suffix.now c.args.rest.now c.args.indexes.now c.own_indexes-own.result.now
    c.other_indexes-others.result.now c.way_takes-takes.result c.own_indexes-own.ensures c.other_indexes-others.ensures c.way_takes-takes.ensures.count
    (c.requires name) (none_of c.args.rest.now c.in-empty.len_below) (whole name)) (c.put_way.ensures old whole held)

pub put_ways-returns-in_ok-put_way-in-len1-up : goal.paths::put_ways-returns-in_ok-put_way-in-len1-up
put_ways-returns-in_ok-put_way-in-len1-up t c =
    let walk = c.args.walk.now in let setting = walk.setting.now in let s = stand_of c.args.stand.now in λ old whole held. put_as c.put_ways.result _ _ walk
    c.args.stand.now c.args.tail.now _ _ (λ name. way_before walk name c.args.suffix.now c.args.rest.now c.args.indexes.now c.own_indexes-own.result.now
    c.other_indexes-others.result.now c.way_takes-takes.result c.own_indexes-own.ensures c.other_indexes-others.ensures c.way_takes-takes.ensures.count
    (c.requires name) _ (first_at c.args.rest.now _ c.in-len1-up.len_at_least) (whole name)) (c.put_ways.ensures old (λ name. way_for walk name
    c.args.suffix.now (whole name) c.own_indexes-own.result.now) (c.in_ok-put_way-in-len1-up.ensures old whole held))

pub put_ways-put_way-requires : goal.paths::put_ways-put_way-requires
put_ways-put_way-requires t c =
    let walk = c.args.walk.now in let here : Naming = λ place typ. 0 in (
      omega (
        arith,
        ap masses c.own_indexes-own.ensures,
        ap masses
            c.other_indexes-others.ensures,
        masses_take c.args.indexes.now c.way_takes-takes.result,
        masses_drop c.args.indexes.now c.way_takes-takes.result,
        c.decreases,
      ),
      (
        λ name. own_ok walk name c.args.suffix.now c.args.rest.now c.args.indexes.now c.own_indexes-own.result.now
            c.other_indexes-others.result.now c.way_takes-takes.result c.own_indexes-own.ensures c.other_indexes-others.ensures c.way_takes-takes.ensures.count
            (c.requires name),
        own_many walk here c.args.suffix.now c.args.rest.now c.args.indexes.now c.own_indexes-own.result.now
            c.other_indexes-others.result.now c.way_takes-takes.result c.own_indexes-own.ensures c.other_indexes-others.ensures c.way_takes-takes.ensures.count
            (c.requires here),
      ),
    )

pub put_ways-put_way-requires-in-len1-up : goal.paths::put_ways-put_way-requires-in-len1-up
put_ways-put_way-requires-in-len1-up t c =
    let walk = c.args.walk.now in let here : Naming = λ place typ. 0 in (
      omega (
        arith,
        ap masses c.own_indexes-own.ensures,
        ap masses
            c.other_indexes-others.ensures,
        masses_take c.args.indexes.now c.way_takes-takes.result,
        masses_drop c.args.indexes.now c.way_takes-takes.result,
        c.decreases,
      ),
      (
        λ name. own_ok walk name c.args.suffix.now c.args.rest.now c.args.indexes.now c.own_indexes-own.result.now
            c.other_indexes-others.result.now c.way_takes-takes.result c.own_indexes-own.ensures c.other_indexes-others.ensures c.way_takes-takes.ensures.count
            (c.requires name),
        own_many walk here c.args.suffix.now c.args.rest.now c.args.indexes.now c.own_indexes-own.result.now
            c.other_indexes-others.result.now c.way_takes-takes.result c.own_indexes-own.ensures c.other_indexes-others.ensures c.way_takes-takes.ensures.count
            (c.requires here),
      ),
    )

pub put_ways-put_ways-requires : goal.paths::put_ways-put_ways-requires
put_ways-put_ways-requires t c =
    let walk = c.args.walk.now in (
      omega (
        arith,
        ap masses c.own_indexes-own.ensures,
        ap masses c.other_indexes-others.ensures,
        masses_take
            c.args.indexes.now c.way_takes-takes.result,
        masses_drop c.args.indexes.now c.way_takes-takes.result,
        c.decreases,
        others_many c.args.rest.now c.in-len1-up.len_at_least,
      ),
      λ name. before_ok walk name c.args.suffix.now c.args.rest.now c.args.indexes.now
          c.own_indexes-own.result.now c.other_indexes-others.result.now c.way_takes-takes.result c.own_indexes-own.ensures c.other_indexes-others.ensures
          c.way_takes-takes.ensures.count (c.requires name) _ (first_at c.args.rest.now _ c.in-len1-up.len_at_least),
    )
