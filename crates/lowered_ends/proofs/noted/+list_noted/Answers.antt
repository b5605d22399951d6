-- What is noted by a node of each kind, and by what is written, stands in files of their own.
mod Kinds
mod Written
use Rattle.lowered_ends.proofs.noted.+list_noted.Answers.Kinds
use Rattle.lowered_ends.proofs.noted.+list_noted.Answers.Written
use Rattle.std.proofs.Common.{◌∙◌, ◌-◌, List, ◌∷◌, length, sym, ap, arith}
use Rattle.lowered_ends.proofs.Assigning.{none_assigned, one_assigned, several_assigned}
use Rattle.lowered_ends.proofs.Lists.{first_of, none_of, one_of, others, others_many, two_and, two_of}
use Rattle.lowered_ends.proofs.Masses.{mass_at, mass_some, masses, one_mass, rest_mass, two_masses, two_rest_mass}
use Rattle.lowered_ends.proofs.Notes.{applies_notes, block_notes, both_short, bounds_four, bounds_short, first_short, first_two, if_few, if_many, if_three, if_two, last_notes, let_short, listed_row, made_noted, noted_as, noted_four, noted_none, noted_then, noted_three, one_short, row_notes, slice_short, suffix_step}
use Rattle.lowered_ends.proofs.Opened.{piece_with}
use Rattle.lowered_ends.proofs.Parts.{part_none, part_notes}
use Rattle.lowered_ends.specs.Around.{piece_as}
use Rattle.lowered_ends.specs.Noted.{all_noted, assigned_notes, block_for, both_noted, counted_notes, item_notes, let_noted, made_notes, match_noted, one_noted, row_noted, slice_notes, suffix_notes}
use Rattle.row_types.specs.Calls.{has_state}
use Rattle.sail_core.specs.declared.targets.Suffix.{Suffix}
use Rattle.sail_core.specs.declared.targets.Target.{Target}
use Rattle.sail_core.specs.declared.tree.Callee.{Callee}
use Rattle.sail_core.specs.declared.tree.Core.{Core, out-Core}
use Rattle.sail_core.specs.declared.tree.Statement.{Statement}
use Rattle.std.specs.Prelude.{Bool, nat_eq}
use Rattle.sail_core.specs.declared.tree.Kind.TheVariants as K
use Rattle.sail_types.specs.declared.shapes.Shape.TheVariants as S
use Rattle.lowered_ends.proofs.noted.+list_noted.Goals as goal

pub list_one-returns-in-len1 : goal.list_one-returns-in-len1
list_one-returns-in-len1 t c =
    let setting = c.args.setting.now in let around = c.args.around.now in λ name. noted_as c.list_noted.result _ _ _ _ (ap (λ (cs : List Core). one_noted
    setting around name cs) (sym (one_of c.args.parts.now _ c.in-len1.len_at_least c.in-len1.len_below c.value-item.is))) (c.list_noted.ensures name)

pub list_one-returns-in-empty : goal.list_one-returns-in-empty
list_one-returns-in-empty t c =
    let setting = c.args.setting.now in let around = c.args.around.now in λ name. noted_none _ _ (one_short setting around name c.args.parts.now (λ e. omega
    (arith, e, c.in-empty.len_below)))

pub list_one-returns-in-len2-up : goal.list_one-returns-in-len2-up
list_one-returns-in-len2-up t c =
    let setting = c.args.setting.now in let around = c.args.around.now in λ name. noted_none _ _ (one_short setting around name c.args.parts.now (λ e. omega
    (arith, e, c.in-len2-up.len_at_least)))

pub list_one-list_noted-requires : goal.list_one-list_noted-requires
list_one-list_noted-requires t c =
    (omega (arith, one_mass _ _ c.in-len1.len_at_least c.value-item.is, c.decreases), tt)

pub list_first-returns-in-empty : goal.list_first-returns-in-empty
list_first-returns-in-empty t c =
    let setting = c.args.setting.now in let around = c.args.around.now in λ name. noted_none _ _ (first_short setting around name c.args.parts.now (λ e.
    omega (arith, e, c.in-empty.len_below)))

pub list_first-returns-in-len1 : goal.list_first-returns-in-len1
list_first-returns-in-len1 t c =
    let setting = c.args.setting.now in let around = c.args.around.now in λ name. noted_none _ _ (first_short setting around name c.args.parts.now (λ e.
    omega (arith, e, c.in-len1.len_below)))

pub list_first-returns-in-len3-up : goal.list_first-returns-in-len3-up
list_first-returns-in-len3-up t c =
    let setting = c.args.setting.now in let around = c.args.around.now in λ name. noted_none _ _ (first_short setting around name c.args.parts.now (λ e.
    omega (arith, e, c.in-len3-up.len_at_least)))

pub list_first-returns-in-len2 : goal.list_first-returns-in-len2
list_first-returns-in-len2 t c =
    let setting = c.args.setting.now in let around = c.args.around.now in λ name. noted_as c.list_noted.result _ _ _ _ (first_two setting around name
    c.args.parts.now _ c.in-len2.len_at_least c.in-len2.len_below c.first-item.is) (c.list_noted.ensures name)

pub list_first-list_noted-requires : goal.list_first-list_noted-requires
list_first-list_noted-requires t c =
    (omega (arith, mass_at c.args.parts.now 0 _ (omega arith) c.first-item.is, c.decreases), tt)

pub list_both-returns-in_ok-list_noted-in-len2 : goal.list_both-returns-in_ok-list_noted-in-len2
list_both-returns-in_ok-list_noted-in-len2 t c =
    let setting = c.args.setting.now in let around = c.args.around.now in λ name. noted_as c.list_noted-in-len2.result _ _ _ _ (ap (λ (cs : List Core).
    both_noted setting around name cs) (sym (two_of c.args.parts.now _ _ c.in-len2.len_at_least c.in-len2.len_below c.first-item.is c.second-item.is)))
    (noted_then c.list_noted-in-len2.result _ _ _ _ _ (c.in_ok-list_noted-in-len2.ensures name) (c.list_noted-in-len2.ensures name))

pub list_both-returns-in-empty : goal.list_both-returns-in-empty
list_both-returns-in-empty t c =
    let setting = c.args.setting.now in let around = c.args.around.now in λ name. noted_none _ _ (both_short setting around name c.args.parts.now (λ e.
    omega (arith, e, c.in-empty.len_below)))

pub list_both-returns-in-len1 : goal.list_both-returns-in-len1
list_both-returns-in-len1 t c =
    let setting = c.args.setting.now in let around = c.args.around.now in λ name. noted_none _ _ (both_short setting around name c.args.parts.now (λ e.
    omega (arith, e, c.in-len1.len_below)))

pub list_both-returns-in-len3-up : goal.list_both-returns-in-len3-up
list_both-returns-in-len3-up t c =
    let setting = c.args.setting.now in let around = c.args.around.now in λ name. noted_none _ _ (both_short setting around name c.args.parts.now (λ e.
    omega (arith, e, c.in-len3-up.len_at_least)))

pub list_both-list_noted-requires : goal.list_both-list_noted-requires
list_both-list_noted-requires t c =
    (omega (arith, two_masses _ _ _ c.in-len2.len_at_least c.first-item.is c.second-item.is, c.decreases), tt)

pub list_both-list_noted-requires-in-len2 : goal.list_both-list_noted-requires-in-len2
list_both-list_noted-requires-in-len2 t c =
    (omega (arith, two_masses _ _ _ c.in-len2.len_at_least c.first-item.is c.second-item.is, c.decreases), tt)

pub list_bounds-returns-in-empty : goal.list_bounds-returns-in-empty
list_bounds-returns-in-empty t c =
    let setting = c.args.setting.now in let around = c.args.around.now in λ name. noted_none _ _ (bounds_short setting around name c.args.parts.now (λ e.
    omega (arith, e, c.in-empty.len_below)))

pub list_bounds-returns-in-len1 : goal.list_bounds-returns-in-len1
list_bounds-returns-in-len1 t c =
    let setting = c.args.setting.now in let around = c.args.around.now in λ name. noted_none _ _ (bounds_short setting around name c.args.parts.now (λ e.
    omega (arith, e, c.in-len1.len_below)))

pub list_bounds-returns-in-len2 : goal.list_bounds-returns-in-len2
list_bounds-returns-in-len2 t c =
    let setting = c.args.setting.now in let around = c.args.around.now in λ name. noted_none _ _ (bounds_short setting around name c.args.parts.now (λ e.
    omega (arith, e, c.in-len2.len_below)))

pub list_bounds-returns-in-len3 : goal.list_bounds-returns-in-len3
list_bounds-returns-in-len3 t c =
    let setting = c.args.setting.now in let around = c.args.around.now in λ name. noted_none _ _ (bounds_short setting around name c.args.parts.now (λ e.
    omega (arith, e, c.in-len3.len_below)))

pub list_bounds-returns-in-len5-up : goal.list_bounds-returns-in-len5-up
list_bounds-returns-in-len5-up t c =
    let setting = c.args.setting.now in let around = c.args.around.now in λ name. noted_none _ _ (bounds_short setting around name c.args.parts.now (λ e.
    omega (arith, e, c.in-len5-up.len_at_least)))

pub list_bounds-returns-in_ok-list_noted-in-len4-2 : goal.list_bounds-returns-in_ok-list_noted-in-len4-2
list_bounds-returns-in_ok-list_noted-in-len4-2 t c =
    let setting = c.args.setting.now in let around = c.args.around.now in λ name. noted_as c.list_noted-in-len4-2.result _ _ _ _ (bounds_four setting around
    name c.args.parts.now _ _ _ c.in-len4.len_at_least c.in-len4.len_below c.first-item.is c.last-item.is c.step-item.is) (noted_three
    c.list_noted-in-len4-2.result _ _ _ _ _ _ _ (c.in_ok-list_noted-in-len4.ensures name) (c.in_ok-list_noted-in-len4-2.ensures name)
    (c.list_noted-in-len4-2.ensures name))

pub list_bounds-list_noted-requires : goal.list_bounds-list_noted-requires
list_bounds-list_noted-requires t c =
    (omega (arith, mass_at c.args.parts.now 0 _ (omega arith) c.first-item.is, c.decreases), tt)

pub list_bounds-list_noted-requires-in-len4 : goal.list_bounds-list_noted-requires-in-len4
list_bounds-list_noted-requires-in-len4 t c =
    (omega (arith, mass_at c.args.parts.now 1 _ (omega arith) c.last-item.is, c.decreases), tt)

pub list_bounds-list_noted-requires-in-len4-2 : goal.list_bounds-list_noted-requires-in-len4-2
list_bounds-list_noted-requires-in-len4-2 t c =
    (omega (arith, mass_at c.args.parts.now 2 _ (omega arith) c.step-item.is, c.decreases), tt)

pub list_made-returns : goal.list_made-returns
list_made-returns t c =
    let setting = c.args.setting.now in let around = c.args.around.now in λ name. noted_then c.list_own.result _ _ _ _ _ (c.in_ok-list_all.ensures name)
    c.list_own.ensures

pub list_made-list_all-requires : goal.list_made-list_all-requires
list_made-list_all-requires t c =
    (omega (arith, c.decreases), tt)

pub list_where-returns-then-listed : goal.list_where-returns-then-listed
list_where-returns-then-listed t c =
    let setting = c.args.setting.now in let around = c.args.around.now in λ name. noted_as c.list_made.result _ _ _ _ (ap (λ (b : Bool). counted_notes
    setting around name c.args.node c.args.parts.now b) (sym c.if-listed.true)) (c.list_made.ensures name)

pub list_where-returns-else-listed : goal.list_where-returns-else-listed
list_where-returns-else-listed t c =
    let setting = c.args.setting.now in let around = c.args.around.now in λ name. noted_none _ _ (ap (λ (b : Bool). counted_notes setting around name
    c.args.node c.args.parts.now b) (sym c.if-listed.false))

pub list_where-list_made-requires : goal.list_where-list_made-requires
list_where-list_made-requires t c =
    (omega (arith, c.decreases), tt)

pub list_counted-returns : goal.list_counted-returns
list_counted-returns t c =
    λ name. c.list_where.ensures name

pub list_counted-list_where-requires : goal.list_counted-list_where-requires
list_counted-list_where-requires t c =
    (omega (arith, c.decreases), tt)

pub list_row-returns : goal.list_row-returns
list_row-returns t c =
    let setting = c.args.setting.now in let around = c.args.around.now in λ name. noted_as c.list_where.result _ _ _ _ (ap (λ (b : Bool). counted_notes
    setting around name c.args.node c.args.parts.now b) c.is_listed-listed.ensures ∙ listed_row setting around name c.args.node c.args.parts.now (has_state
    c.args.row)) (c.list_where.ensures name)

pub list_row-list_where-requires : goal.list_row-list_where-requires
list_row-list_where-requires t c =
    (omega (arith, c.decreases), tt)

pub list_all-returns-in-empty : goal.list_all-returns-in-empty
list_all-returns-in-empty t c =
    let setting = c.args.setting.now in let around = c.args.around.now in λ name. noted_none _ _ (ap (λ (cs : List Core). all_noted setting around name cs)
    (sym (none_of c.args.nodes.now c.in-empty.len_below)))

pub list_all-returns-in_ok-list_noted-in-len1-up : goal.list_all-returns-in_ok-list_noted-in-len1-up
list_all-returns-in_ok-list_noted-in-len1-up t c =
    let setting = c.args.setting.now in let around = c.args.around.now in λ name. noted_as c.list_all.result _ _ _ _ (ap (λ (cs : List Core). all_noted
    setting around name cs) (sym (first_of c.args.nodes.now _ c.in-len1-up.len_at_least c.first-item.is))) (noted_then c.list_all.result _ _ _ _ _
    (c.in_ok-list_noted-in-len1-up.ensures name) (c.list_all.ensures name))

pub list_all-list_noted-requires : goal.list_all-list_noted-requires
list_all-list_noted-requires t c =
    (omega (arith, rest_mass _ _ c.in-len1-up.len_at_least c.first-item.is, c.decreases), tt)

pub list_all-list_all-requires : goal.list_all-list_all-requires
list_all-list_all-requires t c =
    (omega (arith, rest_mass _ _ c.in-len1-up.len_at_least c.first-item.is, mass_some c.first-item.result, c.decreases), tt)

pub list_arm-returns : goal.list_arm-returns
list_arm-returns t c =
    λ name. noted_then c.list_noted.result _ _ _ _ _ c.in_ok-list_given.ensures (c.list_noted.ensures name)

pub list_arm-list_noted-requires : goal.list_arm-list_noted-requires
list_arm-list_noted-requires t c =
    (omega (arith, c.decreases), tt)

pub list_let-returns-in_ok-list_noted-in-len2 : goal.list_let-returns-in_ok-list_noted-in-len2
list_let-returns-in_ok-list_noted-in-len2 t c =
    let setting = c.args.setting.now in let around = c.args.around.now in let node = c.args.node.now in λ name. noted_as c.list_arm.result _ _ _ _ (ap (λ
    (cs : List Core). let_noted setting around name (out-Core node).number cs) (sym (sym c.as_slice.ensures ∙ two_of _ _ _ c.in-len2.len_at_least
    c.in-len2.len_below c.value-item.is c.behind-item.is))) (noted_then c.list_arm.result _ _ _ _ _ (c.in_ok-list_noted-in-len2.ensures name)
    (c.list_arm.ensures name))

pub list_let-returns-in-empty : goal.list_let-returns-in-empty
list_let-returns-in-empty t c =
    let setting = c.args.setting.now in let around = c.args.around.now in let node = c.args.node.now in λ name. noted_none _ _ (let_short setting around
    name (out-Core node).number c.as_slice.result.now (λ e. omega (arith, e, c.in-empty.len_below)) ∙ ap (λ (cs : List Core). let_noted setting around name
    (out-Core node).number cs) c.as_slice.ensures)

pub list_let-returns-in-len1 : goal.list_let-returns-in-len1
list_let-returns-in-len1 t c =
    let setting = c.args.setting.now in let around = c.args.around.now in let node = c.args.node.now in λ name. noted_none _ _ (let_short setting around
    name (out-Core node).number c.as_slice.result.now (λ e. omega (arith, e, c.in-len1.len_below)) ∙ ap (λ (cs : List Core). let_noted setting around name
    (out-Core node).number cs) c.as_slice.ensures)

pub list_let-returns-in-len3-up : goal.list_let-returns-in-len3-up
list_let-returns-in-len3-up t c =
    let setting = c.args.setting.now in let around = c.args.around.now in let node = c.args.node.now in λ name. noted_none _ _ (let_short setting around
    name (out-Core node).number c.as_slice.result.now (λ e. omega (arith, e, c.in-len3-up.len_at_least)) ∙ ap (λ (cs : List Core). let_noted setting around
    name (out-Core node).number cs) c.as_slice.ensures)

pub list_let-list_noted-requires : goal.list_let-list_noted-requires
list_let-list_noted-requires t c = (
  omega (
    arith,
    two_masses _ _ _ c.in-len2.len_at_least c.value-item.is c.behind-item.is,
    mass_some c.value-item.result,
    ap masses c.as_slice.ensures,
    c.decreases,
  ),
  tt,
)

pub list_let-list_arm-requires : goal.list_let-list_arm-requires
list_let-list_arm-requires t c = (
  omega (
    arith,
    two_masses _ _ _ c.in-len2.len_at_least c.value-item.is c.behind-item.is,
    mass_some c.value-item.result,
    ap masses c.as_slice.ensures,
    c.decreases,
  ),
  tt,
)

pub list_match-returns-in_ok-list_noted-in-len1-up : goal.list_match-returns-in_ok-list_noted-in-len1-up
list_match-returns-in_ok-list_noted-in-len1-up t c =
    let setting = c.args.setting.now in let around = c.args.around.now in let node = c.args.node.now in λ name. noted_as c.list_own.result _ _ _ _ (ap (λ
    (cs : List Core). match_noted setting around name (out-Core node).number cs) (sym (sym c.as_slice.ensures ∙ first_of _ _ c.in-len1-up.len_at_least
    c.value-item.is))) (noted_then c.list_own.result _ _ _ _ _ (c.in_ok-list_noted-in-len1-up.ensures name) c.list_own.ensures)

pub list_match-returns-in-empty : goal.list_match-returns-in-empty
list_match-returns-in-empty t c =
    let setting = c.args.setting.now in let around = c.args.around.now in let node = c.args.node.now in λ name. noted_none _ _ (ap (λ (cs : List Core).
    match_noted setting around name (out-Core node).number cs) (sym (sym c.as_slice.ensures ∙ none_of _ c.in-empty.len_below)))

pub list_match-list_noted-requires : goal.list_match-list_noted-requires
list_match-list_noted-requires t c =
    (omega (arith, rest_mass _ _ c.in-len1-up.len_at_least c.value-item.is, ap masses c.as_slice.ensures, c.decreases), tt)

pub list_assign-list_assigned-requires : goal.list_assign-list_assigned-requires
list_assign-list_assigned-requires t c =
    (omega (arith, ap masses c.as_slice-in-len1.ensures, c.decreases), tt)

pub list_suffixes-returns-in-empty : goal.list_suffixes-returns-in-empty
list_suffixes-returns-in-empty t c =
    let setting = c.args.setting.now in let around = c.args.around.now in λ name. noted_none _ _ (ap (λ (ss : List Suffix). suffix_notes setting around name
    ss c.args.indexes.now) (sym (none_of c.args.suffixes.now c.in-empty.len_below)))

pub list_suffixes-returns-in_ok-list_own-in-Field : goal.list_suffixes-returns-in_ok-list_own-in-Field
list_suffixes-returns-in_ok-list_own-in-Field t c =
    let setting = c.args.setting.now in let around = c.args.around.now in λ name. noted_as c.list_suffixes.result _ _ _ _ (suffix_step setting around name
    c.args.suffixes.now _ _ c.in-len1-up.len_at_least c.in-Field.is c.args.indexes.now) (noted_then c.list_suffixes.result _ _ _ _ _
    c.in_ok-list_own-in-Field.ensures (c.list_suffixes.ensures name))

pub list_suffixes-returns-in-Item : goal.list_suffixes-returns-in-Item
list_suffixes-returns-in-Item t c =
    let setting = c.args.setting.now in let around = c.args.around.now in λ name. noted_as c.list_item.result _ _ _ _ (suffix_step setting around name
    c.args.suffixes.now _ _ c.in-len1-up.len_at_least c.in-Item.is c.args.indexes.now) (c.list_item.ensures name)

pub list_suffixes-returns-in-Slice : goal.list_suffixes-returns-in-Slice
list_suffixes-returns-in-Slice t c =
    let setting = c.args.setting.now in let around = c.args.around.now in λ name. noted_as c.list_slice.result _ _ _ _ (suffix_step setting around name
    c.args.suffixes.now _ _ c.in-len1-up.len_at_least c.in-Slice.is c.args.indexes.now) (c.list_slice.ensures name)

pub list_suffixes-list_item-requires : goal.list_suffixes-list_item-requires
list_suffixes-list_item-requires t c =
    (omega (arith, others_many c.args.suffixes.now c.in-len1-up.len_at_least, c.decreases), tt)

pub list_suffixes-list_slice-requires : goal.list_suffixes-list_slice-requires
list_suffixes-list_slice-requires t c =
    (omega (arith, others_many c.args.suffixes.now c.in-len1-up.len_at_least, c.decreases), tt)

pub list_suffixes-list_suffixes-requires : goal.list_suffixes-list_suffixes-requires
list_suffixes-list_suffixes-requires t c =
    (omega (arith, others_many c.args.suffixes.now c.in-len1-up.len_at_least, c.decreases), tt)

pub list_item-returns-in-empty : goal.list_item-returns-in-empty
list_item-returns-in-empty t c =
    let setting = c.args.setting.now in let around = c.args.around.now in λ name. noted_none _ _ (ap (λ (cs : List Core). item_notes setting around name
    c.args.node c.args.rest.now cs) (sym (none_of c.args.indexes.now c.in-empty.len_below)))

pub list_item-returns-in_ok-list_own-in-len1-up : goal.list_item-returns-in_ok-list_own-in-len1-up
list_item-returns-in_ok-list_own-in-len1-up t c =
    let setting = c.args.setting.now in let around = c.args.around.now in λ name. noted_as c.list_suffixes.result _ _ _ _ (ap (λ (cs : List Core).
    item_notes setting around name c.args.node c.args.rest.now cs) (sym (first_of c.args.indexes.now _ c.in-len1-up.len_at_least c.index-item.is)))
    (noted_three c.list_suffixes.result _ _ _ _ _ _ _ (c.in_ok-list_noted-in-len1-up.ensures name) c.in_ok-list_own-in-len1-up.ensures
    (c.list_suffixes.ensures name))

pub list_item-list_noted-requires : goal.list_item-list_noted-requires
list_item-list_noted-requires t c =
    (omega (arith, rest_mass _ _ c.in-len1-up.len_at_least c.index-item.is, c.decreases), tt)

pub list_item-list_suffixes-requires : goal.list_item-list_suffixes-requires
list_item-list_suffixes-requires t c =
    (omega (arith, rest_mass _ _ c.in-len1-up.len_at_least c.index-item.is, mass_some c.index-item.result, c.decreases), tt)

pub list_slice-returns-in_ok-list_own-in-len2-up : goal.list_slice-returns-in_ok-list_own-in-len2-up
list_slice-returns-in_ok-list_own-in-len2-up t c =
    let setting = c.args.setting.now in let around = c.args.around.now in λ name. noted_as c.list_suffixes.result _ _ _ _ (ap (λ (cs : List Core).
    slice_notes setting around name c.args.node c.args.rest.now cs) (sym (two_and c.args.indexes.now _ _ c.in-len2-up.len_at_least c.high-item.is
    c.low-item.is))) (noted_four c.list_suffixes.result _ _ _ _ _ _ _ _ _ (c.in_ok-list_noted-in-len2-up.ensures name)
    (c.in_ok-list_noted-in-len2-up-2.ensures name) c.in_ok-list_own-in-len2-up.ensures (c.list_suffixes.ensures name))

pub list_slice-returns-in_default : goal.list_slice-returns-in_default
list_slice-returns-in_default t c =
    let setting = c.args.setting.now in let around = c.args.around.now in λ name. noted_none _ _ (slice_short setting around name c.args.node
    c.args.rest.now c.args.indexes.now (omega arith))

pub list_slice-list_noted-requires : goal.list_slice-list_noted-requires
list_slice-list_noted-requires t c =
    (omega (arith, two_rest_mass _ _ _ c.in-len2-up.len_at_least c.high-item.is c.low-item.is, c.decreases), tt)

pub list_slice-list_noted-requires-in-len2-up : goal.list_slice-list_noted-requires-in-len2-up
list_slice-list_noted-requires-in-len2-up t c =
    (omega (arith, two_rest_mass _ _ _ c.in-len2-up.len_at_least c.high-item.is c.low-item.is, c.decreases), tt)

pub list_slice-list_suffixes-requires : goal.list_slice-list_suffixes-requires
list_slice-list_suffixes-requires t c =
    (omega (arith, two_rest_mass _ _ _ c.in-len2-up.len_at_least c.high-item.is c.low-item.is, mass_some c.high-item.result, c.decreases), tt)

pub list_block-returns-in-empty : goal.list_block-returns-in-empty
list_block-returns-in-empty t c =
    let setting = c.args.setting.now in let around = c.args.around.now in λ name. noted_as c.list_one.result _ _ _ _ (last_notes setting around name
    c.args.node c.args.parts.now ∙ ap (λ (ss : List Statement). (block_for setting around name c.args.node ss c.args.parts.now).notes) (sym (none_of
    c.args.statements.now c.in-empty.len_below))) (c.list_one.ensures name)

pub list_block-list_one-requires : goal.list_block-list_one-requires
list_block-list_one-requires t c =
    (omega (arith, c.decreases), tt)

pub list_block-returns-in_ok-list_named-in-len1-up-parts : goal.list_block-returns-in_ok-list_named-in-len1-up-parts
list_block-returns-in_ok-list_named-in-len1-up-parts t c =
    let setting = c.args.setting.now in let around = c.args.around.now in λ name. noted_as c.list_block.result _ _ _ _ (block_notes setting around name
    c.args.node c.statement-item.result (others c.args.statements.now) c.first-item.result (others c.args.parts.now) ∙ (λ i. (block_for setting around name
    c.args.node (sym (first_of c.args.statements.now _ c.in-len1-up.len_at_least c.statement-item.is) i) (sym (first_of c.args.parts.now _
    c.in-len1-up-parts.len_at_least c.first-item.is) i)).notes)) (noted_three c.list_block.result _ _ _ _ _ _ _ (c.in_ok-list_noted-in-len1-up-parts.ensures
    name) c.in_ok-list_named-in-len1-up-parts.ensures (c.list_block.ensures name))

pub list_block-list_noted-requires : goal.list_block-list_noted-requires
list_block-list_noted-requires t c =
    (omega (arith, rest_mass _ _ c.in-len1-up-parts.len_at_least c.first-item.is, c.decreases), tt)

pub list_block-list_block-requires : goal.list_block-list_block-requires
list_block-list_block-requires t c =
    (omega (arith, rest_mass _ _ c.in-len1-up-parts.len_at_least c.first-item.is, mass_some c.first-item.result, c.decreases), tt)

pub list_callee-returns-in-Function : goal.list_callee-returns-in-Function
list_callee-returns-in-Function t c =
    let setting = c.args.setting.now in let around = c.args.around.now in let node = c.args.node.now in λ name. noted_as c.list_made.result _ _ _ _ (ap (λ
    (cs : List Core). made_notes setting around name (out-Core node).number cs) c.as_slice-parts.ensures ∙ made_noted setting around name node ∙ ap (λ (f :
    Callee). (piece_as setting around name (K.Call f) node).notes) (sym c.in-Function.is)) (c.list_made.ensures name)

pub list_callee-list_made-requires : goal.list_callee-list_made-requires
list_callee-list_made-requires t c =
    (omega (arith, ap masses c.as_slice-parts.ensures, c.decreases), tt)

pub list_callee-returns-in-Constructor : goal.list_callee-returns-in-Constructor
list_callee-returns-in-Constructor t c =
    let setting = c.args.setting.now in let around = c.args.around.now in let node = c.args.node.now in λ name. noted_as c.list_made-in-Constructor.result _
    _ _ _ (ap (λ (cs : List Core). made_notes setting around name (out-Core node).number cs) c.as_slice-parts.ensures ∙ made_noted setting around name node
    ∙ ap (λ (f : Callee). (piece_as setting around name (K.Call f) node).notes) (sym c.in-Constructor.is)) (c.list_made-in-Constructor.ensures name)

pub list_callee-list_made-requires-in-Constructor : goal.list_callee-list_made-requires-in-Constructor
list_callee-list_made-requires-in-Constructor t c =
    (omega (arith, ap masses c.as_slice-parts.ensures, c.decreases), tt)

pub list_callee-returns-in-Row : goal.list_callee-returns-in-Row
list_callee-returns-in-Row t c =
    let setting = c.args.setting.now in let around = c.args.around.now in let node = c.args.node.now in λ name. noted_as c.list_row.result _ _ _ _ (ap (λ
    (cs : List Core). row_noted setting around name (has_state c.in-Row.row) (out-Core node).number cs) c.as_slice-parts.ensures ∙ row_notes setting around
    name node c.in-Row.row ∙ ap (λ (f : Callee). (piece_as setting around name (K.Call f) node).notes) (sym c.in-Row.is)) (c.list_row.ensures name)

pub list_callee-returns-in-Converts : goal.list_callee-returns-in-Converts
list_callee-returns-in-Converts t c =
    let setting = c.args.setting.now in let around = c.args.around.now in let node = c.args.node.now in λ name. noted_none _ _ (ap (λ (f : Callee).
    (piece_as setting around name (K.Call f) node).notes) (sym c.in-Converts.is))

pub list_callee-returns-in-Applies : goal.list_callee-returns-in-Applies
list_callee-returns-in-Applies t c =
    let setting = c.args.setting.now in let around = c.args.around.now in let node = c.args.node.now in λ name. noted_as c.list_counted.result _ _ _ _ (ap
    (λ (cs : List Core). counted_notes setting around name (out-Core node).number cs (nat_eq (length cs) 1)) c.as_slice-parts.ensures ∙ applies_notes
    setting around name node c.in-Applies.field-0 (out-Core node).parts ∙ ap (λ (f : Callee). (piece_as setting around name (K.Call f) node).notes) (sym
    c.in-Applies.is)) (c.list_counted.ensures name)

pub list_callee-list_row-requires : goal.list_callee-list_row-requires
list_callee-list_row-requires t c =
    (omega (arith, ap masses c.as_slice-parts.ensures, c.decreases), tt)

pub list_callee-list_counted-requires : goal.list_callee-list_counted-requires
list_callee-list_counted-requires t c =
    (omega (arith, ap masses c.as_slice-parts.ensures, c.decreases), tt)

pub list_branches-returns-in-len2 : goal.list_branches-returns-in-len2
list_branches-returns-in-len2 t c =
    let setting = c.args.setting.now in let around = c.args.around.now in let node = c.args.node.now in λ name. noted_as c.list_noted.result _ _ _ _ (if_two
    setting around name node c.test-item.result c.as_slice.result.now c.in-len2.len_at_least c.in-len2.len_below c.test-item.is ∙ ap (λ (cs : List Core).
    (piece_with setting around name (K.If S.Unit) node cs).notes) c.as_slice.ensures) (c.list_noted.ensures name)

pub list_branches-returns-in_ok-list_noted-in-len3 : goal.list_branches-returns-in_ok-list_noted-in-len3
list_branches-returns-in_ok-list_noted-in-len3 t c =
    let setting = c.args.setting.now in let around = c.args.around.now in let node = c.args.node.now in λ name. noted_as c.list_own.result _ _ _ _ (if_three
    setting around name node c.test-item-then-this-lt4.result c.as_slice.result.now c.in-len3.len_at_least c.in-len3.len_below c.test-item-then-this-lt4.is
    ∙ ap (λ (cs : List Core). (piece_with setting around name (K.If S.Unit) node cs).notes) c.as_slice.ensures) (noted_then c.list_own.result _ _ _ _ _
    (c.in_ok-list_noted-in-len3.ensures name) c.list_own.ensures)

pub list_branches-list_noted-requires : goal.list_branches-list_noted-requires
list_branches-list_noted-requires t c =
    (omega (arith, mass_at c.as_slice.result.now 0 _ (omega (arith, c.in-len2.len_at_least)) c.test-item.is, ap masses c.as_slice.ensures, c.decreases), tt)

pub list_branches-list_noted-requires-in-len3 : goal.list_branches-list_noted-requires-in-len3
list_branches-list_noted-requires-in-len3 t c = (
  omega (
    arith,
    mass_at c.as_slice.result.now 0 _ (omega (arith, c.in-len3.len_at_least)) c.test-item-then-this-lt4.is,
    ap masses c.as_slice.ensures,
    c.decreases,
  ),
  tt,
)

pub list_branches-returns-in-empty : goal.list_branches-returns-in-empty
list_branches-returns-in-empty t c =
    let setting = c.args.setting.now in let around = c.args.around.now in let node = c.args.node.now in λ name. noted_none _ _ (if_few setting around name
    node c.as_slice.result.now (omega (arith, c.in-empty.len_below)) ∙ ap (λ (cs : List Core). (piece_with setting around name (K.If S.Unit) node cs).notes)
    c.as_slice.ensures)

pub list_branches-returns-in-len1 : goal.list_branches-returns-in-len1
list_branches-returns-in-len1 t c =
    let setting = c.args.setting.now in let around = c.args.around.now in let node = c.args.node.now in λ name. noted_none _ _ (if_few setting around name
    node c.as_slice.result.now (omega (arith, c.in-len1.len_below)) ∙ ap (λ (cs : List Core). (piece_with setting around name (K.If S.Unit) node cs).notes)
    c.as_slice.ensures)

pub list_branches-returns-in-len4-up : goal.list_branches-returns-in-len4-up
list_branches-returns-in-len4-up t c =
    let setting = c.args.setting.now in let around = c.args.around.now in let node = c.args.node.now in λ name. noted_none _ _ (if_many setting around name
    node c.as_slice.result.now (omega (arith, c.in-len4-up.len_at_least)) ∙ ap (λ (cs : List Core). (piece_with setting around name (K.If S.Unit) node
    cs).notes) c.as_slice.ensures)

pub list_assigned-returns-in-Other : goal.list_assigned-returns-in-Other
list_assigned-returns-in-Other = Written.list_assigned-returns-in-Other

pub list_assigned-returns-in_ok-list_all-in-One : goal.list_assigned-returns-in_ok-list_all-in-One
list_assigned-returns-in_ok-list_all-in-One = Written.list_assigned-returns-in_ok-list_all-in-One

pub list_assigned-list_all-requires : goal.list_assigned-list_all-requires
list_assigned-list_all-requires = Written.list_assigned-list_all-requires

pub list_assigned-returns-in_ok-list_all-in-Several : goal.list_assigned-returns-in_ok-list_all-in-Several
list_assigned-returns-in_ok-list_all-in-Several = Written.list_assigned-returns-in_ok-list_all-in-Several

pub list_assigned-list_all-requires-in-Several : goal.list_assigned-list_all-requires-in-Several
list_assigned-list_all-requires-in-Several = Written.list_assigned-list_all-requires-in-Several

pub list_assigned-returns-in_ok-list_own-in-Called : goal.list_assigned-returns-in_ok-list_own-in-Called
list_assigned-returns-in_ok-list_own-in-Called = Written.list_assigned-returns-in_ok-list_own-in-Called

pub list_assigned-list_all-requires-in-Called : goal.list_assigned-list_all-requires-in-Called
list_assigned-list_all-requires-in-Called = Written.list_assigned-list_all-requires-in-Called

pub list_assign-returns-in-len1 : goal.list_assign-returns-in-len1
list_assign-returns-in-len1 t c =
    let setting = c.args.setting.now in let around = c.args.around.now in let node = c.args.node.now in λ name. noted_as c.list_assigned.result _ _ _ _ (ap
    (λ (cs : List Core). assigned_notes setting around name c.spot_of-spot.result cs) c.as_slice-in-len1.ensures ∙ one_assigned setting around name node
    c.as_slice.result.now c.target-item.result c.spot_of-spot.result (out-Core node).parts (one_of c.as_slice.result.now _ c.in-len1.len_at_least
    c.in-len1.len_below c.target-item.is) c.spot_of-spot.ensures ∙ ap (λ (ts : List Target). (piece_with setting around name (K.Assign ts) node (out-Core
    node).parts).notes) c.as_slice.ensures) (c.list_assigned.ensures name)

pub list_assign-returns-in-empty : goal.list_assign-returns-in-empty
list_assign-returns-in-empty t c =
    let setting = c.args.setting.now in let around = c.args.around.now in let node = c.args.node.now in λ name. noted_none _ _ (none_assigned setting around
    name node c.as_slice.result.now (out-Core node).parts c.in-empty.len_below ∙ ap (λ (ts : List Target). (piece_with setting around name (K.Assign ts)
    node (out-Core node).parts).notes) c.as_slice.ensures)

pub list_assign-returns-in-len2-up : goal.list_assign-returns-in-len2-up
list_assign-returns-in-len2-up t c =
    let setting = c.args.setting.now in let around = c.args.around.now in let node = c.args.node.now in λ name. noted_none _ _ (several_assigned setting
    around name node c.as_slice.result.now (out-Core node).parts c.in-len2-up.len_at_least ∙ ap (λ (ts : List Target). (piece_with setting around name
    (K.Assign ts) node (out-Core node).parts).notes) c.as_slice.ensures)

pub list_part-returns-in-empty : goal.list_part-returns-in-empty
list_part-returns-in-empty t c =
    let setting = c.args.setting.now in let around = c.args.around.now in let node = c.args.node.now in λ name. noted_none _ _ (ap (λ (cs : List Core).
    (piece_with setting around name (K.Part c.args.suffixes.now) node cs).notes) (sym (none_of c.as_slice.result.now c.in-empty.len_below) ∙
    c.as_slice.ensures))

pub list_part-returns-in_ok-list_noted-in-len1-up : goal.list_part-returns-in_ok-list_noted-in-len1-up
list_part-returns-in_ok-list_noted-in-len1-up t c =
    let setting = c.args.setting.now in let around = c.args.around.now in let node = c.args.node.now in λ name. noted_as c.list_suffixes.result _ _ _ _
    (part_notes setting around name node c.as_slice-suffixes.result.now c.whole-item.result (others c.as_slice.result.now) (sym c.are_suffixes.ensures ∙
    c.if-are_suffixes.true) ∙ ap (λ (ss : List Suffix). (piece_with setting around name (K.Part ss) node (c.whole-item.result ∷ others
    c.as_slice.result.now)).notes) c.as_slice-suffixes.ensures ∙ ap (λ (cs : List Core). (piece_with setting around name (K.Part c.args.suffixes.now) node
    cs).notes) (sym (first_of c.as_slice.result.now _ c.in-len1-up.len_at_least c.whole-item.is) ∙ c.as_slice.ensures)) (noted_then c.list_suffixes.result _
    _ _ _ _ (c.in_ok-list_noted-in-len1-up.ensures name) (c.list_suffixes.ensures name))

pub list_part-returns-else-are_suffixes : goal.list_part-returns-else-are_suffixes
list_part-returns-else-are_suffixes t c =
    let setting = c.args.setting.now in let around = c.args.around.now in let node = c.args.node.now in λ name. noted_none _ _ (part_none setting around
    name node c.as_slice-suffixes.result.now c.whole-item.result (others c.as_slice.result.now) (sym c.are_suffixes.ensures ∙ c.if-are_suffixes.false) ∙ ap
    (λ (ss : List Suffix). (piece_with setting around name (K.Part ss) node (c.whole-item.result ∷ others c.as_slice.result.now)).notes)
    c.as_slice-suffixes.ensures ∙ ap (λ (cs : List Core). (piece_with setting around name (K.Part c.args.suffixes.now) node cs).notes) (sym (first_of
    c.as_slice.result.now _ c.in-len1-up.len_at_least c.whole-item.is) ∙ c.as_slice.ensures))

pub list_part-list_noted-requires : goal.list_part-list_noted-requires
list_part-list_noted-requires t c =
    (omega (arith, rest_mass _ _ c.in-len1-up.len_at_least c.whole-item.is, ap masses c.as_slice.ensures, c.decreases), tt)

pub list_part-list_suffixes-requires : goal.list_part-list_suffixes-requires
list_part-list_suffixes-requires t c = (
  omega (
    arith,
    rest_mass _ _ c.in-len1-up.len_at_least c.whole-item.is,
    mass_some c.whole-item.result,
    ap masses c.as_slice.ensures,
    ap (λ (ss : List
        Suffix). length ss) c.as_slice-suffixes.ensures,
    c.decreases,
  ),
  tt,
)

pub list_noted-returns-in-Local : goal.list_noted-returns-in-Local
list_noted-returns-in-Local = Kinds.list_noted-returns-in-Local

pub list_noted-returns-in-TopLevel : goal.list_noted-returns-in-TopLevel
list_noted-returns-in-TopLevel = Kinds.list_noted-returns-in-TopLevel

pub list_noted-returns-in-Register : goal.list_noted-returns-in-Register
list_noted-returns-in-Register = Kinds.list_noted-returns-in-Register

pub list_noted-returns-in-Call : goal.list_noted-returns-in-Call
list_noted-returns-in-Call = Kinds.list_noted-returns-in-Call

pub list_noted-list_callee-requires : goal.list_noted-list_callee-requires
list_noted-list_callee-requires = Kinds.list_noted-list_callee-requires

pub list_noted-returns-in-And : goal.list_noted-returns-in-And
list_noted-returns-in-And = Kinds.list_noted-returns-in-And

pub list_noted-list_first-requires : goal.list_noted-list_first-requires
list_noted-list_first-requires = Kinds.list_noted-list_first-requires

pub list_noted-returns-in-Or : goal.list_noted-returns-in-Or
list_noted-returns-in-Or = Kinds.list_noted-returns-in-Or

pub list_noted-list_first-requires-in-Or : goal.list_noted-list_first-requires-in-Or
list_noted-list_first-requires-in-Or = Kinds.list_noted-list_first-requires-in-Or

pub list_noted-returns-in-Cast : goal.list_noted-returns-in-Cast
list_noted-returns-in-Cast = Kinds.list_noted-returns-in-Cast

pub list_noted-list_counted-requires : goal.list_noted-list_counted-requires
list_noted-list_counted-requires = Kinds.list_noted-list_counted-requires

pub list_noted-returns-in-Tuple : goal.list_noted-returns-in-Tuple
list_noted-returns-in-Tuple = Kinds.list_noted-returns-in-Tuple

pub list_noted-list_made-requires : goal.list_noted-list_made-requires
list_noted-list_made-requires = Kinds.list_noted-list_made-requires

pub list_noted-returns-in-Vector : goal.list_noted-returns-in-Vector
list_noted-returns-in-Vector = Kinds.list_noted-returns-in-Vector

pub list_noted-list_made-requires-in-Vector : goal.list_noted-list_made-requires-in-Vector
list_noted-list_made-requires-in-Vector = Kinds.list_noted-list_made-requires-in-Vector

pub list_noted-returns-in-List : goal.list_noted-returns-in-List
list_noted-returns-in-List = Kinds.list_noted-returns-in-List

pub list_noted-list_made-requires-in-List : goal.list_noted-list_made-requires-in-List
list_noted-list_made-requires-in-List = Kinds.list_noted-list_made-requires-in-List

pub list_noted-returns-in-Cons : goal.list_noted-returns-in-Cons
list_noted-returns-in-Cons = Kinds.list_noted-returns-in-Cons

pub list_noted-list_made-requires-in-Cons : goal.list_noted-list_made-requires-in-Cons
list_noted-list_made-requires-in-Cons = Kinds.list_noted-list_made-requires-in-Cons

pub list_noted-returns-in-Struct : goal.list_noted-returns-in-Struct
list_noted-returns-in-Struct = Kinds.list_noted-returns-in-Struct

pub list_noted-list_made-requires-in-Struct : goal.list_noted-list_made-requires-in-Struct
list_noted-list_made-requires-in-Struct = Kinds.list_noted-list_made-requires-in-Struct

pub list_noted-returns-in-Part : goal.list_noted-returns-in-Part
list_noted-returns-in-Part = Kinds.list_noted-returns-in-Part

pub list_noted-list_part-requires : goal.list_noted-list_part-requires
list_noted-list_part-requires = Kinds.list_noted-list_part-requires

pub list_noted-returns-in-WithItem : goal.list_noted-returns-in-WithItem
list_noted-returns-in-WithItem = Kinds.list_noted-returns-in-WithItem

pub list_noted-list_counted-requires-in-WithItem : goal.list_noted-list_counted-requires-in-WithItem
list_noted-list_counted-requires-in-WithItem = Kinds.list_noted-list_counted-requires-in-WithItem

pub list_noted-returns-in-WithSlice : goal.list_noted-returns-in-WithSlice
list_noted-returns-in-WithSlice = Kinds.list_noted-returns-in-WithSlice

pub list_noted-list_counted-requires-in-WithSlice : goal.list_noted-list_counted-requires-in-WithSlice
list_noted-list_counted-requires-in-WithSlice = Kinds.list_noted-list_counted-requires-in-WithSlice

pub list_noted-returns-in-Assign : goal.list_noted-returns-in-Assign
list_noted-returns-in-Assign = Kinds.list_noted-returns-in-Assign

pub list_noted-list_assign-requires : goal.list_noted-list_assign-requires
list_noted-list_assign-requires = Kinds.list_noted-list_assign-requires

pub list_noted-returns-in-Block : goal.list_noted-returns-in-Block
list_noted-returns-in-Block = Kinds.list_noted-returns-in-Block

pub list_noted-list_block-requires : goal.list_noted-list_block-requires
list_noted-list_block-requires = Kinds.list_noted-list_block-requires

pub list_noted-returns-in-Let : goal.list_noted-returns-in-Let
list_noted-returns-in-Let = Kinds.list_noted-returns-in-Let

pub list_noted-list_let-requires : goal.list_noted-list_let-requires
list_noted-list_let-requires = Kinds.list_noted-list_let-requires

pub list_noted-returns-in-Var : goal.list_noted-returns-in-Var
list_noted-returns-in-Var = Kinds.list_noted-returns-in-Var

pub list_noted-list_both-requires : goal.list_noted-list_both-requires
list_noted-list_both-requires = Kinds.list_noted-list_both-requires

pub list_noted-returns-in-If : goal.list_noted-returns-in-If
list_noted-returns-in-If = Kinds.list_noted-returns-in-If

pub list_noted-list_branches-requires : goal.list_noted-list_branches-requires
list_noted-list_branches-requires = Kinds.list_noted-list_branches-requires

pub list_noted-returns-in-Match : goal.list_noted-returns-in-Match
list_noted-returns-in-Match = Kinds.list_noted-returns-in-Match

pub list_noted-list_match-requires : goal.list_noted-list_match-requires
list_noted-list_match-requires = Kinds.list_noted-list_match-requires

pub list_noted-returns-in-Try : goal.list_noted-returns-in-Try
list_noted-returns-in-Try = Kinds.list_noted-returns-in-Try

pub list_noted-returns-in-When : goal.list_noted-returns-in-When
list_noted-returns-in-When = Kinds.list_noted-returns-in-When

pub list_noted-list_both-requires-in-When : goal.list_noted-list_both-requires-in-When
list_noted-list_both-requires-in-When = Kinds.list_noted-list_both-requires-in-When

pub list_noted-returns-in-Foreach : goal.list_noted-returns-in-Foreach
list_noted-returns-in-Foreach = Kinds.list_noted-returns-in-Foreach

pub list_noted-list_bounds-requires : goal.list_noted-list_bounds-requires
list_noted-list_bounds-requires = Kinds.list_noted-list_bounds-requires

pub list_noted-returns-in-Return : goal.list_noted-returns-in-Return
list_noted-returns-in-Return = Kinds.list_noted-returns-in-Return

pub list_noted-list_one-requires : goal.list_noted-list_one-requires
list_noted-list_one-requires = Kinds.list_noted-list_one-requires

pub list_noted-returns-in-Throw : goal.list_noted-returns-in-Throw
list_noted-returns-in-Throw = Kinds.list_noted-returns-in-Throw

pub list_noted-list_one-requires-in-Throw : goal.list_noted-list_one-requires-in-Throw
list_noted-list_one-requires-in-Throw = Kinds.list_noted-list_one-requires-in-Throw

pub list_noted-returns-in-Exit : goal.list_noted-returns-in-Exit
list_noted-returns-in-Exit = Kinds.list_noted-returns-in-Exit

pub list_noted-list_one-requires-in-Exit : goal.list_noted-list_one-requires-in-Exit
list_noted-list_one-requires-in-Exit = Kinds.list_noted-list_one-requires-in-Exit

pub list_noted-returns-in-Assert : goal.list_noted-returns-in-Assert
list_noted-returns-in-Assert = Kinds.list_noted-returns-in-Assert

pub list_noted-list_one-requires-in-Assert : goal.list_noted-list_one-requires-in-Assert
list_noted-list_one-requires-in-Assert = Kinds.list_noted-list_one-requires-in-Assert

pub list_noted-returns-in-Optional : goal.list_noted-returns-in-Optional
list_noted-returns-in-Optional = Kinds.list_noted-returns-in-Optional

pub list_noted-list_one-requires-in-Optional : goal.list_noted-list_one-requires-in-Optional
list_noted-list_one-requires-in-Optional = Kinds.list_noted-list_one-requires-in-Optional

pub list_noted-returns-in-Constant : goal.list_noted-returns-in-Constant
list_noted-returns-in-Constant = Kinds.list_noted-returns-in-Constant

pub list_noted-returns-in-Variable : goal.list_noted-returns-in-Variable
list_noted-returns-in-Variable = Kinds.list_noted-returns-in-Variable

pub list_noted-returns-in-SizeOf : goal.list_noted-returns-in-SizeOf
list_noted-returns-in-SizeOf = Kinds.list_noted-returns-in-SizeOf

pub list_noted-returns-in-Constraint : goal.list_noted-returns-in-Constraint
list_noted-returns-in-Constraint = Kinds.list_noted-returns-in-Constraint

pub list_noted-returns-in-While : goal.list_noted-returns-in-While
list_noted-returns-in-While = Kinds.list_noted-returns-in-While

pub list_noted-returns-in-Repeat : goal.list_noted-returns-in-Repeat
list_noted-returns-in-Repeat = Kinds.list_noted-returns-in-Repeat

pub list_noted-returns-in-Clauses : goal.list_noted-returns-in-Clauses
list_noted-returns-in-Clauses = Kinds.list_noted-returns-in-Clauses

pub list_noted-returns-in-empty : goal.list_noted-returns-in-empty
list_noted-returns-in-empty = Kinds.list_noted-returns-in-empty

pub list_noted-returns-in_default : goal.list_noted-returns-in_default
list_noted-returns-in_default = Kinds.list_noted-returns-in_default

pub list_noted-list_made-requires-in_default : goal.list_noted-list_made-requires-in_default
list_noted-list_made-requires-in_default = Kinds.list_noted-list_made-requires-in_default
