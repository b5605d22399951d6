-- Answers: a node, by its kind.
use Rattle.std.proofs.Common.{◌≡◌, ◌∙◌, ℕ, ◌≤◌, List, length, map, refl, sym, ap, subst, arith}
use Rattle.lowered_ends.proofs.Counts.{if_same, with_same}
use Rattle.lowered_ends.proofs.Lists.{none_of}
use Rattle.lowered_ends.proofs.Masses.{kind_mass, mass_opens}
use Rattle.lowered_ends.proofs.Notes.{and_notes, assert_notes, cast_notes, clauses_notes, constant_notes, constraint_notes, exit_notes, foreach_notes, let_notes, local_notes, made_noted, match_notes, noted_as, noted_none, optional_notes, or_notes, register_notes, repeat_notes, return_notes, sizeof_notes, throw_notes, toplevel_notes, try_notes, var_notes, variable_noted, when_notes, while_notes, with_noted, withitem_notes, withslice_notes}
use Rattle.lowered_ends.proofs.Opened.{piece_is}
use Rattle.lowered_ends.specs.Around.{callees_of, node_for, piece_as}
use Rattle.lowered_ends.specs.Noted.{block_for, both_noted, bounds_noted, caught_notes, counted_notes, first_noted, leaf_notes, made_notes, one_noted}
use Rattle.lowered_pieces.specs.Forms.{Piece}
use Rattle.lowered_pieces.specs.Lowering.{pieces_of}
use Rattle.lowered_steps.specs.Setting.{kit_for, number_for, tables_for}
use Rattle.sail_core.specs.declared.tree.Core.{Core, out-Core}
use Rattle.std.specs.Prelude.{nat_eq}
use Rattle.sail_core.specs.declared.tree.Kind.TheVariants as K
use Rattle.sail_types.specs.declared.shapes.Shape.TheVariants as S
use Rattle.lowered_ends.proofs.noted.+list_noted.Goals as goal

pub list_noted-returns-in-Local : goal.list_noted-returns-in-Local
list_noted-returns-in-Local t c =
    let setting = c.args.setting.now in let around = c.args.around.now in let node = c.args.node.now in λ name. noted_as c.list_leaf.result _ _ _ _ (ap (λ
    (cs : List Core). leaf_notes setting (out-Core node).number (length cs)) c.as_slice-parts.ensures ∙ local_notes setting around name node
    c.in-Local.field-0 (out-Core node).parts ∙ ap (λ (p : Piece). p.notes) (piece_is setting around name node _ c.in-Local.is)) c.list_leaf.ensures

pub list_noted-returns-in-TopLevel : goal.list_noted-returns-in-TopLevel
list_noted-returns-in-TopLevel t c =
    let setting = c.args.setting.now in let around = c.args.around.now in let node = c.args.node.now in λ name. noted_as c.list_leaf-in-TopLevel.result _ _
    _ _ (ap (λ (cs : List Core). leaf_notes setting (out-Core node).number (length cs)) c.as_slice-parts.ensures ∙ toplevel_notes setting around name node
    c.in-TopLevel.field-0 (out-Core node).parts ∙ ap (λ (p : Piece). p.notes) (piece_is setting around name node _ c.in-TopLevel.is))
    c.list_leaf-in-TopLevel.ensures

pub list_noted-returns-in-Register : goal.list_noted-returns-in-Register
list_noted-returns-in-Register t c =
    let setting = c.args.setting.now in let around = c.args.around.now in let node = c.args.node.now in λ name. noted_as c.list_leaf-in-Register.result _ _
    _ _ (ap (λ (cs : List Core). leaf_notes setting (out-Core node).number (length cs)) c.as_slice-parts.ensures ∙ register_notes setting around name node
    c.in-Register.field-0 (out-Core node).parts ∙ ap (λ (p : Piece). p.notes) (piece_is setting around name node _ c.in-Register.is))
    c.list_leaf-in-Register.ensures

pub list_noted-returns-in-Call : goal.list_noted-returns-in-Call
list_noted-returns-in-Call t c =
    let setting = c.args.setting.now in let around = c.args.around.now in let node = c.args.node.now in λ name. noted_as c.list_callee.result _ _ _ _ (ap (λ
    (p : Piece). p.notes) (piece_is setting around name node _ c.in-Call.is)) (c.list_callee.ensures name)

pub list_noted-list_callee-requires : goal.list_noted-list_callee-requires
list_noted-list_callee-requires t c =
    (omega (arith, mass_opens c.args.node.now _ c.as_slice-parts.ensures, mass_opens c.args.node.now _ refl, c.decreases), tt)

pub list_noted-returns-in-And : goal.list_noted-returns-in-And
list_noted-returns-in-And t c =
    let setting = c.args.setting.now in let around = c.args.around.now in let node = c.args.node.now in λ name. noted_as c.list_first.result _ _ _ _ (ap (λ
    (cs : List Core). first_noted setting around name cs) c.as_slice-parts.ensures ∙ and_notes setting around name node (out-Core node).parts ∙ ap (λ (p :
    Piece). p.notes) (piece_is setting around name node _ c.in-And.is)) (c.list_first.ensures name)

pub list_noted-list_first-requires : goal.list_noted-list_first-requires
list_noted-list_first-requires t c =
    (omega (arith, mass_opens c.args.node.now _ c.as_slice-parts.ensures, mass_opens c.args.node.now _ refl, c.decreases), tt)

pub list_noted-returns-in-Or : goal.list_noted-returns-in-Or
list_noted-returns-in-Or t c =
    let setting = c.args.setting.now in let around = c.args.around.now in let node = c.args.node.now in λ name. noted_as c.list_first-in-Or.result _ _ _ _
    (ap (λ (cs : List Core). first_noted setting around name cs) c.as_slice-parts.ensures ∙ or_notes setting around name node (out-Core node).parts ∙ ap (λ
    (p : Piece). p.notes) (piece_is setting around name node _ c.in-Or.is)) (c.list_first-in-Or.ensures name)

pub list_noted-list_first-requires-in-Or : goal.list_noted-list_first-requires-in-Or
list_noted-list_first-requires-in-Or t c =
    (omega (arith, mass_opens c.args.node.now _ c.as_slice-parts.ensures, mass_opens c.args.node.now _ refl, c.decreases), tt)

pub list_noted-returns-in-Cast : goal.list_noted-returns-in-Cast
list_noted-returns-in-Cast t c =
    let setting = c.args.setting.now in let around = c.args.around.now in let node = c.args.node.now in λ name. noted_as c.list_counted.result _ _ _ _ (ap
    (λ (cs : List Core). counted_notes setting around name (out-Core node).number cs (nat_eq (length cs) 1)) c.as_slice-parts.ensures ∙ cast_notes setting
    around name node c.in-Cast.field-0 (out-Core node).parts ∙ ap (λ (p : Piece). p.notes) (piece_is setting around name node _ c.in-Cast.is))
    (c.list_counted.ensures name)

pub list_noted-list_counted-requires : goal.list_noted-list_counted-requires
list_noted-list_counted-requires t c =
    (omega (arith, mass_opens c.args.node.now _ c.as_slice-parts.ensures, mass_opens c.args.node.now _ refl, c.decreases), tt)

pub list_noted-returns-in-Tuple : goal.list_noted-returns-in-Tuple
list_noted-returns-in-Tuple t c =
    let setting = c.args.setting.now in let around = c.args.around.now in let node = c.args.node.now in λ name. noted_as c.list_made.result _ _ _ _ (ap (λ
    (cs : List Core). made_notes setting around name (out-Core node).number cs) c.as_slice-parts.ensures ∙ made_noted setting around name node ∙ ap (λ (p :
    Piece). p.notes) (piece_is setting around name node _ c.in-Tuple.is)) (c.list_made.ensures name)

pub list_noted-list_made-requires : goal.list_noted-list_made-requires
list_noted-list_made-requires t c =
    (omega (arith, mass_opens c.args.node.now _ c.as_slice-parts.ensures, mass_opens c.args.node.now _ refl, c.decreases), tt)

pub list_noted-returns-in-Vector : goal.list_noted-returns-in-Vector
list_noted-returns-in-Vector t c =
    let setting = c.args.setting.now in let around = c.args.around.now in let node = c.args.node.now in λ name. noted_as c.list_made-in-Vector.result _ _ _
    _ (ap (λ (cs : List Core). made_notes setting around name (out-Core node).number cs) c.as_slice-parts.ensures ∙ made_noted setting around name node ∙ ap
    (λ (p : Piece). p.notes) (piece_is setting around name node _ c.in-Vector.is)) (c.list_made-in-Vector.ensures name)

pub list_noted-list_made-requires-in-Vector : goal.list_noted-list_made-requires-in-Vector
list_noted-list_made-requires-in-Vector t c =
    (omega (arith, mass_opens c.args.node.now _ c.as_slice-parts.ensures, mass_opens c.args.node.now _ refl, c.decreases), tt)

pub list_noted-returns-in-List : goal.list_noted-returns-in-List
list_noted-returns-in-List t c =
    let setting = c.args.setting.now in let around = c.args.around.now in let node = c.args.node.now in λ name. noted_as c.list_made-in-List.result _ _ _ _
    (ap (λ (cs : List Core). made_notes setting around name (out-Core node).number cs) c.as_slice-parts.ensures ∙ made_noted setting around name node ∙ ap
    (λ (p : Piece). p.notes) (piece_is setting around name node _ c.in-List.is)) (c.list_made-in-List.ensures name)

pub list_noted-list_made-requires-in-List : goal.list_noted-list_made-requires-in-List
list_noted-list_made-requires-in-List t c =
    (omega (arith, mass_opens c.args.node.now _ c.as_slice-parts.ensures, mass_opens c.args.node.now _ refl, c.decreases), tt)

pub list_noted-returns-in-Cons : goal.list_noted-returns-in-Cons
list_noted-returns-in-Cons t c =
    let setting = c.args.setting.now in let around = c.args.around.now in let node = c.args.node.now in λ name. noted_as c.list_made-in-Cons.result _ _ _ _
    (ap (λ (cs : List Core). made_notes setting around name (out-Core node).number cs) c.as_slice-parts.ensures ∙ made_noted setting around name node ∙ ap
    (λ (p : Piece). p.notes) (piece_is setting around name node _ c.in-Cons.is)) (c.list_made-in-Cons.ensures name)

pub list_noted-list_made-requires-in-Cons : goal.list_noted-list_made-requires-in-Cons
list_noted-list_made-requires-in-Cons t c =
    (omega (arith, mass_opens c.args.node.now _ c.as_slice-parts.ensures, mass_opens c.args.node.now _ refl, c.decreases), tt)

pub list_noted-returns-in-Struct : goal.list_noted-returns-in-Struct
list_noted-returns-in-Struct t c =
    let setting = c.args.setting.now in let around = c.args.around.now in let node = c.args.node.now in λ name. noted_as c.list_made-in-Struct.result _ _ _
    _ (ap (λ (cs : List Core). made_notes setting around name (out-Core node).number cs) c.as_slice-parts.ensures ∙ made_noted setting around name node ∙ ap
    (λ (p : Piece). p.notes) (piece_is setting around name node _ c.in-Struct.is)) (c.list_made-in-Struct.ensures name)

pub list_noted-list_made-requires-in-Struct : goal.list_noted-list_made-requires-in-Struct
list_noted-list_made-requires-in-Struct t c =
    (omega (arith, mass_opens c.args.node.now _ c.as_slice-parts.ensures, mass_opens c.args.node.now _ refl, c.decreases), tt)

pub list_noted-returns-in-Part : goal.list_noted-returns-in-Part
list_noted-returns-in-Part t c =
    let setting = c.args.setting.now in let around = c.args.around.now in let node = c.args.node.now in λ name. noted_as c.list_part.result _ _ _ _ (ap (λ
    (p : Piece). p.notes) (piece_is setting around name node _ c.in-Part.is)) (c.list_part.ensures name)

pub list_noted-list_part-requires : goal.list_noted-list_part-requires
list_noted-list_part-requires t c =
    let e : kind_mass (out-Core c.args.node.now).kind ≡ length c.in-Part.suffixes = ap kind_mass c.in-Part.is in (
      omega (
        arith,
        mass_opens c.args.node.now _
            c.as_slice-parts.ensures,
        mass_opens c.args.node.now _ refl,
        e,
        c.decreases,
      ),
      tt,
    )

pub list_noted-returns-in-WithItem : goal.list_noted-returns-in-WithItem
list_noted-returns-in-WithItem t c =
    let setting = c.args.setting.now in let around = c.args.around.now in let node = c.args.node.now in λ name. noted_as c.list_counted-in-WithItem.result _
    _ _ _ (ap (λ (cs : List Core). counted_notes setting around name (out-Core node).number cs (nat_eq (length cs) 3)) c.as_slice-parts.ensures ∙
    withitem_notes setting around name node (out-Core node).parts ∙ ap (λ (p : Piece). p.notes) (piece_is setting around name node _ c.in-WithItem.is))
    (c.list_counted-in-WithItem.ensures name)

pub list_noted-list_counted-requires-in-WithItem : goal.list_noted-list_counted-requires-in-WithItem
list_noted-list_counted-requires-in-WithItem t c =
    (omega (arith, mass_opens c.args.node.now _ c.as_slice-parts.ensures, mass_opens c.args.node.now _ refl, c.decreases), tt)

pub list_noted-returns-in-WithSlice : goal.list_noted-returns-in-WithSlice
list_noted-returns-in-WithSlice t c =
    let setting = c.args.setting.now in let around = c.args.around.now in let node = c.args.node.now in λ name. noted_as c.list_counted-in-WithSlice.result
    _ _ _ _ (ap (λ (cs : List Core). counted_notes setting around name (out-Core node).number cs (nat_eq (length cs) 4)) c.as_slice-parts.ensures ∙
    withslice_notes setting around name node (out-Core node).parts ∙ ap (λ (p : Piece). p.notes) (piece_is setting around name node _ c.in-WithSlice.is))
    (c.list_counted-in-WithSlice.ensures name)

pub list_noted-list_counted-requires-in-WithSlice : goal.list_noted-list_counted-requires-in-WithSlice
list_noted-list_counted-requires-in-WithSlice t c =
    (omega (arith, mass_opens c.args.node.now _ c.as_slice-parts.ensures, mass_opens c.args.node.now _ refl, c.decreases), tt)

pub list_noted-returns-in-Assign : goal.list_noted-returns-in-Assign
list_noted-returns-in-Assign t c =
    let setting = c.args.setting.now in let around = c.args.around.now in let node = c.args.node.now in λ name. noted_as c.list_assign.result _ _ _ _ (ap (λ
    (p : Piece). p.notes) (piece_is setting around name node _ c.in-Assign.is)) (c.list_assign.ensures name)

pub list_noted-list_assign-requires : goal.list_noted-list_assign-requires
list_noted-list_assign-requires t c =
    (omega (arith, mass_opens c.args.node.now _ c.as_slice-parts.ensures, mass_opens c.args.node.now _ refl, c.decreases), tt)

pub list_noted-returns-in-Block : goal.list_noted-returns-in-Block
list_noted-returns-in-Block t c =
    let setting = c.args.setting.now in let around = c.args.around.now in let node = c.args.node.now in λ name. noted_as c.list_block.result _ _ _ _ ((λ i.
    (block_for setting around name (out-Core node).number (c.as_slice-statements.ensures i) (c.as_slice-parts.ensures i)).notes) ∙ ap (λ (p : Piece).
    p.notes) (piece_is setting around name node _ c.in-Block.is)) (c.list_block.ensures name)

pub list_noted-list_block-requires : goal.list_noted-list_block-requires
list_noted-list_block-requires t c =
    (omega (arith, mass_opens c.args.node.now _ c.as_slice-parts.ensures, mass_opens c.args.node.now _ refl, c.decreases), tt)

pub list_noted-returns-in-Let : goal.list_noted-returns-in-Let
list_noted-returns-in-Let t c =
    let setting = c.args.setting.now in let around = c.args.around.now in let node = c.args.node.now in λ name. noted_as c.list_let.result _ _ _ _
    (let_notes setting around name node c.in-Let.field-0 (out-Core node).parts ∙ ap (λ (p : Piece). p.notes) (piece_is setting around name node _
    c.in-Let.is)) (c.list_let.ensures name)

pub list_noted-list_let-requires : goal.list_noted-list_let-requires
list_noted-list_let-requires t c =
    (omega (arith, mass_opens c.args.node.now _ c.as_slice-parts.ensures, mass_opens c.args.node.now _ refl, c.decreases), tt)

pub list_noted-returns-in-Var : goal.list_noted-returns-in-Var
list_noted-returns-in-Var t c =
    let setting = c.args.setting.now in let around = c.args.around.now in let node = c.args.node.now in λ name. noted_as c.list_both.result _ _ _ _ (ap (λ
    (cs : List Core). both_noted setting around name cs) c.as_slice-parts.ensures ∙ var_notes setting around name node c.in-Var.field-0 c.in-Var.field-1
    (out-Core node).parts ∙ ap (λ (p : Piece). p.notes) (piece_is setting around name node _ c.in-Var.is)) (c.list_both.ensures name)

pub list_noted-list_both-requires : goal.list_noted-list_both-requires
list_noted-list_both-requires t c =
    (omega (arith, mass_opens c.args.node.now _ c.as_slice-parts.ensures, mass_opens c.args.node.now _ refl, c.decreases), tt)

pub list_noted-returns-in-If : goal.list_noted-returns-in-If
list_noted-returns-in-If t c =
    let setting = c.args.setting.now in let around = c.args.around.now in let node = c.args.node.now in λ name. noted_as c.list_branches.result _ _ _ _ (ap
    (λ (p : Piece). p.notes) (if_same setting.types.now (kit_for setting name) (number_for setting) (callees_of setting around) (tables_for setting
    around.instances.now) (out-Core node).place (out-Core node).number S.Unit c.in-If.field-0 (pieces_of (map (node_for setting around name) (out-Core
    node).parts))) ∙ ap (λ (p : Piece). p.notes) (piece_is setting around name node _ c.in-If.is)) (c.list_branches.ensures name)

pub list_noted-list_branches-requires : goal.list_noted-list_branches-requires
list_noted-list_branches-requires t c =
    (omega (arith, mass_opens c.args.node.now _ c.as_slice-parts.ensures, mass_opens c.args.node.now _ refl, c.decreases), tt)

pub list_noted-returns-in-Match : goal.list_noted-returns-in-Match
list_noted-returns-in-Match t c =
    let setting = c.args.setting.now in let around = c.args.around.now in let node = c.args.node.now in λ name. noted_as c.list_match.result _ _ _ _
    (match_notes setting around name node c.in-Match.field-0 c.in-Match.field-1 (out-Core node).parts ∙ ap (λ (p : Piece). p.notes) (piece_is setting around
    name node _ c.in-Match.is)) (c.list_match.ensures name)

pub list_noted-list_match-requires : goal.list_noted-list_match-requires
list_noted-list_match-requires t c =
    (omega (arith, mass_opens c.args.node.now _ c.as_slice-parts.ensures, mass_opens c.args.node.now _ refl, c.decreases), tt)

pub list_noted-returns-in-Try : goal.list_noted-returns-in-Try
list_noted-returns-in-Try t c =
    let setting = c.args.setting.now in let around = c.args.around.now in let node = c.args.node.now in λ name. noted_as c.list_caught.result _ _ _ _ (ap (λ
    (cs : List Core). caught_notes setting (out-Core node).number (length cs)) c.as_slice-parts.ensures ∙ try_notes setting around name node
    c.in-Try.field-0 c.in-Try.field-1 (out-Core node).parts ∙ ap (λ (p : Piece). p.notes) (piece_is setting around name node _ c.in-Try.is))
    c.list_caught.ensures

pub list_noted-returns-in-When : goal.list_noted-returns-in-When
list_noted-returns-in-When t c =
    let setting = c.args.setting.now in let around = c.args.around.now in let node = c.args.node.now in λ name. noted_as c.list_both-in-When.result _ _ _ _
    (ap (λ (cs : List Core). both_noted setting around name cs) c.as_slice-parts.ensures ∙ when_notes setting around name node (out-Core node).parts ∙ ap (λ
    (p : Piece). p.notes) (piece_is setting around name node _ c.in-When.is)) (c.list_both-in-When.ensures name)

pub list_noted-list_both-requires-in-When : goal.list_noted-list_both-requires-in-When
list_noted-list_both-requires-in-When t c =
    (omega (arith, mass_opens c.args.node.now _ c.as_slice-parts.ensures, mass_opens c.args.node.now _ refl, c.decreases), tt)

pub list_noted-returns-in-Foreach : goal.list_noted-returns-in-Foreach
list_noted-returns-in-Foreach t c =
    let setting = c.args.setting.now in let around = c.args.around.now in let node = c.args.node.now in λ name. noted_as c.list_bounds.result _ _ _ _ (ap (λ
    (cs : List Core). bounds_noted setting around name cs) c.as_slice-parts.ensures ∙ foreach_notes setting around name node c.in-Foreach.field-0
    c.in-Foreach.field-1 (out-Core node).parts ∙ ap (λ (p : Piece). p.notes) (piece_is setting around name node _ c.in-Foreach.is)) (c.list_bounds.ensures
    name)

pub list_noted-list_bounds-requires : goal.list_noted-list_bounds-requires
list_noted-list_bounds-requires t c =
    (omega (arith, mass_opens c.args.node.now _ c.as_slice-parts.ensures, mass_opens c.args.node.now _ refl, c.decreases), tt)

pub list_noted-returns-in-Return : goal.list_noted-returns-in-Return
list_noted-returns-in-Return t c =
    let setting = c.args.setting.now in let around = c.args.around.now in let node = c.args.node.now in λ name. noted_as c.list_one.result _ _ _ _ (ap (λ
    (cs : List Core). one_noted setting around name cs) c.as_slice-parts.ensures ∙ return_notes setting around name node (out-Core node).parts ∙ ap (λ (p :
    Piece). p.notes) (piece_is setting around name node _ c.in-Return.is)) (c.list_one.ensures name)

pub list_noted-list_one-requires : goal.list_noted-list_one-requires
list_noted-list_one-requires t c =
    (omega (arith, mass_opens c.args.node.now _ c.as_slice-parts.ensures, mass_opens c.args.node.now _ refl, c.decreases), tt)

pub list_noted-returns-in-Throw : goal.list_noted-returns-in-Throw
list_noted-returns-in-Throw t c =
    let setting = c.args.setting.now in let around = c.args.around.now in let node = c.args.node.now in λ name. noted_as c.list_one-in-Throw.result _ _ _ _
    (ap (λ (cs : List Core). one_noted setting around name cs) c.as_slice-parts.ensures ∙ throw_notes setting around name node (out-Core node).parts ∙ ap (λ
    (p : Piece). p.notes) (piece_is setting around name node _ c.in-Throw.is)) (c.list_one-in-Throw.ensures name)

pub list_noted-list_one-requires-in-Throw : goal.list_noted-list_one-requires-in-Throw
list_noted-list_one-requires-in-Throw t c =
    (omega (arith, mass_opens c.args.node.now _ c.as_slice-parts.ensures, mass_opens c.args.node.now _ refl, c.decreases), tt)

pub list_noted-returns-in-Exit : goal.list_noted-returns-in-Exit
list_noted-returns-in-Exit t c =
    let setting = c.args.setting.now in let around = c.args.around.now in let node = c.args.node.now in λ name. noted_as c.list_one-in-Exit.result _ _ _ _
    (ap (λ (cs : List Core). one_noted setting around name cs) c.as_slice-parts.ensures ∙ exit_notes setting around name node (out-Core node).parts ∙ ap (λ
    (p : Piece). p.notes) (piece_is setting around name node _ c.in-Exit.is)) (c.list_one-in-Exit.ensures name)

pub list_noted-list_one-requires-in-Exit : goal.list_noted-list_one-requires-in-Exit
list_noted-list_one-requires-in-Exit t c =
    (omega (arith, mass_opens c.args.node.now _ c.as_slice-parts.ensures, mass_opens c.args.node.now _ refl, c.decreases), tt)

pub list_noted-returns-in-Assert : goal.list_noted-returns-in-Assert
list_noted-returns-in-Assert t c =
    let setting = c.args.setting.now in let around = c.args.around.now in let node = c.args.node.now in λ name. noted_as c.list_one-in-Assert.result _ _ _ _
    (ap (λ (cs : List Core). one_noted setting around name cs) c.as_slice-parts.ensures ∙ assert_notes setting around name node c.in-Assert.field-0
    (out-Core node).parts ∙ ap (λ (p : Piece). p.notes) (piece_is setting around name node _ c.in-Assert.is)) (c.list_one-in-Assert.ensures name)

pub list_noted-list_one-requires-in-Assert : goal.list_noted-list_one-requires-in-Assert
list_noted-list_one-requires-in-Assert t c =
    (omega (arith, mass_opens c.args.node.now _ c.as_slice-parts.ensures, mass_opens c.args.node.now _ refl, c.decreases), tt)

pub list_noted-returns-in-Optional : goal.list_noted-returns-in-Optional
list_noted-returns-in-Optional t c =
    let setting = c.args.setting.now in let around = c.args.around.now in let node = c.args.node.now in λ name. noted_as c.list_one-in-Optional.result _ _ _
    _ (ap (λ (cs : List Core). one_noted setting around name cs) c.as_slice-parts.ensures ∙ optional_notes setting around name node c.in-Optional.field-0
    (out-Core node).parts ∙ ap (λ (p : Piece). p.notes) (piece_is setting around name node _ c.in-Optional.is)) (c.list_one-in-Optional.ensures name)

pub list_noted-list_one-requires-in-Optional : goal.list_noted-list_one-requires-in-Optional
list_noted-list_one-requires-in-Optional t c =
    (omega (arith, mass_opens c.args.node.now _ c.as_slice-parts.ensures, mass_opens c.args.node.now _ refl, c.decreases), tt)

pub list_noted-returns-in-Constant : goal.list_noted-returns-in-Constant
list_noted-returns-in-Constant t c =
    let setting = c.args.setting.now in let around = c.args.around.now in let node = c.args.node.now in λ name. noted_none _ _ (constant_notes setting
    around name node c.in-Constant.field-0 (out-Core node).parts ∙ ap (λ (p : Piece). p.notes) (piece_is setting around name node _ c.in-Constant.is))

pub list_noted-returns-in-Variable : goal.list_noted-returns-in-Variable
list_noted-returns-in-Variable t c =
    let setting = c.args.setting.now in let around = c.args.around.now in let node = c.args.node.now in λ name. noted_as c.list_variable.result _ _ _ _
    (variable_noted setting around name node c.in-Variable.name (out-Core node).parts ∙ ap (λ (p : Piece). p.notes) (piece_is setting around name node _
    c.in-Variable.is))
    c.list_variable.ensures

pub list_noted-returns-in-SizeOf : goal.list_noted-returns-in-SizeOf
list_noted-returns-in-SizeOf t c =
    let setting = c.args.setting.now in let around = c.args.around.now in let node = c.args.node.now in λ name. noted_none _ _ (sizeof_notes setting around
    name node c.in-SizeOf.field-0 c.in-SizeOf.field-1 (out-Core node).parts ∙ ap (λ (p : Piece). p.notes) (piece_is setting around name node _
    c.in-SizeOf.is))

pub list_noted-returns-in-Constraint : goal.list_noted-returns-in-Constraint
list_noted-returns-in-Constraint t c =
    let setting = c.args.setting.now in let around = c.args.around.now in let node = c.args.node.now in λ name. noted_none _ _ (constraint_notes setting
    around name node c.in-Constraint.field-0 c.in-Constraint.field-1 (out-Core node).parts ∙ ap (λ (p : Piece). p.notes) (piece_is setting around name node
    _ c.in-Constraint.is))

pub list_noted-returns-in-While : goal.list_noted-returns-in-While
list_noted-returns-in-While t c =
    let setting = c.args.setting.now in let around = c.args.around.now in let node = c.args.node.now in λ name. noted_none _ _ (while_notes setting around
    name node (out-Core node).parts ∙ ap (λ (p : Piece). p.notes) (piece_is setting around name node _ c.in-While.is))

pub list_noted-returns-in-Repeat : goal.list_noted-returns-in-Repeat
list_noted-returns-in-Repeat t c =
    let setting = c.args.setting.now in let around = c.args.around.now in let node = c.args.node.now in λ name. noted_none _ _ (repeat_notes setting around
    name node (out-Core node).parts ∙ ap (λ (p : Piece). p.notes) (piece_is setting around name node _ c.in-Repeat.is))

pub list_noted-returns-in-Clauses : goal.list_noted-returns-in-Clauses
list_noted-returns-in-Clauses t c =
    let setting = c.args.setting.now in let around = c.args.around.now in let node = c.args.node.now in λ name. noted_none _ _ (clauses_notes setting around
    name node c.in-Clauses.field-0 (out-Core node).parts ∙ ap (λ (p : Piece). p.notes) (piece_is setting around name node _ c.in-Clauses.is))

pub list_noted-returns-in-empty : goal.list_noted-returns-in-empty
list_noted-returns-in-empty t c =
    let setting = c.args.setting.now in let around = c.args.around.now in let node = c.args.node.now in λ name. noted_none _ _ (ap (λ (is : List ℕ).
    (piece_as setting around name (K.With 0 is) node).notes) (sym (sym c.as_slice.ensures ∙ none_of c.as_slice.result.now c.in-empty.len_below)) ∙ ap (λ (p
    : Piece). p.notes) (with_same setting.types.now (kit_for setting name) (number_for setting) (callees_of setting around) (tables_for setting
    around.instances.now) (out-Core node).place (out-Core node).number 0 c.in-With.field-0 c.in-With.fields (pieces_of (map (node_for setting around name)
    (out-Core node).parts))) ∙ ap (λ (p : Piece). p.notes) (piece_is setting around name node _ c.in-With.is))

pub list_noted-returns-in_default : goal.list_noted-returns-in_default
list_noted-returns-in_default t c =
    let setting = c.args.setting.now in let around = c.args.around.now in let node = c.args.node.now in λ name. noted_as c.list_made-in_default.result _ _ _
    _ (ap (λ (cs : List Core). made_notes setting around name (out-Core node).number cs) c.as_slice-parts.ensures ∙ made_noted setting around name node ∙
    with_noted setting around name node c.in-With.field-0 c.in-With.fields (subst (λ (is : List ℕ). 1 ≤ length is) c.as_slice.ensures
    c.in_default.len_at_least) ∙ ap (λ (p : Piece). p.notes) (piece_is setting around name node _ c.in-With.is)) (c.list_made-in_default.ensures name)

pub list_noted-list_made-requires-in_default : goal.list_noted-list_made-requires-in_default
list_noted-list_made-requires-in_default t c =
    (omega (arith, mass_opens c.args.node.now _ c.as_slice-parts.ensures, c.decreases), tt)
