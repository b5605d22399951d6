use Rattle.std.proofs.Common.{◌≡◌, ◌∙◌, ℕ, ◌≤◌, List, length, map, sym, ap, subst, arith, ◌&&◌}
use Rattle.lowered_ends.proofs.Counts.{with_same}
use Rattle.lowered_ends.proofs.Known.{end_same}
use Rattle.lowered_ends.proofs.Endings.{block_next, block_short, final_more, path_fit, path_unfit, rest_less, second_at, second_more, second_none}
use Rattle.lowered_ends.proofs.Lists.{first_at, first_of, none_of, one_of, others}
use Rattle.lowered_ends.proofs.Masses.{mass_at, mass_opens, mass_some, one_mass, rest_mass}
use Rattle.lowered_ends.proofs.Opened.{piece_is}
use Rattle.lowered_ends.proofs.Said.{and_ends, assert_ends, assign_ends, block_same, cast_ends, constant_ends, constraint_ends, exit_ends, foreach_ends, if_ends, let_ends, local_ends, made_same, match_ends, optional_ends, or_ends, part_same, register_ends, repeat_ends, return_ends, sizeof_ends, throw_ends, top_ends, try_ends, var_ends, variable_said, when_ends, while_ends, with_ends, withitem_ends, withslice_ends}
use Rattle.lowered_ends.specs.Around.{callees_of, node_for, piece_as, piece_for}
use Rattle.lowered_ends.specs.Ends.{all_end_for, block_ends, common_for, counted_ends, end_where, ends_at, final_ends, literal_ends, met_ends, part_ends}
use Rattle.lowered_ends.specs.Ends.{rest_ends, second_ends, size_ends, truth_ends}
use Rattle.lowered_pieces.specs.Forms.{End, Piece}
use Rattle.lowered_pieces.specs.Lowering.{pieces_of}
use Rattle.lowered_pieces.specs.Mapped.{ends_if, ends_with, fixed_end}
use Rattle.lowered_pieces.specs.Places.{Naming}
use Rattle.lowered_steps.specs.Hands.{types_of}
use Rattle.lowered_steps.specs.Setting.{kit_for, number_for, tables_for}
use Rattle.lowered_steps.specs.declared.hands.Ends.{Ends}
use Rattle.sail_core.specs.declared.targets.Suffix.{Suffix}
use Rattle.sail_core.specs.declared.tree.Core.{Core, out-Core}
use Rattle.sail_core.specs.declared.tree.Statement.{Statement}
use Rattle.size_values.specs.declared.sized.Sized.{Sized}
use Rattle.std.proofs.lemmas.Result.{IfOk-weaker}
use Rattle.std.specs.Option.{option_copied}
use Rattle.std.specs.Prelude.{Bool, Option, nat_eq}
use Rattle.sail_core.specs.declared.tree.Kind.TheVariants as K
use Rattle.lowered_ends.proofs.ends.+node_ends.Goals as goal

pub node_ends-returns-in-Variable : goal.node_ends-returns-in-Variable
node_ends-returns-in-Variable t c =
    let setting = c.args.setting.now in let around = c.args.around.now in let node = c.args.node.now in IfOk-weaker c.variable_ends.result _ (λ
    (ends : Ends). (name : Naming) → types_of ends ≡ (piece_for setting around name node).ends) (λ ends is name. is
    ∙ variable_said setting around name node c.in-Variable.name (out-Core node).parts ∙ ap (λ (p : Piece). p.ends) (piece_is setting around name node _
    c.in-Variable.is)) c.variable_ends.ensures

pub node_ends-returns-in-And : goal.node_ends-returns-in-And
node_ends-returns-in-And t c =
    let setting = c.args.setting.now in let around = c.args.around.now in let node = c.args.node.now in λ name. and_ends setting around name node (out-Core
    node).parts ∙ ap (λ (p : Piece). p.ends) (piece_is setting around name node _ c.in-And.is)

pub node_ends-returns-in-Or : goal.node_ends-returns-in-Or
node_ends-returns-in-Or t c =
    let setting = c.args.setting.now in let around = c.args.around.now in let node = c.args.node.now in λ name. or_ends setting around name node (out-Core
    node).parts ∙ ap (λ (p : Piece). p.ends) (piece_is setting around name node _ c.in-Or.is)

pub node_ends-returns-in-Part : goal.node_ends-returns-in-Part
node_ends-returns-in-Part t c =
    let setting = c.args.setting.now in let around = c.args.around.now in let node = c.args.node.now in
    IfOk-weaker c.part_ends.result _ (λ (ends : Ends). (name : Naming) → types_of ends ≡ (piece_for setting around name node).ends)
    (λ ends is name. is name ∙ (λ i. part_ends setting around name (c.as_slice-in-Part.ensures i) (c.as_slice-parts.ensures i))
    ∙ part_same setting around name node c.in-Part.suffixes (out-Core node).parts
    ∙ ap (λ (p : Piece). p.ends) (piece_is setting around name node _ c.in-Part.is)) c.part_ends.ensures

pub node_ends-returns-in-WithItem : goal.node_ends-returns-in-WithItem
node_ends-returns-in-WithItem t c =
    let setting = c.args.setting.now in let around = c.args.around.now in let node = c.args.node.now in
    IfOk-weaker c.counted_ends-in-WithItem.result _ (λ (ends : Ends). (name : Naming) → types_of ends ≡ (piece_for setting around name node).ends)
    (λ ends is name. is ∙ ap (λ (cs : List Core). counted_ends setting (out-Core node).number 3 (nat_eq (length cs) 3)) c.as_slice-parts.ensures
    ∙ withitem_ends setting around name node (out-Core node).parts
    ∙ ap (λ (p : Piece). p.ends) (piece_is setting around name node _ c.in-WithItem.is)) c.counted_ends-in-WithItem.ensures

pub node_ends-returns-in-WithSlice : goal.node_ends-returns-in-WithSlice
node_ends-returns-in-WithSlice t c =
    let setting = c.args.setting.now in let around = c.args.around.now in let node = c.args.node.now in
    IfOk-weaker c.counted_ends-in-WithSlice.result _ (λ (ends : Ends). (name : Naming) → types_of ends ≡ (piece_for setting around name node).ends)
    (λ ends is name. is ∙ ap (λ (cs : List Core). counted_ends setting (out-Core node).number 4 (nat_eq (length cs) 4)) c.as_slice-parts.ensures
    ∙ withslice_ends setting around name node (out-Core node).parts
    ∙ ap (λ (p : Piece). p.ends) (piece_is setting around name node _ c.in-WithSlice.is)) c.counted_ends-in-WithSlice.ensures

pub node_ends-returns-in-Assign : goal.node_ends-returns-in-Assign
node_ends-returns-in-Assign t c =
    let setting = c.args.setting.now in let around = c.args.around.now in let node = c.args.node.now in λ name. assign_ends setting around name node
    c.in-Assign.field-0 (out-Core node).parts ∙ ap (λ (p : Piece). p.ends) (piece_is setting around name node _ c.in-Assign.is)

pub node_ends-returns-in-Block : goal.node_ends-returns-in-Block
node_ends-returns-in-Block t c =
    let setting = c.args.setting.now in let around = c.args.around.now in let node = c.args.node.now in
    IfOk-weaker c.block_ends.result _ (λ (ends : Ends). (name : Naming) → types_of ends ≡ (piece_for setting around name node).ends)
    (λ ends is name. is name ∙ (λ i. block_ends setting around name (c.as_slice-in-Block.ensures i) (c.as_slice-parts.ensures i))
    ∙ block_same setting around name node c.in-Block.statements (out-Core node).parts
    ∙ ap (λ (p : Piece). p.ends) (piece_is setting around name node _ c.in-Block.is)) c.block_ends.ensures

pub node_ends-returns-in-Let : goal.node_ends-returns-in-Let
node_ends-returns-in-Let t c =
    let setting = c.args.setting.now in let around = c.args.around.now in let node = c.args.node.now in
    IfOk-weaker c.second_ends.result _ (λ (ends : Ends). (name : Naming) → types_of ends ≡ (piece_for setting around name node).ends)
    (λ ends is name. is name ∙ ap (λ (cs : List Core). second_ends setting around name cs) c.as_slice-parts.ensures
    ∙ let_ends setting around name node c.in-Let.field-0 (out-Core node).parts
    ∙ ap (λ (p : Piece). p.ends) (piece_is setting around name node _ c.in-Let.is)) c.second_ends.ensures

pub node_ends-returns-in-Var : goal.node_ends-returns-in-Var
node_ends-returns-in-Var t c =
    let setting = c.args.setting.now in let around = c.args.around.now in let node = c.args.node.now in
    IfOk-weaker c.second_ends-in-Var.result _ (λ (ends : Ends). (name : Naming) → types_of ends ≡ (piece_for setting around name node).ends)
    (λ ends is name. is name ∙ ap (λ (cs : List Core). second_ends setting around name cs) c.as_slice-parts.ensures
    ∙ var_ends setting around name node c.in-Var.field-0 c.in-Var.field-1 (out-Core node).parts
    ∙ ap (λ (p : Piece). p.ends) (piece_is setting around name node _ c.in-Var.is)) c.second_ends-in-Var.ensures

pub node_ends-returns-in-If : goal.node_ends-returns-in-If
node_ends-returns-in-If t c =
    let setting = c.args.setting.now in let around = c.args.around.now in let node = c.args.node.now in
    IfOk-weaker c.counted_ends-in-If.result _ (λ (ends : Ends). (name : Naming) → types_of ends ≡ (piece_for setting around name node).ends)
    (λ ends is name. is ∙ ap (λ (cs : List Core). counted_ends setting (out-Core node).number 1 (nat_eq (length cs) 3)) c.as_slice-parts.ensures
    ∙ if_ends setting around name node c.in-If.field-0 (out-Core node).parts
    ∙ ap (λ (p : Piece). p.ends) (piece_is setting around name node _ c.in-If.is)) c.counted_ends-in-If.ensures

pub node_ends-returns-in-Match : goal.node_ends-returns-in-Match
node_ends-returns-in-Match t c =
    let setting = c.args.setting.now in let around = c.args.around.now in let node = c.args.node.now in
    IfOk-weaker c.met_ends.result _ (λ (ends : Ends). (name : Naming) → types_of ends ≡ (piece_for setting around name node).ends)
    (λ ends is name. is ∙ ap (λ (cs : List Core). met_ends setting (out-Core node).number (length cs)) c.as_slice-parts.ensures
    ∙ match_ends setting around name node c.in-Match.field-0 c.in-Match.field-1 (out-Core node).parts
    ∙ ap (λ (p : Piece). p.ends) (piece_is setting around name node _ c.in-Match.is)) c.met_ends.ensures

pub node_ends-returns-in-Try : goal.node_ends-returns-in-Try
node_ends-returns-in-Try t c =
    let setting = c.args.setting.now in let around = c.args.around.now in let node = c.args.node.now in
    IfOk-weaker c.met_ends-in-Try.result _ (λ (ends : Ends). (name : Naming) → types_of ends ≡ (piece_for setting around name node).ends)
    (λ ends is name. is ∙ ap (λ (cs : List Core). met_ends setting (out-Core node).number (length cs)) c.as_slice-parts.ensures
    ∙ try_ends setting around name node c.in-Try.field-0 c.in-Try.field-1 (out-Core node).parts
    ∙ ap (λ (p : Piece). p.ends) (piece_is setting around name node _ c.in-Try.is)) c.met_ends-in-Try.ensures

pub node_ends-returns-in-When : goal.node_ends-returns-in-When
node_ends-returns-in-When t c =
    let setting = c.args.setting.now in let around = c.args.around.now in let node = c.args.node.now in
    IfOk-weaker c.second_ends-in-When.result _ (λ (ends : Ends). (name : Naming) → types_of ends ≡ (piece_for setting around name node).ends)
    (λ ends is name. is name ∙ ap (λ (cs : List Core). second_ends setting around name cs) c.as_slice-parts.ensures
    ∙ when_ends setting around name node (out-Core node).parts
    ∙ ap (λ (p : Piece). p.ends) (piece_is setting around name node _ c.in-When.is)) c.second_ends-in-When.ensures

pub node_ends-returns-in-Foreach : goal.node_ends-returns-in-Foreach
node_ends-returns-in-Foreach t c =
    let setting = c.args.setting.now in let around = c.args.around.now in let node = c.args.node.now in λ name. foreach_ends setting around name node
    c.in-Foreach.field-0 c.in-Foreach.field-1 (out-Core node).parts ∙ ap (λ (p : Piece). p.ends) (piece_is setting around name node _ c.in-Foreach.is)

pub node_ends-returns-in-While : goal.node_ends-returns-in-While
node_ends-returns-in-While t c =
    let setting = c.args.setting.now in let around = c.args.around.now in let node = c.args.node.now in λ name. while_ends setting around name node
    (out-Core node).parts ∙ ap (λ (p : Piece). p.ends) (piece_is setting around name node _ c.in-While.is)

pub node_ends-returns-in-Repeat : goal.node_ends-returns-in-Repeat
node_ends-returns-in-Repeat t c =
    let setting = c.args.setting.now in let around = c.args.around.now in let node = c.args.node.now in λ name. repeat_ends setting around name node
    (out-Core node).parts ∙ ap (λ (p : Piece). p.ends) (piece_is setting around name node _ c.in-Repeat.is)

pub node_ends-returns-in-Return : goal.node_ends-returns-in-Return
node_ends-returns-in-Return t c =
    let setting = c.args.setting.now in let around = c.args.around.now in let node = c.args.node.now in λ name. return_ends setting around name node
    (out-Core node).parts ∙ ap (λ (p : Piece). p.ends) (piece_is setting around name node _ c.in-Return.is)

pub node_ends-returns-in-Throw : goal.node_ends-returns-in-Throw
node_ends-returns-in-Throw t c =
    let setting = c.args.setting.now in let around = c.args.around.now in let node = c.args.node.now in λ name. throw_ends setting around name node
    (out-Core node).parts ∙ ap (λ (p : Piece). p.ends) (piece_is setting around name node _ c.in-Throw.is)

pub node_ends-returns-in-Exit : goal.node_ends-returns-in-Exit
node_ends-returns-in-Exit t c =
    let setting = c.args.setting.now in let around = c.args.around.now in let node = c.args.node.now in λ name. exit_ends setting around name node (out-Core
    node).parts ∙ ap (λ (p : Piece). p.ends) (piece_is setting around name node _ c.in-Exit.is)

pub node_ends-returns-in-Assert : goal.node_ends-returns-in-Assert
node_ends-returns-in-Assert t c =
    let setting = c.args.setting.now in let around = c.args.around.now in let node = c.args.node.now in λ name. assert_ends setting around name node
    c.in-Assert.field-0 (out-Core node).parts ∙ ap (λ (p : Piece). p.ends) (piece_is setting around name node _ c.in-Assert.is)

pub node_ends-returns-in-Optional : goal.node_ends-returns-in-Optional
node_ends-returns-in-Optional t c =
    let setting = c.args.setting.now in let around = c.args.around.now in let node = c.args.node.now in λ name. optional_ends setting around name node
    c.in-Optional.field-0 (out-Core node).parts ∙ ap (λ (p : Piece). p.ends) (piece_is setting around name node _ c.in-Optional.is)

pub node_ends-returns-in-Tuple : goal.node_ends-returns-in-Tuple
node_ends-returns-in-Tuple t c =
    let setting = c.args.setting.now in let around = c.args.around.now in let node = c.args.node.now in IfOk-weaker c.made_ends.result _ (λ (ends : Ends).
    (name : Naming) → types_of ends ≡ (piece_for setting around name node).ends) (λ ends is name. is ∙ made_same setting around name node _ (ap (λ (cs :
    List Core). length cs) c.as_slice-parts.ensures) ∙ ap (λ (p : Piece). p.ends) (piece_is setting around name node _ c.in-Tuple.is)) c.made_ends.ensures

pub node_ends-returns-in-Vector : goal.node_ends-returns-in-Vector
node_ends-returns-in-Vector t c =
    let setting = c.args.setting.now in let around = c.args.around.now in let node = c.args.node.now in IfOk-weaker c.made_ends-in-Vector.result _ (λ (ends
    : Ends). (name : Naming) → types_of ends ≡ (piece_for setting around name node).ends) (λ ends is name. is ∙ made_same setting around name node _ (ap (λ
    (cs : List Core). length cs) c.as_slice-parts.ensures) ∙ ap (λ (p : Piece). p.ends) (piece_is setting around name node _ c.in-Vector.is))
    c.made_ends-in-Vector.ensures

pub node_ends-returns-in-List : goal.node_ends-returns-in-List
node_ends-returns-in-List t c =
    let setting = c.args.setting.now in let around = c.args.around.now in let node = c.args.node.now in IfOk-weaker c.made_ends-in-List.result _ (λ (ends :
    Ends). (name : Naming) → types_of ends ≡ (piece_for setting around name node).ends) (λ ends is name. is ∙ made_same setting around name node _ (ap (λ
    (cs : List Core). length cs) c.as_slice-parts.ensures) ∙ ap (λ (p : Piece). p.ends) (piece_is setting around name node _ c.in-List.is))
    c.made_ends-in-List.ensures

pub node_ends-returns-in-Cons : goal.node_ends-returns-in-Cons
node_ends-returns-in-Cons t c =
    let setting = c.args.setting.now in let around = c.args.around.now in let node = c.args.node.now in IfOk-weaker c.made_ends-in-Cons.result _ (λ (ends :
    Ends). (name : Naming) → types_of ends ≡ (piece_for setting around name node).ends) (λ ends is name. is ∙ made_same setting around name node _ (ap (λ
    (cs : List Core). length cs) c.as_slice-parts.ensures) ∙ ap (λ (p : Piece). p.ends) (piece_is setting around name node _ c.in-Cons.is))
    c.made_ends-in-Cons.ensures

pub node_ends-returns-in-Struct : goal.node_ends-returns-in-Struct
node_ends-returns-in-Struct t c =
    let setting = c.args.setting.now in let around = c.args.around.now in let node = c.args.node.now in IfOk-weaker c.made_ends-in-Struct.result _ (λ (ends
    : Ends). (name : Naming) → types_of ends ≡ (piece_for setting around name node).ends) (λ ends is name. is ∙ made_same setting around name node _ (ap (λ
    (cs : List Core). length cs) c.as_slice-parts.ensures) ∙ ap (λ (p : Piece). p.ends) (piece_is setting around name node _ c.in-Struct.is))
    c.made_ends-in-Struct.ensures

pub node_ends-returns-in-Constant : goal.node_ends-returns-in-Constant
node_ends-returns-in-Constant t c =
    let setting = c.args.setting.now in let around = c.args.around.now in let node = c.args.node.now in IfOk-weaker c.literal_ends.result _ (λ (ends :
    Ends). (name : Naming) → types_of ends ≡ (piece_for setting around name node).ends) (λ ends is name. is setting.types.now ∙ ap (λ (cs : List Core).
    literal_ends setting.types.now c.in-Constant.literal (length cs)) c.as_slice-parts.ensures ∙ constant_ends setting around name node
    c.in-Constant.literal (out-Core node).parts ∙ ap (λ (p : Piece). p.ends) (piece_is setting around name node _ c.in-Constant.is)) c.literal_ends.ensures

pub node_ends-returns-in-Local : goal.node_ends-returns-in-Local
node_ends-returns-in-Local t c =
    let setting = c.args.setting.now in let around = c.args.around.now in let node = c.args.node.now in IfOk-weaker c.counted_ends.result _ (λ (ends :
    Ends). (name : Naming) → types_of ends ≡ (piece_for setting around name node).ends) (λ ends is name. is ∙ ap (λ (cs : List Core). counted_ends setting
    (out-Core node).number 1 (nat_eq (length cs) 0)) c.as_slice-parts.ensures ∙ local_ends setting around name node c.in-Local.field-0 (out-Core node).parts
    ∙ ap (λ (p : Piece). p.ends) (piece_is setting around name node _ c.in-Local.is)) c.counted_ends.ensures

pub node_ends-returns-in-TopLevel : goal.node_ends-returns-in-TopLevel
node_ends-returns-in-TopLevel t c =
    let setting = c.args.setting.now in let around = c.args.around.now in let node = c.args.node.now in IfOk-weaker c.counted_ends-in-TopLevel.result _ (λ
    (ends : Ends). (name : Naming) → types_of ends ≡ (piece_for setting around name node).ends) (λ ends is name. is ∙ ap (λ (cs : List Core). counted_ends
    setting (out-Core node).number 0 (nat_eq (length cs) 0)) c.as_slice-parts.ensures ∙ top_ends setting around name node c.in-TopLevel.field-0 (out-Core
    node).parts ∙ ap (λ (p : Piece). p.ends) (piece_is setting around name node _ c.in-TopLevel.is)) c.counted_ends-in-TopLevel.ensures

pub node_ends-returns-in-Register : goal.node_ends-returns-in-Register
node_ends-returns-in-Register t c =
    let setting = c.args.setting.now in let around = c.args.around.now in let node = c.args.node.now in IfOk-weaker c.counted_ends-in-Register.result _ (λ
    (ends : Ends). (name : Naming) → types_of ends ≡ (piece_for setting around name node).ends) (λ ends is name. is ∙ ap (λ (cs : List Core). counted_ends
    setting (out-Core node).number 0 (nat_eq (length cs) 0)) c.as_slice-parts.ensures ∙ register_ends setting around name node c.in-Register.field-0
    (out-Core node).parts ∙ ap (λ (p : Piece). p.ends) (piece_is setting around name node _ c.in-Register.is)) c.counted_ends-in-Register.ensures

pub node_ends-returns-in-Cast : goal.node_ends-returns-in-Cast
node_ends-returns-in-Cast t c =
    let setting = c.args.setting.now in let around = c.args.around.now in let node = c.args.node.now in IfOk-weaker c.counted_ends-in-Cast.result _ (λ (ends
    : Ends). (name : Naming) → types_of ends ≡ (piece_for setting around name node).ends) (λ ends is name. is ∙ ap (λ (cs : List Core). counted_ends setting
    (out-Core node).number 1 (nat_eq (length cs) 1)) c.as_slice-parts.ensures ∙ cast_ends setting around name node c.in-Cast.field-0 (out-Core node).parts ∙
    ap (λ (p : Piece). p.ends) (piece_is setting around name node _ c.in-Cast.is)) c.counted_ends-in-Cast.ensures

pub node_ends-returns-in-Call : goal.node_ends-returns-in-Call
node_ends-returns-in-Call t c =
    let setting = c.args.setting.now in let around = c.args.around.now in let node = c.args.node.now in IfOk-weaker c.callee_ends.result _ (λ (ends : Ends).
    (name : Naming) → types_of ends ≡ (piece_for setting around name node).ends) (λ ends is name. is name ∙ ap (λ (p : Piece). p.ends) (piece_is setting
    around name node _ c.in-Call.is)) c.callee_ends.ensures

pub node_ends-returns-in-SizeOf : goal.node_ends-returns-in-SizeOf
node_ends-returns-in-SizeOf t c =
    let setting = c.args.setting.now in let around = c.args.around.now in let node = c.args.node.now in λ name. c.size_ends.ensures ∙ ap (λ (cs : List
    Core). size_ends setting c.in-SizeOf.size (length cs)) c.as_slice-parts.ensures ∙ sizeof_ends setting around name node c.in-SizeOf.size
    c.in-SizeOf.field-1 (out-Core node).parts ∙ ap (λ (p : Piece). p.ends) (piece_is setting around name node _ c.in-SizeOf.is)

pub node_ends-returns-in-Constraint : goal.node_ends-returns-in-Constraint
node_ends-returns-in-Constraint t c =
    let setting = c.args.setting.now in let around = c.args.around.now in let node = c.args.node.now in λ name. c.truth_ends.ensures ∙ ap (λ (cs : List
    Core). truth_ends setting c.in-Constraint.condition (length cs)) c.as_slice-parts.ensures ∙ constraint_ends setting around name node
    c.in-Constraint.condition c.in-Constraint.field-1 (out-Core node).parts ∙ ap (λ (p : Piece). p.ends) (piece_is setting around name node _
    c.in-Constraint.is)

pub node_ends-returns-in-Clauses : goal.node_ends-returns-in-Clauses
node_ends-returns-in-Clauses t c =
    let setting = c.args.setting.now in let around = c.args.around.now in let node = c.args.node.now in IfOk-weaker c.common_ends.result _ (λ (ends : Ends).
    (name : Naming) → types_of ends ≡ (piece_for setting around name node).ends) (λ ends is name. is name ∙ ap (λ (cs : List Core). common_for setting
    around name cs) c.as_slice-parts.ensures ∙ ap (λ (p : Piece). p.ends) (piece_is setting around name node _ c.in-Clauses.is)) c.common_ends.ensures

pub node_ends-common_ends-requires : goal.node_ends-common_ends-requires
node_ends-common_ends-requires t c =
    (omega (arith, mass_opens c.args.node.now _ c.as_slice-parts.ensures, c.decreases), tt)

pub node_ends-part_ends-requires : goal.node_ends-part_ends-requires
node_ends-part_ends-requires t c =
    (omega (arith, mass_opens c.args.node.now _ c.as_slice-parts.ensures, c.decreases), tt)

pub node_ends-block_ends-requires : goal.node_ends-block_ends-requires
node_ends-block_ends-requires t c =
    (omega (arith, mass_opens c.args.node.now _ c.as_slice-parts.ensures, c.decreases), tt)

pub node_ends-second_ends-requires : goal.node_ends-second_ends-requires
node_ends-second_ends-requires t c =
    (omega (arith, mass_opens c.args.node.now _ c.as_slice-parts.ensures, c.decreases), tt)

pub node_ends-second_ends-requires-in-Var : goal.node_ends-second_ends-requires-in-Var
node_ends-second_ends-requires-in-Var t c =
    (omega (arith, mass_opens c.args.node.now _ c.as_slice-parts.ensures, c.decreases), tt)

pub node_ends-second_ends-requires-in-When : goal.node_ends-second_ends-requires-in-When
node_ends-second_ends-requires-in-When t c =
    (omega (arith, mass_opens c.args.node.now _ c.as_slice-parts.ensures, c.decreases), tt)

pub taken_ends-returns-in-empty : goal.taken_ends-returns-in-empty
taken_ends-returns-in-empty t c =
    let setting = c.args.setting.now in let around = c.args.around.now in
    IfOk-weaker c.node_ends.result _ (λ (ends : Ends). (name : Naming) → types_of ends
    ≡ rest_ends setting c.args.suffixes.now (ends_at setting around name c.args.whole.now))
    (λ ends is name. is name
    ∙ ap (λ (ss : List Suffix). rest_ends setting ss (ends_at setting around name c.args.whole.now)) (sym (none_of c.args.suffixes.now c.in-empty.len_below)))
    c.node_ends.ensures

pub taken_ends-returns-in-len1-up : goal.taken_ends-returns-in-len1-up
taken_ends-returns-in-len1-up t c =
    let setting = c.args.setting.now in let around = c.args.around.now in
    IfOk-weaker c.last_ends.result _ (λ (ends : Ends). (name : Naming) → types_of ends
    ≡ rest_ends setting c.args.suffixes.now (ends_at setting around name c.args.whole.now))
    (λ ends is name. is
    ∙ ap (λ (ss : List Suffix). rest_ends setting ss (ends_at setting around name c.args.whole.now))
    (sym (first_at c.args.suffixes.now _ c.in-len1-up.len_at_least)))
    c.last_ends.ensures

pub taken_ends-node_ends-requires : goal.taken_ends-node_ends-requires
taken_ends-node_ends-requires t c =
    (omega (arith, c.decreases), tt)

pub part_ends-returns-in-empty : goal.part_ends-returns-in-empty
part_ends-returns-in-empty t c =
    let setting = c.args.setting.now in let around = c.args.around.now in
    λ name. ap (λ (cs : List Core). part_ends setting around name c.args.suffixes.now cs) (sym (none_of c.args.parts.now c.in-empty.len_below))

pub part_ends-returns-then-are_suffixes : goal.part_ends-returns-then-are_suffixes
part_ends-returns-then-are_suffixes t c =
    let setting = c.args.setting.now in let around = c.args.around.now in
    IfOk-weaker c.taken_ends.result _ (λ (ends : Ends). (name : Naming) → types_of ends ≡ part_ends setting around name c.args.suffixes.now c.args.parts.now)
    (λ ends is name. is name
    ∙ path_fit setting around c.args.suffixes.now (length (others c.args.parts.now)) (ends_at setting around name c.whole-item.result)
    (sym c.are_suffixes.ensures ∙ c.if-are_suffixes.true)
    ∙ ap (λ (cs : List Core). part_ends setting around name c.args.suffixes.now cs)
    (sym (first_of c.args.parts.now _ c.in-len1-up.len_at_least c.whole-item.is)))
    c.taken_ends.ensures

pub part_ends-returns-else-are_suffixes : goal.part_ends-returns-else-are_suffixes
part_ends-returns-else-are_suffixes t c =
    let setting = c.args.setting.now in let around = c.args.around.now in
    λ name. path_unfit setting around c.args.suffixes.now (length (others c.args.parts.now)) (ends_at setting around name c.whole-item.result)
    (sym c.are_suffixes.ensures ∙ c.if-are_suffixes.false)
    ∙ ap (λ (cs : List Core). part_ends setting around name c.args.suffixes.now cs)
    (sym (first_of c.args.parts.now _ c.in-len1-up.len_at_least c.whole-item.is))

pub part_ends-taken_ends-requires : goal.part_ends-taken_ends-requires
part_ends-taken_ends-requires t c =
    (omega (arith, one_mass _ _ c.in-len1-up.len_at_least c.whole-item.is, c.decreases), tt)

pub second_ends-returns-in-empty : goal.second_ends-returns-in-empty
second_ends-returns-in-empty t c =
    let setting = c.args.setting.now in let around = c.args.around.now in
    λ name. second_none setting around name c.args.parts.now (omega (arith, c.in-empty.len_below))

pub second_ends-returns-in-len1 : goal.second_ends-returns-in-len1
second_ends-returns-in-len1 t c =
    let setting = c.args.setting.now in let around = c.args.around.now in
    λ name. second_none setting around name c.args.parts.now (omega (arith, c.in-len1.len_below))

pub second_ends-returns-in-len2 : goal.second_ends-returns-in-len2
second_ends-returns-in-len2 t c =
    let setting = c.args.setting.now in let around = c.args.around.now in
    IfOk-weaker c.node_ends.result _ (λ (ends : Ends). (name : Naming) → types_of ends ≡ second_ends setting around name c.args.parts.now)
    (λ ends is name. is name ∙ second_at setting around name c.args.parts.now c.value-item.result c.in-len2.len_at_least c.in-len2.len_below c.value-item.is)
    c.node_ends.ensures

pub second_ends-returns-in-len3-up : goal.second_ends-returns-in-len3-up
second_ends-returns-in-len3-up t c =
    let setting = c.args.setting.now in let around = c.args.around.now in
    λ name. second_more setting around name c.args.parts.now c.in-len3-up.len_at_least

pub second_ends-node_ends-requires : goal.second_ends-node_ends-requires
second_ends-node_ends-requires t c =
    (omega (arith, mass_at c.args.parts.now 1 c.value-item.result (omega (arith, c.in-len2.len_at_least)) c.value-item.is, c.decreases), tt)

pub final_ends-returns-in-empty : goal.final_ends-returns-in-empty
final_ends-returns-in-empty t c =
    let setting = c.args.setting.now in let around = c.args.around.now in
    λ name. ap (λ (cs : List Core). final_ends setting around name cs) (sym (none_of c.args.parts.now c.in-empty.len_below))

pub final_ends-returns-in-len1 : goal.final_ends-returns-in-len1
final_ends-returns-in-len1 t c =
    let setting = c.args.setting.now in let around = c.args.around.now in
    IfOk-weaker c.node_ends.result _ (λ (ends : Ends). (name : Naming) → types_of ends ≡ final_ends setting around name c.args.parts.now)
    (λ ends is name. is name
    ∙ ap (λ (cs : List Core). final_ends setting around name cs)
    (sym (one_of c.args.parts.now _ c.in-len1.len_at_least c.in-len1.len_below c.value-item.is)))
    c.node_ends.ensures

pub final_ends-returns-in-len2-up : goal.final_ends-returns-in-len2-up
final_ends-returns-in-len2-up t c =
    let setting = c.args.setting.now in let around = c.args.around.now in
    λ name. final_more setting around name c.args.parts.now c.in-len2-up.len_at_least

pub final_ends-node_ends-requires : goal.final_ends-node_ends-requires
final_ends-node_ends-requires t c =
    (omega (arith, one_mass _ _ c.in-len1.len_at_least c.value-item.is, c.decreases), tt)

pub block_ends-returns-in-empty : goal.block_ends-returns-in-empty
block_ends-returns-in-empty t c =
    let setting = c.args.setting.now in let around = c.args.around.now in
    IfOk-weaker c.final_ends.result _ (λ (ends : Ends). (name : Naming) → types_of ends ≡ block_ends setting around name c.args.statements.now c.args.parts.now)
    (λ ends is name. is name
    ∙ ap (λ (ss : List Statement). block_ends setting around name ss c.args.parts.now) (sym (none_of c.args.statements.now c.in-empty.len_below)))
    c.final_ends.ensures

pub block_ends-final_ends-requires : goal.block_ends-final_ends-requires
block_ends-final_ends-requires t c =
    (omega (arith, c.decreases), tt)

pub block_ends-returns-in-empty-parts : goal.block_ends-returns-in-empty-parts
block_ends-returns-in-empty-parts t c =
    let setting = c.args.setting.now in let around = c.args.around.now in
    λ name. block_short setting around name c.args.statements.now c.args.parts.now c.in-len1-up.len_at_least c.in-empty-parts.len_below

pub block_ends-returns-in-len1-up-parts : goal.block_ends-returns-in-len1-up-parts
block_ends-returns-in-len1-up-parts t c =
    let setting = c.args.setting.now in let around = c.args.around.now in
    IfOk-weaker c.block_ends.result _ (λ (ends : Ends). (name : Naming) → types_of ends ≡ block_ends setting around name c.args.statements.now c.args.parts.now)
    (λ ends is name. is name
    ∙ block_next setting around name c.args.statements.now c.args.parts.now c.in-len1-up.len_at_least c.in-len1-up-parts.len_at_least)
    c.block_ends.ensures

pub block_ends-block_ends-requires : goal.block_ends-block_ends-requires
block_ends-block_ends-requires t c =
    (omega (arith, rest_less c.args.parts.now c.in-len1-up-parts.len_at_least, c.decreases), tt)

pub all_end-returns-in-empty : goal.all_end-returns-in-empty
all_end-returns-in-empty t c =
    let setting = c.args.setting.now in let around = c.args.around.now in λ name. ap (λ (cs : List Core). all_end_for setting around name c.args.typ.now cs)
    (sym (none_of c.args.nodes.now c.in-empty.len_below))

pub all_end-node_ends-requires : goal.all_end-node_ends-requires
all_end-node_ends-requires t c =
    (omega (arith, rest_mass _ _ c.in-len1-up.len_at_least c.first-item.is, c.decreases), tt)

pub all_end-all_end-requires : goal.all_end-all_end-requires
all_end-all_end-requires t c =
    (omega (arith, rest_mass _ _ c.in-len1-up.len_at_least c.first-item.is, mass_some c.first-item.result, c.decreases), tt)

pub common_ends-node_ends-requires : goal.common_ends-node_ends-requires
common_ends-node_ends-requires t c =
    (omega (arith, rest_mass _ _ c.in-len1-up.len_at_least c.first-item.is, c.decreases), tt)

pub common_ends-all_end-requires : goal.common_ends-all_end-requires
common_ends-all_end-requires t c =
    (omega (arith, rest_mass _ _ c.in-len1-up.len_at_least c.first-item.is, mass_some c.first-item.result, c.decreases), tt)

pub common_ends-returns-in-empty : goal.common_ends-returns-in-empty
common_ends-returns-in-empty t c =
    let setting = c.args.setting.now in let around = c.args.around.now in λ name. ap (λ (cs : List Core). common_for setting around name cs) (sym (none_of
    c.args.nodes.now c.in-empty.len_below))

pub node_ends-returns-in-empty : goal.node_ends-returns-in-empty
node_ends-returns-in-empty t c =
    let setting = c.args.setting.now in let around = c.args.around.now in let node = c.args.node.now in λ name. ap (λ (is : List ℕ). (piece_as setting
    around name (K.With 0 is) node).ends) (sym (sym c.as_slice.ensures ∙ none_of c.as_slice.result.now c.in-empty.len_below)) ∙ ap (λ (p : Piece). p.ends)
    (with_same setting.types.now (kit_for setting name) (number_for setting) (callees_of setting around) (tables_for setting around.instances.now) (out-Core
    node).place (out-Core node).number 0 c.in-With.field-0 c.in-With.fields (pieces_of (map (node_for setting around name) (out-Core node).parts))) ∙ ap (λ
    (p : Piece). p.ends) (piece_is setting around name node _ c.in-With.is)

pub node_ends-returns-in_default : goal.node_ends-returns-in_default
node_ends-returns-in_default t c =
    let setting = c.args.setting.now in let around = c.args.around.now in let node = c.args.node.now in IfOk-weaker c.made_ends-in_default.result _ (λ (ends
    : Ends). (name : Naming) → types_of ends ≡ (piece_for setting around name node).ends) (λ ends is name. is ∙ made_same setting around name node _ (ap (λ
    (cs : List Core). length cs) c.as_slice-parts.ensures) ∙ with_ends setting around name node c.in-With.field-0 c.in-With.fields (subst (λ (is : List ℕ).
    1 ≤ length is) c.as_slice.ensures c.in_default.len_at_least) ∙ ap (λ (p : Piece). p.ends) (piece_is setting around name node _ c.in-With.is))
    c.made_ends-in_default.ensures

pub all_end-returns-in_ok-are_others-in-len1-up : goal.all_end-returns-in_ok-are_others-in-len1-up
all_end-returns-in_ok-are_others-in-len1-up t c =
    let setting = c.args.setting.now in let around = c.args.around.now in λ name. c.both.ensures ∙ (λ i. (c.ends_with-is_first.ensures ∙ ap (λ (es : List
    End). ends_with c.args.typ.now (fixed_end es)) (c.in_ok-ends-in-len1-up.ensures name)) i && c.in_ok-are_others-in-len1-up.ensures name i) ∙ ap (λ (cs :
    List Core). all_end_for setting around name c.args.typ.now cs) (sym (first_of _ _ c.in-len1-up.len_at_least c.first-item.is))

pub common_ends-returns-in-Some : goal.common_ends-returns-in-Some
common_ends-returns-in-Some t c =
    let setting = c.args.setting.now in let around = c.args.around.now in IfOk-weaker c.end_where.result _ (λ (ends : Ends). (name : Naming) → types_of ends
    ≡ common_for setting around name c.args.nodes.now) (λ ends is name. is ∙ ap (λ (b : Bool). end_where c.in-Some.typ.now b) (c.in_ok-all-in-Some.ensures
    name) ∙ end_same c.in-Some.typ.now (pieces_of (map (node_for setting around name) (others c.args.nodes.now))) ∙ ap (λ (o : Option Sized). ends_if o
    (pieces_of (map (node_for setting around name) (others c.args.nodes.now)))) (sym (ap option_copied c.in-Some.is) ∙ c.fixed_end.ensures ∙ ap (λ (es :
    List End). fixed_end es) (c.in_ok-ends-in-len1-up.ensures name)) ∙ ap (λ (cs : List Core). common_for setting around name cs) (sym (first_of _ _
    c.in-len1-up.len_at_least c.first-item.is))) c.end_where.ensures
