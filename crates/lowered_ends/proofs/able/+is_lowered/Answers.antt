use Rattle.std.proofs.Common.{◌≡◌, ◌∙◌, ℕ, ◌≤◌, List, [], length, map, refl, sym, ap, subst, arith, ◌&&◌}
use Rattle.lowered_ends.proofs.Counts.{if_alike, match_alike, try_alike, with_alike}
use Rattle.lowered_ends.proofs.Decided.{and_decided, assert_decided, block_decided, branch_few, branch_many, cast_decided, constraint_decided, crossing_refused, exit_decided, foreach_decided, if_decided, let_refused, local_decided, long_block, optional_decided, or_decided, path_decided, register_decided, repeat_decided, return_decided, sizeof_decided, throw_decided, toplevel_decided, var_decided, variable_decided, when_decided, while_decided, with_decided, withitem_decided, withslice_decided}
use Rattle.lowered_ends.proofs.Known.{assign_many, assign_none, assign_one, row_false, row_true}
use Rattle.lowered_ends.proofs.Lists.{first_of, none_of, one_of, others, two_of}
use Rattle.lowered_ends.proofs.Masses.{mass_opens, mass_some, masses, one_mass, rest_mass, two_masses}
use Rattle.lowered_ends.proofs.Opened.{ok_is, ok_with}
use Rattle.lowered_ends.specs.Able.{all_for, all_one_for, block_ok, foreach_ok, variable_ok, number_fits, statement_ok, suffixes_fit}
use Rattle.lowered_ends.specs.Around.{callees_of, node_for, ok_as}
use Rattle.lowered_pieces.specs.Arms.{arms_fit}
use Rattle.lowered_pieces.specs.Forms.{End, cases_ends, has_ends}
use Rattle.lowered_pieces.specs.Gathered.{is_one}
use Rattle.lowered_pieces.specs.Lowering.{applied_lowered}
use Rattle.lowered_pieces.specs.Nodes.{function_in}
use Rattle.lowered_pieces.specs.Places.{Naming}
use Rattle.lowered_pieces.specs.Tables.{leads_to}
use Rattle.lowered_pieces.specs.Writes.{Spot as SpotOf, spot_lowered}
use Rattle.lowered_steps.specs.Setting.{crosses_for, reads_at, size_for, tables_for}
use Rattle.sail_core.specs.declared.patterns.Arm.{Arm}
use Rattle.sail_core.specs.declared.targets.Suffix.{Suffix}
use Rattle.sail_core.specs.declared.targets.Target.{Target}
use Rattle.sail_core.specs.declared.tree.Callee.{Callee}
use Rattle.sail_core.specs.declared.tree.Core.{Core, out-Core}
use Rattle.sail_core.specs.declared.tree.Statement.{Statement}
use Rattle.size_values.specs.Numbers.{known_at, known_of, truth_of}
use Rattle.sized_nodes.specs.declared.trees.Case.{Case}
use Rattle.sized_nodes.specs.declared.trees.Lead.{Lead}
use Rattle.std.proofs.lemmas.Result.{IfOk-weaker}
use Rattle.std.specs.Prelude.{Bool, Option, is_some, nat_eq, slice_get}
use Rattle.sail_core.specs.declared.tree.Callee.TheVariants as F
use Rattle.sail_core.specs.declared.tree.Kind.TheVariants as K
use Rattle.sail_types.specs.declared.shapes.Shape.TheVariants as S
use Rattle.lowered_ends.proofs.able.+is_lowered.Goals as goal

pub is_lowered-returns-in-Constant : goal.is_lowered-returns-in-Constant
is_lowered-returns-in-Constant t c =
    let setting = c.args.setting.now in let around = c.args.around.now in let node = c.args.node.now in IfOk-weaker c.is_constant.result _ (λ (answer :
    Bool). (name : Naming) → answer ≡ (node_for setting around name node).ok) (λ answer is name. is name ∙ ok_is setting around name node _
    c.in-Constant.is) c.is_constant.ensures

pub is_lowered-returns-in-Local : goal.is_lowered-returns-in-Local
is_lowered-returns-in-Local t c =
    let setting = c.args.setting.now in let around = c.args.around.now in let node = c.args.node.now in λ name. ap (λ (cs : List Core). nat_eq (length cs)
    0) c.as_slice-parts.ensures ∙ local_decided setting around name node c.in-Local.field-0 (out-Core node).parts ∙ ok_is setting around name node _
    c.in-Local.is

pub is_lowered-returns-in-Variable : goal.is_lowered-returns-in-Variable
is_lowered-returns-in-Variable t c =
    let setting = c.args.setting.now in let around = c.args.around.now in let node = c.args.node.now in λ name. c.is_variable.ensures
    ∙ ap (λ (cs : List Core). variable_ok setting c.in-Variable.name (out-Core node).number (length cs)) c.as_slice-parts.ensures
    ∙ variable_decided setting around name node c.in-Variable.name (out-Core node).parts ∙ ok_is setting around name node _ c.in-Variable.is

pub is_lowered-returns-in-TopLevel : goal.is_lowered-returns-in-TopLevel
is_lowered-returns-in-TopLevel t c =
    let setting = c.args.setting.now in let around = c.args.around.now in let node = c.args.node.now in λ name. ap (λ (cs : List Core). nat_eq (length cs)
    0) c.as_slice-parts.ensures ∙ toplevel_decided setting around name node c.in-TopLevel.field-0 (out-Core node).parts ∙ ok_is setting around name node _
    c.in-TopLevel.is

pub is_lowered-returns-in-Register : goal.is_lowered-returns-in-Register
is_lowered-returns-in-Register t c =
    let setting = c.args.setting.now in let around = c.args.around.now in let node = c.args.node.now in λ name. ap (λ (cs : List Core). nat_eq (length cs)
    0) c.as_slice-parts.ensures ∙ register_decided setting around name node c.in-Register.field-0 (out-Core node).parts ∙ ok_is setting around name node _
    c.in-Register.is

pub is_lowered-returns-in-Call : goal.is_lowered-returns-in-Call
is_lowered-returns-in-Call t c =
    let setting = c.args.setting.now in let around = c.args.around.now in let node = c.args.node.now in IfOk-weaker c.is_callee.result _ (λ (answer : Bool).
    (name : Naming) → answer ≡ (node_for setting around name node).ok) (λ answer is name. is name ∙ ok_is setting around name node _ c.in-Call.is)
    c.is_callee.ensures

pub is_lowered-is_callee-requires : goal.is_lowered-is_callee-requires
is_lowered-is_callee-requires t c =
    (omega (arith, mass_opens c.args.node.now _ refl, c.decreases), tt)

pub is_lowered-returns-in-And : goal.is_lowered-returns-in-And
is_lowered-returns-in-And t c =
    let setting = c.args.setting.now in let around = c.args.around.now in let node = c.args.node.now in IfOk-weaker c.are_so_many.result _ (λ (answer :
    Bool). (name : Naming) → answer ≡ (node_for setting around name node).ok) (λ answer is name. is name ∙ ap (λ (cs : List Core). nat_eq (length cs) 2 &&
    all_for setting around name cs) c.as_slice-parts.ensures ∙ and_decided setting around name node (out-Core node).parts ∙ ok_is setting around name node _
    c.in-And.is) c.are_so_many.ensures

pub is_lowered-are_so_many-requires : goal.is_lowered-are_so_many-requires
is_lowered-are_so_many-requires t c =
    (omega (arith, mass_opens c.args.node.now _ c.as_slice-parts.ensures, c.decreases), tt)

pub is_lowered-returns-in-Or : goal.is_lowered-returns-in-Or
is_lowered-returns-in-Or t c =
    let setting = c.args.setting.now in let around = c.args.around.now in let node = c.args.node.now in IfOk-weaker c.are_so_many-in-Or.result _ (λ (answer
    : Bool). (name : Naming) → answer ≡ (node_for setting around name node).ok) (λ answer is name. is name ∙ ap (λ (cs : List Core). nat_eq (length cs) 2 &&
    all_for setting around name cs) c.as_slice-parts.ensures ∙ or_decided setting around name node (out-Core node).parts ∙ ok_is setting around name node _
    c.in-Or.is) c.are_so_many-in-Or.ensures

pub is_lowered-are_so_many-requires-in-Or : goal.is_lowered-are_so_many-requires-in-Or
is_lowered-are_so_many-requires-in-Or t c =
    (omega (arith, mass_opens c.args.node.now _ c.as_slice-parts.ensures, c.decreases), tt)

pub is_lowered-returns-in-Cast : goal.is_lowered-returns-in-Cast
is_lowered-returns-in-Cast t c =
    let setting = c.args.setting.now in let around = c.args.around.now in let node = c.args.node.now in IfOk-weaker c.are_so_many-in-Cast.result _ (λ
    (answer : Bool). (name : Naming) → answer ≡ (node_for setting around name node).ok) (λ answer is name. is name ∙ ap (λ (cs : List Core). nat_eq (length
    cs) 1 && all_for setting around name cs) c.as_slice-parts.ensures ∙ cast_decided setting around name node c.in-Cast.field-0 (out-Core node).parts ∙
    ok_is setting around name node _ c.in-Cast.is) c.are_so_many-in-Cast.ensures

pub is_lowered-are_so_many-requires-in-Cast : goal.is_lowered-are_so_many-requires-in-Cast
is_lowered-are_so_many-requires-in-Cast t c =
    (omega (arith, mass_opens c.args.node.now _ c.as_slice-parts.ensures, c.decreases), tt)

pub is_lowered-returns-in-Tuple : goal.is_lowered-returns-in-Tuple
is_lowered-returns-in-Tuple t c =
    let setting = c.args.setting.now in let around = c.args.around.now in let node = c.args.node.now in IfOk-weaker c.are_lowered.result _ (λ (answer :
    Bool). (name : Naming) → answer ≡ (node_for setting around name node).ok) (λ answer is name. is name ∙ ap (λ (cs : List Core). all_for setting around
    name cs) c.as_slice-parts.ensures ∙ ok_is setting around name node _ c.in-Tuple.is) c.are_lowered.ensures

pub is_lowered-are_lowered-requires : goal.is_lowered-are_lowered-requires
is_lowered-are_lowered-requires t c =
    (omega (arith, mass_opens c.args.node.now _ c.as_slice-parts.ensures, c.decreases), tt)

pub is_lowered-returns-in-Vector : goal.is_lowered-returns-in-Vector
is_lowered-returns-in-Vector t c =
    let setting = c.args.setting.now in let around = c.args.around.now in let node = c.args.node.now in IfOk-weaker c.are_lowered-in-Vector.result _ (λ
    (answer : Bool). (name : Naming) → answer ≡ (node_for setting around name node).ok) (λ answer is name. is name ∙ ap (λ (cs : List Core). all_for setting
    around name cs) c.as_slice-parts.ensures ∙ ok_is setting around name node _ c.in-Vector.is) c.are_lowered-in-Vector.ensures

pub is_lowered-are_lowered-requires-in-Vector : goal.is_lowered-are_lowered-requires-in-Vector
is_lowered-are_lowered-requires-in-Vector t c =
    (omega (arith, mass_opens c.args.node.now _ c.as_slice-parts.ensures, c.decreases), tt)

pub is_lowered-returns-in-List : goal.is_lowered-returns-in-List
is_lowered-returns-in-List t c =
    let setting = c.args.setting.now in let around = c.args.around.now in let node = c.args.node.now in IfOk-weaker c.are_lowered-in-List.result _ (λ
    (answer : Bool). (name : Naming) → answer ≡ (node_for setting around name node).ok) (λ answer is name. is name ∙ ap (λ (cs : List Core). all_for setting
    around name cs) c.as_slice-parts.ensures ∙ ok_is setting around name node _ c.in-List.is) c.are_lowered-in-List.ensures

pub is_lowered-are_lowered-requires-in-List : goal.is_lowered-are_lowered-requires-in-List
is_lowered-are_lowered-requires-in-List t c =
    (omega (arith, mass_opens c.args.node.now _ c.as_slice-parts.ensures, c.decreases), tt)

pub is_lowered-returns-in-Cons : goal.is_lowered-returns-in-Cons
is_lowered-returns-in-Cons t c =
    let setting = c.args.setting.now in let around = c.args.around.now in let node = c.args.node.now in IfOk-weaker c.are_lowered-in-Cons.result _ (λ
    (answer : Bool). (name : Naming) → answer ≡ (node_for setting around name node).ok) (λ answer is name. is name ∙ ap (λ (cs : List Core). all_for setting
    around name cs) c.as_slice-parts.ensures ∙ ok_is setting around name node _ c.in-Cons.is) c.are_lowered-in-Cons.ensures

pub is_lowered-are_lowered-requires-in-Cons : goal.is_lowered-are_lowered-requires-in-Cons
is_lowered-are_lowered-requires-in-Cons t c =
    (omega (arith, mass_opens c.args.node.now _ c.as_slice-parts.ensures, c.decreases), tt)

pub is_lowered-returns-in-Struct : goal.is_lowered-returns-in-Struct
is_lowered-returns-in-Struct t c =
    let setting = c.args.setting.now in let around = c.args.around.now in let node = c.args.node.now in IfOk-weaker c.are_lowered-in-Struct.result _ (λ
    (answer : Bool). (name : Naming) → answer ≡ (node_for setting around name node).ok) (λ answer is name. is name ∙ ap (λ (cs : List Core). all_for setting
    around name cs) c.as_slice-parts.ensures ∙ ok_is setting around name node _ c.in-Struct.is) c.are_lowered-in-Struct.ensures

pub is_lowered-are_lowered-requires-in-Struct : goal.is_lowered-are_lowered-requires-in-Struct
is_lowered-are_lowered-requires-in-Struct t c =
    (omega (arith, mass_opens c.args.node.now _ c.as_slice-parts.ensures, c.decreases), tt)

pub is_lowered-returns-in-Part : goal.is_lowered-returns-in-Part
is_lowered-returns-in-Part t c =
    let setting = c.args.setting.now in let around = c.args.around.now in let node = c.args.node.now in IfOk-weaker c.is_part.result _ (λ (answer : Bool).
    (name : Naming) → answer ≡ (node_for setting around name node).ok) (λ answer is name. is name ∙ ok_is setting around name node _ c.in-Part.is)
    c.is_part.ensures

pub is_lowered-is_part-requires : goal.is_lowered-is_part-requires
is_lowered-is_part-requires t c =
    (omega (arith, mass_opens c.args.node.now _ refl, c.decreases), tt)

pub is_lowered-returns-in-WithItem : goal.is_lowered-returns-in-WithItem
is_lowered-returns-in-WithItem t c =
    let setting = c.args.setting.now in let around = c.args.around.now in let node = c.args.node.now in IfOk-weaker c.are_so_many-in-WithItem.result _ (λ
    (answer : Bool). (name : Naming) → answer ≡ (node_for setting around name node).ok) (λ answer is name. is name ∙ ap (λ (cs : List Core). nat_eq (length
    cs) 3 && all_for setting around name cs) c.as_slice-parts.ensures ∙ withitem_decided setting around name node (out-Core node).parts ∙ ok_is setting
    around name node _ c.in-WithItem.is) c.are_so_many-in-WithItem.ensures

pub is_lowered-are_so_many-requires-in-WithItem : goal.is_lowered-are_so_many-requires-in-WithItem
is_lowered-are_so_many-requires-in-WithItem t c =
    (omega (arith, mass_opens c.args.node.now _ c.as_slice-parts.ensures, c.decreases), tt)

pub is_lowered-returns-in-WithSlice : goal.is_lowered-returns-in-WithSlice
is_lowered-returns-in-WithSlice t c =
    let setting = c.args.setting.now in let around = c.args.around.now in let node = c.args.node.now in IfOk-weaker c.are_so_many-in-WithSlice.result _ (λ
    (answer : Bool). (name : Naming) → answer ≡ (node_for setting around name node).ok) (λ answer is name. is name ∙ ap (λ (cs : List Core). nat_eq (length
    cs) 4 && all_for setting around name cs) c.as_slice-parts.ensures ∙ withslice_decided setting around name node (out-Core node).parts ∙ ok_is setting
    around name node _ c.in-WithSlice.is) c.are_so_many-in-WithSlice.ensures

pub is_lowered-are_so_many-requires-in-WithSlice : goal.is_lowered-are_so_many-requires-in-WithSlice
is_lowered-are_so_many-requires-in-WithSlice t c =
    (omega (arith, mass_opens c.args.node.now _ c.as_slice-parts.ensures, c.decreases), tt)

pub is_lowered-returns-in-SizeOf : goal.is_lowered-returns-in-SizeOf
is_lowered-returns-in-SizeOf t c =
    let setting = c.args.setting.now in let around = c.args.around.now in let node = c.args.node.now in λ name. c.is_size.ensures ∙ ap (λ (cs : List Core).
    nat_eq (length cs) 0 && number_fits (size_for setting c.in-SizeOf.size)) c.as_slice-parts.ensures ∙ sizeof_decided setting around name node
    c.in-SizeOf.size c.in-SizeOf.field-1 (out-Core node).parts ∙ ok_is setting around name node _ c.in-SizeOf.is

pub is_lowered-returns-in-Constraint : goal.is_lowered-returns-in-Constraint
is_lowered-returns-in-Constraint t c =
    let setting = c.args.setting.now in let around = c.args.around.now in let node = c.args.node.now in λ name. c.is_truth.ensures ∙ ap (λ (cs : List Core).
    nat_eq (length cs) 0 && is_some (truth_of (known_at (known_of setting.numbers.now)) c.in-Constraint.condition)) c.as_slice-parts.ensures ∙
    constraint_decided setting around name node c.in-Constraint.condition c.in-Constraint.field-1 (out-Core node).parts ∙ ok_is setting around name node _
    c.in-Constraint.is

pub is_lowered-returns-in-Assign : goal.is_lowered-returns-in-Assign
is_lowered-returns-in-Assign t c =
    let setting = c.args.setting.now in let around = c.args.around.now in let node = c.args.node.now in IfOk-weaker c.is_assigned.result _ (λ (answer :
    Bool). (name : Naming) → answer ≡ (node_for setting around name node).ok) (λ answer is name. is name ∙ ok_is setting around name node _ c.in-Assign.is)
    c.is_assigned.ensures

pub is_lowered-is_assigned-requires : goal.is_lowered-is_assigned-requires
is_lowered-is_assigned-requires t c =
    (omega (arith, mass_opens c.args.node.now _ refl, c.decreases), tt)

pub is_lowered-returns-in-Block : goal.is_lowered-returns-in-Block
is_lowered-returns-in-Block t c =
    let setting = c.args.setting.now in let around = c.args.around.now in let node = c.args.node.now in IfOk-weaker c.is_block.result _ (λ (answer : Bool).
    (name : Naming) → answer ≡ (node_for setting around name node).ok) (λ answer is name. is name ∙ (λ i. block_ok setting around name
    (c.as_slice-in-Block.ensures i) (c.as_slice-parts.ensures i)) ∙ ok_is setting around name node _ c.in-Block.is) c.is_block.ensures

pub is_lowered-is_block-requires : goal.is_lowered-is_block-requires
is_lowered-is_block-requires t c =
    (omega (arith, mass_opens c.args.node.now _ c.as_slice-parts.ensures, c.decreases), tt)

pub is_lowered-returns-in-Let : goal.is_lowered-returns-in-Let
is_lowered-returns-in-Let t c =
    let setting = c.args.setting.now in let around = c.args.around.now in let node = c.args.node.now in IfOk-weaker c.is_let.result _ (λ (answer : Bool).
    (name : Naming) → answer ≡ (node_for setting around name node).ok) (λ answer is name. is name ∙ ok_is setting around name node _ c.in-Let.is)
    c.is_let.ensures

pub is_lowered-is_let-requires : goal.is_lowered-is_let-requires
is_lowered-is_let-requires t c =
    (omega (arith, mass_opens c.args.node.now _ refl, c.decreases), tt)

pub is_lowered-returns-in-Var : goal.is_lowered-returns-in-Var
is_lowered-returns-in-Var t c =
    let setting = c.args.setting.now in let around = c.args.around.now in let node = c.args.node.now in IfOk-weaker c.are_so_many-in-Var.result _ (λ (answer
    : Bool). (name : Naming) → answer ≡ (node_for setting around name node).ok) (λ answer is name. is name ∙ ap (λ (cs : List Core). nat_eq (length cs) 2 &&
    all_for setting around name cs) c.as_slice-parts.ensures ∙ var_decided setting around name node c.in-Var.field-0 c.in-Var.field-1 (out-Core node).parts
    ∙ ok_is setting around name node _ c.in-Var.is) c.are_so_many-in-Var.ensures

pub is_lowered-are_so_many-requires-in-Var : goal.is_lowered-are_so_many-requires-in-Var
is_lowered-are_so_many-requires-in-Var t c =
    (omega (arith, mass_opens c.args.node.now _ c.as_slice-parts.ensures, c.decreases), tt)

pub is_lowered-returns-in-If : goal.is_lowered-returns-in-If
is_lowered-returns-in-If t c =
    let setting = c.args.setting.now in let around = c.args.around.now in let node = c.args.node.now in IfOk-weaker c.is_branch.result _ (λ (answer : Bool).
    (name : Naming) → answer ≡ (node_for setting around name node).ok) (λ answer is name. is name ∙ if_alike setting.types.now (callees_of setting around)
    (tables_for setting around.instances.now) (out-Core node).number S.Unit c.in-If.field-0 (map (node_for setting around name) (out-Core node).parts) ∙
    ok_is setting around name node _ c.in-If.is) c.is_branch.ensures

pub is_lowered-is_branch-requires : goal.is_lowered-is_branch-requires
is_lowered-is_branch-requires t c =
    (omega (arith, mass_opens c.args.node.now _ refl, c.decreases), tt)

pub is_lowered-returns-in-Match : goal.is_lowered-returns-in-Match
is_lowered-returns-in-Match t c =
    let setting = c.args.setting.now in let around = c.args.around.now in let node = c.args.node.now in IfOk-weaker c.is_match.result _ (λ (answer : Bool).
    (name : Naming) → answer ≡ (node_for setting around name node).ok) (λ answer is name. is name ∙ match_alike setting.types.now (callees_of setting
    around) (tables_for setting around.instances.now) (out-Core node).number c.in-Match.arms S.Unit c.in-Match.field-1 (map (node_for setting around name)
    (out-Core node).parts) ∙ ok_is setting around name node _ c.in-Match.is) c.is_match.ensures

pub is_lowered-is_match-requires : goal.is_lowered-is_match-requires
is_lowered-is_match-requires t c =
    (omega (arith, mass_opens c.args.node.now _ refl, c.decreases), tt)

pub is_lowered-returns-in-Try : goal.is_lowered-returns-in-Try
is_lowered-returns-in-Try t c =
    let setting = c.args.setting.now in let around = c.args.around.now in let node = c.args.node.now in IfOk-weaker c.is_try.result _ (λ (answer : Bool).
    (name : Naming) → answer ≡ (node_for setting around name node).ok) (λ answer is name. is name ∙ try_alike setting.types.now (callees_of setting around)
    (tables_for setting around.instances.now) (out-Core node).number c.in-Try.arms S.Unit c.in-Try.field-1 (map (node_for setting around name) (out-Core
    node).parts) ∙ ok_is setting around name node _ c.in-Try.is) c.is_try.ensures

pub is_lowered-is_try-requires : goal.is_lowered-is_try-requires
is_lowered-is_try-requires t c =
    (omega (arith, mass_opens c.args.node.now _ refl, c.decreases), tt)

pub is_lowered-returns-in-Clauses : goal.is_lowered-returns-in-Clauses
is_lowered-returns-in-Clauses t c =
    let setting = c.args.setting.now in let around = c.args.around.now in let node = c.args.node.now in IfOk-weaker c.are_clauses.result _ (λ (answer :
    Bool). (name : Naming) → answer ≡ (node_for setting around name node).ok) (λ answer is name. is name ∙ ok_is setting around name node _ c.in-Clauses.is)
    c.are_clauses.ensures

pub is_lowered-are_clauses-requires : goal.is_lowered-are_clauses-requires
is_lowered-are_clauses-requires t c =
    (omega (arith, mass_opens c.args.node.now _ refl, c.decreases), tt)

pub is_lowered-returns-in-When : goal.is_lowered-returns-in-When
is_lowered-returns-in-When t c =
    let setting = c.args.setting.now in let around = c.args.around.now in let node = c.args.node.now in IfOk-weaker c.are_so_many-in-When.result _ (λ
    (answer : Bool). (name : Naming) → answer ≡ (node_for setting around name node).ok) (λ answer is name. is name ∙ ap (λ (cs : List Core). nat_eq (length
    cs) 2 && all_for setting around name cs) c.as_slice-parts.ensures ∙ when_decided setting around name node (out-Core node).parts ∙ ok_is setting around
    name node _ c.in-When.is) c.are_so_many-in-When.ensures

pub is_lowered-are_so_many-requires-in-When : goal.is_lowered-are_so_many-requires-in-When
is_lowered-are_so_many-requires-in-When t c =
    (omega (arith, mass_opens c.args.node.now _ c.as_slice-parts.ensures, c.decreases), tt)

pub is_lowered-returns-in-Foreach : goal.is_lowered-returns-in-Foreach
is_lowered-returns-in-Foreach t c =
    let setting = c.args.setting.now in let around = c.args.around.now in let node = c.args.node.now in IfOk-weaker c.is_foreach.result _ (λ
    (answer : Bool). (name : Naming) → answer ≡ (node_for setting around name node).ok) (λ answer is name. is name ∙ ap (λ (cs : List Core). foreach_ok
    setting around name c.in-Foreach.name cs) c.as_slice-parts.ensures ∙ foreach_decided setting around name node c.in-Foreach.name
    c.in-Foreach.field-1
    (out-Core node).parts ∙ ok_is setting around name node _ c.in-Foreach.is) c.is_foreach.ensures

pub is_lowered-is_foreach-requires : goal.is_lowered-is_foreach-requires
is_lowered-is_foreach-requires t c =
    (omega (arith, mass_opens c.args.node.now _ c.as_slice-parts.ensures, c.decreases), tt)

pub is_foreach-returns : goal.is_foreach-returns
is_foreach-returns t c = λ name. c.both.ensures ∙ (λ i. c.is_unread-free.ensures i && c.in_ok-are_parts.ensures name i)

pub is_foreach-are_so_many-requires : goal.is_foreach-are_so_many-requires
is_foreach-are_so_many-requires t c = (omega (arith, c.decreases), tt)

pub is_lowered-returns-in-While : goal.is_lowered-returns-in-While
is_lowered-returns-in-While t c =
    let setting = c.args.setting.now in let around = c.args.around.now in let node = c.args.node.now in IfOk-weaker c.are_so_many-in-While.result _ (λ
    (answer : Bool). (name : Naming) → answer ≡ (node_for setting around name node).ok) (λ answer is name. is name ∙ ap (λ (cs : List Core). nat_eq (length
    cs) 3 && all_for setting around name cs) c.as_slice-parts.ensures ∙ while_decided setting around name node (out-Core node).parts ∙ ok_is setting around
    name node _ c.in-While.is) c.are_so_many-in-While.ensures

pub is_lowered-are_so_many-requires-in-While : goal.is_lowered-are_so_many-requires-in-While
is_lowered-are_so_many-requires-in-While t c =
    (omega (arith, mass_opens c.args.node.now _ c.as_slice-parts.ensures, c.decreases), tt)

pub is_lowered-returns-in-Repeat : goal.is_lowered-returns-in-Repeat
is_lowered-returns-in-Repeat t c =
    let setting = c.args.setting.now in let around = c.args.around.now in let node = c.args.node.now in IfOk-weaker c.are_so_many-in-Repeat.result _ (λ
    (answer : Bool). (name : Naming) → answer ≡ (node_for setting around name node).ok) (λ answer is name. is name ∙ ap (λ (cs : List Core). nat_eq (length
    cs) 3 && all_for setting around name cs) c.as_slice-parts.ensures ∙ repeat_decided setting around name node (out-Core node).parts ∙ ok_is setting around
    name node _ c.in-Repeat.is) c.are_so_many-in-Repeat.ensures

pub is_lowered-are_so_many-requires-in-Repeat : goal.is_lowered-are_so_many-requires-in-Repeat
is_lowered-are_so_many-requires-in-Repeat t c =
    (omega (arith, mass_opens c.args.node.now _ c.as_slice-parts.ensures, c.decreases), tt)

pub is_lowered-returns-in-Return : goal.is_lowered-returns-in-Return
is_lowered-returns-in-Return t c =
    let setting = c.args.setting.now in let around = c.args.around.now in let node = c.args.node.now in IfOk-weaker c.are_so_many-in-Return.result _ (λ
    (answer : Bool). (name : Naming) → answer ≡ (node_for setting around name node).ok) (λ answer is name. is name ∙ ap (λ (cs : List Core). nat_eq (length
    cs) 1 && all_for setting around name cs) c.as_slice-parts.ensures ∙ return_decided setting around name node (out-Core node).parts ∙ ok_is setting around
    name node _ c.in-Return.is) c.are_so_many-in-Return.ensures

pub is_lowered-are_so_many-requires-in-Return : goal.is_lowered-are_so_many-requires-in-Return
is_lowered-are_so_many-requires-in-Return t c =
    (omega (arith, mass_opens c.args.node.now _ c.as_slice-parts.ensures, c.decreases), tt)

pub is_lowered-returns-in-Throw : goal.is_lowered-returns-in-Throw
is_lowered-returns-in-Throw t c =
    let setting = c.args.setting.now in let around = c.args.around.now in let node = c.args.node.now in IfOk-weaker c.are_so_many-in-Throw.result _ (λ
    (answer : Bool). (name : Naming) → answer ≡ (node_for setting around name node).ok) (λ answer is name. is name ∙ ap (λ (cs : List Core). nat_eq (length
    cs) 1 && all_for setting around name cs) c.as_slice-parts.ensures ∙ throw_decided setting around name node (out-Core node).parts ∙ ok_is setting around
    name node _ c.in-Throw.is) c.are_so_many-in-Throw.ensures

pub is_lowered-are_so_many-requires-in-Throw : goal.is_lowered-are_so_many-requires-in-Throw
is_lowered-are_so_many-requires-in-Throw t c =
    (omega (arith, mass_opens c.args.node.now _ c.as_slice-parts.ensures, c.decreases), tt)

pub is_lowered-returns-in-Exit : goal.is_lowered-returns-in-Exit
is_lowered-returns-in-Exit t c =
    let setting = c.args.setting.now in let around = c.args.around.now in let node = c.args.node.now in IfOk-weaker c.are_so_many-in-Exit.result _ (λ
    (answer : Bool). (name : Naming) → answer ≡ (node_for setting around name node).ok) (λ answer is name. is name ∙ ap (λ (cs : List Core). nat_eq (length
    cs) 1 && all_for setting around name cs) c.as_slice-parts.ensures ∙ exit_decided setting around name node (out-Core node).parts ∙ ok_is setting around
    name node _ c.in-Exit.is) c.are_so_many-in-Exit.ensures

pub is_lowered-are_so_many-requires-in-Exit : goal.is_lowered-are_so_many-requires-in-Exit
is_lowered-are_so_many-requires-in-Exit t c =
    (omega (arith, mass_opens c.args.node.now _ c.as_slice-parts.ensures, c.decreases), tt)

pub is_lowered-returns-in-Assert : goal.is_lowered-returns-in-Assert
is_lowered-returns-in-Assert t c =
    let setting = c.args.setting.now in let around = c.args.around.now in let node = c.args.node.now in IfOk-weaker c.are_so_many-in-Assert.result _ (λ
    (answer : Bool). (name : Naming) → answer ≡ (node_for setting around name node).ok) (λ answer is name. is name ∙ ap (λ (cs : List Core). nat_eq (length
    cs) 1 && all_for setting around name cs) c.as_slice-parts.ensures ∙ assert_decided setting around name node c.in-Assert.field-0 (out-Core node).parts ∙
    ok_is setting around name node _ c.in-Assert.is) c.are_so_many-in-Assert.ensures

pub is_lowered-are_so_many-requires-in-Assert : goal.is_lowered-are_so_many-requires-in-Assert
is_lowered-are_so_many-requires-in-Assert t c =
    (omega (arith, mass_opens c.args.node.now _ c.as_slice-parts.ensures, c.decreases), tt)

pub is_lowered-returns-in-Optional : goal.is_lowered-returns-in-Optional
is_lowered-returns-in-Optional t c =
    let setting = c.args.setting.now in let around = c.args.around.now in let node = c.args.node.now in λ name. optional_decided setting around name node
    c.in-Optional.field-0 (out-Core node).parts ∙ ok_is setting around name node _ c.in-Optional.is

pub is_lowered-returns-in_default : goal.is_lowered-returns-in_default
is_lowered-returns-in_default t c =
    let setting = c.args.setting.now in let around = c.args.around.now in let node = c.args.node.now in IfOk-weaker c.are_lowered-in_default.result _ (λ
    (answer : Bool). (name : Naming) → answer ≡ (node_for setting around name node).ok) (λ answer is name. is name ∙ ap (λ (cs : List Core). all_for setting
    around name cs) c.as_slice-parts.ensures ∙ with_decided setting around name node c.in-With.field-0 c.in-With.fields (out-Core node).parts (subst (λ (is
    : List ℕ). 1 ≤ length is) c.as_slice.ensures c.in_default.len_at_least) ∙ ok_is setting around name node _ c.in-With.is)
    c.are_lowered-in_default.ensures

pub are_lowered-returns-in-empty : goal.are_lowered-returns-in-empty
are_lowered-returns-in-empty t c =
    let setting = c.args.setting.now in let around = c.args.around.now in λ name. ap (λ (cs : List Core). all_for setting around name cs) (sym (none_of
    c.args.nodes.now c.in-empty.len_below))

pub are_lowered-returns-in_ok-are_others-in-len1-up : goal.are_lowered-returns-in_ok-are_others-in-len1-up
are_lowered-returns-in_ok-are_others-in-len1-up t c =
    let setting = c.args.setting.now in let around = c.args.around.now in λ name. c.both.ensures ∙ (λ i. c.in_ok-is_first-in-len1-up.ensures name i &&
    c.in_ok-are_others-in-len1-up.ensures name i) ∙ ap (λ (cs : List Core). all_for setting around name cs) (sym (first_of _ _ c.in-len1-up.len_at_least
    c.first-item.is))

pub are_lowered-is_lowered-requires : goal.are_lowered-is_lowered-requires
are_lowered-is_lowered-requires t c =
    (omega (arith, rest_mass _ _ c.in-len1-up.len_at_least c.first-item.is, c.decreases), tt)

pub are_lowered-are_lowered-requires : goal.are_lowered-are_lowered-requires
are_lowered-are_lowered-requires t c =
    (omega (arith, rest_mass _ _ c.in-len1-up.len_at_least c.first-item.is, mass_some c.first-item.result, c.decreases), tt)

pub is_matched-returns : goal.is_matched-returns
is_matched-returns t c =
    let setting = c.args.setting.now in let around = c.args.around.now in λ name. c.both.ensures ∙ (λ i. c.in_ok-is_value.ensures name i &&
    (c.is_said-said.ensures ∙ ap (λ (es : List End). has_ends es) (c.in_ok-ends.ensures name)) i)

pub is_matched-is_lowered-requires : goal.is_matched-is_lowered-requires
is_matched-is_lowered-requires t c =
    (omega (arith, c.decreases), tt)

pub are_so_many-returns : goal.are_so_many-returns
are_so_many-returns t c =
    let setting = c.args.setting.now in let around = c.args.around.now in λ name. c.both.ensures ∙ ap (λ b. nat_eq (length c.args.nodes.now) c.args.count &&
    b) (c.in_ok-are_nodes.ensures name)

pub are_so_many-are_lowered-requires : goal.are_so_many-are_lowered-requires
are_so_many-are_lowered-requires t c =
    (omega (arith, c.decreases), tt)

pub is_last-returns-in-empty : goal.is_last-returns-in-empty
is_last-returns-in-empty t c =
    let setting = c.args.setting.now in let around = c.args.around.now in λ name. ap (λ (cs : List Core). block_ok setting around name [] cs) (sym (none_of
    c.args.parts.now c.in-empty.len_below))

pub is_last-returns-in-len1 : goal.is_last-returns-in-len1
is_last-returns-in-len1 t c =
    let setting = c.args.setting.now in let around = c.args.around.now in IfOk-weaker c.is_lowered.result _ (λ (answer : Bool). (name : Naming) → answer ≡
    block_ok setting around name [] c.args.parts.now) (λ answer is name. is name ∙ ap (λ (cs : List Core). block_ok setting around name [] cs) (sym (one_of
    c.args.parts.now _ c.in-len1.len_at_least c.in-len1.len_below c.value-item.is))) c.is_lowered.ensures

pub is_last-is_lowered-requires : goal.is_last-is_lowered-requires
is_last-is_lowered-requires t c =
    (omega (arith, one_mass _ _ c.in-len1.len_at_least c.value-item.is, c.decreases), tt)

pub is_last-returns-in-len2-up : goal.is_last-returns-in-len2-up
is_last-returns-in-len2-up t c =
    let setting = c.args.setting.now in let around = c.args.around.now in λ name. long_block setting around name c.args.parts.now c.in-len2-up.len_at_least

pub is_statement-returns-in-Evaluate : goal.is_statement-returns-in-Evaluate
is_statement-returns-in-Evaluate t c =
    let setting = c.args.setting.now in let around = c.args.around.now in IfOk-weaker c.is_lowered.result _ (λ (answer : Bool). (name : Naming) → answer ≡
    statement_ok setting around name c.args.statement.now c.args.first.now) (λ answer is name. is name ∙ ap (λ (x : Statement). statement_ok setting around
    name x c.args.first.now) (sym c.in-Evaluate.is)) c.is_lowered.ensures

pub is_statement-returns-in-Declare : goal.is_statement-returns-in-Declare
is_statement-returns-in-Declare t c =
    let setting = c.args.setting.now in let around = c.args.around.now in IfOk-weaker c.is_lowered-in-Declare.result _ (λ (answer : Bool). (name : Naming) →
    answer ≡ statement_ok setting around name c.args.statement.now c.args.first.now) (λ answer is name. is name ∙ ap (λ (x : Statement). statement_ok
    setting around name x c.args.first.now) (sym c.in-Declare.is)) c.is_lowered-in-Declare.ensures

pub is_statement-returns-in_ok-is_value-in-Define : goal.is_statement-returns-in_ok-is_value-in-Define
is_statement-returns-in_ok-is_value-in-Define t c =
    let setting = c.args.setting.now in let around = c.args.around.now in λ name. c.both.ensures ∙ (λ i. c.is_arm-flat.ensures i &&
    c.in_ok-is_value-in-Define.ensures name i) ∙ ap (λ (x : Statement). statement_ok setting around name x c.args.first.now) (sym c.in-Define.is)

pub is_statement-is_lowered-requires : goal.is_statement-is_lowered-requires
is_statement-is_lowered-requires t c =
    (omega (arith, c.decreases), tt)

pub is_statement-is_lowered-requires-in-Declare : goal.is_statement-is_lowered-requires-in-Declare
is_statement-is_lowered-requires-in-Declare t c =
    (omega (arith, c.decreases), tt)

pub is_statement-is_matched-requires : goal.is_statement-is_matched-requires
is_statement-is_matched-requires t c =
    (omega (arith, c.decreases), tt)

pub is_block-returns-in-empty : goal.is_block-returns-in-empty
is_block-returns-in-empty t c =
    let setting = c.args.setting.now in let around = c.args.around.now in IfOk-weaker c.is_last.result _ (λ (answer : Bool). (name : Naming) → answer ≡
    block_ok setting around name c.args.statements.now c.args.parts.now) (λ answer is name. is name ∙ ap (λ (ss : List Statement). block_ok setting around
    name ss c.args.parts.now) (sym (none_of c.args.statements.now c.in-empty.len_below))) c.is_last.ensures

pub is_block-is_last-requires : goal.is_block-is_last-requires
is_block-is_last-requires t c =
    (omega (arith, c.decreases), tt)

pub is_block-is_statement-requires : goal.is_block-is_statement-requires
is_block-is_statement-requires t c =
    (omega (arith, rest_mass _ _ c.in-len1-up-parts.len_at_least c.first-item.is, c.decreases), tt)

pub is_block-is_block-requires : goal.is_block-is_block-requires
is_block-is_block-requires t c =
    (omega (arith, rest_mass _ _ c.in-len1-up-parts.len_at_least c.first-item.is, mass_some c.first-item.result, c.decreases), tt)

pub is_block-returns-in_ok-are_others-in-len1-up-parts : goal.is_block-returns-in_ok-are_others-in-len1-up-parts
is_block-returns-in_ok-are_others-in-len1-up-parts t c =
    let setting = c.args.setting.now in let around = c.args.around.now in λ name. c.both.ensures ∙ (λ i. c.in_ok-is_first-in-len1-up-parts.ensures name i &&
    c.in_ok-are_others-in-len1-up-parts.ensures name i) ∙ block_decided setting around name c.statement-item.result (others c.args.statements.now)
    c.first-item.result (others c.args.parts.now) ∙ (λ i. block_ok setting around name (sym (first_of c.args.statements.now _ c.in-len1-up.len_at_least
    c.statement-item.is) i) (sym (first_of c.args.parts.now _ c.in-len1-up-parts.len_at_least c.first-item.is) i))

pub is_callee-returns-in_ok-are_parts-in-Function : goal.is_callee-returns-in_ok-are_parts-in-Function
is_callee-returns-in_ok-are_parts-in-Function t c =
    let setting = c.args.setting.now in let around = c.args.around.now in let node = c.args.node.now in λ name. c.both.ensures ∙ (λ i.
    (c.lead_to-leads.ensures ∙ ap (λ (ls : List Lead). leads_to (λ p. function_in (slice_get around.instances.now p)) c.in-Function.function ls)
    c.leads.ensures) i && (c.in_ok-are_parts-in-Function.ensures name ∙ ap (λ (cs : List Core). all_for setting around name cs) c.as_slice-parts.ensures) i)
    ∙ ap (λ (f : Callee). ok_as setting around name (K.Call f) node) (sym c.in-Function.is)

pub is_callee-are_lowered-requires : goal.is_callee-are_lowered-requires
is_callee-are_lowered-requires t c =
    (omega (arith, ap masses c.as_slice-parts.ensures, c.decreases), tt)

pub is_callee-returns-in-Row : goal.is_callee-returns-in-Row
is_callee-returns-in-Row t c =
    let setting = c.args.setting.now in let around = c.args.around.now in let node = c.args.node.now in IfOk-weaker c.is_row.result _ (λ (answer : Bool).
    (name : Naming) → answer ≡ ok_as setting around name (K.Call c.args.callee) node) (λ answer is name. is name ∙ ap (λ (f : Callee). ok_as setting around
    name (K.Call f) node) (sym c.in-Row.is)) c.is_row.ensures

pub is_callee-is_row-requires : goal.is_callee-is_row-requires
is_callee-is_row-requires t c =
    (omega (arith, c.decreases), tt)

pub is_callee-returns-in-Constructor : goal.is_callee-returns-in-Constructor
is_callee-returns-in-Constructor t c =
    let setting = c.args.setting.now in let around = c.args.around.now in let node = c.args.node.now in IfOk-weaker c.are_lowered-in-Constructor.result _ (λ
    (answer : Bool). (name : Naming) → answer ≡ ok_as setting around name (K.Call c.args.callee) node) (λ answer is name. is name ∙ ap (λ (cs : List Core).
    all_for setting around name cs) c.as_slice-parts.ensures ∙ ap (λ (f : Callee). ok_as setting around name (K.Call f) node) (sym c.in-Constructor.is))
    c.are_lowered-in-Constructor.ensures

pub is_callee-are_lowered-requires-in-Constructor : goal.is_callee-are_lowered-requires-in-Constructor
is_callee-are_lowered-requires-in-Constructor t c =
    (omega (arith, ap masses c.as_slice-parts.ensures, c.decreases), tt)

pub is_callee-returns-in-Converts : goal.is_callee-returns-in-Converts
is_callee-returns-in-Converts t c =
    let setting = c.args.setting.now in let around = c.args.around.now in let node = c.args.node.now in λ name. ap (λ (f : Callee). ok_as setting around
    name (K.Call f) node) (sym c.in-Converts.is)

pub is_callee-returns-in-Applies : goal.is_callee-returns-in-Applies
is_callee-returns-in-Applies t c =
    let setting = c.args.setting.now in let around = c.args.around.now in let node = c.args.node.now in IfOk-weaker c.is_crossing.result _ (λ (answer :
    Bool). (name : Naming) → answer ≡ ok_as setting around name (K.Call c.args.callee) node) (λ answer is name. is name ∙ ap (λ (f : Callee). ok_as setting
    around name (K.Call f) node) (sym c.in-Applies.is)) c.is_crossing.ensures

pub is_callee-is_crossing-requires : goal.is_callee-is_crossing-requires
is_callee-is_crossing-requires t c =
    (omega (arith, c.decreases), tt)

pub is_crossing-returns-in_ok-is_value-in-len1 : goal.is_crossing-returns-in_ok-is_value-in-len1
is_crossing-returns-in_ok-is_value-in-len1 t c =
    let setting = c.args.setting.now in let around = c.args.around.now in let node = c.args.node.now in λ name. c.both.ensures ∙ (λ i.
    (c.is_taken-taken.ensures ∙ ap (λ (es : List End). applied_lowered (callees_of setting around) c.args.direction es) (c.in_ok-ends-in-len1.ensures name))
    i && c.in_ok-is_value-in-len1.ensures name i) ∙ ap (λ (cs : List Core). ok_with setting around name (K.Call (F.Applies c.args.direction)) node cs) (sym
    (sym c.as_slice.ensures ∙ one_of _ _ c.in-len1.len_at_least c.in-len1.len_below c.value-item.is))

pub is_crossing-returns-in-empty : goal.is_crossing-returns-in-empty
is_crossing-returns-in-empty t c =
    let setting = c.args.setting.now in let around = c.args.around.now in let node = c.args.node.now in λ name. crossing_refused setting around name node
    c.args.direction c.as_slice.result.now (λ e. omega (arith, e, c.in-empty.len_below)) ∙ ap (λ (cs : List Core). ok_with setting around name (K.Call
    (F.Applies c.args.direction)) node cs) c.as_slice.ensures

pub is_crossing-returns-in-len2-up : goal.is_crossing-returns-in-len2-up
is_crossing-returns-in-len2-up t c =
    let setting = c.args.setting.now in let around = c.args.around.now in let node = c.args.node.now in λ name. crossing_refused setting around name node
    c.args.direction c.as_slice.result.now (λ e. omega (arith, e, c.in-len2-up.len_at_least)) ∙ ap (λ (cs : List Core). ok_with setting around name (K.Call
    (F.Applies c.args.direction)) node cs) c.as_slice.ensures

pub is_let-returns-in-empty : goal.is_let-returns-in-empty
is_let-returns-in-empty t c =
    let setting = c.args.setting.now in let around = c.args.around.now in let node = c.args.node.now in λ name. let_refused setting around name node
    c.args.arm.now c.as_slice.result.now (λ e. omega (arith, e, c.in-empty.len_below)) ∙ ap (λ (cs : List Core). ok_with setting around name (K.Let
    c.args.arm.now) node cs) c.as_slice.ensures

pub is_let-returns-in-len1 : goal.is_let-returns-in-len1
is_let-returns-in-len1 t c =
    let setting = c.args.setting.now in let around = c.args.around.now in let node = c.args.node.now in λ name. let_refused setting around name node
    c.args.arm.now c.as_slice.result.now (λ e. omega (arith, e, c.in-len1.len_below)) ∙ ap (λ (cs : List Core). ok_with setting around name (K.Let
    c.args.arm.now) node cs) c.as_slice.ensures

pub is_let-returns-in-len3-up : goal.is_let-returns-in-len3-up
is_let-returns-in-len3-up t c =
    let setting = c.args.setting.now in let around = c.args.around.now in let node = c.args.node.now in λ name. let_refused setting around name node
    c.args.arm.now c.as_slice.result.now (λ e. omega (arith, e, c.in-len3-up.len_at_least)) ∙ ap (λ (cs : List Core). ok_with setting around name (K.Let
    c.args.arm.now) node cs) c.as_slice.ensures

pub is_branch-returns-in-empty : goal.is_branch-returns-in-empty
is_branch-returns-in-empty t c =
    let setting = c.args.setting.now in let around = c.args.around.now in let node = c.args.node.now in λ name. branch_few setting around name node
    c.as_slice-parts.result.now (omega (arith, c.in-empty.len_below)) ∙ ap (λ (cs : List Core). ok_with setting around name (K.If S.Unit) node cs)
    c.as_slice-parts.ensures

pub is_branch-returns-in-len1 : goal.is_branch-returns-in-len1
is_branch-returns-in-len1 t c =
    let setting = c.args.setting.now in let around = c.args.around.now in let node = c.args.node.now in λ name. branch_few setting around name node
    c.as_slice-parts.result.now (omega (arith, c.in-len1.len_below)) ∙ ap (λ (cs : List Core). ok_with setting around name (K.If S.Unit) node cs)
    c.as_slice-parts.ensures

pub is_branch-returns-in-len4-up : goal.is_branch-returns-in-len4-up
is_branch-returns-in-len4-up t c =
    let setting = c.args.setting.now in let around = c.args.around.now in let node = c.args.node.now in λ name. branch_many setting around name node
    c.as_slice-parts.result.now (omega (arith, c.in-len4-up.len_at_least)) ∙ ap (λ (cs : List Core). ok_with setting around name (K.If S.Unit) node cs)
    c.as_slice-parts.ensures

pub is_match-returns-in-empty : goal.is_match-returns-in-empty
is_match-returns-in-empty t c =
    let setting = c.args.setting.now in let around = c.args.around.now in let node = c.args.node.now in λ name. ap (λ (cs : List Core). ok_with setting
    around name (K.Match c.args.arms.now S.Unit) node cs) (sym (none_of c.as_slice.result.now c.in-empty.len_below) ∙ c.as_slice.ensures)

pub is_try-returns-in-empty : goal.is_try-returns-in-empty
is_try-returns-in-empty t c =
    let setting = c.args.setting.now in let around = c.args.around.now in let node = c.args.node.now in λ name. ap (λ (cs : List Core). ok_with setting
    around name (K.Try c.args.arms.now S.Unit) node cs) (sym (none_of c.as_slice.result.now c.in-empty.len_below) ∙ c.as_slice.ensures)

pub is_part-returns-in-empty : goal.is_part-returns-in-empty
is_part-returns-in-empty t c =
    let setting = c.args.setting.now in let around = c.args.around.now in let node = c.args.node.now in λ name. ap (λ (cs : List Core). ok_with setting
    around name (K.Part c.args.suffixes.now) node cs) (sym (none_of c.as_slice.result.now c.in-empty.len_below) ∙ c.as_slice.ensures)

pub is_crossing-is_lowered-requires : goal.is_crossing-is_lowered-requires
is_crossing-is_lowered-requires t c =
    (omega (arith, one_mass _ _ c.in-len1.len_at_least c.value-item.is, ap masses c.as_slice.ensures, c.decreases), tt)

pub is_part-returns-in_ok-are_indexes-in-len1-up : goal.is_part-returns-in_ok-are_indexes-in-len1-up
is_part-returns-in_ok-are_indexes-in-len1-up t c =
    let setting = c.args.setting.now in let around = c.args.around.now in let node = c.args.node.now in λ name. c.both.ensures ∙ (λ i.
    c.in_ok-is_whole-in-len1-up.ensures name i && (c.both-path.ensures ∙ (λ j. (c.are_suffixes-fit.ensures ∙ ap (λ (ss : List Suffix). suffixes_fit ss
    (length (others c.as_slice.result.now))) c.as_slice-in-len1-up.ensures) j && c.in_ok-are_indexes-in-len1-up.ensures name j) ∙ path_decided setting
    around name c.args.suffixes.now (others c.as_slice.result.now)) i) ∙ ap (λ (cs : List Core). ok_with setting around name (K.Part c.args.suffixes.now)
    node cs) (sym (sym c.as_slice.ensures ∙ first_of _ _ c.in-len1-up.len_at_least c.whole-item.is))

pub is_part-is_lowered-requires : goal.is_part-is_lowered-requires
is_part-is_lowered-requires t c =
    (omega (arith, rest_mass _ _ c.in-len1-up.len_at_least c.whole-item.is, ap masses c.as_slice.ensures, c.decreases), tt)

pub is_part-are_lowered-requires : goal.is_part-are_lowered-requires
is_part-are_lowered-requires t c =
    (omega (arith, rest_mass _ _ c.in-len1-up.len_at_least c.whole-item.is, ap masses c.as_slice.ensures, c.decreases), tt)

pub is_let-returns-in_ok-is_behind-in-len2 : goal.is_let-returns-in_ok-is_behind-in-len2
is_let-returns-in_ok-is_behind-in-len2 t c =
    let setting = c.args.setting.now in let around = c.args.around.now in let node = c.args.node.now in λ name. c.both.ensures ∙ (λ i. c.is_arm-flat.ensures
    i && (c.both-bound.ensures ∙ (λ j. c.in_ok-is_value-in-len2.ensures name j && c.in_ok-is_behind-in-len2.ensures name j)) i) ∙ ap (λ (cs : List Core).
    ok_with setting around name (K.Let c.args.arm.now) node cs) (sym (sym c.as_slice.ensures ∙ two_of _ _ _ c.in-len2.len_at_least c.in-len2.len_below
    c.value-item.is c.behind-item.is))

pub is_let-is_matched-requires : goal.is_let-is_matched-requires
is_let-is_matched-requires t c =
    (omega (arith, two_masses _ _ _ c.in-len2.len_at_least c.value-item.is c.behind-item.is, ap masses c.as_slice.ensures, c.decreases), tt)

pub is_let-is_lowered-requires : goal.is_let-is_lowered-requires
is_let-is_lowered-requires t c =
    (omega (arith, two_masses _ _ _ c.in-len2.len_at_least c.value-item.is c.behind-item.is, ap masses c.as_slice.ensures, c.decreases), tt)

pub is_match-returns-in_ok-are_bodies-in-len1-up : goal.is_match-returns-in_ok-are_bodies-in-len1-up
is_match-returns-in_ok-are_bodies-in-len1-up t c =
    let setting = c.args.setting.now in let around = c.args.around.now in let node = c.args.node.now in λ name. c.both.ensures ∙ (λ i.
    c.in_ok-is_value-in-len1-up.ensures name i && (c.both-arms_stand.ensures ∙ (λ j. (c.are_arms-flat.ensures ∙ ap (λ (arms : List Arm). arms_fit
    (size_for setting) (crosses_for setting) (reads_at setting.reads.now) arms) c.as_slice-in-len1-up.ensures) j
    && c.in_ok-are_bodies-in-len1-up.ensures name j)) i) ∙ ap (λ (cs : List Core). ok_with setting
    around name (K.Match c.args.arms.now S.Unit) node cs) (sym (sym c.as_slice.ensures ∙ first_of _ _ c.in-len1-up.len_at_least c.value-item.is))

pub is_try-returns-in_ok-are_bodies-in-len1-up : goal.is_try-returns-in_ok-are_bodies-in-len1-up
is_try-returns-in_ok-are_bodies-in-len1-up t c =
    let setting = c.args.setting.now in let around = c.args.around.now in let node = c.args.node.now in λ name. c.both.ensures ∙ (λ i.
    c.in_ok-is_value-in-len1-up.ensures name i && (c.both-caught.ensures ∙ (λ j. (c.is_said-said.ensures ∙ ap (λ (es : List End). has_ends es)
    c.in_ok-ends-in-len1-up.ensures) j && (c.both-arms_stand.ensures ∙ (λ k. (c.are_arms-flat.ensures ∙ ap (λ (arms : List Arm). arms_fit
    (size_for setting) (crosses_for setting) (reads_at setting.reads.now) arms) c.as_slice-in-len1-up.ensures) k
    && c.in_ok-are_bodies-in-len1-up.ensures name k)) j)) i) ∙ ap (λ (cs : List Core). ok_with setting
    around name (K.Try c.args.arms.now S.Unit) node cs) (sym (sym c.as_slice.ensures ∙ first_of _ _ c.in-len1-up.len_at_least c.value-item.is))

pub is_match-is_matched-requires : goal.is_match-is_matched-requires
is_match-is_matched-requires t c =
    (omega (arith, rest_mass _ _ c.in-len1-up.len_at_least c.value-item.is, mass_some c.value-item.result, ap masses c.as_slice.ensures, c.decreases), tt)

pub is_match-are_lowered-requires : goal.is_match-are_lowered-requires
is_match-are_lowered-requires t c =
    (omega (arith, rest_mass _ _ c.in-len1-up.len_at_least c.value-item.is, mass_some c.value-item.result, ap masses c.as_slice.ensures, c.decreases), tt)

pub is_try-is_lowered-requires : goal.is_try-is_lowered-requires
is_try-is_lowered-requires t c =
    (omega (arith, rest_mass _ _ c.in-len1-up.len_at_least c.value-item.is, mass_some c.value-item.result, ap masses c.as_slice.ensures, c.decreases), tt)

pub is_try-are_lowered-requires : goal.is_try-are_lowered-requires
is_try-are_lowered-requires t c =
    (omega (arith, rest_mass _ _ c.in-len1-up.len_at_least c.value-item.is, mass_some c.value-item.result, ap masses c.as_slice.ensures, c.decreases), tt)

pub are_clauses-returns : goal.are_clauses-returns
are_clauses-returns t c =
    let setting = c.args.setting.now in let around = c.args.around.now in let node = c.args.node.now in λ name. c.both.ensures ∙ (λ i.
    (c.are_arms-flat.ensures ∙ ap (λ (arms : List Arm). arms_fit (size_for setting) (crosses_for setting)
    (reads_at setting.reads.now) arms) c.as_slice.ensures) i &&
    (c.in_ok-are_bodies.ensures name ∙ ap
    (λ (cs : List Core). all_for setting around name cs) c.as_slice-2.ensures) i)

pub are_clauses-are_lowered-requires : goal.are_clauses-are_lowered-requires
are_clauses-are_lowered-requires t c =
    (omega (arith, ap masses c.as_slice-2.ensures, c.decreases), tt)

pub is_assigned-are_lowered-requires : goal.is_assigned-are_lowered-requires
is_assigned-are_lowered-requires t c =
    (omega (arith, ap masses c.as_slice-parts.ensures, c.decreases), tt)

pub is_branch-are_lowered-requires : goal.is_branch-are_lowered-requires
is_branch-are_lowered-requires t c =
    (omega (arith, ap masses c.as_slice-parts.ensures, c.decreases), tt)

pub is_branch-returns-in-len2 : goal.is_branch-returns-in-len2
is_branch-returns-in-len2 t c =
    let setting = c.args.setting.now in let around = c.args.around.now in let node = c.args.node.now in λ name. c.in_ok-are_parts.ensures name ∙ if_decided
    setting around name node S.Unit c.as_slice-parts.result.now (omega (arith, c.in-len2.len_at_least)) (omega (arith, c.in-len2.len_below)) ∙ ap (λ (cs :
    List Core). ok_with setting around name (K.If S.Unit) node cs) c.as_slice-parts.ensures

pub is_branch-returns-in-len3 : goal.is_branch-returns-in-len3
is_branch-returns-in-len3 t c =
    let setting = c.args.setting.now in let around = c.args.around.now in let node = c.args.node.now in λ name. c.in_ok-are_parts.ensures name ∙ if_decided
    setting around name node S.Unit c.as_slice-parts.result.now (omega (arith, c.in-len3.len_at_least)) (omega (arith, c.in-len3.len_below)) ∙ ap (λ (cs :
    List Core). ok_with setting around name (K.If S.Unit) node cs) c.as_slice-parts.ensures

pub is_row-are_lowered-requires : goal.is_row-are_lowered-requires
is_row-are_lowered-requires t c =
    (omega (arith, ap masses c.as_slice-parts.ensures, c.decreases), tt)

pub is_row-returns-in_ok-are_single : goal.is_row-returns-in_ok-are_single
is_row-returns-in_ok-are_single t c =
    let setting = c.args.setting.now in let around = c.args.around.now in let node = c.args.node.now in λ name. c.both.ensures ∙ (λ i.
    c.has_one-single.ensures i && (c.both-fit.ensures ∙ (λ j. c.in_ok-are_single.ensures name j && c.in_ok-are_parts.ensures name j)) i) ∙ ap (λ (cs : List
    Case). is_one (cases_ends cs) && (all_one_for setting around name c.as_slice-parts.result.now && all_for setting around name
    c.as_slice-parts.result.now)) c.cases.ensures ∙ row_true setting around name node c.args.row (sym c.has_state.ensures ∙ c.if-has_state.true)
    c.as_slice-parts.result.now ∙ ap (λ (cs : List Core). ok_with setting around name (K.Call (F.Row c.args.row)) node cs) c.as_slice-parts.ensures

pub is_row-returns-else-has_state : goal.is_row-returns-else-has_state
is_row-returns-else-has_state t c =
    let setting = c.args.setting.now in let around = c.args.around.now in let node = c.args.node.now in λ name. c.in_ok-are_parts.ensures name ∙ row_false
    setting around name node c.args.row (sym c.has_state.ensures ∙ c.if-has_state.false) c.as_slice-parts.result.now ∙ ap (λ (cs : List Core). ok_with
    setting around name (K.Call (F.Row c.args.row)) node cs) c.as_slice-parts.ensures

pub is_assigned-returns-in-empty : goal.is_assigned-returns-in-empty
is_assigned-returns-in-empty t c =
    let setting = c.args.setting.now in let around = c.args.around.now in let node = c.args.node.now in λ name. assign_none setting around name node
    c.as_slice.result.now c.as_slice-parts.result.now (none_of c.as_slice.result.now c.in-empty.len_below) ∙ ap (λ (ts : List Target). ok_with setting
    around name (K.Assign ts) node c.as_slice-parts.result.now) c.as_slice.ensures ∙ ap (λ (cs : List Core). ok_with setting around name (K.Assign
    c.args.targets.now) node cs) c.as_slice-parts.ensures

pub is_assigned-returns-in-len2-up : goal.is_assigned-returns-in-len2-up
is_assigned-returns-in-len2-up t c =
    let setting = c.args.setting.now in let around = c.args.around.now in let node = c.args.node.now in λ name. assign_many setting around name node
    c.as_slice.result.now c.as_slice-parts.result.now c.in-len2-up.len_at_least ∙ ap (λ (ts : List Target). ok_with setting around name (K.Assign ts) node
    c.as_slice-parts.result.now) c.as_slice.ensures ∙ ap (λ (cs : List Core). ok_with setting around name (K.Assign c.args.targets.now) node cs)
    c.as_slice-parts.ensures

pub is_assigned-returns-in_ok-are_parts-in-len1 : goal.is_assigned-returns-in_ok-are_parts-in-len1
is_assigned-returns-in_ok-are_parts-in-len1 t c =
    let setting = c.args.setting.now in let around = c.args.around.now in let node = c.args.node.now in λ name. c.both.ensures ∙ (λ i.
    (c.in_ok-known-in-len1.ensures ∙ ap (λ (sp : Option SpotOf). spot_lowered setting.types.now (tables_for setting around.instances.now) sp (length
    c.as_slice-parts.result.now)) c.spot_of-spot.ensures) i && c.in_ok-are_parts-in-len1.ensures name i) ∙ assign_one setting around name node
    c.as_slice.result.now c.target-item.result c.as_slice-parts.result.now (one_of c.as_slice.result.now c.target-item.result c.in-len1.len_at_least
    c.in-len1.len_below c.target-item.is) ∙ ap (λ (ts : List Target). ok_with setting around name (K.Assign ts) node c.as_slice-parts.result.now)
    c.as_slice.ensures ∙ ap (λ (cs : List Core). ok_with setting around name (K.Assign c.args.targets.now) node cs) c.as_slice-parts.ensures

pub is_lowered-returns-in-empty : goal.is_lowered-returns-in-empty
is_lowered-returns-in-empty t c =
    let setting = c.args.setting.now in let around = c.args.around.now in let node = c.args.node.now in λ name. ap (λ (is : List ℕ). ok_as setting around
    name (K.With 0 is) node) (sym (sym c.as_slice.ensures ∙ none_of c.as_slice.result.now c.in-empty.len_below)) ∙ with_alike setting.types.now (callees_of
    setting around) (tables_for setting around.instances.now) (out-Core node).number 0 c.in-With.field-0 c.in-With.fields (map (node_for setting around
    name) (out-Core node).parts) ∙ ok_is setting around name node _ c.in-With.is

pub is_lowered-are_lowered-requires-in_default : goal.is_lowered-are_lowered-requires-in_default
is_lowered-are_lowered-requires-in_default t c =
    (omega (arith, mass_opens c.args.node.now _ c.as_slice-parts.ensures, c.decreases), tt)
