-- Answers: a node, by its kind.
use Rattle.std.proofs.Common.{◌∙◌, ◌-◌, refl, ap, arith, true, false}
use Rattle.lowered_ends.proofs.Masses.{kind_mass, mass_opens}
use Rattle.lowered_nodes.proofs.ByKind.{cast_kind, cast_kind_ok, form_put, if_kind, if_kind_ok, kind_ok, kind_put, match_kind, match_kind_ok, size_kind}
use Rattle.lowered_nodes.proofs.ByKind.{size_kind_ok, truth_kind, truth_kind_ok, try_kind, try_kind_ok, var_kind, var_kind_ok, with_kind, with_kind_ok}
use Rattle.lowered_nodes.proofs.Forms.{struct_for}
use Rattle.lowered_nodes.proofs.Shapes.{made_is}
use Rattle.std.proofs.lemmas.Bool.{false≢true}
use Rattle.lowered_steps.specs.declared.making.Making.TheVariants as M
use Rattle.jib.specs.declared.code.Operation.TheVariants as O
use Rattle.lowered_steps.specs.declared.making.Order.TheVariants as W
use Rattle.lowered_nodes.proofs.+lowering.Goals as goal

pub put_node-returns-in-Constant : goal.walk::put_node-returns-in-Constant
put_node-returns-in-Constant t c =
    kind_put c.args.walk.now c.args.node.now _ c.in-Constant.is c.put_constant.result _ _ c.args.stand.now c.args.tail.now c.put_constant.ensures

pub put_node-put_constant-requires : goal.walk::put_node-put_constant-requires
put_node-put_constant-requires t c =
    kind_ok c.args.walk.now c.args.node.now _ c.in-Constant.is c.requires

pub put_node-returns-in-Local : goal.walk::put_node-returns-in-Local
put_node-returns-in-Local t c =
    kind_put c.args.walk.now c.args.node.now _ c.in-Local.is c.put_local.result _ _ c.args.stand.now c.args.tail.now c.put_local.ensures

pub put_node-put_local-requires : goal.walk::put_node-put_local-requires
put_node-put_local-requires t c =
    kind_ok c.args.walk.now c.args.node.now _ c.in-Local.is c.requires

pub put_node-returns-in-Variable : goal.walk::put_node-returns-in-Variable
put_node-returns-in-Variable t c =
    kind_put c.args.walk.now c.args.node.now _ c.in-Variable.is c.put_variable.result _ _ c.args.stand.now c.args.tail.now c.put_variable.ensures

pub put_node-put_variable-requires : goal.walk::put_node-put_variable-requires
put_node-put_variable-requires t c =
    kind_ok c.args.walk.now c.args.node.now _ c.in-Variable.is c.requires

pub put_node-returns-in-TopLevel : goal.walk::put_node-returns-in-TopLevel
put_node-returns-in-TopLevel t c =
    kind_put c.args.walk.now c.args.node.now _ c.in-TopLevel.is c.put_opening.result _ _ c.args.stand.now c.args.tail.now c.put_opening.ensures

pub put_node-put_opening-requires : goal.walk::put_node-put_opening-requires
put_node-put_opening-requires t c =
    kind_ok c.args.walk.now c.args.node.now _ c.in-TopLevel.is c.requires

pub put_node-returns-in-Register : goal.walk::put_node-returns-in-Register
put_node-returns-in-Register t c =
    kind_put c.args.walk.now c.args.node.now _ c.in-Register.is c.put_read.result _ _ c.args.stand.now c.args.tail.now c.put_read.ensures

pub put_node-put_read-requires : goal.walk::put_node-put_read-requires
put_node-put_read-requires t c =
    kind_ok c.args.walk.now c.args.node.now _ c.in-Register.is c.requires

pub put_node-returns-in-Call : goal.walk::put_node-returns-in-Call
put_node-returns-in-Call t c =
    kind_put c.args.walk.now c.args.node.now _ c.in-Call.is c.put_callee.result _ _ c.args.stand.now c.args.tail.now c.put_callee.ensures

pub put_node-put_callee-requires : goal.walk::put_node-put_callee-requires
put_node-put_callee-requires t c =
    (omega (arith, mass_opens c.args.node.now _ refl, c.decreases), kind_ok c.args.walk.now c.args.node.now _ c.in-Call.is c.requires)

pub put_node-returns-in-And : goal.walk::put_node-returns-in-And
put_node-returns-in-And t c =
    kind_put c.args.walk.now c.args.node.now _ c.in-And.is c.put_and.result _ _ c.args.stand.now c.args.tail.now c.put_and.ensures

pub put_node-put_and-requires : goal.walk::put_node-put_and-requires
put_node-put_and-requires t c =
    (omega (arith, mass_opens c.args.node.now _ refl, c.decreases), kind_ok c.args.walk.now c.args.node.now _ c.in-And.is c.requires)

pub put_node-returns-in-Or : goal.walk::put_node-returns-in-Or
put_node-returns-in-Or t c =
    kind_put c.args.walk.now c.args.node.now _ c.in-Or.is c.put_or.result _ _ c.args.stand.now c.args.tail.now c.put_or.ensures

pub put_node-put_or-requires : goal.walk::put_node-put_or-requires
put_node-put_or-requires t c =
    (omega (arith, mass_opens c.args.node.now _ refl, c.decreases), kind_ok c.args.walk.now c.args.node.now _ c.in-Or.is c.requires)

pub put_node-returns-in-Cast : goal.walk::put_node-returns-in-Cast
put_node-returns-in-Cast t c =
    form_put c.args.walk.now c.args.node.now _ c.in-Cast.is c.put_own_cast.result _ _ c.args.stand.now c.args.tail.now _ (λ name. cast_kind c.args.walk.now
    c.args.node.now c.in-Cast.field-0 name) c.put_own_cast.ensures

pub put_node-put_own_cast-requires : goal.walk::put_node-put_own_cast-requires
put_node-put_own_cast-requires t c = (
  omega (arith, mass_opens c.args.node.now _ refl, c.decreases),
  λ name. cast_kind_ok c.args.walk.now c.args.node.now c.in-Cast.field-0 name ∙ kind_ok
      c.args.walk.now c.args.node.now _ c.in-Cast.is c.requires name,
)

pub put_node-returns-in-Tuple : goal.walk::put_node-returns-in-Tuple
put_node-returns-in-Tuple t c =
    form_put c.args.walk.now c.args.node.now _ c.in-Tuple.is c.put_made_of.result _ _ c.args.stand.now c.args.tail.now _ (λ name. made_is c.args.walk.now
    name c.args.node.now (M.Works O.Build W.Forwards)) c.put_made_of.ensures

pub put_node-put_made_of-requires : goal.walk::put_node-put_made_of-requires
put_node-put_made_of-requires t c =
    (omega (arith, mass_opens c.args.node.now _ refl, c.decreases), kind_ok c.args.walk.now c.args.node.now _ c.in-Tuple.is c.requires)

pub put_node-returns-in-Vector : goal.walk::put_node-returns-in-Vector
put_node-returns-in-Vector t c =
    form_put c.args.walk.now c.args.node.now _ c.in-Vector.is c.put_made_of-in-Vector.result _ _ c.args.stand.now c.args.tail.now _ (λ name. made_is
    c.args.walk.now name c.args.node.now (M.Works O.Build W.Backwards)) c.put_made_of-in-Vector.ensures

pub put_node-put_made_of-requires-in-Vector : goal.walk::put_node-put_made_of-requires-in-Vector
put_node-put_made_of-requires-in-Vector t c =
    (omega (arith, mass_opens c.args.node.now _ refl, c.decreases), kind_ok c.args.walk.now c.args.node.now _ c.in-Vector.is c.requires)

pub put_node-returns-in-List : goal.walk::put_node-returns-in-List
put_node-returns-in-List t c =
    form_put c.args.walk.now c.args.node.now _ c.in-List.is c.put_made_of-in-List.result _ _ c.args.stand.now c.args.tail.now _ (λ name. made_is
    c.args.walk.now name c.args.node.now (M.Works O.Build W.Forwards)) c.put_made_of-in-List.ensures

pub put_node-put_made_of-requires-in-List : goal.walk::put_node-put_made_of-requires-in-List
put_node-put_made_of-requires-in-List t c =
    (omega (arith, mass_opens c.args.node.now _ refl, c.decreases), kind_ok c.args.walk.now c.args.node.now _ c.in-List.is c.requires)

pub put_node-returns-in-Cons : goal.walk::put_node-returns-in-Cons
put_node-returns-in-Cons t c =
    form_put c.args.walk.now c.args.node.now _ c.in-Cons.is c.put_made_of-in-Cons.result _ _ c.args.stand.now c.args.tail.now _ (λ name. made_is
    c.args.walk.now name c.args.node.now (M.Works O.Cons W.Forwards)) c.put_made_of-in-Cons.ensures

pub put_node-put_made_of-requires-in-Cons : goal.walk::put_node-put_made_of-requires-in-Cons
put_node-put_made_of-requires-in-Cons t c =
    (omega (arith, mass_opens c.args.node.now _ refl, c.decreases), kind_ok c.args.walk.now c.args.node.now _ c.in-Cons.is c.requires)

pub put_node-returns-in-Struct : goal.walk::put_node-returns-in-Struct
put_node-returns-in-Struct t c =
    form_put c.args.walk.now c.args.node.now _ c.in-Struct.is c.put_made_of-in-Struct.result _ _ c.args.stand.now c.args.tail.now _ (λ name. made_is
    c.args.walk.now name c.args.node.now (M.Works O.Build (W.Fields c.as_slice.result)) ∙ ap (struct_for c.args.walk.now name c.args.node.now)
    c.as_slice.ensures) c.put_made_of-in-Struct.ensures

pub put_node-put_made_of-requires-in-Struct : goal.walk::put_node-put_made_of-requires-in-Struct
put_node-put_made_of-requires-in-Struct t c =
    (omega (arith, mass_opens c.args.node.now _ refl, c.decreases), kind_ok c.args.walk.now c.args.node.now _ c.in-Struct.is c.requires)

pub put_node-returns-in-With : goal.walk::put_node-returns-in-With
put_node-returns-in-With t c =
    form_put c.args.walk.now c.args.node.now _ c.in-With.is c.put_with.result _ _ c.args.stand.now c.args.tail.now _ (λ name. with_kind c.args.walk.now
    c.args.node.now c.in-With.field-0 c.in-With.fields name) c.put_with.ensures

pub put_node-put_with-requires : goal.walk::put_node-put_with-requires
put_node-put_with-requires t c = (
  omega (arith, mass_opens c.args.node.now _ refl, c.decreases),
  λ name. with_kind_ok c.args.walk.now c.args.node.now c.in-With.field-0 c.in-With.fields
      name ∙ kind_ok c.args.walk.now c.args.node.now _ c.in-With.is c.requires name,
)

pub put_node-returns-in-Part : goal.walk::put_node-returns-in-Part
put_node-returns-in-Part t c =
    kind_put c.args.walk.now c.args.node.now _ c.in-Part.is c.put_part_of.result _ _ c.args.stand.now c.args.tail.now c.put_part_of.ensures

pub put_node-put_part_of-requires : goal.walk::put_node-put_part_of-requires
put_node-put_part_of-requires t c = (
  omega (arith, mass_opens c.args.node.now _ refl, ap kind_mass c.in-Part.is, c.decreases),
  kind_ok c.args.walk.now c.args.node.now _ c.in-Part.is
      c.requires,
)

pub put_node-returns-in-WithItem : goal.walk::put_node-returns-in-WithItem
put_node-returns-in-WithItem t c =
    kind_put c.args.walk.now c.args.node.now _ c.in-WithItem.is c.put_with_item.result _ _ c.args.stand.now c.args.tail.now c.put_with_item.ensures

pub put_node-put_with_item-requires : goal.walk::put_node-put_with_item-requires
put_node-put_with_item-requires t c =
    (omega (arith, mass_opens c.args.node.now _ refl, c.decreases), kind_ok c.args.walk.now c.args.node.now _ c.in-WithItem.is c.requires)

pub put_node-returns-in-WithSlice : goal.walk::put_node-returns-in-WithSlice
put_node-returns-in-WithSlice t c =
    kind_put c.args.walk.now c.args.node.now _ c.in-WithSlice.is c.put_with_slice.result _ _ c.args.stand.now c.args.tail.now c.put_with_slice.ensures

pub put_node-put_with_slice-requires : goal.walk::put_node-put_with_slice-requires
put_node-put_with_slice-requires t c =
    (omega (arith, mass_opens c.args.node.now _ refl, c.decreases), kind_ok c.args.walk.now c.args.node.now _ c.in-WithSlice.is c.requires)

pub put_node-returns-in-SizeOf : goal.walk::put_node-returns-in-SizeOf
put_node-returns-in-SizeOf t c =
    form_put c.args.walk.now c.args.node.now _ c.in-SizeOf.is c.put_size.result _ _ c.args.stand.now c.args.tail.now _ (λ name. size_kind c.args.walk.now
    c.args.node.now c.in-SizeOf.size c.in-SizeOf.field-1 name) c.put_size.ensures

pub put_node-put_size-requires : goal.walk::put_node-put_size-requires
put_node-put_size-requires t c =
    λ name. size_kind_ok c.args.walk.now c.args.node.now c.in-SizeOf.size c.in-SizeOf.field-1 name ∙ kind_ok c.args.walk.now c.args.node.now _
    c.in-SizeOf.is c.requires name

pub put_node-returns-in-Constraint : goal.walk::put_node-returns-in-Constraint
put_node-returns-in-Constraint t c =
    form_put c.args.walk.now c.args.node.now _ c.in-Constraint.is c.put_truth.result _ _ c.args.stand.now c.args.tail.now _ (λ name. truth_kind
    c.args.walk.now c.args.node.now c.in-Constraint.condition c.in-Constraint.field-1 name) c.put_truth.ensures

pub put_node-put_truth-requires : goal.walk::put_node-put_truth-requires
put_node-put_truth-requires t c =
    λ name. truth_kind_ok c.args.walk.now c.args.node.now c.in-Constraint.condition c.in-Constraint.field-1 name ∙ kind_ok c.args.walk.now c.args.node.now _
    c.in-Constraint.is c.requires name

pub put_node-returns-in-Assign : goal.walk::put_node-returns-in-Assign
put_node-returns-in-Assign t c =
    kind_put c.args.walk.now c.args.node.now _ c.in-Assign.is c.put_assign.result _ _ c.args.stand.now c.args.tail.now c.put_assign.ensures

pub put_node-put_assign-requires : goal.walk::put_node-put_assign-requires
put_node-put_assign-requires t c =
    (omega (arith, mass_opens c.args.node.now _ refl, c.decreases), kind_ok c.args.walk.now c.args.node.now _ c.in-Assign.is c.requires)

pub put_node-returns-in-Block : goal.walk::put_node-returns-in-Block
put_node-returns-in-Block t c =
    kind_put c.args.walk.now c.args.node.now _ c.in-Block.is c.put_statements.result _ _ c.args.stand.now c.args.tail.now c.put_statements.ensures

pub put_node-put_statements-requires : goal.walk::put_node-put_statements-requires
put_node-put_statements-requires t c =
    (omega (arith, mass_opens c.args.node.now _ refl, c.decreases), kind_ok c.args.walk.now c.args.node.now _ c.in-Block.is c.requires)

pub put_node-returns-in-Let : goal.walk::put_node-returns-in-Let
put_node-returns-in-Let t c =
    kind_put c.args.walk.now c.args.node.now _ c.in-Let.is c.put_let_in.result _ _ c.args.stand.now c.args.tail.now c.put_let_in.ensures

pub put_node-put_let_in-requires : goal.walk::put_node-put_let_in-requires
put_node-put_let_in-requires t c =
    (omega (arith, mass_opens c.args.node.now _ refl, c.decreases), kind_ok c.args.walk.now c.args.node.now _ c.in-Let.is c.requires)

pub put_node-returns-in-Var : goal.walk::put_node-returns-in-Var
put_node-returns-in-Var t c =
    form_put c.args.walk.now c.args.node.now _ c.in-Var.is c.put_var_in.result _ _ c.args.stand.now c.args.tail.now _ (λ name. var_kind c.args.walk.now
    c.args.node.now c.in-Var.name c.in-Var.field-1 name) c.put_var_in.ensures

pub put_node-put_var_in-requires : goal.walk::put_node-put_var_in-requires
put_node-put_var_in-requires t c = (
  omega (arith, mass_opens c.args.node.now _ refl, c.decreases),
  λ name. var_kind_ok c.args.walk.now c.args.node.now c.in-Var.name c.in-Var.field-1 name
      ∙ kind_ok c.args.walk.now c.args.node.now _ c.in-Var.is c.requires name,
)

pub put_node-returns-in-If : goal.walk::put_node-returns-in-If
put_node-returns-in-If t c =
    form_put c.args.walk.now c.args.node.now _ c.in-If.is c.put_branches.result _ _ c.args.stand.now c.args.tail.now _ (λ name. if_kind c.args.walk.now
    c.args.node.now c.in-If.field-0 name) c.put_branches.ensures

pub put_node-put_branches-requires : goal.walk::put_node-put_branches-requires
put_node-put_branches-requires t c = (
  omega (arith, mass_opens c.args.node.now _ refl, c.decreases),
  λ name. if_kind_ok c.args.walk.now c.args.node.now c.in-If.field-0 name ∙ kind_ok
      c.args.walk.now c.args.node.now _ c.in-If.is c.requires name,
)

pub put_node-returns-in-Match : goal.walk::put_node-returns-in-Match
put_node-returns-in-Match t c =
    form_put c.args.walk.now c.args.node.now _ c.in-Match.is c.put_match.result _ _ c.args.stand.now c.args.tail.now _ (λ name. match_kind c.args.walk.now
    c.args.node.now c.in-Match.arms c.in-Match.field-1 name) c.put_match.ensures

pub put_node-put_match-requires : goal.walk::put_node-put_match-requires
put_node-put_match-requires t c = (
  omega (arith, mass_opens c.args.node.now _ refl, c.decreases),
  λ name. match_kind_ok c.args.walk.now c.args.node.now c.in-Match.arms c.in-Match.field-1
      name ∙ kind_ok c.args.walk.now c.args.node.now _ c.in-Match.is c.requires name,
)

pub put_node-returns-in-Try : goal.walk::put_node-returns-in-Try
put_node-returns-in-Try t c =
    form_put c.args.walk.now c.args.node.now _ c.in-Try.is c.put_caught.result _ _ c.args.stand.now c.args.tail.now _ (λ name. try_kind c.args.walk.now
    c.args.node.now c.in-Try.arms c.in-Try.field-1 name) c.put_caught.ensures

pub put_node-put_caught-requires : goal.walk::put_node-put_caught-requires
put_node-put_caught-requires t c = (
  omega (arith, mass_opens c.args.node.now _ refl, c.decreases),
  λ name. try_kind_ok c.args.walk.now c.args.node.now c.in-Try.arms c.in-Try.field-1 name
      ∙ kind_ok c.args.walk.now c.args.node.now _ c.in-Try.is c.requires name,
)

pub put_node-returns-in-Clauses : goal.walk::put_node-returns-in-Clauses
put_node-returns-in-Clauses t c =
    kind_put c.args.walk.now c.args.node.now _ c.in-Clauses.is c.put_clauses.result _ _ c.args.stand.now c.args.tail.now c.put_clauses.ensures

pub put_node-put_clauses-requires : goal.walk::put_node-put_clauses-requires
put_node-put_clauses-requires t c =
    (omega (arith, mass_opens c.args.node.now _ refl, c.decreases), kind_ok c.args.walk.now c.args.node.now _ c.in-Clauses.is c.requires)

pub put_node-returns-in-When : goal.walk::put_node-returns-in-When
put_node-returns-in-When t c =
    kind_put c.args.walk.now c.args.node.now _ c.in-When.is c.put_when.result _ _ c.args.stand.now c.args.tail.now c.put_when.ensures

pub put_node-put_when-requires : goal.walk::put_node-put_when-requires
put_node-put_when-requires t c =
    (omega (arith, mass_opens c.args.node.now _ refl, c.decreases), kind_ok c.args.walk.now c.args.node.now _ c.in-When.is c.requires)

pub put_node-returns-in-Foreach : goal.walk::put_node-returns-in-Foreach
put_node-returns-in-Foreach t c =
    kind_put c.args.walk.now c.args.node.now _ c.in-Foreach.is c.put_counted.result _ _ c.args.stand.now c.args.tail.now c.put_counted.ensures

pub put_node-put_counted-requires : goal.walk::put_node-put_counted-requires
put_node-put_counted-requires t c =
    (omega (arith, mass_opens c.args.node.now _ refl, c.decreases), kind_ok c.args.walk.now c.args.node.now _ c.in-Foreach.is c.requires)

pub put_node-returns-in-While : goal.walk::put_node-returns-in-While
put_node-returns-in-While t c =
    kind_put c.args.walk.now c.args.node.now _ c.in-While.is c.put_while.result _ _ c.args.stand.now c.args.tail.now c.put_while.ensures

pub put_node-put_while-requires : goal.walk::put_node-put_while-requires
put_node-put_while-requires t c =
    (omega (arith, mass_opens c.args.node.now _ refl, c.decreases), kind_ok c.args.walk.now c.args.node.now _ c.in-While.is c.requires)

pub put_node-returns-in-Repeat : goal.walk::put_node-returns-in-Repeat
put_node-returns-in-Repeat t c =
    kind_put c.args.walk.now c.args.node.now _ c.in-Repeat.is c.put_repeat.result _ _ c.args.stand.now c.args.tail.now c.put_repeat.ensures

pub put_node-put_repeat-requires : goal.walk::put_node-put_repeat-requires
put_node-put_repeat-requires t c =
    (omega (arith, mass_opens c.args.node.now _ refl, c.decreases), kind_ok c.args.walk.now c.args.node.now _ c.in-Repeat.is c.requires)

pub put_node-returns-in-Return : goal.walk::put_node-returns-in-Return
put_node-returns-in-Return t c =
    kind_put c.args.walk.now c.args.node.now _ c.in-Return.is c.put_return.result _ _ c.args.stand.now c.args.tail.now c.put_return.ensures

pub put_node-put_return-requires : goal.walk::put_node-put_return-requires
put_node-put_return-requires t c =
    (omega (arith, mass_opens c.args.node.now _ refl, c.decreases), kind_ok c.args.walk.now c.args.node.now _ c.in-Return.is c.requires)

pub put_node-returns-in-Throw : goal.walk::put_node-returns-in-Throw
put_node-returns-in-Throw t c =
    kind_put c.args.walk.now c.args.node.now _ c.in-Throw.is c.put_throw.result _ _ c.args.stand.now c.args.tail.now c.put_throw.ensures

pub put_node-put_throw-requires : goal.walk::put_node-put_throw-requires
put_node-put_throw-requires t c =
    (omega (arith, mass_opens c.args.node.now _ refl, c.decreases), kind_ok c.args.walk.now c.args.node.now _ c.in-Throw.is c.requires)

pub put_node-returns-in-Exit : goal.walk::put_node-returns-in-Exit
put_node-returns-in-Exit t c =
    kind_put c.args.walk.now c.args.node.now _ c.in-Exit.is c.put_exit.result _ _ c.args.stand.now c.args.tail.now c.put_exit.ensures

pub put_node-put_exit-requires : goal.walk::put_node-put_exit-requires
put_node-put_exit-requires t c =
    (omega (arith, mass_opens c.args.node.now _ refl, c.decreases), kind_ok c.args.walk.now c.args.node.now _ c.in-Exit.is c.requires)

pub put_node-returns-in-Assert : goal.walk::put_node-returns-in-Assert
put_node-returns-in-Assert t c =
    kind_put c.args.walk.now c.args.node.now _ c.in-Assert.is c.put_assert.result _ _ c.args.stand.now c.args.tail.now c.put_assert.ensures

pub put_node-put_assert-requires : goal.walk::put_node-put_assert-requires
put_node-put_assert-requires t c =
    (omega (arith, mass_opens c.args.node.now _ refl, c.decreases), kind_ok c.args.walk.now c.args.node.now _ c.in-Assert.is c.requires)

pub put_node-returns-in-Optional : goal.walk::put_node-returns-in-Optional
put_node-returns-in-Optional t c =
    absurd (false≢true (kind_ok c.args.walk.now c.args.node.now _ c.in-Optional.is c.requires (λ place typ. 0)))
