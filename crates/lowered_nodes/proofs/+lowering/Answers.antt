-- Each answer of the walk stands in a file of its own kind.
mod Binding
mod Branching
mod EachKind
mod Looping
mod Making
mod Matching
mod Taking
mod Writing
use Rattle.lowered_nodes.proofs.+lowering.Answers.Binding
use Rattle.lowered_nodes.proofs.+lowering.Answers.Branching
use Rattle.lowered_nodes.proofs.+lowering.Answers.EachKind
use Rattle.lowered_nodes.proofs.+lowering.Answers.Looping
use Rattle.lowered_nodes.proofs.+lowering.Answers.Making
use Rattle.lowered_nodes.proofs.+lowering.Answers.Matching
use Rattle.lowered_nodes.proofs.+lowering.Answers.Taking
use Rattle.lowered_nodes.proofs.+lowering.Answers.Writing
use Rattle.lowered_nodes.proofs.+lowering.Goals as goal

pub walk::put_node-returns-in-Constant : goal.walk::put_node-returns-in-Constant
walk::put_node-returns-in-Constant = EachKind.put_node-returns-in-Constant

pub walk::put_node-put_constant-requires : goal.walk::put_node-put_constant-requires
walk::put_node-put_constant-requires = EachKind.put_node-put_constant-requires

pub walk::put_node-returns-in-Local : goal.walk::put_node-returns-in-Local
walk::put_node-returns-in-Local = EachKind.put_node-returns-in-Local

pub walk::put_node-put_local-requires : goal.walk::put_node-put_local-requires
walk::put_node-put_local-requires = EachKind.put_node-put_local-requires

pub walk::put_node-returns-in-Variable : goal.walk::put_node-returns-in-Variable
walk::put_node-returns-in-Variable = EachKind.put_node-returns-in-Variable

pub walk::put_node-put_variable-requires : goal.walk::put_node-put_variable-requires
walk::put_node-put_variable-requires = EachKind.put_node-put_variable-requires

pub walk::put_node-returns-in-TopLevel : goal.walk::put_node-returns-in-TopLevel
walk::put_node-returns-in-TopLevel = EachKind.put_node-returns-in-TopLevel

pub walk::put_node-put_opening-requires : goal.walk::put_node-put_opening-requires
walk::put_node-put_opening-requires = EachKind.put_node-put_opening-requires

pub walk::put_node-returns-in-Register : goal.walk::put_node-returns-in-Register
walk::put_node-returns-in-Register = EachKind.put_node-returns-in-Register

pub walk::put_node-put_read-requires : goal.walk::put_node-put_read-requires
walk::put_node-put_read-requires = EachKind.put_node-put_read-requires

pub walk::put_node-returns-in-Call : goal.walk::put_node-returns-in-Call
walk::put_node-returns-in-Call = EachKind.put_node-returns-in-Call

pub walk::put_node-put_callee-requires : goal.walk::put_node-put_callee-requires
walk::put_node-put_callee-requires = EachKind.put_node-put_callee-requires

pub walk::put_node-returns-in-And : goal.walk::put_node-returns-in-And
walk::put_node-returns-in-And = EachKind.put_node-returns-in-And

pub walk::put_node-put_and-requires : goal.walk::put_node-put_and-requires
walk::put_node-put_and-requires = EachKind.put_node-put_and-requires

pub walk::put_node-returns-in-Or : goal.walk::put_node-returns-in-Or
walk::put_node-returns-in-Or = EachKind.put_node-returns-in-Or

pub walk::put_node-put_or-requires : goal.walk::put_node-put_or-requires
walk::put_node-put_or-requires = EachKind.put_node-put_or-requires

pub walk::put_node-returns-in-Cast : goal.walk::put_node-returns-in-Cast
walk::put_node-returns-in-Cast = EachKind.put_node-returns-in-Cast

pub walk::put_node-put_own_cast-requires : goal.walk::put_node-put_own_cast-requires
walk::put_node-put_own_cast-requires = EachKind.put_node-put_own_cast-requires

pub walk::put_node-returns-in-Tuple : goal.walk::put_node-returns-in-Tuple
walk::put_node-returns-in-Tuple = EachKind.put_node-returns-in-Tuple

pub walk::put_node-put_made_of-requires : goal.walk::put_node-put_made_of-requires
walk::put_node-put_made_of-requires = EachKind.put_node-put_made_of-requires

pub walk::put_node-returns-in-Vector : goal.walk::put_node-returns-in-Vector
walk::put_node-returns-in-Vector = EachKind.put_node-returns-in-Vector

pub walk::put_node-put_made_of-requires-in-Vector : goal.walk::put_node-put_made_of-requires-in-Vector
walk::put_node-put_made_of-requires-in-Vector = EachKind.put_node-put_made_of-requires-in-Vector

pub walk::put_node-returns-in-List : goal.walk::put_node-returns-in-List
walk::put_node-returns-in-List = EachKind.put_node-returns-in-List

pub walk::put_node-put_made_of-requires-in-List : goal.walk::put_node-put_made_of-requires-in-List
walk::put_node-put_made_of-requires-in-List = EachKind.put_node-put_made_of-requires-in-List

pub walk::put_node-returns-in-Cons : goal.walk::put_node-returns-in-Cons
walk::put_node-returns-in-Cons = EachKind.put_node-returns-in-Cons

pub walk::put_node-put_made_of-requires-in-Cons : goal.walk::put_node-put_made_of-requires-in-Cons
walk::put_node-put_made_of-requires-in-Cons = EachKind.put_node-put_made_of-requires-in-Cons

pub walk::put_node-returns-in-Struct : goal.walk::put_node-returns-in-Struct
walk::put_node-returns-in-Struct = EachKind.put_node-returns-in-Struct

pub walk::put_node-put_made_of-requires-in-Struct : goal.walk::put_node-put_made_of-requires-in-Struct
walk::put_node-put_made_of-requires-in-Struct = EachKind.put_node-put_made_of-requires-in-Struct

pub walk::put_node-returns-in-With : goal.walk::put_node-returns-in-With
walk::put_node-returns-in-With = EachKind.put_node-returns-in-With

pub walk::put_node-put_with-requires : goal.walk::put_node-put_with-requires
walk::put_node-put_with-requires = EachKind.put_node-put_with-requires

pub walk::put_node-returns-in-Part : goal.walk::put_node-returns-in-Part
walk::put_node-returns-in-Part = EachKind.put_node-returns-in-Part

pub walk::put_node-put_part_of-requires : goal.walk::put_node-put_part_of-requires
walk::put_node-put_part_of-requires = EachKind.put_node-put_part_of-requires

pub walk::put_node-returns-in-WithItem : goal.walk::put_node-returns-in-WithItem
walk::put_node-returns-in-WithItem = EachKind.put_node-returns-in-WithItem

pub walk::put_node-put_with_item-requires : goal.walk::put_node-put_with_item-requires
walk::put_node-put_with_item-requires = EachKind.put_node-put_with_item-requires

pub walk::put_node-returns-in-WithSlice : goal.walk::put_node-returns-in-WithSlice
walk::put_node-returns-in-WithSlice = EachKind.put_node-returns-in-WithSlice

pub walk::put_node-put_with_slice-requires : goal.walk::put_node-put_with_slice-requires
walk::put_node-put_with_slice-requires = EachKind.put_node-put_with_slice-requires

pub walk::put_node-returns-in-SizeOf : goal.walk::put_node-returns-in-SizeOf
walk::put_node-returns-in-SizeOf = EachKind.put_node-returns-in-SizeOf

pub walk::put_node-put_size-requires : goal.walk::put_node-put_size-requires
walk::put_node-put_size-requires = EachKind.put_node-put_size-requires

pub walk::put_node-returns-in-Constraint : goal.walk::put_node-returns-in-Constraint
walk::put_node-returns-in-Constraint = EachKind.put_node-returns-in-Constraint

pub walk::put_node-put_truth-requires : goal.walk::put_node-put_truth-requires
walk::put_node-put_truth-requires = EachKind.put_node-put_truth-requires

pub walk::put_node-returns-in-Assign : goal.walk::put_node-returns-in-Assign
walk::put_node-returns-in-Assign = EachKind.put_node-returns-in-Assign

pub walk::put_node-put_assign-requires : goal.walk::put_node-put_assign-requires
walk::put_node-put_assign-requires = EachKind.put_node-put_assign-requires

pub walk::put_node-returns-in-Block : goal.walk::put_node-returns-in-Block
walk::put_node-returns-in-Block = EachKind.put_node-returns-in-Block

pub walk::put_node-put_statements-requires : goal.walk::put_node-put_statements-requires
walk::put_node-put_statements-requires = EachKind.put_node-put_statements-requires

pub walk::put_node-returns-in-Let : goal.walk::put_node-returns-in-Let
walk::put_node-returns-in-Let = EachKind.put_node-returns-in-Let

pub walk::put_node-put_let_in-requires : goal.walk::put_node-put_let_in-requires
walk::put_node-put_let_in-requires = EachKind.put_node-put_let_in-requires

pub walk::put_node-returns-in-Var : goal.walk::put_node-returns-in-Var
walk::put_node-returns-in-Var = EachKind.put_node-returns-in-Var

pub walk::put_node-put_var_in-requires : goal.walk::put_node-put_var_in-requires
walk::put_node-put_var_in-requires = EachKind.put_node-put_var_in-requires

pub walk::put_node-returns-in-If : goal.walk::put_node-returns-in-If
walk::put_node-returns-in-If = EachKind.put_node-returns-in-If

pub walk::put_node-put_branches-requires : goal.walk::put_node-put_branches-requires
walk::put_node-put_branches-requires = EachKind.put_node-put_branches-requires

pub walk::put_node-returns-in-Match : goal.walk::put_node-returns-in-Match
walk::put_node-returns-in-Match = EachKind.put_node-returns-in-Match

pub walk::put_node-put_match-requires : goal.walk::put_node-put_match-requires
walk::put_node-put_match-requires = EachKind.put_node-put_match-requires

pub walk::put_node-returns-in-Try : goal.walk::put_node-returns-in-Try
walk::put_node-returns-in-Try = EachKind.put_node-returns-in-Try

pub walk::put_node-put_caught-requires : goal.walk::put_node-put_caught-requires
walk::put_node-put_caught-requires = EachKind.put_node-put_caught-requires

pub walk::put_node-returns-in-Clauses : goal.walk::put_node-returns-in-Clauses
walk::put_node-returns-in-Clauses = EachKind.put_node-returns-in-Clauses

pub walk::put_node-put_clauses-requires : goal.walk::put_node-put_clauses-requires
walk::put_node-put_clauses-requires = EachKind.put_node-put_clauses-requires

pub walk::put_node-returns-in-When : goal.walk::put_node-returns-in-When
walk::put_node-returns-in-When = EachKind.put_node-returns-in-When

pub walk::put_node-put_when-requires : goal.walk::put_node-put_when-requires
walk::put_node-put_when-requires = EachKind.put_node-put_when-requires

pub walk::put_node-returns-in-Foreach : goal.walk::put_node-returns-in-Foreach
walk::put_node-returns-in-Foreach = EachKind.put_node-returns-in-Foreach

pub walk::put_node-put_counted-requires : goal.walk::put_node-put_counted-requires
walk::put_node-put_counted-requires = EachKind.put_node-put_counted-requires

pub walk::put_node-returns-in-While : goal.walk::put_node-returns-in-While
walk::put_node-returns-in-While = EachKind.put_node-returns-in-While

pub walk::put_node-put_while-requires : goal.walk::put_node-put_while-requires
walk::put_node-put_while-requires = EachKind.put_node-put_while-requires

pub walk::put_node-returns-in-Repeat : goal.walk::put_node-returns-in-Repeat
walk::put_node-returns-in-Repeat = EachKind.put_node-returns-in-Repeat

pub walk::put_node-put_repeat-requires : goal.walk::put_node-put_repeat-requires
walk::put_node-put_repeat-requires = EachKind.put_node-put_repeat-requires

pub walk::put_node-returns-in-Return : goal.walk::put_node-returns-in-Return
walk::put_node-returns-in-Return = EachKind.put_node-returns-in-Return

pub walk::put_node-put_return-requires : goal.walk::put_node-put_return-requires
walk::put_node-put_return-requires = EachKind.put_node-put_return-requires

pub walk::put_node-returns-in-Throw : goal.walk::put_node-returns-in-Throw
walk::put_node-returns-in-Throw = EachKind.put_node-returns-in-Throw

pub walk::put_node-put_throw-requires : goal.walk::put_node-put_throw-requires
walk::put_node-put_throw-requires = EachKind.put_node-put_throw-requires

pub walk::put_node-returns-in-Exit : goal.walk::put_node-returns-in-Exit
walk::put_node-returns-in-Exit = EachKind.put_node-returns-in-Exit

pub walk::put_node-put_exit-requires : goal.walk::put_node-put_exit-requires
walk::put_node-put_exit-requires = EachKind.put_node-put_exit-requires

pub walk::put_node-returns-in-Assert : goal.walk::put_node-returns-in-Assert
walk::put_node-returns-in-Assert = EachKind.put_node-returns-in-Assert

pub walk::put_node-put_assert-requires : goal.walk::put_node-put_assert-requires
walk::put_node-put_assert-requires = EachKind.put_node-put_assert-requires

pub walk::put_node-returns-in-Optional : goal.walk::put_node-returns-in-Optional
walk::put_node-returns-in-Optional = EachKind.put_node-returns-in-Optional

pub operands::put_held-returns : goal.operands::put_held-returns
operands::put_held-returns = Making.put_held-returns

pub operands::put_held-put_node-requires : goal.operands::put_held-put_node-requires
operands::put_held-put_node-requires = Making.put_held-put_node-requires

pub operands::put_all-returns-in-empty : goal.operands::put_all-returns-in-empty
operands::put_all-returns-in-empty = Making.put_all-returns-in-empty

pub operands::put_all-returns-in_ok-further-in-len1-up : goal.operands::put_all-returns-in_ok-further-in-len1-up
operands::put_all-returns-in_ok-further-in-len1-up = Making.put_all-returns-in_ok-further-in-len1-up

pub operands::put_all-put_held-requires : goal.operands::put_all-put_held-requires
operands::put_all-put_held-requires = Making.put_all-put_held-requires

pub operands::put_all-put_all-requires : goal.operands::put_all-put_all-requires
operands::put_all-put_all-requires = Making.put_all-put_all-requires

pub operands::put_made_of-returns : goal.operands::put_made_of-returns
operands::put_made_of-returns = Making.put_made_of-returns

pub operands::put_made_of-put_all-requires : goal.operands::put_made_of-put_all-requires
operands::put_made_of-put_all-requires = Making.put_made_of-put_all-requires

pub operands::put_cast-returns : goal.operands::put_cast-returns
operands::put_cast-returns = Making.put_cast-returns

pub operands::put_cast-put_held-requires : goal.operands::put_cast-put_held-requires
operands::put_cast-put_held-requires = Making.put_cast-put_held-requires

pub operands::put_own_cast-returns-in-len1 : goal.operands::put_own_cast-returns-in-len1
operands::put_own_cast-returns-in-len1 = Making.put_own_cast-returns-in-len1

pub operands::put_own_cast-put_cast-requires : goal.operands::put_own_cast-put_cast-requires
operands::put_own_cast-put_cast-requires = Making.put_own_cast-put_cast-requires

pub operands::put_own_cast-returns-in_default : goal.operands::put_own_cast-returns-in_default
operands::put_own_cast-returns-in_default = Making.put_own_cast-returns-in_default

pub operands::put_own_cast-returns-in_default-2 : goal.operands::put_own_cast-returns-in_default-2
operands::put_own_cast-returns-in_default-2 = Making.put_own_cast-returns-in_default-2

pub operands::put_with-put_made_of-requires : goal.operands::put_with-put_made_of-requires
operands::put_with-put_made_of-requires = Making.put_with-put_made_of-requires

pub operands::put_with_item-returns-in-len3 : goal.operands::put_with_item-returns-in-len3
operands::put_with_item-returns-in-len3 = Making.put_with_item-returns-in-len3

pub operands::put_with_item-put_made_of-requires : goal.operands::put_with_item-put_made_of-requires
operands::put_with_item-put_made_of-requires = Making.put_with_item-put_made_of-requires

pub operands::put_with_item-returns-in_default : goal.operands::put_with_item-returns-in_default
operands::put_with_item-returns-in_default = Making.put_with_item-returns-in_default

pub operands::put_with_item-returns-in_default-2 : goal.operands::put_with_item-returns-in_default-2
operands::put_with_item-returns-in_default-2 = Making.put_with_item-returns-in_default-2

pub operands::put_with_slice-returns-in-len4 : goal.operands::put_with_slice-returns-in-len4
operands::put_with_slice-returns-in-len4 = Making.put_with_slice-returns-in-len4

pub operands::put_with_slice-put_made_of-requires : goal.operands::put_with_slice-put_made_of-requires
operands::put_with_slice-put_made_of-requires = Making.put_with_slice-put_made_of-requires

pub operands::put_with_slice-returns-in_default : goal.operands::put_with_slice-returns-in_default
operands::put_with_slice-returns-in_default = Making.put_with_slice-returns-in_default

pub operands::put_with_slice-returns-in_default-2 : goal.operands::put_with_slice-returns-in_default-2
operands::put_with_slice-returns-in_default-2 = Making.put_with_slice-returns-in_default-2

pub calls::put_call-returns : goal.calls::put_call-returns
calls::put_call-returns = Making.put_call-returns

pub calls::put_call-put_all-requires : goal.calls::put_call-put_all-requires
calls::put_call-put_all-requires = Making.put_call-put_all-requires

pub calls::put_row-returns-then-has_state : goal.calls::put_row-returns-then-has_state
calls::put_row-returns-then-has_state = Making.put_row-returns-then-has_state

pub calls::put_row-returns-else-has_state : goal.calls::put_row-returns-else-has_state
calls::put_row-returns-else-has_state = Making.put_row-returns-else-has_state

pub calls::put_row-put_state_row-requires : goal.calls::put_row-put_state_row-requires
calls::put_row-put_state_row-requires = Making.put_row-put_state_row-requires

pub calls::put_row-put_made_of-requires : goal.calls::put_row-put_made_of-requires
calls::put_row-put_made_of-requires = Making.put_row-put_made_of-requires

pub calls::put_callee-returns-in-Function : goal.calls::put_callee-returns-in-Function
calls::put_callee-returns-in-Function = Making.put_callee-returns-in-Function

pub calls::put_callee-put_call-requires : goal.calls::put_callee-put_call-requires
calls::put_callee-put_call-requires = Making.put_callee-put_call-requires

pub calls::put_callee-returns-in-Row : goal.calls::put_callee-returns-in-Row
calls::put_callee-returns-in-Row = Making.put_callee-returns-in-Row

pub calls::put_callee-put_row-requires : goal.calls::put_callee-put_row-requires
calls::put_callee-put_row-requires = Making.put_callee-put_row-requires

pub calls::put_callee-returns-in-Constructor : goal.calls::put_callee-returns-in-Constructor
calls::put_callee-returns-in-Constructor = Making.put_callee-returns-in-Constructor

pub calls::put_callee-put_made_of-requires : goal.calls::put_callee-put_made_of-requires
calls::put_callee-put_made_of-requires = Making.put_callee-put_made_of-requires

pub calls::put_callee-returns-in-Converts : goal.calls::put_callee-returns-in-Converts
calls::put_callee-returns-in-Converts = Making.put_callee-returns-in-Converts

pub calls::put_callee-returns-in-Applies : goal.calls::put_callee-returns-in-Applies
calls::put_callee-returns-in-Applies = Making.put_callee-returns-in-Applies

pub calls::put_callee-put_crossing-requires : goal.calls::put_callee-put_crossing-requires
calls::put_callee-put_crossing-requires = Making.put_callee-put_crossing-requires

pub mappings::put_crossing-returns-in-len1 : goal.mappings::put_crossing-returns-in-len1
mappings::put_crossing-returns-in-len1 = Writing.put_crossing-returns-in-len1

pub mappings::put_crossing-returns-in_default : goal.mappings::put_crossing-returns-in_default
mappings::put_crossing-returns-in_default = Writing.put_crossing-returns-in_default

pub mappings::put_crossing-returns-in_default-2 : goal.mappings::put_crossing-returns-in_default-2
mappings::put_crossing-returns-in_default-2 = Writing.put_crossing-returns-in_default-2

pub stops::put_return-returns-in-len1 : goal.stops::put_return-returns-in-len1
stops::put_return-returns-in-len1 = Branching.put_return-returns-in-len1

pub stops::put_return-put_node-requires : goal.stops::put_return-put_node-requires
stops::put_return-put_node-requires = Branching.put_return-put_node-requires

pub stops::put_return-returns-in_default : goal.stops::put_return-returns-in_default
stops::put_return-returns-in_default = Branching.put_return-returns-in_default

pub stops::put_return-returns-in_default-2 : goal.stops::put_return-returns-in_default-2
stops::put_return-returns-in_default-2 = Branching.put_return-returns-in_default-2

pub stops::put_throw-returns-in-len1 : goal.stops::put_throw-returns-in-len1
stops::put_throw-returns-in-len1 = Branching.put_throw-returns-in-len1

pub stops::put_throw-put_node-requires : goal.stops::put_throw-put_node-requires
stops::put_throw-put_node-requires = Branching.put_throw-put_node-requires

pub stops::put_throw-returns-in_default : goal.stops::put_throw-returns-in_default
stops::put_throw-returns-in_default = Branching.put_throw-returns-in_default

pub stops::put_throw-returns-in_default-2 : goal.stops::put_throw-returns-in_default-2
stops::put_throw-returns-in_default-2 = Branching.put_throw-returns-in_default-2

pub stops::put_exit-returns-in_ok-put_held-in-len1 : goal.stops::put_exit-returns-in_ok-put_held-in-len1
stops::put_exit-returns-in_ok-put_held-in-len1 = Branching.put_exit-returns-in_ok-put_held-in-len1

pub stops::put_exit-put_held-requires : goal.stops::put_exit-put_held-requires
stops::put_exit-put_held-requires = Branching.put_exit-put_held-requires

pub stops::put_exit-returns-in_default : goal.stops::put_exit-returns-in_default
stops::put_exit-returns-in_default = Branching.put_exit-returns-in_default

pub stops::put_exit-returns-in_default-2 : goal.stops::put_exit-returns-in_default-2
stops::put_exit-returns-in_default-2 = Branching.put_exit-returns-in_default-2

pub stops::put_assert-returns-in_ok-put_label-in-len1 : goal.stops::put_assert-returns-in_ok-put_label-in-len1
stops::put_assert-returns-in_ok-put_label-in-len1 = Branching.put_assert-returns-in_ok-put_label-in-len1

pub stops::put_assert-put_held-requires : goal.stops::put_assert-put_held-requires
stops::put_assert-put_held-requires = Branching.put_assert-put_held-requires

pub stops::put_assert-returns-in_default : goal.stops::put_assert-returns-in_default
stops::put_assert-returns-in_default = Branching.put_assert-returns-in_default

pub stops::put_assert-returns-in_default-2 : goal.stops::put_assert-returns-in_default-2
stops::put_assert-returns-in_default-2 = Branching.put_assert-returns-in_default-2

pub branches::put_and-returns-in_ok-put_label-in-len2 : goal.branches::put_and-returns-in_ok-put_label-in-len2
branches::put_and-returns-in_ok-put_label-in-len2 = Branching.put_and-returns-in_ok-put_label-in-len2

pub branches::put_or-returns-in_ok-put_label-in-len2 : goal.branches::put_or-returns-in_ok-put_label-in-len2
branches::put_or-returns-in_ok-put_label-in-len2 = Branching.put_or-returns-in_ok-put_label-in-len2

pub branches::put_when-returns-in_ok-put_label-in-len2 : goal.branches::put_when-returns-in_ok-put_label-in-len2
branches::put_when-returns-in_ok-put_label-in-len2 = Branching.put_when-returns-in_ok-put_label-in-len2

pub branches::put_and-put_held-requires : goal.branches::put_and-put_held-requires
branches::put_and-put_held-requires = Branching.put_and-put_held-requires

pub branches::put_and-put_inside-requires : goal.branches::put_and-put_inside-requires
branches::put_and-put_inside-requires = Branching.put_and-put_inside-requires

pub branches::put_and-returns-in_default : goal.branches::put_and-returns-in_default
branches::put_and-returns-in_default = Branching.put_and-returns-in_default

pub branches::put_and-returns-in_default-2 : goal.branches::put_and-returns-in_default-2
branches::put_and-returns-in_default-2 = Branching.put_and-returns-in_default-2

pub branches::put_or-put_held-requires : goal.branches::put_or-put_held-requires
branches::put_or-put_held-requires = Branching.put_or-put_held-requires

pub branches::put_or-put_inside-requires : goal.branches::put_or-put_inside-requires
branches::put_or-put_inside-requires = Branching.put_or-put_inside-requires

pub branches::put_or-returns-in_default : goal.branches::put_or-returns-in_default
branches::put_or-returns-in_default = Branching.put_or-returns-in_default

pub branches::put_or-returns-in_default-2 : goal.branches::put_or-returns-in_default-2
branches::put_or-returns-in_default-2 = Branching.put_or-returns-in_default-2

pub branches::put_when-put_held-requires : goal.branches::put_when-put_held-requires
branches::put_when-put_held-requires = Branching.put_when-put_held-requires

pub branches::put_when-put_node-requires : goal.branches::put_when-put_node-requires
branches::put_when-put_node-requires = Branching.put_when-put_node-requires

pub branches::put_when-returns-in_default : goal.branches::put_when-returns-in_default
branches::put_when-returns-in_default = Branching.put_when-returns-in_default

pub branches::put_when-returns-in_default-2 : goal.branches::put_when-returns-in_default-2
branches::put_when-returns-in_default-2 = Branching.put_when-returns-in_default-2

pub branches::put_if-returns : goal.branches::put_if-returns
branches::put_if-returns = Branching.put_if-returns

pub branches::put_if-put_held-requires : goal.branches::put_if-put_held-requires
branches::put_if-put_held-requires = Branching.put_if-put_held-requires

pub branches::put_if-put_second-requires : goal.branches::put_if-put_second-requires
branches::put_if-put_second-requires = Branching.put_if-put_second-requires

pub branches::put_if-put_inside-requires : goal.branches::put_if-put_inside-requires
branches::put_if-put_inside-requires = Branching.put_if-put_inside-requires

pub branches::put_second-returns-in-empty : goal.branches::put_second-returns-in-empty
branches::put_second-returns-in-empty = Branching.put_second-returns-in-empty

pub branches::put_second-returns-in-len1-up : goal.branches::put_second-returns-in-len1-up
branches::put_second-returns-in-len1-up = Branching.put_second-returns-in-len1-up

pub branches::put_second-put_inside-requires : goal.branches::put_second-put_inside-requires
branches::put_second-put_inside-requires = Branching.put_second-put_inside-requires

pub branches::put_branches-returns-in-empty : goal.branches::put_branches-returns-in-empty
branches::put_branches-returns-in-empty = Branching.put_branches-returns-in-empty

pub branches::put_branches-put_if-requires : goal.branches::put_branches-put_if-requires
branches::put_branches-put_if-requires = Branching.put_branches-put_if-requires

pub branches::put_branches-put_if-requires-in-len1 : goal.branches::put_branches-put_if-requires-in-len1
branches::put_branches-put_if-requires-in-len1 = Branching.put_branches-put_if-requires-in-len1

pub branches::put_branches-returns-in_default-second : goal.branches::put_branches-returns-in_default-second
branches::put_branches-returns-in_default-second = Branching.put_branches-returns-in_default-second

pub branches::put_branches-returns-in_default : goal.branches::put_branches-returns-in_default
branches::put_branches-returns-in_default = Branching.put_branches-returns-in_default

pub loops::put_while-returns-in_ok-put_jump_if-in-len3 : goal.loops::put_while-returns-in_ok-put_jump_if-in-len3
loops::put_while-returns-in_ok-put_jump_if-in-len3 = Looping.put_while-returns-in_ok-put_jump_if-in-len3

pub loops::put_repeat-returns-in_ok-end_arm-in-len3 : goal.loops::put_repeat-returns-in_ok-end_arm-in-len3
loops::put_repeat-returns-in_ok-end_arm-in-len3 = Looping.put_repeat-returns-in_ok-end_arm-in-len3

pub loops::put_while-put_inside-requires : goal.loops::put_while-put_inside-requires
loops::put_while-put_inside-requires = Looping.put_while-put_inside-requires

pub loops::put_while-put_inside-requires-in-len3 : goal.loops::put_while-put_inside-requires-in-len3
loops::put_while-put_inside-requires-in-len3 = Looping.put_while-put_inside-requires-in-len3

pub loops::put_while-put_inside-requires-in-len3-2 : goal.loops::put_while-put_inside-requires-in-len3-2
loops::put_while-put_inside-requires-in-len3-2 = Looping.put_while-put_inside-requires-in-len3-2

pub loops::put_while-returns-in_default : goal.loops::put_while-returns-in_default
loops::put_while-returns-in_default = Looping.put_while-returns-in_default

pub loops::put_while-returns-in_default-2 : goal.loops::put_while-returns-in_default-2
loops::put_while-returns-in_default-2 = Looping.put_while-returns-in_default-2

pub loops::put_repeat-put_inside-requires : goal.loops::put_repeat-put_inside-requires
loops::put_repeat-put_inside-requires = Looping.put_repeat-put_inside-requires

pub loops::put_repeat-put_inside-requires-in-len3 : goal.loops::put_repeat-put_inside-requires-in-len3
loops::put_repeat-put_inside-requires-in-len3 = Looping.put_repeat-put_inside-requires-in-len3

pub loops::put_repeat-put_inside-requires-in-len3-2 : goal.loops::put_repeat-put_inside-requires-in-len3-2
loops::put_repeat-put_inside-requires-in-len3-2 = Looping.put_repeat-put_inside-requires-in-len3-2

pub loops::put_repeat-returns-in_default : goal.loops::put_repeat-returns-in_default
loops::put_repeat-returns-in_default = Looping.put_repeat-returns-in_default

pub loops::put_repeat-returns-in_default-2 : goal.loops::put_repeat-returns-in_default-2
loops::put_repeat-returns-in_default-2 = Looping.put_repeat-returns-in_default-2

pub loops::put_counted-returns-in-len4 : goal.loops::put_counted-returns-in-len4
loops::put_counted-returns-in-len4 = Looping.put_counted-returns-in-len4

pub loops::put_counted-put_foreach-requires : goal.loops::put_counted-put_foreach-requires
loops::put_counted-put_foreach-requires = Looping.put_counted-put_foreach-requires

pub loops::put_counted-returns-in_default : goal.loops::put_counted-returns-in_default
loops::put_counted-returns-in_default = Looping.put_counted-returns-in_default

pub loops::put_counted-returns-in_default-2 : goal.loops::put_counted-returns-in_default-2
loops::put_counted-returns-in_default-2 = Looping.put_counted-returns-in_default-2

pub bindings::put_last-returns-in-empty : goal.bindings::put_last-returns-in-empty
bindings::put_last-returns-in-empty = Binding.put_last-returns-in-empty

pub bindings::put_last-returns-in-len1 : goal.bindings::put_last-returns-in-len1
bindings::put_last-returns-in-len1 = Binding.put_last-returns-in-len1

pub bindings::put_last-put_node-requires : goal.bindings::put_last-put_node-requires
bindings::put_last-put_node-requires = Binding.put_last-put_node-requires

pub bindings::put_last-returns-in_default : goal.bindings::put_last-returns-in_default
bindings::put_last-returns-in_default = Binding.put_last-returns-in_default

pub bindings::put_statement-returns-in_ok-put_held-in-Evaluate : goal.bindings::put_statement-returns-in_ok-put_held-in-Evaluate
bindings::put_statement-returns-in_ok-put_held-in-Evaluate = Binding.put_statement-returns-in_ok-put_held-in-Evaluate

pub bindings::put_statement-returns-in-Declare : goal.bindings::put_statement-returns-in-Declare
bindings::put_statement-returns-in-Declare = Binding.put_statement-returns-in-Declare

pub bindings::put_statement-put_held-requires : goal.bindings::put_statement-put_held-requires
bindings::put_statement-put_held-requires = Binding.put_statement-put_held-requires

pub bindings::put_statement-put_block-requires : goal.bindings::put_statement-put_block-requires
bindings::put_statement-put_block-requires = Binding.put_statement-put_block-requires

pub bindings::put_statement-put_bind-requires : goal.bindings::put_statement-put_bind-requires
bindings::put_statement-put_bind-requires = Binding.put_statement-put_bind-requires

pub bindings::put_statement-put_let-requires : goal.bindings::put_statement-put_let-requires
bindings::put_statement-put_let-requires = Binding.put_statement-put_let-requires

pub bindings::put_block-returns-in-empty : goal.bindings::put_block-returns-in-empty
bindings::put_block-returns-in-empty = Binding.put_block-returns-in-empty

pub bindings::put_block-put_last-requires : goal.bindings::put_block-put_last-requires
bindings::put_block-put_last-requires = Binding.put_block-put_last-requires

pub bindings::put_block-returns-in-empty-parts : goal.bindings::put_block-returns-in-empty-parts
bindings::put_block-returns-in-empty-parts = Binding.put_block-returns-in-empty-parts

pub bindings::put_block-returns-in-len1-up-parts : goal.bindings::put_block-returns-in-len1-up-parts
bindings::put_block-returns-in-len1-up-parts = Binding.put_block-returns-in-len1-up-parts

pub bindings::put_block-put_statement-requires : goal.bindings::put_block-put_statement-requires
bindings::put_block-put_statement-requires = Binding.put_block-put_statement-requires

pub bindings::put_statements-returns : goal.bindings::put_statements-returns
bindings::put_statements-returns = Binding.put_statements-returns

pub bindings::put_statements-put_block-requires : goal.bindings::put_statements-put_block-requires
bindings::put_statements-put_block-requires = Binding.put_statements-put_block-requires

pub bindings::put_let_in-returns-in-len1 : goal.bindings::put_let_in-returns-in-len1
bindings::put_let_in-returns-in-len1 = Binding.put_let_in-returns-in-len1

pub bindings::put_let_in-put_let-requires : goal.bindings::put_let_in-put_let-requires
bindings::put_let_in-put_let-requires = Binding.put_let_in-put_let-requires

pub bindings::put_let_in-returns-in-empty : goal.bindings::put_let_in-returns-in-empty
bindings::put_let_in-returns-in-empty = Binding.put_let_in-returns-in-empty

pub bindings::put_let_in-returns-in_default : goal.bindings::put_let_in-returns-in_default
bindings::put_let_in-returns-in_default = Binding.put_let_in-returns-in_default

pub bindings::put_let_in-returns-in_default-2 : goal.bindings::put_let_in-returns-in_default-2
bindings::put_let_in-returns-in_default-2 = Binding.put_let_in-returns-in_default-2

pub bindings::put_var_in-returns-in-len1 : goal.bindings::put_var_in-returns-in-len1
bindings::put_var_in-returns-in-len1 = Binding.put_var_in-returns-in-len1

pub bindings::put_var_in-put_bind-requires : goal.bindings::put_var_in-put_bind-requires
bindings::put_var_in-put_bind-requires = Binding.put_var_in-put_bind-requires

pub bindings::put_var_in-returns-in-empty : goal.bindings::put_var_in-returns-in-empty
bindings::put_var_in-returns-in-empty = Binding.put_var_in-returns-in-empty

pub bindings::put_var_in-returns-in_default : goal.bindings::put_var_in-returns-in_default
bindings::put_var_in-returns-in_default = Binding.put_var_in-returns-in_default

pub bindings::put_var_in-returns-in_default-2 : goal.bindings::put_var_in-returns-in_default-2
bindings::put_var_in-returns-in_default-2 = Binding.put_var_in-returns-in_default-2

pub bindings::put_bind-put_node-requires : goal.bindings::put_bind-put_node-requires
bindings::put_bind-put_node-requires = Binding.put_bind-put_node-requires

pub bindings::put_bind-put_block-requires : goal.bindings::put_bind-put_block-requires
bindings::put_bind-put_block-requires = Binding.put_bind-put_block-requires

pub bindings::put_let-put_held-requires : goal.bindings::put_let-put_held-requires
bindings::put_let-put_held-requires = Binding.put_let-put_held-requires

pub bindings::put_let-put_arm-requires : goal.bindings::put_let-put_arm-requires
bindings::put_let-put_arm-requires = Binding.put_let-put_arm-requires

pub arms::put_inside-returns : goal.arms::put_inside-returns
arms::put_inside-returns = Matching.put_inside-returns

pub arms::put_inside-put_node-requires : goal.arms::put_inside-put_node-requires
arms::put_inside-put_node-requires = Matching.put_inside-put_node-requires

pub arms::put_first-returns-in-empty : goal.arms::put_first-returns-in-empty
arms::put_first-returns-in-empty = Matching.put_first-returns-in-empty

pub arms::put_first-returns-in-len1-up : goal.arms::put_first-returns-in-len1-up
arms::put_first-returns-in-len1-up = Matching.put_first-returns-in-len1-up

pub arms::put_first-put_choice-requires : goal.arms::put_first-put_choice-requires
arms::put_first-put_choice-requires = Matching.put_first-put_choice-requires

pub arms::put_choice-returns-in-empty : goal.arms::put_choice-returns-in-empty
arms::put_choice-returns-in-empty = Matching.put_choice-returns-in-empty

pub arms::put_choice-put_taken-requires : goal.arms::put_choice-put_taken-requires
arms::put_choice-put_taken-requires = Matching.put_choice-put_taken-requires

pub arms::put_choice-put_first-requires : goal.arms::put_choice-put_first-requires
arms::put_choice-put_first-requires = Matching.put_choice-put_first-requires

pub arms::put_taken-put_armed-requires : goal.arms::put_taken-put_armed-requires
arms::put_taken-put_armed-requires = Matching.put_taken-put_armed-requires

pub arms::put_armed-put_node-requires : goal.arms::put_armed-put_node-requires
arms::put_armed-put_node-requires = Matching.put_armed-put_node-requires

pub arms::put_arm-put_block-requires : goal.arms::put_arm-put_block-requires
arms::put_arm-put_block-requires = Matching.put_arm-put_block-requires

pub arms::put_match-put_held-requires : goal.arms::put_match-put_held-requires
arms::put_match-put_held-requires = Matching.put_match-put_held-requires

pub arms::put_match-put_first-requires : goal.arms::put_match-put_first-requires
arms::put_match-put_first-requires = Matching.put_match-put_first-requires

pub arms::put_match-returns-in-empty : goal.arms::put_match-returns-in-empty
arms::put_match-returns-in-empty = Matching.put_match-returns-in-empty

pub arms::put_caught-returns-in-empty : goal.arms::put_caught-returns-in-empty
arms::put_caught-returns-in-empty = Matching.put_caught-returns-in-empty

pub paths::put_part_of-returns-in-empty : goal.paths::put_part_of-returns-in-empty
paths::put_part_of-returns-in-empty = Taking.put_part_of-returns-in-empty

pub arms::put_caught-put_try-requires : goal.arms::put_caught-put_try-requires
arms::put_caught-put_try-requires = Matching.put_caught-put_try-requires

pub arms::put_try-put_inside-requires : goal.arms::put_try-put_inside-requires
arms::put_try-put_inside-requires = Matching.put_try-put_inside-requires

pub arms::put_try-put_first-requires : goal.arms::put_try-put_first-requires
arms::put_try-put_first-requires = Matching.put_try-put_first-requires

pub arms::put_clauses-put_first-requires : goal.arms::put_clauses-put_first-requires
arms::put_clauses-put_first-requires = Matching.put_clauses-put_first-requires

pub loops::put_bounds-put_held-requires : goal.loops::put_bounds-put_held-requires
loops::put_bounds-put_held-requires = Looping.put_bounds-put_held-requires

pub loops::put_bounds-put_held-requires-2 : goal.loops::put_bounds-put_held-requires-2
loops::put_bounds-put_held-requires-2 = Looping.put_bounds-put_held-requires-2

pub loops::put_bounds-put_held-requires-3 : goal.loops::put_bounds-put_held-requires-3
loops::put_bounds-put_held-requires-3 = Looping.put_bounds-put_held-requires-3

pub loops::put_bounds-returns : goal.loops::put_bounds-returns
loops::put_bounds-returns = Looping.put_bounds-returns

pub loops::put_body-put_inside-requires : goal.loops::put_body-put_inside-requires
loops::put_body-put_inside-requires = Looping.put_body-put_inside-requires

pub loops::put_foreach-put_bounds-requires : goal.loops::put_foreach-put_bounds-requires
loops::put_foreach-put_bounds-requires = Looping.put_foreach-put_bounds-requires

pub loops::put_foreach-put_body-requires : goal.loops::put_foreach-put_body-requires
loops::put_foreach-put_body-requires = Looping.put_foreach-put_body-requires

pub loops::put_foreach-returns : goal.loops::put_foreach-returns
loops::put_foreach-returns = Looping.put_foreach-returns

pub paths::put_part_of-returns-in-len1-up : goal.paths::put_part_of-returns-in-len1-up
paths::put_part_of-returns-in-len1-up = Taking.put_part_of-returns-in-len1-up

pub paths::put_part_of-put_path-requires : goal.paths::put_part_of-put_path-requires
paths::put_part_of-put_path-requires = Taking.put_part_of-put_path-requires

pub paths::put_path-returns-in-empty : goal.paths::put_path-returns-in-empty
paths::put_path-returns-in-empty = Taking.put_path-returns-in-empty

pub paths::put_path-put_node-requires : goal.paths::put_path-put_node-requires
paths::put_path-put_node-requires = Taking.put_path-put_node-requires

pub paths::put_path-put_held-requires : goal.paths::put_path-put_held-requires
paths::put_path-put_held-requires = Taking.put_path-put_held-requires

pub paths::put_path-put_ways-requires : goal.paths::put_path-put_ways-requires
paths::put_path-put_ways-requires = Taking.put_path-put_ways-requires

pub paths::put_path-returns-in_ok-put_held-in-len1-up : goal.paths::put_path-returns-in_ok-put_held-in-len1-up
paths::put_path-returns-in_ok-put_held-in-len1-up = Taking.put_path-returns-in_ok-put_held-in-len1-up

pub operands::put_state_row-returns-in_ok-put_apply-in-len1 : goal.operands::put_state_row-returns-in_ok-put_apply-in-len1
operands::put_state_row-returns-in_ok-put_apply-in-len1 = Making.put_state_row-returns-in_ok-put_apply-in-len1

pub operands::put_state_row-put_all-requires : goal.operands::put_state_row-put_all-requires
operands::put_state_row-put_all-requires = Making.put_state_row-put_all-requires

pub branches::put_branches-returns-in_ok-put_if-in-len1 : goal.branches::put_branches-returns-in_ok-put_if-in-len1
branches::put_branches-returns-in_ok-put_if-in-len1 = Branching.put_branches-returns-in_ok-put_if-in-len1

pub bindings::put_let-returns : goal.bindings::put_let-returns
bindings::put_let-returns = Binding.put_let-returns

pub arms::put_arm-returns : goal.arms::put_arm-returns
arms::put_arm-returns = Matching.put_arm-returns

pub arms::put_armed-returns : goal.arms::put_armed-returns
arms::put_armed-returns = Matching.put_armed-returns

pub arms::put_taken-returns : goal.arms::put_taken-returns
arms::put_taken-returns = Matching.put_taken-returns

pub arms::put_clauses-returns : goal.arms::put_clauses-returns
arms::put_clauses-returns = Matching.put_clauses-returns

pub arms::put_match-returns-in_ok-put_first-in-len1-up : goal.arms::put_match-returns-in_ok-put_first-in-len1-up
arms::put_match-returns-in_ok-put_first-in-len1-up = Matching.put_match-returns-in_ok-put_first-in-len1-up

pub arms::put_caught-returns-in_ok-put_try-in-len1-up : goal.arms::put_caught-returns-in_ok-put_try-in-len1-up
arms::put_caught-returns-in_ok-put_try-in-len1-up = Matching.put_caught-returns-in_ok-put_try-in-len1-up

pub arms::put_try-returns : goal.arms::put_try-returns
arms::put_try-returns = Matching.put_try-returns

pub paths::put_way-put_all-requires : goal.paths::put_way-put_all-requires
paths::put_way-put_all-requires = Taking.put_way-put_all-requires

pub writes::put_assigned-returns-in-One : goal.writes::put_assigned-returns-in-One
writes::put_assigned-returns-in-One = Writing.put_assigned-returns-in-One

pub writes::put_assigned-put_one-requires : goal.writes::put_assigned-put_one-requires
writes::put_assigned-put_one-requires = Writing.put_assigned-put_one-requires

pub writes::put_assigned-returns-in-Several : goal.writes::put_assigned-returns-in-Several
writes::put_assigned-returns-in-Several = Writing.put_assigned-returns-in-Several

pub writes::put_assigned-put_shares-requires : goal.writes::put_assigned-put_shares-requires
writes::put_assigned-put_shares-requires = Writing.put_assigned-put_shares-requires

pub writes::put_given-returns : goal.writes::put_given-returns
writes::put_given-returns = Writing.put_given-returns

pub writes::put_given-put_all-requires : goal.writes::put_given-put_all-requires
writes::put_given-put_all-requires = Writing.put_given-put_all-requires

pub writes::put_given-put_node-requires : goal.writes::put_given-put_node-requires
writes::put_given-put_node-requires = Writing.put_given-put_node-requires

pub writes::put_one-returns : goal.writes::put_one-returns
writes::put_one-returns = Writing.put_one-returns

pub writes::put_one-put_given-requires : goal.writes::put_one-put_given-requires
writes::put_one-put_given-requires = Writing.put_one-put_given-requires

pub writes::put_shares-returns : goal.writes::put_shares-returns
writes::put_shares-returns = Writing.put_shares-returns

pub writes::put_shares-put_given-requires : goal.writes::put_shares-put_given-requires
writes::put_shares-put_given-requires = Writing.put_shares-put_given-requires

pub writes::put_assigned-returns-in-Called : goal.writes::put_assigned-returns-in-Called
writes::put_assigned-returns-in-Called = Writing.put_assigned-returns-in-Called

pub writes::put_written-put_all-requires : goal.writes::put_written-put_all-requires
writes::put_written-put_all-requires = Writing.put_written-put_all-requires

pub writes::put_written-put_cast-requires : goal.writes::put_written-put_cast-requires
writes::put_written-put_cast-requires = Writing.put_written-put_cast-requires

pub mappings::put_applied-put_held-requires : goal.mappings::put_applied-put_held-requires
mappings::put_applied-put_held-requires = Writing.put_applied-put_held-requires

pub bindings::put_statement-returns-in-Define : goal.bindings::put_statement-returns-in-Define
bindings::put_statement-returns-in-Define = Binding.put_statement-returns-in-Define

pub arms::put_choice-returns-in_ok-put_first-in-len1-up : goal.arms::put_choice-returns-in_ok-put_first-in-len1-up
arms::put_choice-returns-in_ok-put_first-in-len1-up = Matching.put_choice-returns-in_ok-put_first-in-len1-up

pub bindings::put_bind-returns : goal.bindings::put_bind-returns
bindings::put_bind-returns = Binding.put_bind-returns

pub mappings::put_applied-returns-in_ok-payload-in-Some : goal.mappings::put_applied-returns-in_ok-payload-in-Some
mappings::put_applied-returns-in_ok-payload-in-Some = Writing.put_applied-returns-in_ok-payload-in-Some

pub mappings::put_crossing-put_applied-requires : goal.mappings::put_crossing-put_applied-requires
mappings::put_crossing-put_applied-requires = Writing.put_crossing-put_applied-requires

pub writes::put_assigned-returns-in-empty : goal.writes::put_assigned-returns-in-empty
writes::put_assigned-returns-in-empty = Writing.put_assigned-returns-in-empty

pub writes::put_assigned-returns-in-Other : goal.writes::put_assigned-returns-in-Other
writes::put_assigned-returns-in-Other = Writing.put_assigned-returns-in-Other

pub writes::put_assign-returns-in-len1 : goal.writes::put_assign-returns-in-len1
writes::put_assign-returns-in-len1 = Writing.put_assign-returns-in-len1

pub writes::put_assign-put_assigned-requires : goal.writes::put_assign-put_assigned-requires
writes::put_assign-put_assigned-requires = Writing.put_assign-put_assigned-requires

pub writes::put_assign-returns-in_default : goal.writes::put_assign-returns-in_default
writes::put_assign-returns-in_default = Writing.put_assign-returns-in_default

pub writes::put_assign-returns-in_default-2 : goal.writes::put_assign-returns-in_default-2
writes::put_assign-returns-in_default-2 = Writing.put_assign-returns-in_default-2

pub operands::put_state_row-returns-in_default : goal.operands::put_state_row-returns-in_default
operands::put_state_row-returns-in_default = Making.put_state_row-returns-in_default

pub operands::put_state_row-returns-in_default-2 : goal.operands::put_state_row-returns-in_default-2
operands::put_state_row-returns-in_default-2 = Making.put_state_row-returns-in_default-2

pub paths::put_way-returns : goal.paths::put_way-returns
paths::put_way-returns = Taking.put_way-returns

pub loops::put_body-returns : goal.loops::put_body-returns
loops::put_body-returns = Looping.put_body-returns

pub operands::put_with-returns-in-Some : goal.operands::put_with-returns-in-Some
operands::put_with-returns-in-Some = Making.put_with-returns-in-Some

pub operands::put_with-returns-in-None : goal.operands::put_with-returns-in-None
operands::put_with-returns-in-None = Making.put_with-returns-in-None

pub operands::put_with-put_made_of-requires-in-None : goal.operands::put_with-put_made_of-requires-in-None
operands::put_with-put_made_of-requires-in-None = Making.put_with-put_made_of-requires-in-None

pub writes::put_written-returns : goal.writes::put_written-returns
writes::put_written-returns = Writing.put_written-returns

pub paths::put_ways-returns-in-empty : goal.paths::put_ways-returns-in-empty
paths::put_ways-returns-in-empty = Taking.put_ways-returns-in-empty

pub paths::put_ways-returns-in_ok-put_way-in-len1-up : goal.paths::put_ways-returns-in_ok-put_way-in-len1-up
paths::put_ways-returns-in_ok-put_way-in-len1-up = Taking.put_ways-returns-in_ok-put_way-in-len1-up

pub paths::put_ways-put_way-requires : goal.paths::put_ways-put_way-requires
paths::put_ways-put_way-requires = Taking.put_ways-put_way-requires

pub paths::put_ways-put_way-requires-in-len1-up : goal.paths::put_ways-put_way-requires-in-len1-up
paths::put_ways-put_way-requires-in-len1-up = Taking.put_ways-put_way-requires-in-len1-up

pub paths::put_ways-put_ways-requires : goal.paths::put_ways-put_ways-requires
paths::put_ways-put_ways-requires = Taking.put_ways-put_ways-requires

pub writes::put_assigned-put_written-requires : goal.writes::put_assigned-put_written-requires
writes::put_assigned-put_written-requires = Writing.put_assigned-put_written-requires
