use Rattle.std.proofs.Common.{◌+◌, length}
use Rattle.sail_core.specs.declared.tree.Core.{out-Core}
use Rattle.lowered_ends.proofs.Masses.{mass, masses}
use Rattle.lowered_nodes.proofs.+lowering.Given as goal

-- by how much there is to walk over; of the same what calls the others stands above them
abbrev pub decreases-walk::put_node : goal.decreases-walk::put_node
decreases-walk::put_node l = mass l.node.now

abbrev pub decreases-operands::put_held : goal.decreases-operands::put_held
decreases-operands::put_held l = mass l.node.now + 1

abbrev pub decreases-arms::put_inside : goal.decreases-arms::put_inside
decreases-arms::put_inside l = mass l.node.now + 1

abbrev pub decreases-operands::put_cast : goal.decreases-operands::put_cast
decreases-operands::put_cast l = mass l.value.now + 2

abbrev pub decreases-operands::put_all : goal.decreases-operands::put_all
decreases-operands::put_all l = masses l.nodes.now + 2

abbrev pub decreases-operands::put_made_of : goal.decreases-operands::put_made_of
decreases-operands::put_made_of l = masses (out-Core l.node.now).parts + 3

abbrev pub decreases-operands::put_state_row : goal.decreases-operands::put_state_row
decreases-operands::put_state_row l = masses (out-Core l.node.now).parts + 3

abbrev pub decreases-calls::put_call : goal.decreases-calls::put_call
decreases-calls::put_call l = masses (out-Core l.node.now).parts + 3

abbrev pub decreases-calls::put_row : goal.decreases-calls::put_row
decreases-calls::put_row l = masses (out-Core l.node.now).parts + 4

abbrev pub decreases-calls::put_callee : goal.decreases-calls::put_callee
decreases-calls::put_callee l = masses (out-Core l.node.now).parts + 60

abbrev pub decreases-mappings::put_crossing : goal.decreases-mappings::put_crossing
decreases-mappings::put_crossing l = masses (out-Core l.node.now).parts + 50

abbrev pub decreases-mappings::put_applied : goal.decreases-mappings::put_applied
decreases-mappings::put_applied l = mass l.value.now + 3

abbrev pub decreases-operands::put_own_cast : goal.decreases-operands::put_own_cast
decreases-operands::put_own_cast l = masses (out-Core l.node.now).parts + 60

abbrev pub decreases-operands::put_with : goal.decreases-operands::put_with
decreases-operands::put_with l = masses (out-Core l.node.now).parts + 60

abbrev pub decreases-operands::put_with_item : goal.decreases-operands::put_with_item
decreases-operands::put_with_item l = masses (out-Core l.node.now).parts + 60

abbrev pub decreases-operands::put_with_slice : goal.decreases-operands::put_with_slice
decreases-operands::put_with_slice l = masses (out-Core l.node.now).parts + 60

abbrev pub decreases-paths::put_part_of : goal.decreases-paths::put_part_of
decreases-paths::put_part_of l = masses (out-Core l.node.now).parts + length l.suffixes.now + 60

abbrev pub decreases-paths::put_path : goal.decreases-paths::put_path
decreases-paths::put_path l = mass l.whole.now + masses l.indexes.now + length l.suffixes.now + 5

abbrev pub decreases-paths::put_ways : goal.decreases-paths::put_ways
decreases-paths::put_ways l = masses l.indexes.now + length l.rest.now + 5

abbrev pub decreases-paths::put_way : goal.decreases-paths::put_way
decreases-paths::put_way l = masses l.indexes.now + 4

abbrev pub decreases-writes::put_assign : goal.decreases-writes::put_assign
decreases-writes::put_assign l = masses (out-Core l.node.now).parts + 60

abbrev pub decreases-writes::put_assigned : goal.decreases-writes::put_assigned
decreases-writes::put_assigned l = masses l.parts.now + 8

abbrev pub decreases-writes::put_written : goal.decreases-writes::put_written
decreases-writes::put_written l = masses l.arguments.now + mass l.value.now + 5

abbrev pub decreases-writes::put_given : goal.decreases-writes::put_given
decreases-writes::put_given l = masses l.indexes.now + mass l.value.now + 5

abbrev pub decreases-writes::put_one : goal.decreases-writes::put_one
decreases-writes::put_one l = masses l.indexes.now + mass l.value.now + 6

abbrev pub decreases-writes::put_shares : goal.decreases-writes::put_shares
decreases-writes::put_shares l = masses l.indexes.now + mass l.value.now + 6

abbrev pub decreases-arms::put_match : goal.decreases-arms::put_match
decreases-arms::put_match l = masses (out-Core l.node.now).parts + 60

abbrev pub decreases-arms::put_caught : goal.decreases-arms::put_caught
decreases-arms::put_caught l = masses (out-Core l.node.now).parts + 60

abbrev pub decreases-arms::put_clauses : goal.decreases-arms::put_clauses
decreases-arms::put_clauses l = masses (out-Core l.node.now).parts + 60

abbrev pub decreases-arms::put_arm : goal.decreases-arms::put_arm
decreases-arms::put_arm l = masses l.parts.now + 50

abbrev pub decreases-arms::put_armed : goal.decreases-arms::put_armed
decreases-arms::put_armed l = mass l.body.now + 1

abbrev pub decreases-arms::put_taken : goal.decreases-arms::put_taken
decreases-arms::put_taken l = mass l.body.now + 2

abbrev pub decreases-arms::put_choice : goal.decreases-arms::put_choice
decreases-arms::put_choice l = masses l.bodies.now + 51

abbrev pub decreases-arms::put_first : goal.decreases-arms::put_first
decreases-arms::put_first l = masses l.bodies.now + 52

abbrev pub decreases-arms::put_try : goal.decreases-arms::put_try
decreases-arms::put_try l = mass l.value.now + masses l.bodies.now + 8

abbrev pub decreases-bindings::put_statements : goal.decreases-bindings::put_statements
decreases-bindings::put_statements l = masses (out-Core l.node.now).parts + 60

abbrev pub decreases-bindings::put_let_in : goal.decreases-bindings::put_let_in
decreases-bindings::put_let_in l = masses (out-Core l.node.now).parts + 60

abbrev pub decreases-bindings::put_var_in : goal.decreases-bindings::put_var_in
decreases-bindings::put_var_in l = masses (out-Core l.node.now).parts + 60

abbrev pub decreases-bindings::put_let : goal.decreases-bindings::put_let
decreases-bindings::put_let l = mass l.value.now + masses l.parts.now + 18

abbrev pub decreases-bindings::put_bind : goal.decreases-bindings::put_bind
decreases-bindings::put_bind l = mass l.value.now + masses l.parts.now + 18

abbrev pub decreases-bindings::put_last : goal.decreases-bindings::put_last
decreases-bindings::put_last l = masses l.parts.now + 40

abbrev pub decreases-bindings::put_statement : goal.decreases-bindings::put_statement
decreases-bindings::put_statement l = mass l.first.now + masses l.others.now + 40

abbrev pub decreases-bindings::put_block : goal.decreases-bindings::put_block
decreases-bindings::put_block l = masses l.parts.now + 48

abbrev pub decreases-branches::put_branches : goal.decreases-branches::put_branches
decreases-branches::put_branches l = masses (out-Core l.node.now).parts + 60

abbrev pub decreases-branches::put_and : goal.decreases-branches::put_and
decreases-branches::put_and l = masses (out-Core l.node.now).parts + 60

abbrev pub decreases-branches::put_or : goal.decreases-branches::put_or
decreases-branches::put_or l = masses (out-Core l.node.now).parts + 60

abbrev pub decreases-branches::put_when : goal.decreases-branches::put_when
decreases-branches::put_when l = masses (out-Core l.node.now).parts + 60

abbrev pub decreases-branches::put_if : goal.decreases-branches::put_if
decreases-branches::put_if l = mass l.test.now + mass l.first.now + masses l.second.now + 5

abbrev pub decreases-branches::put_second : goal.decreases-branches::put_second
decreases-branches::put_second l = masses l.second.now + 3

abbrev pub decreases-loops::put_while : goal.decreases-loops::put_while
decreases-loops::put_while l = masses (out-Core l.node.now).parts + 60

abbrev pub decreases-loops::put_repeat : goal.decreases-loops::put_repeat
decreases-loops::put_repeat l = masses (out-Core l.node.now).parts + 60

abbrev pub decreases-loops::put_counted : goal.decreases-loops::put_counted
decreases-loops::put_counted l = masses (out-Core l.node.now).parts + 60

abbrev pub decreases-loops::put_bounds : goal.decreases-loops::put_bounds
decreases-loops::put_bounds l = mass l.counted.now.first.now + mass l.counted.now.last.now + mass l.counted.now.step.now + 3

abbrev pub decreases-loops::put_body : goal.decreases-loops::put_body
decreases-loops::put_body l = mass l.counted.now.body.now + 3

abbrev pub decreases-loops::put_foreach : goal.decreases-loops::put_foreach
decreases-loops::put_foreach l = mass l.counted.now.first.now + mass l.counted.now.last.now + mass l.counted.now.step.now + mass l.counted.now.body.now + 5

abbrev pub decreases-stops::put_return : goal.decreases-stops::put_return
decreases-stops::put_return l = masses (out-Core l.node.now).parts + 60

abbrev pub decreases-stops::put_throw : goal.decreases-stops::put_throw
decreases-stops::put_throw l = masses (out-Core l.node.now).parts + 60

abbrev pub decreases-stops::put_exit : goal.decreases-stops::put_exit
decreases-stops::put_exit l = masses (out-Core l.node.now).parts + 60

abbrev pub decreases-stops::put_assert : goal.decreases-stops::put_assert
decreases-stops::put_assert l = masses (out-Core l.node.now).parts + 60
