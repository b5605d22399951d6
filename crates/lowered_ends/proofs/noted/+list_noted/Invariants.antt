use Rattle.std.proofs.Common.{◌+◌, length}
use Rattle.sail_core.specs.declared.tree.Core.{out-Core}
use Rattle.lowered_ends.proofs.Masses.{mass, masses}
use Rattle.lowered_ends.proofs.noted.+list_noted.Given as goal

abbrev pub decreases-list_noted : goal.decreases-list_noted
decreases-list_noted l = mass l.node.now

abbrev pub decreases-list_made : goal.decreases-list_made
decreases-list_made l = masses l.parts.now + 2

abbrev pub decreases-list_counted : goal.decreases-list_counted
decreases-list_counted l = masses l.parts.now + 4

abbrev pub decreases-list_one : goal.decreases-list_one
decreases-list_one l = masses l.parts.now + 3

abbrev pub decreases-list_first : goal.decreases-list_first
decreases-list_first l = masses l.parts.now + 3

abbrev pub decreases-list_both : goal.decreases-list_both
decreases-list_both l = masses l.parts.now + 3

abbrev pub decreases-list_where : goal.decreases-list_where
decreases-list_where l = masses l.parts.now + 3

abbrev pub decreases-list_bounds : goal.decreases-list_bounds
decreases-list_bounds l = masses l.parts.now + 3

abbrev pub decreases-list_all : goal.decreases-list_all
decreases-list_all l = masses l.nodes.now + 1

abbrev pub decreases-list_suffixes : goal.decreases-list_suffixes
decreases-list_suffixes l = masses l.indexes.now + length l.suffixes.now + 1

abbrev pub decreases-list_item : goal.decreases-list_item
decreases-list_item l = masses l.indexes.now + length l.rest.now + 1

abbrev pub decreases-list_slice : goal.decreases-list_slice
decreases-list_slice l = masses l.indexes.now + length l.rest.now + 1

abbrev pub decreases-list_assigned : goal.decreases-list_assigned
decreases-list_assigned l = masses l.parts.now + 4

abbrev pub decreases-list_arm : goal.decreases-list_arm
decreases-list_arm l = mass l.body.now + 1

abbrev pub decreases-list_block : goal.decreases-list_block
decreases-list_block l = masses l.parts.now + 4

abbrev pub decreases-list_row : goal.decreases-list_row
decreases-list_row l = masses l.parts.now + 4

abbrev pub decreases-list_callee : goal.decreases-list_callee
decreases-list_callee l = masses (out-Core l.node.now).parts + 60

abbrev pub decreases-list_part : goal.decreases-list_part
decreases-list_part l = masses (out-Core l.node.now).parts + length l.suffixes.now + 60

abbrev pub decreases-list_assign : goal.decreases-list_assign
decreases-list_assign l = masses (out-Core l.node.now).parts + 60

abbrev pub decreases-list_branches : goal.decreases-list_branches
decreases-list_branches l = masses (out-Core l.node.now).parts + 60

abbrev pub decreases-list_let : goal.decreases-list_let
decreases-list_let l = masses (out-Core l.node.now).parts + 60

abbrev pub decreases-list_match : goal.decreases-list_match
decreases-list_match l = masses (out-Core l.node.now).parts + 60
