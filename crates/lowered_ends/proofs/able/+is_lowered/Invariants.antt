use Rattle.std.proofs.Common.{◌+◌}
use Rattle.sail_core.specs.declared.tree.Core.{out-Core}
use Rattle.lowered_ends.proofs.Masses.{mass, masses}
use Rattle.lowered_ends.proofs.able.+is_lowered.Given as goal

abbrev pub decreases-is_lowered : goal.decreases-is_lowered
decreases-is_lowered l = mass l.node.now

abbrev pub decreases-are_lowered : goal.decreases-are_lowered
decreases-are_lowered l = masses l.nodes.now + 1

abbrev pub decreases-is_matched : goal.decreases-is_matched
decreases-is_matched l = mass l.node.now + 1

abbrev pub decreases-is_block : goal.decreases-is_block
decreases-is_block l = masses l.parts.now + 3

abbrev pub decreases-is_last : goal.decreases-is_last
decreases-is_last l = masses l.parts.now + 1

abbrev pub decreases-is_statement : goal.decreases-is_statement
decreases-is_statement l = mass l.first.now + 2

abbrev pub decreases-are_so_many : goal.decreases-are_so_many
decreases-are_so_many l = masses l.nodes.now + 2

abbrev pub decreases-is_foreach : goal.decreases-is_foreach
decreases-is_foreach l = masses l.parts.now + 3

abbrev pub decreases-is_callee : goal.decreases-is_callee
decreases-is_callee l = masses (out-Core l.node.now).parts + 60

abbrev pub decreases-is_row : goal.decreases-is_row
decreases-is_row l = masses (out-Core l.node.now).parts + 50

abbrev pub decreases-is_crossing : goal.decreases-is_crossing
decreases-is_crossing l = masses (out-Core l.node.now).parts + 50

abbrev pub decreases-is_part : goal.decreases-is_part
decreases-is_part l = masses (out-Core l.node.now).parts + 60

abbrev pub decreases-is_assigned : goal.decreases-is_assigned
decreases-is_assigned l = masses (out-Core l.node.now).parts + 60

abbrev pub decreases-is_let : goal.decreases-is_let
decreases-is_let l = masses (out-Core l.node.now).parts + 60

abbrev pub decreases-is_branch : goal.decreases-is_branch
decreases-is_branch l = masses (out-Core l.node.now).parts + 60

abbrev pub decreases-is_match : goal.decreases-is_match
decreases-is_match l = masses (out-Core l.node.now).parts + 60

abbrev pub decreases-is_try : goal.decreases-is_try
decreases-is_try l = masses (out-Core l.node.now).parts + 60

abbrev pub decreases-are_clauses : goal.decreases-are_clauses
decreases-are_clauses l = masses (out-Core l.node.now).parts + 60
