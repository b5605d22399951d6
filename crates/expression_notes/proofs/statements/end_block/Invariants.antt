use Rattle.std.proofs.Common.{◌≡◌}
use Rattle.value_indices.specs.Walking.{seen}
use Rattle.expression_notes.specs.Claims.{unclaimed_times}
use Rattle.expression_notes.proofs.statements.end_block.Given as goal

abbrev pub invariant-loop-left : goal.invariant-loop-left
invariant-loop-left l = unclaimed_times l.left (seen l.walking) ≡ unclaimed_times l.claims (seen l.fn.walking)

abbrev pub decreases-loop-left : goal.decreases-loop-left
decreases-loop-left l = l.left
