use Rattle.std.proofs.Common.{◌≡◌, ◌+◌, drop}
use Rattle.lowered_ends.proofs.Masses.{mass, masses}
use Rattle.lowered_validity.specs.Typing.{all_right}
use Rattle.lowered_typed.specs.Here as here
use Rattle.lowered_typed.specs.Judged as judged
use Rattle.lowered_typed.proofs.nodes.+is_typed.Given as goal

abbrev pub decreases-is_typed : goal.decreases-is_typed
decreases-is_typed l = mass l.node.now

abbrev pub decreases-is_kind_typed : goal.decreases-is_kind_typed
decreases-is_kind_typed l = masses l.parts.now + 10

abbrev pub decreases-are_parts_typed : goal.decreases-are_parts_typed
decreases-are_parts_typed l = masses l.parts.now + 8

abbrev pub decreases-is_block_typed : goal.decreases-is_block_typed
decreases-is_block_typed l = masses l.parts.now + 4

abbrev pub decreases-is_last_typed : goal.decreases-is_last_typed
decreases-is_last_typed l = masses l.parts.now + 2

abbrev pub decreases-are_typed : goal.decreases-are_typed
decreases-are_typed l = masses l.nodes.now + 2

abbrev pub decreases-is_step_typed : goal.decreases-is_step_typed
decreases-is_step_typed l = mass l.value.now + 2

-- what is asked of all is asked of those from here on
abbrev pub invariant-are_typed-loop-node : goal.invariant-are_typed-loop-node
invariant-are_typed-loop-node l =
    all_right (judged.all_here l.judge l.nodes) ≡ all_right (judged.all_here l.judge (drop l.node-index l.nodes))

abbrev pub invariant-is_block_typed-loop-at : goal.invariant-is_block_typed-loop-at
invariant-is_block_typed-loop-at l =
    here.block_right l.judge l.statements (judged.all_here l.judge l.parts)
    ≡ here.block_right l.judge (drop l.at l.statements) (judged.all_here l.judge (drop l.at l.parts))
