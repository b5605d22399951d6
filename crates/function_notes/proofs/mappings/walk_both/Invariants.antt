use Rattle.std.proofs.Common.{◌≡◌, drop}
use Rattle.value_indices.specs.Walking.{run, seen}
use Rattle.pattern_leaves.specs.Settings.{around_of}
use Rattle.function_notes.specs.Functions.{both_walk}
use Rattle.function_notes.proofs.mappings.walk_both.Given as goal

abbrev pub invariant-loop-at : goal.invariant-loop-at
invariant-loop-at l =
    let m = l.forwards.direction.now in
    let n = l.backwards.direction.now in
    run (both_walk l.place (around_of l.around) m n (drop l.at l.forwards.arms.now) (drop l.at l.forwards.bodies.now) (drop l.at l.backwards.arms.now)
    (drop l.at l.backwards.bodies.now)) (seen l.walking)
    ≡ run (both_walk l.place (around_of l.around) m n l.forwards.arms.now l.forwards.bodies.now l.backwards.arms.now l.backwards.bodies.now)
    (seen l.initial.walking)
