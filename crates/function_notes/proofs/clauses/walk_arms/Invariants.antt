use Rattle.std.proofs.Common.{◌≡◌, drop}
use Rattle.value_indices.specs.Walking.{run, seen}
use Rattle.pattern_leaves.specs.Settings.{around_of}
use Rattle.function_notes.specs.Functions.{clauses_walk, due_at}
use Rattle.function_notes.proofs.clauses.walk_arms.Given as goal

abbrev pub invariant-loop-at : goal.invariant-loop-at
invariant-loop-at l =
    run (clauses_walk l.common.place l.common.number (around_of l.around) l.common.types.now (due_at l.at l.once) l.common.aim.now
    l.common.is_declared
    (drop l.at l.arms) (drop l.at l.bodies)) (seen l.walking)
    ≡ run (clauses_walk l.common.place l.common.number (around_of l.around) l.common.types.now l.once l.common.aim.now l.common.is_declared
    l.arms l.bodies)
    (seen l.initial.walking)
