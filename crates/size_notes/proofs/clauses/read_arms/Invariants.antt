use Rattle.std.proofs.Common.{◌≡◌, drop}
use Rattle.value_indices.specs.Walking.{run, seen}
use Rattle.pattern_leaves.specs.Settings.{around_of}
use Rattle.size_notes.specs.Bodies.{arms_read}
use Rattle.size_notes.specs.Reading.{IsAtRest}
use Rattle.size_notes.proofs.clauses.read_arms.Given as goal

abbrev pub invariant-loop-at : goal.invariant-loop-at
invariant-loop-at l = record {
  rest : IsAtRest (seen l.body);
  walked : run (arms_read l.constraint l.common.place l.common.number (around_of l.around) l.common.types.now l.common.aim.now
      l.common.is_declared (drop l.at l.arms) (drop l.at l.cores)) (seen l.body)
      ≡ run (arms_read l.constraint l.common.place l.common.number (around_of l.around) l.common.types.now l.common.aim.now
      l.common.is_declared l.arms l.cores) (seen l.initial.body);
}
