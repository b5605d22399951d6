use Rattle.std.proofs.Common.{◌≡◌, drop}
use Rattle.value_indices.specs.Walking.{run, seen}
use Rattle.pattern_leaves.specs.Settings.{around_of}
use Rattle.size_notes.specs.Bodies.{both_read}
use Rattle.size_notes.specs.Reading.{IsAtRest}
use Rattle.size_notes.proofs.mappings.read_both.Given as goal

abbrev pub invariant-loop-at : goal.invariant-loop-at
invariant-loop-at l =
    let m = l.forwards.direction.now in
    let n = l.backwards.direction.now in
    record {
      rest : IsAtRest (seen l.body);
      walked : run (both_read l.place (around_of l.around) m n (drop l.at l.forwards.arms.now) (drop l.at l.forwards.cores.now)
          (drop l.at l.backwards.arms.now) (drop l.at l.backwards.cores.now)) (seen l.body)
          ≡ run (both_read l.place (around_of l.around) m n l.forwards.arms.now l.forwards.cores.now l.backwards.arms.now l.backwards.cores.now)
          (seen l.initial.body);
    }
