use Rattle.std.proofs.Common.{◌≡◌, drop}
use Rattle.value_indices.specs.Walking.{run, seen}
use Rattle.size_notes.specs.Bodies.{parameters_read}
use Rattle.size_notes.proofs.parameters.read_parameters.Given as goal

abbrev pub invariant-loop-at : goal.invariant-loop-at
invariant-loop-at l = run (parameters_read l.numbers (drop l.at l.patterns) (drop l.at l.types)) (seen l.walking)
    ≡ run (parameters_read l.numbers l.patterns l.types) (seen l.initial.walking)
