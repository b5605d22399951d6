use Rattle.std.proofs.Common.{◌≡◌, ◌++◌, drop, take}
use Rattle.value_indices.specs.Force.{IsInForce}
use Rattle.value_indices.specs.Walking.{begun, steps_read}
use Rattle.size_values.specs.Numbers.{known_of}
use Rattle.size_splits.specs.Reading.{notes_behind}
use Rattle.size_splits.specs.Telling.{told_in}
use Rattle.monomorph.specs.Reading.{inside_of}
use Rattle.sized_trees.specs.Bodies.{at_notes}
use Rattle.sized_models.proofs.bodies.at_steps.Given as goal

abbrev pub invariant-loop-at : goal.invariant-loop-at
invariant-loop-at l = record {
  force : IsInForce (told_in (known_of l.inside.numbers.now) l.inside.split.now (steps_read (begun 0) (take l.at l.steps)))
      l.facts.items l.marks;
  said : l.nodes ++ at_notes (inside_of l.inside) l.list (notes_behind (steps_read (begun 0) (take l.at l.steps)) (drop l.at l.steps))
      ≡ at_notes (inside_of l.inside) l.list (steps_read (begun 0) l.steps).notes;
}
