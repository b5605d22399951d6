use Rattle.std.proofs.Common.{◌≡◌, ◌&&◌, drop, take}
use Rattle.value_indices.specs.Force.{IsInForce}
use Rattle.value_indices.specs.Walking.{begun, steps_read}
use Rattle.size_values.specs.Numbers.{known_of}
use Rattle.size_splits.specs.Reading.{notes_behind}
use Rattle.size_splits.specs.Telling.{told_in}
use Rattle.monomorph.specs.Reading.{inside_of}
use Rattle.tabled_cores.specs.Bodies.{notes_tabled}
use Rattle.tabled_models.proofs.bodies.steps_tabled.Given as goal

abbrev pub invariant-loop-at : goal.invariant-loop-at
invariant-loop-at l = record {
  force : IsInForce (told_in (known_of l.inside.numbers.now) l.inside.split.now (steps_read (begun 0) (take l.at l.steps)))
      l.facts.items l.marks;
  said : (l.tested && notes_tabled l.given l.list (inside_of l.inside) (notes_behind (steps_read (begun 0) (take l.at l.steps)) (drop l.at l.steps)))
      ≡ notes_tabled l.given l.list (inside_of l.inside) (steps_read (begun 0) l.steps).notes;
}
