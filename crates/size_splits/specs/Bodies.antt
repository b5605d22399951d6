-- What is read of a definition of a model.
use Rattle.std.specs.Prelude.{ℕ, List, map}
use Rattle.value_indices.specs.Steps.{Note}
use Rattle.value_indices.specs.Walking.{begun, steps_read}
use Rattle.size_splits.specs.declared.bodies.BodySteps.{BodySteps}

-- the notes of the walks over a definition, how many variables they have, and their names
pub record Body : Type 0 where
  pub notes : List Note
  pub variables : ℕ
  pub names : List (List ℕ)

-- as the code has it: by its steps
abbrev pub body_read : BodySteps → Body
body_read b = record { notes = (steps_read (begun 0) b.steps).notes; variables = b.variables; names = b.names }

-- those of each function
abbrev pub bodies_read : List (List BodySteps) → List (List Body)
bodies_read bodies = map (map body_read) bodies
