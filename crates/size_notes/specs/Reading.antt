-- How the code writes the steps of a body: those of each clause by themselves, with the sizes of written types among them.
use Rattle.std.specs.Prelude.{◌≡◌, ℕ, List, [], ◌∷◌, ◌++◌, map, Option, Some, None}
use Rattle.linear.specs.Choices.{joined}
use Rattle.value_indices.specs.declared.notes.Made.TheVariants as Makes
use Rattle.value_indices.specs.declared.notes.Step.{Step}
use Rattle.value_indices.specs.declared.notes.Step.TheVariants as S
use Rattle.value_indices.specs.Walking.{Written}
use Rattle.constraint_gen.specs.Obligations.{names_of}
use Rattle.size_splits.specs.Bodies.{Body}
use Rattle.size_notes.specs.declared.written.WrittenSize.{WrittenSize}
use Rattle.size_notes.specs.declared.behind.Behind.{Behind}
use Rattle.size_notes.specs.Behind.{notes_with, size_behind}

-- nothing is in force, nor remembered
pub record IsAtRest (w : Written) : Type 0 where
  pub facts : w.facts ≡ []
  pub remembered : w.remembered ≡ []

abbrev pub size_step : WrittenSize → Step
size_step s = S.Sizes s.place (Makes.ByIndices s.size)

-- the size, if it is one behind the node of this number
abbrev pub step_behind : ℕ → Behind → List Step
step_behind k b = map size_step (size_behind k b)

abbrev pub steps_behind : ℕ → List Behind → List Step
steps_behind k bs = joined (map (step_behind k) bs)

-- the number of the node that a step is about
abbrev pub made_number : Step → Option ℕ
made_number (S.Makes k operands made) = Some k
made_number step = None

abbrev pub steps_at : Option ℕ → List Behind → List Step
steps_at None bs = []
steps_at (Some k) bs = steps_behind k bs

abbrev pub step_with : List Behind → Step → List Step
step_with bs step = step ∷ steps_at (made_number step) bs

abbrev pub steps_with : List Behind → List Step → List Step
steps_with bs steps = joined (map (step_with bs) steps)

-- behind these, the notes of a walk of its own
abbrev pub with_alone : List Behind → Written → Written → Written
with_alone bs v w = record w { next = v.next; notes = w.notes ++ notes_with bs v.notes }

-- the body that is written down so far
abbrev pub body_seen : Written → Body
body_seen w = record { notes = w.notes; variables = w.next; names = names_of w.next w.notes }
