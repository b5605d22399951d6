-- What the code makes of a form: what is found of it, but for its failures, which are noted.
use Rattle.std.specs.Prelude.{Bool, List, [], ◌∷◌, Option, Some, None, if◌then◌else◌}
use Rattle.sail_types.specs.declared.shapes.Shape.{Shape}
use Rattle.sail_core.specs.declared.tree.Core.{out-Core}
use Rattle.shape_rules.specs.declared.error.ShapeError.{ShapeError}
use Rattle.shape_rules.specs.Findings.{Found, mismatched}
use Rattle.shape_rules.specs.Calls.{place_in}
use Rattle.shape_calls.specs.declared.made.Made.{Made}

abbrev pub made_of : Found → Made
made_of found = record { shape = found.shape; core = found.core }

-- an argument that teaches two shapes of one variable, and whether a failure was noted in it
abbrev pub taught_by : Shape → Made → Bool → Option (List Shape) → List ShapeError
taught_by want made is_noted (Some learnt) = []
taught_by want made is_noted None = if is_noted then [] else mismatched (place_in (out-Core made.core)) want made.shape ∷ []
