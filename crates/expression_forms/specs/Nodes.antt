-- Where a value comes to the type that is wanted of it.
use Rattle.std.specs.Prelude.{List, None, Option, Some, ℕ, [], ◌∷◌}
use Rattle.value_indices.specs.Steps.{Walk, bind, give}
use Rattle.value_indices.specs.declared.indices.Indices.{Indices}
use Rattle.value_indices.specs.declared.indices.Indices.TheOpen as W
use Rattle.value_indices.specs.declared.indices.Indices.TheOpen.{Reading-F}
use Rattle.value_indices.specs.declared.indices.Reading.{Reading, out-Reading}
use Rattle.value_indices.specs.declared.notes.Made.{Made}
use Rattle.value_indices.specs.declared.notes.Made.TheVariants as Makes
use Rattle.call_arguments.specs.declared.aims.Aim.{Aim}
use Rattle.call_arguments.specs.declared.aims.Aim.TheVariants as Aims
use Rattle.call_notes.specs.Noted.{node_given, node_made, numbers_noted}

-- ---- the end of a branch or a body, and what is bound, matched, thrown or returned

-- the type that the expression owes itself: what stands behind it knows the type alone
abbrev pub owed_type : Aim → Option Reading
owed_type (Aims.Due r) = Some r
owed_type aim = None

-- a value of that type, and else what it is
abbrev pub made_for : Option Reading → Indices → Made
made_for None i = Makes.ByIndices i
made_for (Some r) i = Makes.ByType r

abbrev pub cast_ended : ℕ → Aim → Indices → Walk Indices
cast_ended k aim i = bind (node_made k (i ∷ []) (made_for (owed_type aim) i)) (λ t. give i)

-- with the numbers that it gives
abbrev pub cast_given : ℕ → Aim → Indices → Walk Indices
cast_given k aim i = bind (cast_ended k aim i) (node_given k)

-- ---- what gets a new value, at its own number: a value of its type, where one is known

abbrev pub form_made : Reading-F Indices Reading → Reading → Indices → Made
form_made W.Hole r i = Makes.ByIndices i
form_made form r i = Makes.ByType r

abbrev pub put : ℕ → List Indices → Reading → Indices → Walk (Unit {0})
put k is r i = bind (node_made k is (form_made (out-Reading r) r i)) (λ t. numbers_noted k i)
