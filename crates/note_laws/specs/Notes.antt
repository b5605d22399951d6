-- Instances are read from other walks than obligations: clause by clause, with the sizes of types. But for goals all notes of the walks of obligations
-- are among those.
use Rattle.std.specs.Prelude.{◌≡◌, List, [], ◌∷◌, ℕ, slice_get, Some}
use Rattle.sail_core.specs.declared.model.Direction.{Direction}
use Rattle.sail_core.specs.declared.model.Function.{Function}
use Rattle.sail_core.specs.declared.model.Opening.{Opening}
use Rattle.sail_core.specs.declared.tree.Core.{Core}
use Rattle.value_indices.specs.Steps.{Note, goal_note}
use Rattle.pattern_leaves.specs.Settings.{Around}
use Rattle.expression_steps.specs.Expressions.{part}
use Rattle.function_notes.specs.Functions.{function_walk, mapping_walk, measure_walk}
use Rattle.constraint_gen.specs.Models.{opening_walk}
use Rattle.size_notes.specs.Bodies.{function_read, mapping_read, measure_read, opening_read}

-- a note that is one of these
abbrev pub IsAmong : List Note → Note → Type 0
IsAmong ns n = (i : ℕ) × (slice_get ns i ≡ Some n)

-- what is so of each of these, and of each but goals
abbrev pub EachNote : (Note → Type 0) → List Note → Type 0
EachNote P [] = Unit {0}
EachNote P (n ∷ ns) = P n × EachNote P ns

abbrev pub OfOthers : (Note → Type 0) → Note → Type 0
OfOthers P (goal_note facts place goal) = Unit {0}
OfOthers P n = P n

abbrev pub AllRead : List Note → List Note → Type 0
AllRead ns ms = EachNote (OfOthers (IsAmong ns)) ms

pub record HasNotes (around : Around) : Type 0 where
  pub function : (f : Function) → AllRead (function_read around f [] 0).notes (function_walk around f [] 0).notes
  pub measure : (f : Function) (measure : Core) → AllRead (measure_read around f measure [] 0).notes (measure_walk around f measure [] 0).notes
  pub mapping : (m n : Direction) → AllRead (mapping_read around m n [] 0).notes (mapping_walk around m n [] 0).notes
  pub opening : (o : Opening) → AllRead (opening_read around o [] 0).notes (opening_walk around o.place o.kind (part o.value) [] 0).notes

abbrev pub BodiesHaveNotes : Type 0
BodiesHaveNotes = (around : Around) → HasNotes around
