-- From obligations to what is asked of walks: where every obligation of a model holds, all that a walk over one of its definitions notes is met
-- once the notes but goals are of the definition as instances read it.
use Rattle.std.specs.Prelude.{◌≡◌, ℕ, Bool, List, [], ◌∷◌, slice_get, Some}
use Rattle.sail_core.specs.declared.model.CoreModel.{CoreModel}
use Rattle.sail_core.specs.declared.model.Direction.{Direction}
use Rattle.sail_core.specs.declared.model.Function.{Function}
use Rattle.sail_core.specs.declared.model.Opening.{Opening}
use Rattle.sail_core.specs.declared.tree.Core.{Core}
use Rattle.value_indices.specs.Steps.{Note}
use Rattle.pattern_leaves.specs.Settings.{Around}
use Rattle.expression_steps.specs.Expressions.{part}
use Rattle.function_notes.specs.Functions.{function_walk, mapping_walk, measure_walk}
use Rattle.constraint_gen.specs.Models.{around_of, around_opening, opening_walk}
use Rattle.constraint_gen.specs.Obligations.{obligations}
use Rattle.size_notes.specs.Bodies.{function_read, mapping_read, measure_read, opening_read}
use Rattle.goal_laws.specs.Goals.{AllHold}
use Rattle.note_laws.specs.Notes.{EachNote, OfOthers}
use Rattle.checked_meaning.specs.Checked.{Cases}
use Rattle.soundness_steps.specs.Works.{Setting, Work}
use Rattle.soundness_steps.specs.Covers.{AreMet, IsMet}

-- both directions of a mapping, which stand one behind the other
pub record Pair : Type 0 where
  pub forwards : Direction
  pub backwards : Direction

abbrev pub pairs : List Direction → List Pair
pairs (m ∷ n ∷ ms) = record { forwards = m; backwards = n } ∷ pairs ms
pairs ms = []

-- where what is read covers all but goals, all that a walk notes is met
abbrev pub MetWhere : List Note → List Note → Type 0
MetWhere read walked = (set : Setting) (work : Work) (reached : ℕ → Bool) (cases : Cases)
    → EachNote (OfOthers (IsMet set work reached cases)) read → AreMet set work reached cases walked

pub record WalksAreMet (m : CoreModel) (around : Around) : Type 0 where
  pub function : (i : ℕ) (f : Function) → slice_get m.functions i ≡ Some f
      → MetWhere (function_read around f [] 0).notes (function_walk around f [] 0).notes
  pub measure : (i : ℕ) (f : Function) → slice_get m.functions i ≡ Some f → (measure : Core) → f.measure ≡ Some measure
      → MetWhere (measure_read around f measure [] 0).notes (measure_walk around f measure [] 0).notes
  pub mapping : (i : ℕ) (p : Pair) → slice_get (pairs m.directions) i ≡ Some p
      → MetWhere (mapping_read around p.forwards p.backwards [] 0).notes (mapping_walk around p.forwards p.backwards [] 0).notes
  -- behind the lets before it
  pub opening : (i : ℕ) (o : Opening) → slice_get m.openings i ≡ Some o
      → MetWhere (opening_read (around_opening m i) o [] 0).notes (opening_walk (around_opening m i) o.place o.kind (part o.value) [] 0).notes

abbrev pub NotesAreMet : Type 0
NotesAreMet = (m : CoreModel) → AllHold (obligations m) → WalksAreMet m (around_of m)
