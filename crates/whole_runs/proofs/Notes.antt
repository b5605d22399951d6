-- That a note is met hangs on types, on the integer that powers past the largest are taken for and on what is covered alone; where there is no mapping,
-- all that are there are covered.
use Rattle.std.proofs.Common.{refl, ℕ, Bool, true, List, [], ◌∷◌, Option}
use Rattle.sail_types.specs.declared.numbers.Index.{Index}
use Rattle.sail_types.specs.declared.values.Value.{Value}
use Rattle.sail_core.specs.Numbers.{Instance}
use Rattle.sail_core.specs.declared.tree.Callee.{Callee}
use Rattle.sail_core.specs.declared.tree.Callee.TheVariants as D
use Rattle.size_values.specs.declared.sized.Sized.{Sized}
use Rattle.value_indices.specs.declared.indices.Indices.{Indices}
use Rattle.value_indices.specs.declared.indices.Reading.{Reading}
use Rattle.value_indices.specs.declared.notes.Fact.{Fact}
use Rattle.value_indices.specs.declared.notes.Made.{Made}
use Rattle.value_indices.specs.Steps.{Note, call_note, given_note, goal_note, made_note, name_note, size_note, way_note}
use Rattle.pattern_leaves.specs.Settings.{Around}
use Rattle.checked_meaning.specs.Checked.{Cases, Noted}
use Rattle.value_laws.specs.Belonging.{Integers}
use Rattle.note_laws.specs.Notes.{EachNote, OfOthers}
use Rattle.soundness_steps.specs.Works.{Setting, Work}
use Rattle.soundness_steps.specs.Noted.{variables_given}
use Rattle.soundness_steps.specs.Covers.{AreSized, CoversCall, HasCase, IsMet, Leads, Notes}

module _ (set : Setting) (around : Around) (hart : ℕ) (x : Work) (reached : ℕ → Bool) (cases : Cases) where
  -- another setting of the same types, with no mapping
  abbrev other : Setting
  other = record {
    around = record around { types = set.around.types };
    past = set.past;
    hart = hart;
    covered = record set.covered { direction = λ d. true };
  }

  are_sized : (f : Integers) (is : List Indices) (ss : List Sized) → AreSized other x f is ss → AreSized set x f is ss
  are_sized f [] [] h = h
  are_sized f (i ∷ is) (s ∷ ss) h = (h.0, are_sized f is ss h.1)
  are_sized f [] (s ∷ ss) h = h
  are_sized f (i ∷ is) [] h = h

  has_case : (f : Integers) (made : Made) (v : Value) (found : Option Sized) → HasCase set x f made v found → HasCase other x f made v found
  has_case f made v found h = record { typ = h.typ; is_there = h.is_there; is_right = h.is_right }

  leads : (f : Integers) (function : ℕ) (js : List Index) (qs : List Reading) (found : Option Instance) → Leads set x f function js qs found
      → Leads other x f function js qs found
  leads f function js qs found h = record {
    instance = h.instance;
    awaited = h.awaited;
    awaits = h.awaits;
    is_there = h.is_there;
    agree = h.agree;
    is_covered = h.is_covered;
    own_fit = h.own_fit;
  }

  notes : (f : Integers) (facts : List Fact) (vs : List ℕ) (found : Option Noted) → Notes set x f facts vs found → Notes other x f facts vs found
  notes f facts vs found h = record { more = h.more; is_there = h.is_there; is_so = h.is_so }

  calls : (facts : List Fact) (k : ℕ) (operands : List Indices) (callee : Callee) (js : List Index) (qs : List Reading)
      → CoversCall set x cases facts k operands callee js qs → CoversCall other x cases facts k operands callee js qs
  calls facts k operands (D.Function function) js qs h = λ f noted so ss sized.
      leads f function js qs (cases.calls k ss noted) (h f noted so ss (are_sized f operands ss sized))
  calls facts k operands (D.Row row) js qs h = tt
  calls facts k operands (D.Constructor u c) js qs h = tt
  calls facts k operands (D.Converts d) js qs h = λ f noted so. refl
  calls facts k operands (D.Applies d) js qs h = tt

  met : (n : Note) → OfOthers (IsMet set x reached cases) n → OfOthers (IsMet other x (λ d. true) cases) n
  met (goal_note facts place goal) h = tt
  met (size_note facts place made) h = h
  met (made_note facts k operands made) h = λ f noted so ss sized v is.
      has_case f made v (cases.makes k ss v noted) (h f noted so ss (are_sized f operands ss sized) v is)
  met (call_note facts place k operands callee js qs) h = calls facts k operands callee js qs h
  met (way_note facts d) h = λ f noted so. refl
  met (given_note facts k i) h = λ f noted so v is. notes f facts (variables_given i) (cases.notes k v noted) (h f noted so v is)
  met (name_note v name) h = tt

  pub all_met : (ns : List Note) → EachNote (OfOthers (IsMet set x reached cases)) ns → EachNote (OfOthers (IsMet other x (λ d. true) cases)) ns
  all_met [] h = tt
  all_met (n ∷ ns) h = (met n h.0, all_met ns h.1)
