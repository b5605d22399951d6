-- What is asked of the instances of a model: that they cover what is made, called and given in the bodies that are read for them. It is said of the notes
-- of bodies, all but the goals, which obligations give.
use Rattle.std.specs.Prelude.{◌≡◌, ℕ, zero, suc, Bool, true, List, [], ◌∷◌, slice_get, Option, Some, None}
use Rattle.sail_types.specs.declared.values.Value.{Value}
use Rattle.sail_core.specs.Numbers.{Givens, all_agree}
use Rattle.sail_core.specs.declared.model.CoreModel.{CoreModel}
use Rattle.sail_core.specs.declared.model.Direction.{Direction}
use Rattle.sail_core.specs.declared.model.Function.{Function}
use Rattle.sail_core.specs.declared.model.Opening.{Opening}
use Rattle.sail_core.specs.declared.tree.Core.{Core}
use Rattle.size_values.specs.declared.sized.Sized.{Sized}
use Rattle.value_indices.specs.Steps.{Note}
use Rattle.constraint_gen.specs.Models.{around_opening}
use Rattle.size_notes.specs.Bodies.{function_read, mapping_read, measure_read, opening_read}
use Rattle.checked_meaning.specs.Checked.{Cases, Checks}
use Rattle.checked_meaning.specs.Fits.{AllFit}
use Rattle.value_laws.specs.Belonging.{Integers}
use Rattle.note_laws.specs.Notes.{EachNote, OfOthers}
use Rattle.met_notes.specs.Met.{Pair}
use Rattle.soundness_steps.specs.Works.{Setting, Work, nobody, IsExact, IsFitted}
use Rattle.soundness_steps.specs.Noted.{OpensAs}
use Rattle.soundness_steps.specs.Covers.{IsMet}
use Rattle.soundness_steps.specs.Calls.{Enters, IsOf}
use Rattle.soundness_calls.specs.Premises.{EntersAs}
use Rattle.soundness_calls.specs.Directions.{Side, bare_type, below, is_ahead, is_back}
use Rattle.soundness_calls.specs.Events.{entered_by}

-- all notes of a definition as it is read for instances, but goals
abbrev pub AreRead : Setting → Work → (ℕ → Bool) → Cases → List Note → Type 0
AreRead set x reached cases ns = EachNote (OfOthers (IsMet set x reached cases)) ns

-- ---- a function under an instance

pub record CoversFunction (set : Setting) (k : Checks) (x : Work) (f : Function) : Type 0 where
  -- its body and its measure, for numbers that are those of the instance
  pub body : (nu : Givens) → all_agree x.instance.numbers nu ≡ true
      → AreRead set x set.covered.direction (k.function x.function x.instance.place nu) (function_read set.around f [] 0).notes
  pub measure : (nu : Givens) → all_agree x.instance.numbers nu ≡ true → (core : Core) → f.measure ≡ Some core
      → AreRead set x set.covered.direction (k.function x.function x.instance.place nu) (measure_read set.around f core [] 0).notes
  -- arguments that belong to its parameters come in at their types
  pub enters : (vs : List Value) (h : Integers) (c : Enters set x f vs h) → EntersAs set k x f vs h c

-- ---- a direction of a mapping

abbrev pub pair_of : Side → Direction → Pair
pair_of (is_ahead n) m = record { forwards = m; backwards = n }
pair_of (is_back n) m = record { forwards = n; backwards = m }

-- the side of each, of which two stand one behind the other
abbrev pub side_at : List Direction → ℕ → Option Side
side_at (m ∷ n ∷ ms) zero = Some (is_ahead n)
side_at (m ∷ n ∷ ms) (suc zero) = Some (is_back m)
side_at (m ∷ n ∷ ms) (suc (suc d)) = side_at ms d
side_at ms d = None

-- each direction stands beside the other one of its mapping
abbrev pub DirectionsPaired : CoreModel → Type 0
DirectionsPaired m = (d : ℕ) (n : Direction) → slice_get m.directions d ≡ Some n → (side : Side) × (side_at m.directions d ≡ Some side)

pub record CoversDirection (set : Setting) (rank : ℕ → ℕ) (k : Checks) (d : ℕ) (m : Direction) (side : Side) : Type 0 where
  -- both directions of its mapping; its patterns go through covered directions of a lower rank
  pub read : AreRead set nobody (below set rank d) (k.direction d) (mapping_read set.around (pair_of side m).forwards (pair_of side m).backwards [] 0).notes
  -- a value that belongs to what it takes comes in at its type
  pub takes : (v : Value) → IsOf set m.parameter v → (s : Sized) × (k.takes d v ≡ Some s)
      × (IsExact set → (g : Integers) → OpensAs set.around.types set.past nobody g (bare_type m.parameter) v s)

-- ---- all of a model

pub record Covers (set : Setting) (m : CoreModel) (k : Checks) (rank : ℕ → ℕ) : Type 0 where
  pub functions : (x : Work) (f : Function) → set.covered.function x ≡ true → (IsFitted set → AllFit set.around.types x.types x.own)
      → slice_get m.functions x.function ≡ Some f → CoversFunction set k x f
  pub directions : (d : ℕ) (n : Direction) (side : Side) → set.covered.direction d ≡ true → slice_get m.directions d ≡ Some n
      → side_at m.directions d ≡ Some side → CoversDirection set rank k d n side
  -- top-level lets and initial values, each behind the lets before it
  pub openings : (i : ℕ) (o : Opening) → slice_get m.openings i ≡ Some o
      → AreRead set nobody set.covered.direction (k.opening i) (opening_read (around_opening m i) o [] 0).notes
  -- the functions that a hart enters, each as the first of its instances
  pub step : set.covered.function (entered_by m.step) ≡ true
  pub reset : set.covered.function (entered_by m.reset) ≡ true
