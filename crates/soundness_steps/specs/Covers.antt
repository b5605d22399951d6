-- When the notes of a walk are met: obligations hold, and the instances and the cases of their nodes cover what is made, called and given. It is
-- all that soundness asks of obligations and of instances.
use Rattle.std.specs.Prelude.{◌≡◌, ◌≤ℤ◌, ℕ, pos, Bool, true, List, [], ◌∷◌, map, Option, Some, None}
use Rattle.sail_types.specs.Belongs.{Reading as Closed}
use Rattle.sail_types.specs.Numbers.{Positive, number, true_in}
use Rattle.sail_types.specs.Places.{Given, an_int, a_bool}
use Rattle.sail_types.specs.declared.numbers.Con.{Con}
use Rattle.sail_types.specs.declared.numbers.Index.{Index}
use Rattle.sail_types.specs.declared.numbers.Index.TheVariants as N
use Rattle.sail_types.specs.declared.numbers.Num.{Num}
use Rattle.sail_types.specs.declared.values.Value.{Value}
use Rattle.sail_core.specs.Numbers.{Instance}
use Rattle.sail_core.specs.declared.tree.Callee.{Callee}
use Rattle.sail_core.specs.declared.tree.Callee.TheVariants as D
use Rattle.size_values.specs.Numbers.{value_of}
use Rattle.size_values.specs.declared.sized.Sized.{Sized}
use Rattle.value_indices.specs.declared.indices.Indices.{Indices, out-Indices}
use Rattle.value_indices.specs.declared.indices.Indices.TheOpen as W
use Rattle.value_indices.specs.declared.indices.Indices.TheOpen.{Indices-F}
use Rattle.value_indices.specs.declared.indices.Reading.{Reading}
use Rattle.value_indices.specs.declared.notes.Fact.{Fact}
use Rattle.value_indices.specs.declared.notes.Made.{Made}
use Rattle.value_indices.specs.declared.notes.Made.TheVariants as Makes
use Rattle.value_indices.specs.Steps.{Note, goal_note, size_note, made_note, call_note, way_note, given_note, name_note, conditions}
use Rattle.checked_meaning.specs.Checked.{Noted, Cases}
use Rattle.checked_meaning.specs.Fits.{AllFit}
use Rattle.value_laws.specs.Belonging.{Integers, has, is_of, standing, closed}
use Rattle.value_laws.specs.Known.{AllTrue}
use Rattle.size_laws.specs.Told.{reading_told}
use Rattle.soundness_steps.specs.Works.{IsExact, Work, Setting, IsFitted}
use Rattle.soundness_steps.specs.Noted.{IsSo, OpensAs, variables_given, with_given, known, sized, type_sized, is_made, MadeAs}

-- ---- sizes: a width is from 0 to 128, a length from 0 to 4,096, and no number past the largest integer is on the way

abbrev pub IsSize : Positive → Integers → Num → ℕ → Type 0
IsSize past f t largest = (value_of (known f) t ≡ Some (number (standing past f) t)) × (pos 0 ≤ℤ number (standing past f) t)
    × (number (standing past f) t ≤ℤ pos largest)

abbrev pub FormFits : Positive → Integers → Indices-F Indices Reading → Type 0
FormFits past f (W.Bits t) = IsSize past f t 128
FormFits past f (W.Vector t r) = IsSize past f t 4096
FormFits past f form = Unit {0}

-- a value of a type is opened at the type that it tells, where that is of matter
abbrev pub SizesFit : Setting → Work → Integers → Made → Type 0
SizesFit set work f (Makes.ByIndices i) = FormFits set.past f (out-Indices i)
SizesFit set work f (Makes.ByType r) = IsExact set → (v : Value) → is_of set.around.types (standing set.past f) work.types r v ≡ true
    → OpensAs set.around.types set.past work f r v (reading_told set.around.types work.own (known f) r v)

-- ---- calls: what is awaited are numbers that the call gives

abbrev pub given_there : Positive → Integers → Index → Given
given_there past f (N.Number t) = an_int (number (standing past f) t)
given_there past f (N.Truth c) = a_bool (true_in (standing past f) c)

abbrev pub Agrees : Positive → Integers → Option Given → Index → Type 0
Agrees past f None i = Unit {0}
Agrees past f (Some g) i = g ≡ given_there past f i

abbrev pub AllAgree : Positive → Integers → List (Option Given) → List Index → Type 0
AllAgree past f [] [] = Unit {0}
AllAgree past f (g ∷ gs) (i ∷ is) = Agrees past f g i × AllAgree past f gs is
AllAgree past f gs is = ⊥

module _ (set : Setting) (work : Work) where
  -- operands of these indices
  abbrev pub AreSized : Integers → List Indices → List Sized → Type 0
  AreSized f [] [] = Unit {0}
  AreSized f (i ∷ is) (s ∷ ss) = (IsExact set → s ≡ sized set.around.types work.own f i) × AreSized f is ss
  AreSized f is ss = ⊥

  -- the node's value is made at a type that is right there
  pub record HasCase (f : Integers) (made : Made) (v : Value) (found : Option Sized) : Type 0 where
    pub typ : Sized
    pub is_there : found ≡ Some typ
    pub is_right : IsExact set → MadeAs set.around.types set.past work f made v typ

  -- there is an instance, it is covered whatever its Type variables stand for, and its numbers and sized types are those of the call; one is awaited in
  -- its place, of whose numbers none is another; and where it is taken so, values of what the call gives to Type variables have those sizes
  pub record Leads (f : Integers) (function : ℕ) (js : List Index) (qs : List Reading) (found : Option Instance) : Type 0 where
    pub instance : Instance
    pub awaited : List (Option Given)
    pub is_there : found ≡ Some (record { place = instance.place; numbers = awaited })
    pub awaits : AllAgree set.past f awaited js
    pub agree : AllAgree set.past f instance.numbers js
    pub is_covered : (types : List Closed)
        → set.covered.function
        (record { function = function; instance = instance; own = map (type_sized set.around.types work.own f) qs; types = types }) ≡ true
    pub own_fit : IsFitted set → AllFit set.around.types (map (closed set.around.types (standing set.past f) work.types) qs)
        (map (type_sized set.around.types work.own f) qs)

  -- more numbers are noted, and nothing else is known than before but that
  pub record Notes (f : Integers) (facts : List Fact) (vs : List ℕ) (found : Option Noted) : Type 0 where
    pub more : Noted
    pub is_there : found ≡ Some more
    pub is_so : IsSo set.past work more f (with_given facts vs)

  -- ---- notes, each wherever what is in force at it is so

  abbrev pub GoalHolds : List Fact → Con → Type 0
  GoalHolds facts goal = (f : Integers) → AllTrue (standing set.past f) (conditions facts) → true_in (standing set.past f) goal ≡ true

  abbrev pub CoversCall : Cases → List Fact → ℕ → List Indices → Callee → List Index → List Reading → Type 0
  CoversCall cases facts k operands (D.Function function) js qs = (f : Integers) (noted : Noted) → IsSo set.past work noted f facts
      → (ss : List Sized) → AreSized f operands ss → Leads f function js qs (cases.calls k ss noted)
  CoversCall cases facts k operands (D.Converts d) js qs = (f : Integers) (noted : Noted) → IsSo set.past work noted f facts → set.covered.direction d ≡ true
  CoversCall cases facts k operands callee js qs = Unit {0}

  abbrev pub IsMet : (ℕ → Bool) → Cases → Note → Type 0
  IsMet reached cases (goal_note facts place goal) = GoalHolds facts goal
  IsMet reached cases (size_note facts place made) = (f : Integers) (noted : Noted) → IsSo set.past work noted f facts
      → SizesFit set work f made
  IsMet reached cases (made_note facts k operands made) = (f : Integers) (noted : Noted) → IsSo set.past work noted f facts
      → (ss : List Sized) → AreSized f operands ss → (v : Value) → is_made set.around.types set.past work f made v ≡ true
      → HasCase f made v (cases.makes k ss v noted)
  IsMet reached cases (call_note facts place k operands callee js qs) = CoversCall cases facts k operands callee js qs
  IsMet reached cases (way_note facts d) = (f : Integers) (noted : Noted) → IsSo set.past work noted f facts → reached d ≡ true
  IsMet reached cases (given_note facts k i) = (f : Integers) (noted : Noted) → IsSo set.past work noted f facts
      → (v : Value) → has set.around.types (standing set.past f) work.types i v ≡ true → Notes f facts (variables_given i) (cases.notes k v noted)
  IsMet reached cases (name_note v name) = Unit {0}

  abbrev pub AreMet : (ℕ → Bool) → Cases → List Note → Type 0
  AreMet reached cases [] = Unit {0}
  AreMet reached cases (n ∷ ns) = IsMet reached cases n × AreMet reached cases ns
