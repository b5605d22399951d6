-- What is so of the instances and mappings that are found without refusal: in the bodies that are read for each, sizes are constants within their limits,
-- numbers that calls give are constants below the largest integer, and what is called is among them (Sail language manual, "Type variables").
use Rattle.std.specs.Prelude.{◌≡◌, ◌<◌, ℕ, ℤ, pos, int_le, ◌/◌, Bool, true, false, not, List, [], ◌∷◌, length, map, slice_get, Option, Some, Ok}
use Rattle.std.specs.List.{list_all, list_any}
use Rattle.sail_types.specs.Limits.{largest}
use Rattle.sail_types.specs.declared.numbers.Index.{Index}
use Rattle.sail_core.specs.declared.tree.Callee.{Callee}
use Rattle.sail_core.specs.declared.tree.Callee.TheVariants as D
use Rattle.value_indices.specs.Steps.{Note, call_note, size_note, way_note}
use Rattle.value_indices.specs.declared.indices.Indices.{Indices}
use Rattle.value_indices.specs.declared.indices.Reading.{Reading}
use Rattle.value_indices.specs.declared.notes.Fact.{Fact}
use Rattle.value_indices.specs.declared.notes.Made.{Made}
use Rattle.size_values.specs.declared.constants.Constant.{Constant}
use Rattle.size_values.specs.declared.constants.Constant.TheVariants as C
use Rattle.size_values.specs.declared.constants.Picked.{Picked}
use Rattle.size_values.specs.declared.sized.Sized.{Sized}
use Rattle.size_values.specs.Numbers.{index_under, known_of}
use Rattle.size_values.specs.Sizes.{joined, reading_sizes, value_sizes}
use Rattle.size_splits.specs.Bodies.{Body}
use Rattle.size_splits.specs.Sizing.{first_named, given_indices, made_facts, made_indices}
use Rattle.size_splits.specs.Splits.{counted}
use Rattle.split_laws.specs.Counted.{IsIn}
use Rattle.monomorph.specs.declared.found.Found.{Found}
use Rattle.monomorph.specs.declared.found.Found.TheVariants as F
use Rattle.monomorph.specs.Found.{found_eq}
use Rattle.monomorph.specs.Instances.{entry, found_from, one_or_none, or_none}
use Rattle.monomorph.specs.Lasts.{Model}
use Rattle.monomorph.specs.Reading.{Inside, instance_of, reading_of, under}
use Rattle.sized_trees.specs.Within.{all_within}
use Rattle.note_laws.specs.Notes.{EachNote}

abbrev pub IsAmong : Found → List Found → Type 0
IsAmong x found = list_any (found_eq x) found ≡ true

-- ---- notes, under each combination of numbers that counts there

abbrev pub CalleeIsAmong : Inside → (ℕ → Constant) → Callee → List Index → List Reading → List Found → Type 0
CalleeIsAmong r of (D.Function f) js qs found = IsAmong (F.Function (instance_of r of f js qs)) found
CalleeIsAmong r of (D.Converts d) js qs found = IsAmong (F.Mapping (d / 2)) found
CalleeIsAmong r of (D.Applies d) js qs found = IsAmong (F.Mapping (d / 2)) found
CalleeIsAmong r of callee js qs found = Unit {0}

-- numbers below the largest integer, for which one past it counts
abbrev pub is_given : Constant → Bool
is_given (C.Number z) = not (int_le (pos largest) z)
is_given c = false

abbrev pub all_given : List Constant → Bool
all_given cs = list_all is_given cs

pub record CallIsRead (r : Inside) (operands : List Indices) (callee : Callee) (js : List Index) (qs : List Reading) (ps : List Picked) (found : List Found)
    : Type 0 where
  pub numbers : all_given (map (index_under (under r ps)) (given_indices r.sizing callee operands js)) ≡ true
  pub types : all_within (joined (map (reading_sizes r.types (under r ps)) qs)) ≡ true
  pub is_among : CalleeIsAmong r (under r ps) callee js qs found

-- each of these that counts under facts, with those of a type that is opened
abbrev pub UnderEach : Inside → List Fact → List Fact → (List Picked → Type 0) → Type 0
UnderEach r facts own P = (ps : List Picked) → IsIn ps (counted (known_of r.numbers) r.split facts own) → P ps

abbrev pub SizeIsRead : Inside → Made → Option ℕ → List Picked → Type 0
SizeIsRead r made named ps = all_within (value_sizes r.types (under r ps) (made_indices r.variables made named)) ≡ true

-- a note, where this type variable is named behind it
abbrev pub NoteIsRead : Inside → List Found → Note → Option ℕ → Type 0
NoteIsRead r found (size_note facts place made) named = UnderEach r facts (made_facts r.variables made named) (SizeIsRead r made named)
NoteIsRead r found (call_note facts place k operands callee js qs) named =
    UnderEach r facts [] (λ ps. CallIsRead r operands callee js qs ps found)
NoteIsRead r found (way_note facts d) named = UnderEach r facts [] (λ ps. IsAmong (F.Mapping (d / 2)) found)
NoteIsRead r found note named = Unit {0}

abbrev pub NotesAreRead : Inside → List Found → List Note → Type 0
NotesAreRead r found [] = Unit {0}
NotesAreRead r found (n ∷ ns) = NoteIsRead r found n (first_named ns) × NotesAreRead r found ns

-- ---- bodies

abbrev pub BodiesAreRead : Model → List (Option ℤ) → List Sized → List Body → List Found → Type 0
BodiesAreRead m zs own bs found = (b : Body) → IsIn b bs → NotesAreRead (reading_of m.core.types m.sizing zs own b) found b.notes

abbrev pub IsRead : Model → List Found → Found → Type 0
IsRead m found (F.Function y) = BodiesAreRead m y.numbers y.types (or_none (slice_get m.bodies.functions y.function)) found
IsRead m found (F.Mapping i) = BodiesAreRead m [] [] (one_or_none (slice_get m.bodies.mappings i)) found

-- ---- mappings that are named are those of the model

-- each mapping that a note names is such
abbrev pub CalleeNames : (ℕ → Type 0) → Callee → Type 0
CalleeNames P (D.Converts d) = P (d / 2)
CalleeNames P (D.Applies d) = P (d / 2)
CalleeNames P callee = Unit {0}

abbrev pub Names : (ℕ → Type 0) → Note → Type 0
Names P (call_note facts place k operands callee js qs) = CalleeNames P callee
Names P (way_note facts d) = P (d / 2)
Names P note = Unit {0}

abbrev pub AllName : (ℕ → Type 0) → List Body → Type 0
AllName P bs = (b : Body) → IsIn b bs → EachNote (Names P) b.notes

pub record BodiesName (P : ℕ → Type 0) (m : Model) : Type 0 where
  pub functions : (i : ℕ) (bs : List Body) → slice_get m.bodies.functions i ≡ Some bs → AllName P bs
  pub mappings : AllName P m.bodies.mappings
  pub openings : AllName P m.bodies.openings

abbrev pub MappingsAreThere : Model → Type 0
MappingsAreThere m = BodiesName (λ i. i < length m.bodies.mappings) m

-- top-level lets and initial values, and whatever is found
abbrev pub ListsAreRead : Type 0
ListsAreRead = (m : Model) (all : List Found) → MappingsAreThere m → found_from m (entry m.core.reset ∷ entry m.core.step ∷ []) ≡ Ok all
    → BodiesAreRead m [] [] m.bodies.openings all × ((x : Found) → IsIn x all → IsRead m all x)
