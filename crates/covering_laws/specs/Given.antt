-- Checks that ask no table of constants: what a node makes has the type that its walk says, worked out from the numbers of the instance, from those that
-- are noted, and from those that the value gives by itself; and what is tested of bodies so that it is right (Sail language manual, "Type variables").
use Rattle.std.specs.Prelude.{ℕ, ℤ, pos, nat_eq, Bool, true, ◌&&◌, ◌||◌, List, [], ◌∷◌, length, Option, Some, None, is_some, option_map}
use Rattle.std.specs.Prelude.{if◌then◌else◌}
use Rattle.std.specs.List.{list_all, list_any}
use Rattle.sail_types.specs.Places.{first, only}
use Rattle.sail_types.specs.declared.numbers.Index.{Index}
use Rattle.sail_types.specs.declared.table.Types.{Types}
use Rattle.sail_types.specs.declared.values.Value.{Value}
use Rattle.sail_core.specs.Numbers.{Instance as Awaits}
use Rattle.sail_core.specs.declared.tree.Callee.{Callee}
use Rattle.sail_core.specs.declared.tree.Callee.TheVariants as D
use Rattle.value_indices.specs.Steps.{Note, call_note, made_note, size_note}
use Rattle.value_indices.specs.declared.indices.Indices.{Indices}
use Rattle.value_indices.specs.declared.indices.Reading.{Reading}
use Rattle.value_indices.specs.declared.notes.Fact.{Fact}
use Rattle.value_indices.specs.declared.notes.Made.{Made}
use Rattle.value_indices.specs.declared.notes.Made.TheVariants as Makes
use Rattle.size_values.specs.declared.constants.Constant.{Constant}
use Rattle.size_values.specs.declared.constants.Constant.TheVariants as C
use Rattle.size_values.specs.declared.constants.Picked.{Picked}
use Rattle.size_values.specs.declared.sized.Sized.{Sized}
use Rattle.size_values.specs.Numbers.{known_of}
use Rattle.size_values.specs.Sized.{value_sized}
use Rattle.size_laws.specs.Told.{reading_told}
use Rattle.size_splits.specs.Bodies.{Body}
use Rattle.size_splits.specs.Sizing.{Sizing, flags_of}
use Rattle.size_splits.specs.Splits.{counted}
use Rattle.sized_nodes.specs.declared.trees.Instance.{Instance}
use Rattle.monomorph.specs.Reading.{Inside, instance_of, under}
use Rattle.checked_meaning.specs.Checked.{Cases, Noted}
use Rattle.sized_trees.specs.Cases.{place_in}
use Rattle.sized_trees.specs.Within.{is_number}
use Rattle.sized_trees.specs.Combinations.{is_given}
use Rattle.sized_meanings.specs.Noting.{noted_by, noted_by_all}
use Rattle.sized_meanings.specs.Present.{gives_at}
use Rattle.sized_meanings.specs.Sized.{numbers_of}
use Rattle.soundness_steps.specs.Noted.{variables_given}
use Rattle.told_sizes.specs.Among.{index_among, reading_among, value_among}
use Rattle.told_sizes.specs.Exact.{only_if}
use Rattle.node_counts.specs.Told.{NoteIn, all_noted}
use Rattle.tabled_cores.specs.Notes.{type_given}
use Rattle.covering_laws.specs.Tested.{all_nodes, inside}

-- ---- constants at a moment

abbrev pub or_noted : Option ℤ → Option ℤ → Constant
or_noted (Some z) o = C.Number z
or_noted None (Some z) = C.Number z
or_noted None None = C.Number (pos 0)

abbrev pub now : List (Option ℤ) → Noted → ℕ → Constant
now zs noted v = or_noted (known_of zs v) (noted v)

-- the variables whose constants are right: those with numbers of the instance, and those whose numbers are noted by then
abbrev pub is_certain : List (Option ℤ) → List Fact → ℕ → Bool
is_certain zs facts v = is_some (known_of zs v) || is_given facts v

-- and those whose numbers a value of some indices gives by itself
abbrev pub is_told : List (Option ℤ) → List Fact → Indices → ℕ → Bool
is_told zs facts i v = is_certain zs facts v || list_any (nat_eq v) (variables_given i)

-- ---- the cases of bodies that are read together

-- the type of what a node makes, under the numbers that a value of these indices gives by itself too; for what a type binds the value has a number
abbrev pub made_now : Types → List (Option ℤ) → List Sized → Noted → Made → Value → Sized
made_now types zs own noted (Makes.ByIndices i) v = value_sized types own (now zs (noted_by i v noted)) i
made_now types zs own noted (Makes.ByType q) v = reading_told types own (now zs noted) q v

-- nodes are told apart by their numbers and by how many operands they take
abbrev pub is_node : ℕ → ℕ → ℕ → List Indices → Bool
is_node k n j operands = nat_eq k j && nat_eq (length operands) n

abbrev pub first_noted : {A : Type 0} → (NoteIn → Option A) → List NoteIn → Option A
first_noted f [] = None
first_noted f (y ∷ ys) = first (f y) (first_noted f ys)

-- the instance at its place in a list
abbrev pub awaited_in : List Instance → Instance → Option Awaits
awaited_in list y = option_map (λ p. record { place = p; numbers = numbers_of y }) (place_in list y)

module _ (types : Types) (sizing : Sizing) (zs : List (Option ℤ)) (own : List Sized) (list : List Instance) where
  abbrev pub makes_at : ℕ → ℕ → Value → Noted → Note → Option Sized
  makes_at k n v noted (made_note facts j operands made) = only (is_node k n j operands) (made_now types zs own noted made v)
  makes_at k n v noted note = None

  abbrev pub called_at : Body → Noted → Callee → List Index → List Reading → Option Awaits
  called_at b noted (D.Function g) js qs = awaited_in list (instance_of (inside types sizing zs own b) (now zs noted) g js qs)
  called_at b noted callee js qs = None

  abbrev pub calls_at : ℕ → ℕ → Noted → Body → Note → Option Awaits
  calls_at k n noted b (call_note facts place j operands callee js qs) = if is_node k n j operands then called_at b noted callee js qs else None
  calls_at k n noted b note = None

  abbrev pub made_in : ℕ → ℕ → Value → Noted → NoteIn → Option Sized
  made_in k n v noted y = makes_at k n v noted y.note

  abbrev pub called_in : ℕ → ℕ → Noted → NoteIn → Option Awaits
  called_in k n noted y = calls_at k n noted y.body y.note

  abbrev pub cases_given : List NoteIn → Cases
  cases_given ys = record {
    makes = λ k takes v noted. first_noted (made_in k (length takes) v noted) ys;
    notes = λ k v noted. noted_by_all (gives_at (all_nodes types sizing zs own list ys) k) v noted;
    calls = λ k takes noted. first_noted (called_in k (length takes) noted) ys;
  }

-- ---- what is tested: a value of a type tells the sizes at which it is opened, under each combination of numbers that counts

-- of what is made, sizes name only such variables
abbrev pub made_given : Inside → List Fact → Made → Bool
made_given r facts (Makes.ByIndices i) = value_among r.types (is_told r.numbers facts i) i
made_given r facts (Makes.ByType q) = reading_among r.types (is_certain r.numbers facts) q && type_given r facts (Makes.ByType q)

-- of calls of functions, numbers and types that are given do, and under each combination sizes name only what is known there
abbrev pub is_known : Inside → List Picked → ℕ → Bool
is_known r ps v = is_number (under r ps v)

abbrev pub numbers_among : (ℕ → Bool) → List Bool → List Index → Bool
numbers_among has (b ∷ bs) (j ∷ js) = only_if b (index_among has j) && numbers_among has bs js
numbers_among has bs js = true

abbrev pub call_passes : Inside → List Reading → List Picked → Bool
call_passes r qs ps = list_all (reading_among r.types (is_known r ps)) qs

abbrev pub function_given : Inside → List Fact → ℕ → List Index → List Reading → Bool
function_given r facts g js qs =
    (numbers_among (is_certain r.numbers facts) (flags_of r.sizing g) js && list_all (reading_among r.types (is_certain r.numbers facts)) qs)
    && list_all (call_passes r qs) (counted (known_of r.numbers) r.split facts [])

abbrev pub call_given : Inside → List Fact → Callee → List Index → List Reading → Bool
call_given r facts (D.Function g) js qs = function_given r facts g js qs
call_given r facts callee js qs = true

-- ---- a note; the numbers that are given, and the directions that patterns go through, need no test

abbrev pub note_given : Inside → Note → Bool
note_given r (size_note facts place made) = type_given r facts made
note_given r (made_note facts k operands made) = made_given r facts made
note_given r (call_note facts place k operands callee js qs) = call_given r facts callee js qs
note_given r note = true

module _ (types : Types) (sizing : Sizing) (zs : List (Option ℤ)) (own : List Sized) where
  abbrev pub noted_given : NoteIn → Bool
  noted_given x = note_given (inside types sizing zs own x.body) x.note

  -- bodies that are read together, for these numbers and types
  abbrev pub bodies_given : List Body → Bool
  bodies_given bs = list_all noted_given (all_noted bs)
