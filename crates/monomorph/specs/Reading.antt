-- A body, read under an instance: the sizes that have to be constants there, and what its calls lead to (Sail language manual, "Type
-- variables").
use Rattle.std.specs.Prelude.{ℕ, ℤ, ◌/◌, Bool, List, [], ◌∷◌, length, map, Option, Ok}
use Rattle.sail_base.specs.declared.place.Place.{Place}
use Rattle.sail_types.specs.declared.numbers.Index.{Index}
use Rattle.sail_types.specs.declared.table.Types.{Types}
use Rattle.sail_core.specs.declared.tree.Callee.{Callee}
use Rattle.sail_core.specs.declared.tree.Callee.TheVariants as D
use Rattle.value_indices.specs.declared.indices.Indices.{Indices}
use Rattle.value_indices.specs.declared.indices.Reading.{Reading}
use Rattle.value_indices.specs.declared.notes.Fact.{Fact}
use Rattle.value_indices.specs.declared.notes.Made.{Made}
use Rattle.value_indices.specs.Steps.{Note, size_note, call_note, way_note}
use Rattle.size_values.specs.declared.constants.Constant.{Constant}
use Rattle.size_values.specs.declared.constants.Picked.{Picked}
use Rattle.size_values.specs.declared.sized.Sized.{Sized}
use Rattle.size_values.specs.Numbers.{index_under, known_at, known_of, with_picked}
use Rattle.size_values.specs.Sizes.{joined, reading_sizes, value_sizes}
use Rattle.size_values.specs.Sized.{number_where, reading_sized}
use Rattle.size_splits.specs.Bodies.{Body}
use Rattle.size_splits.specs.Sizing.{Sizing, first_named, flags_of, given_indices, made_facts, made_indices}
use Rattle.size_splits.specs.Splits.{counted, splits}
use Rattle.monomorph.specs.declared.error.MonoError.{MonoError}
use Rattle.monomorph.specs.declared.found.Found.{Found}
use Rattle.sized_nodes.specs.declared.trees.Instance.{Instance}
use Rattle.monomorph.specs.declared.inside.Inside as code
use Rattle.monomorph.specs.Found.{Answer, add, add_mapping, over, unless, and_then}
use Rattle.monomorph.specs.Refusals.{constants_refused, sizes_refused}

-- what is known in a body: the model's, the instance's numbers and types, and of the body how many variables it has, their names, and
-- which of them are split
pub record Inside : Type 0 where
  pub types : Types
  pub sizing : Sizing
  pub numbers : List (Option ℤ)
  pub own : List Sized
  pub variables : ℕ
  pub names : List (List ℕ)
  pub split : List ℕ

-- as code has it
abbrev pub inside_of : code.Inside → Inside
inside_of r = record {
  types = r.types.now;
  sizing = r.sizing.now;
  numbers = r.numbers.now;
  own = r.own.now;
  variables = r.variables;
  names = r.names.now;
  split = r.split.now;
}

-- what variables are where these numbers are taken
abbrev pub under : Inside → List Picked → ℕ → Constant
under r ps = known_at (with_picked (known_of r.numbers) ps)

-- ---- the callee of a call

-- the numbers of its size variables
abbrev pub given : List Bool → List Constant → List (Option ℤ)
given (b ∷ bs) (c ∷ cs) = number_where b c ∷ given bs cs
given bs cs = []

abbrev pub instance_of : Inside → (ℕ → Constant) → ℕ → List Index → List Reading → Instance
instance_of r of f js qs = record {
  function = f;
  numbers = given (flags_of r.sizing f) (map (index_under of) js);
  types = map (reading_sized r.types r.own of) qs;
}

-- the mapping of a direction, of which it has two
abbrev pub read_way : ℕ → List Picked → List Found → Answer
read_way d ps found = Ok (add_mapping (d / 2) found)

abbrev pub called : Inside → Place → (ℕ → Constant) → Callee → List Index → List Reading → List Found → Answer
called r place of (D.Function f) js qs found = add place (instance_of r of f js qs) found
called r place of (D.Converts d) js qs found = Ok (add_mapping (d / 2) found)
called r place of (D.Applies d) js qs found = Ok (add_mapping (d / 2) found)
called r place of callee js qs found = Ok found

-- at a call, the numbers that are given to size variables
abbrev pub numbers_refused : Inside → Place → List Indices → Callee → List Index → List Picked → Option MonoError
numbers_refused r place operands callee js ps =
    constants_refused place r.names (map (index_under (under r ps)) (given_indices r.sizing callee operands js))

-- the sizes of what is given to Type variables
abbrev pub types_refused : Inside → Place → List Reading → List Picked → Option MonoError
types_refused r place qs ps = sizes_refused place r.names (joined (map (reading_sizes r.types (under r ps)) qs))

-- then its callee
abbrev pub read_call : Inside → Place → List Indices → Callee → List Index → List Reading → List Picked → List Found → Answer
read_call r place operands callee js qs ps found =
    unless (numbers_refused r place operands callee js ps) (
    unless (types_refused r place qs ps) (called r place (under r ps) callee js qs found))

-- ---- notes

-- the sizes of what is made
abbrev pub read_sizes : Inside → Place → Indices → List Picked → List Found → Answer
read_sizes r place i ps found = unless (sizes_refused place r.names (value_sizes r.types (under r ps) i)) (Ok found)

-- under each combination that counts
abbrev pub under_each : Inside → List Fact → List Fact → (List Picked → List Found → Answer) → List Found → Answer
under_each r facts own read = over read (counted (known_of r.numbers) r.split facts own)

abbrev pub read_made : Inside → List Fact → Place → Made → Option ℕ → List Found → Answer
read_made r facts place made named =
    under_each r facts (made_facts r.variables made named) (read_sizes r place (made_indices r.variables made named))

abbrev pub read_counted_call : Inside → List Fact → Place → List Indices → Callee → List Index → List Reading → List Found → Answer
read_counted_call r facts place operands callee js qs = under_each r facts [] (read_call r place operands callee js qs)

abbrev pub read_counted_way : Inside → List Fact → ℕ → List Found → Answer
read_counted_way r facts d = under_each r facts [] (read_way d)

-- a note, where this type variable is named behind it
abbrev pub read_note : Inside → Note → Option ℕ → List Found → Answer
read_note r (size_note facts place made) named = read_made r facts place made named
read_note r (call_note facts place k operands callee js qs) named = read_counted_call r facts place operands callee js qs
read_note r (way_note facts d) named = read_counted_way r facts d
read_note r note named = Ok

-- in the order of the walk
abbrev pub read_notes : Inside → List Note → List Found → Answer
read_notes r [] found = Ok found
read_notes r (n ∷ ns) found = and_then (read_note r n (first_named ns) found) (read_notes r ns)

-- ---- a body

abbrev pub reading_of : Types → Sizing → List (Option ℤ) → List Sized → Body → Inside
reading_of types sizing zs own b = record {
  types = types;
  sizing = sizing;
  numbers = zs;
  own = own;
  variables = b.variables;
  names = b.names;
  split = splits types sizing (known_of zs) (length zs) b;
}

abbrev pub read_body : Types → Sizing → List (Option ℤ) → List Sized → Body → List Found → Answer
read_body types sizing zs own b = read_notes (reading_of types sizing zs own b) b.notes
