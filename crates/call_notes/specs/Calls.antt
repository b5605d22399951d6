-- Calls on arguments that have been walked (Sail language manual, "Functions", "Mappings", "Unions", "Structs").
use Rattle.std.specs.Prelude.{Bool, List, None, Option, Some, false, if◌then◌else◌, length, slice_get, true, ℕ, [], ◌∷◌}
use Rattle.sail_base.specs.declared.place.Place.{Place}
use Rattle.sail_types.specs.declared.numbers.Index.{Index}
use Rattle.sail_types.specs.declared.rows.Row.{Row}
use Rattle.sail_types.specs.declared.table.Parameter.{Parameter}
use Rattle.sail_types.specs.declared.table.Types.{Types}
use Rattle.sail_types.specs.declared.types.Typ.{Typ}
use Rattle.sail_core.specs.declared.model.Direction.{Direction}
use Rattle.sail_core.specs.declared.model.Function.{Function}
use Rattle.sail_core.specs.declared.tree.Callee.{Callee}
use Rattle.sail_core.specs.declared.tree.Callee.TheVariants as D
use Rattle.value_indices.specs.Steps.{Walk, bind, call_note, give, note, next_variable}
use Rattle.value_indices.specs.declared.indices.Indices.{Indices}
use Rattle.value_indices.specs.declared.indices.Indices.TheVariants as I
use Rattle.value_indices.specs.declared.indices.Reading.{Reading}
use Rattle.value_indices.specs.declared.indices.Reading.TheVariants as R
use Rattle.value_fits.specs.Fitting.{fits, owe_fit}
use Rattle.pattern_leaves.specs.Settings.{Around}
use Rattle.call_notes.specs.Ends.{any_never, fits_unless, never_value, wrong_value}
use Rattle.call_notes.specs.Noted.{made_opened, node_ended}
use Rattle.call_arguments.specs.Callees.{indices_from, number_parameters, numbers_from, type_parameters, types_from, types_or, was_due}
use Rattle.call_arguments.specs.Holes.{types_without_holes}
use Rattle.call_arguments.specs.Placing.{call_conditions}
use Rattle.call_notes.specs.Rows.{row_call}

-- what is called at a place, of these operands
abbrev pub noted_call : Place → ℕ → List Indices → Callee → List Index → List Reading → Walk (Unit {0})
noted_call place k is callee js qs = note (λ facts. call_note facts place k is callee js qs)

-- ---- a call of a function

abbrev pub function_called : Around → Place → ℕ → ℕ → Function → List Index → List Reading → List Bool → List Indices → Walk Indices
function_called around place k i f js qs bs is =
    bind (owe_fit place (call_conditions (fits around.types) f js qs bs is)) (λ t.
    bind (noted_call place k is (D.Function i) js qs) (λ u. made_opened place k is (R.Of f.result js qs)))

-- where variables are counted from m on
abbrev pub numbered_call : Around → Place → ℕ → ℕ → Function → List Bool → List Indices → ℕ → Walk Indices
numbered_call around place k i f bs is m =
    function_called around place k i f (numbers_from 0 f.variables f.parameters is) (types_from m 0 (length f.type_variables) f.parameters is) bs is

abbrev pub known_call : Around → Place → ℕ → ℕ → Function → List Bool → List Indices → Walk Indices
known_call around place k i f bs is = if any_never is then never_value else bind next_variable (numbered_call around place k i f bs is)

abbrev pub function_call : Around → Place → ℕ → ℕ → Option Function → List Bool → List Indices → Walk Indices
function_call around place k i None bs is = wrong_value place
function_call around place k i (Some f) bs is = known_call around place k i f bs is

-- ---- a call of a mapping

abbrev pub direction_applied : Around → Place → ℕ → ℕ → Direction → Bool → List Indices → Indices → Walk Indices
direction_applied around place k d m b is i =
    bind (owe_fit place (fits_unless b around i (R.Of m.parameter [] []))) (λ t.
    bind (noted_call place k is (D.Converts d) [] []) (λ u. made_opened place k is (R.Of m.result [] [])))

abbrev pub direction_called : Around → Place → ℕ → ℕ → Direction → List Bool → List Indices → Walk Indices
direction_called around place k d m (b ∷ []) (i ∷ []) = direction_applied around place k d m b (i ∷ []) i
direction_called around place k d m bs is = wrong_value place

abbrev pub known_direction : Around → Place → ℕ → ℕ → Direction → List Bool → List Indices → Walk Indices
known_direction around place k d m bs is = if any_never is then never_value else direction_called around place k d m bs is

abbrev pub direction_call : Around → Place → ℕ → ℕ → Option Direction → List Bool → List Indices → Walk Indices
direction_call around place k d None bs is = wrong_value place
direction_call around place k d (Some m) bs is = known_direction around place k d m bs is

abbrev pub direction_types : Option Direction → List Typ
direction_types None = []
direction_types (Some m) = m.parameter ∷ []

-- ---- constructors and structs: what an argument owes stands at it

abbrev pub part_owed : Around → Bool → Place → Indices → Reading → Walk (Unit {0})
part_owed around true place i r = give tt
part_owed around false place i r = owe_fit place (fits around.types i r)

-- of a hole in what stands for a Type variable is only what never ends
abbrev pub one_owed : Around → Place → Option (List Reading) → Typ → Indices → List Index → List Reading → Walk (Unit {0})
one_owed around place known t i js qs = part_owed around (was_due known t) place i (R.Of t js (types_without_holes qs))

-- the others owe once all numbers are known
abbrev pub parts_owed : Around → List Place → Option (List Reading) → List Typ → List Indices → List Index → List Reading → Walk (Unit {0})
parts_owed around (place ∷ places) known (t ∷ ts) (i ∷ is) js qs =
    bind (one_owed around place known t i js qs) (λ x. parts_owed around places known ts is js qs)
parts_owed around places known ts is js qs = give tt

-- a value of the named type of this place in the table, made of arguments of these types
abbrev pub named_with : Around → ℕ → List Parameter → List Place → Option (List Reading) → List Typ → List Indices → List Reading → Walk Indices
named_with around u ps places known ts is qs =
    bind (indices_from 0 (number_parameters ps) ts is) (λ js. bind (parts_owed around places known ts is js qs) (λ x. give (I.Named u js qs)))

abbrev pub made_named : Around → ℕ → List Parameter → List Place → Option (List Reading) → List Typ → List Indices → Walk Indices
made_named around u ps places known ts is =
    if any_never is then never_value
    else bind next_variable (λ m. named_with around u ps places known ts is (types_or known (types_from m 0 (type_parameters ps) ts is)))

-- ---- calls

abbrev pub parameter_types : Option Function → List Typ
parameter_types None = []
parameter_types (Some f) = f.parameters

abbrev pub row_called : Types → Place → ℕ → Row → List Indices → Walk Indices
row_called types place k row is = bind (noted_call place k is (D.Row row) [] []) (λ t. bind (row_call types place row is) (node_ended k is))

-- on arguments that have been walked; no direction is a function that gives an option yet
abbrev pub called : Around → Place → ℕ → Callee → List Bool → List Indices → Walk Indices
called around place k (D.Function f) bs is = function_call around place k f (slice_get around.functions f) bs is
called around place k (D.Row row) bs is = row_called around.types place k row is
called around place k (D.Converts d) bs is = direction_call around place k d (slice_get around.directions d) bs is
called around place k (D.Applies d) bs is = wrong_value place
called around place k (D.Constructor u c) bs is = wrong_value place

abbrev pub callee_types : Around → Callee → List Typ
callee_types around (D.Function f) = parameter_types (slice_get around.functions f)
callee_types around (D.Converts d) = direction_types (slice_get around.directions d)
callee_types around (D.Applies d) = direction_types (slice_get around.directions d)
callee_types around callee = []
