-- What a call gives, and what is known of it, hangs on no facts.
use Rattle.std.proofs.Common.{ℕ, Bool, true, false, List, [], ◌∷◌, length, slice_get, Option, Some, None, if◌then◌else◌}
use Rattle.sail_base.specs.declared.place.Place.{Place}
use Rattle.sail_types.specs.Sums.{variable}
use Rattle.sail_types.specs.declared.numbers.Con.{Con}
use Rattle.sail_types.specs.declared.numbers.Index.{Index}
use Rattle.sail_types.specs.declared.numbers.Num.{Num}
use Rattle.sail_types.specs.declared.rows.Row.{Row}
use Rattle.sail_types.specs.declared.table.Types.{Types}
use Rattle.row_types.specs.declared.kinds.Outcome.{Outcome}
use Rattle.row_types.specs.declared.kinds.Outcome.TheVariants as O
use Rattle.row_types.specs.declared.kinds.Product.{Product}
use Rattle.sail_core.specs.declared.model.Direction.{Direction}
use Rattle.sail_core.specs.declared.model.Function.{Function}
use Rattle.sail_core.specs.declared.targets.Caller.{Caller}
use Rattle.sail_core.specs.declared.tree.Callee.{Callee}
use Rattle.sail_core.specs.declared.tree.Callee.TheVariants as D
use Rattle.value_indices.specs.declared.indices.Indices.{Indices}
use Rattle.value_indices.specs.declared.indices.Indices.TheVariants as I
use Rattle.value_indices.specs.declared.indices.Naming.TheVariants as M
use Rattle.value_indices.specs.declared.indices.Reading.{Reading}
use Rattle.value_indices.specs.declared.indices.Reading.TheVariants as R
use Rattle.value_indices.specs.declared.notes.Made.TheVariants as Makes
use Rattle.value_indices.specs.Opening.{bits_of, vector_of}
use Rattle.value_indices.specs.Steps.{bind, call_note, fresh, next_variable, size_note}
use Rattle.value_fits.specs.Fitting.{fits, owe_fit}
use Rattle.pattern_leaves.specs.Settings.{Around}
use Rattle.call_arguments.specs.Callees.{numbers_from, types_from}
use Rattle.call_arguments.specs.Placing.{call_conditions}
use Rattle.call_notes.specs.Calls.{called, direction_applied, direction_call, direction_called, function_call, function_called, noted_call, numbered_call}
use Rattle.call_notes.specs.Calls.{row_called}
use Rattle.call_notes.specs.Ends.{any_never, fits_unless, never_value, opened_at, sized, sized_by, wrong_value}
use Rattle.call_notes.specs.Noted.{made_opened, node_ended, node_made}
use Rattle.call_notes.specs.Rows.{bits_at, fresh_result, outcome, row_call, taken_call, vector_at}
use Rattle.call_notes.specs.Taken.{takes}
use Rattle.call_notes.specs.declared.numbers.Numbers.{Numbers}
use Rattle.expression_forms.specs.Spots.{asked}
use Rattle.soundness_targets.proofs.FreeOpenings.{any_truth_quiet, between_quiet, number_quiet, opened_quiet, truth_quiet}
use Rattle.soundness_targets.proofs.FreeWalks.{FactFree, Quiet, assume_all_free, assume_if_free, bind_free, bind_quiet, ended_free, fresh_free}
use Rattle.soundness_targets.proofs.FreeWalks.{give_free, made_free, next_free, note_free, note_quiet, owe_fit_free, owe_free, wrong_free}

-- ---- a value of a type, opened

pub opened_at_quiet : (place : Place) (r : Reading) → Quiet (opened_at place r)
opened_at_quiet place r =
    bind_quiet (sized_by place r) _ (note_quiet (λ facts. size_note facts place (Makes.ByType r))) (λ t. opened_quiet r)

pub made_opened_free : (place : Place) (k : ℕ) (is : List Indices) (r : Reading) → FactFree (made_opened place k is r)
made_opened_free place k is r =
    bind_free (node_made k is (Makes.ByType r)) (λ t. opened_at place r) (made_free k is (Makes.ByType r)) (λ t. (opened_at_quiet place r).free)

call_noted_free : (place : Place) (k : ℕ) (is : List Indices) (callee : Callee) (js : List Index) (qs : List Reading)
    → FactFree (noted_call place k is callee js qs)
call_noted_free place k is callee js qs = note_free (λ facts. call_note facts place k is callee js qs)

-- ---- builtins

bits_free : (place : Place) (t : Num) → FactFree (bits_at place t)
unfolding bits_of
bits_free place t = bind_free (sized place (I.Bits t)) _ (note_free (λ facts. size_note facts place (Makes.ByIndices (I.Bits t)))) (λ x.
    bind_free _ _ (between_quiet _ t _).free (λ y. give_free (I.Bits t)))

vector_free : (place : Place) (r : Reading) (t : Num) → FactFree (vector_at place r t)
unfolding vector_of
vector_free place r t = bind_free (sized place (I.Vector t r)) _ (note_free (λ facts. size_note facts place (Makes.ByIndices (I.Vector t r)))) (λ x.
    bind_free _ _ (between_quiet _ t _).free (λ y. give_free (I.Vector t r)))

fresh_result_free : (p : Product) (is : List Index) (low high : Num) (cs : List Con) → FactFree (fresh_result p is low high cs)
fresh_result_free p is low high cs =
    bind_free fresh _ fresh_free (λ v. bind_free _ _ (assume_if_free _) (λ x. bind_free _ _ (assume_if_free _) (λ y.
    bind_free _ _ (assume_all_free _) (λ z. give_free (I.Integer (variable v))))))

outcome_free : (place : Place) (p : Product) (is : List Index) (args : List Indices) (ns : Numbers) (o : Outcome) → FactFree (outcome place p is args ns o)
outcome_free place p is args ns (O.Integer t) = bind_free _ _ (number_quiet _).free (λ n. give_free (I.Integer n))
outcome_free place p is args ns (O.Fresh low high cs) = fresh_result_free p is low high cs
outcome_free place p is args ns (O.Truth c) = bind_free _ _ (truth_quiet _).free (λ d. give_free (I.Truth d))
outcome_free place p is args ns O.Bool = (any_truth_quiet M.Unnamed).free
outcome_free place p is args ns (O.Bits t) = bind_free _ _ (number_quiet _).free (bits_free place)
outcome_free place p is args ns (O.Vector t) = bind_free _ _ (number_quiet _).free (vector_free place _)
outcome_free place p is args ns O.String = give_free I.String
outcome_free place p is args ns O.Unit = give_free I.Unit

taken_free : (place : Place) (row : Row) (args : List Indices) → FactFree (taken_call place row args)
taken_free place row args = bind_free _ _ (owe_free place _) (λ t. outcome_free place _ _ args _ _)

row_free : (types : Types) (place : Place) (row : Row) (args : List Indices) → FactFree (row_call types place row args)
row_free types place row args = by (any_never args) (takes types row args)
  where
    by : (b c : Bool) → FactFree (if b then never_value else (if c then taken_call place row args else wrong_value place))
    by true c = give_free I.Never
    by false true = taken_free place row args
    by false false = wrong_free place

row_called_free : (types : Types) (place : Place) (k : ℕ) (row : Row) (is : List Indices) → FactFree (row_called types place k row is)
row_called_free types place k row is =
    bind_free (noted_call place k is (D.Row row) [] []) (λ t. bind (row_call types place row is) (node_ended k is))
    (call_noted_free place k is (D.Row row) [] []) (λ t. bind_free (row_call types place row is) (node_ended k is) (row_free types place row is)
    (ended_free k is))

-- ---- functions

function_free : (around : Around) (place : Place) (k i : ℕ) (fn : Function) (js : List Index) (qs : List Reading) (bs : List Bool) (is : List Indices)
    → FactFree (function_called around place k i fn js qs bs is)
function_free around place k i fn js qs bs is =
    bind_free (owe_fit place (call_conditions (fits around.types) fn js qs bs is)) _ (owe_fit_free place (call_conditions (fits around.types) fn js qs bs is))
    (λ t. bind_free (noted_call place k is (D.Function i) js qs) _ (call_noted_free place k is (D.Function i) js qs)
    (λ u. made_opened_free place k is (R.Of fn.result js qs)))

function_call_free : (around : Around) (place : Place) (k i : ℕ) (o : Option Function) (bs : List Bool) (is : List Indices)
    → FactFree (function_call around place k i o bs is)
function_call_free around place k i None bs is = wrong_free place
function_call_free around place k i (Some fn) bs is = by (any_never is)
  where
    by : (b : Bool) → FactFree (if b then never_value else bind next_variable (numbered_call around place k i fn bs is))
    by true = give_free I.Never
    by false =
        bind_free next_variable (numbered_call around place k i fn bs is) next_free (λ m.
        function_free around place k i fn (numbers_from 0 fn.variables fn.parameters is) (types_from m 0 (length fn.type_variables) fn.parameters is) bs is)

-- ---- mappings

applied_free : (around : Around) (place : Place) (k d : ℕ) (m : Direction) (b : Bool) (is : List Indices) (i : Indices)
    → FactFree (direction_applied around place k d m b is i)
applied_free around place k d m b is i =
    bind_free (owe_fit place (fits_unless b around i (R.Of m.parameter [] []))) _ (owe_fit_free place (fits_unless b around i (R.Of m.parameter [] [])))
    (λ t. bind_free (noted_call place k is (D.Converts d) [] []) _ (call_noted_free place k is (D.Converts d) [] [])
    (λ u. made_opened_free place k is (R.Of m.result [] [])))

direction_free : (around : Around) (place : Place) (k d : ℕ) (m : Direction) (bs : List Bool) (is : List Indices)
    → FactFree (direction_called around place k d m bs is)
direction_free around place k d m (b ∷ []) (i ∷ []) = applied_free around place k d m b (i ∷ []) i
direction_free around place k d m [] is = wrong_free place
direction_free around place k d m (b ∷ []) [] = wrong_free place
direction_free around place k d m (b ∷ []) (i ∷ i2 ∷ is) = wrong_free place
direction_free around place k d m (b ∷ b2 ∷ bs) is = wrong_free place

direction_call_free : (around : Around) (place : Place) (k d : ℕ) (o : Option Direction) (bs : List Bool) (is : List Indices)
    → FactFree (direction_call around place k d o bs is)
direction_call_free around place k d None bs is = wrong_free place
direction_call_free around place k d (Some m) bs is = by (any_never is)
  where
    by : (b : Bool) → FactFree (if b then never_value else direction_called around place k d m bs is)
    by true = give_free I.Never
    by false = direction_free around place k d m bs is

-- ---- calls

pub called_free : (around : Around) (place : Place) (k : ℕ) (callee : Callee) (bs : List Bool) (is : List Indices)
    → FactFree (called around place k callee bs is)
called_free around place k (D.Function i) bs is = function_call_free around place k i (slice_get around.functions i) bs is
called_free around place k (D.Row row) bs is = row_called_free around.types place k row is
called_free around place k (D.Converts d) bs is = direction_call_free around place k d (slice_get around.directions d) bs is
called_free around place k (D.Applies d) bs is = wrong_free place
called_free around place k (D.Constructor u c) bs is = wrong_free place

pub asked_free : (around : Around) (place : Place) (o : Option Caller) (bs : List Bool) (is : List Indices) → FactFree (asked around place o bs is)
asked_free around place None bs is = wrong_free place
asked_free around place (Some c) bs is = called_free around place c.number c.callee bs is
