-- Calls go through no mapping of a pattern, and call functions and mappings of the model alone.
use Rattle.std.proofs.Common.{◌≡◌, refl}
use Rattle.std.specs.Prelude.{Bool, List, None, Option, Some, false, is_some, length, slice_get, true, ℕ, [], ◌∷◌}
use Rattle.sail_base.specs.declared.place.Place.{Place}
use Rattle.sail_types.specs.declared.numbers.Index.{Index}
use Rattle.sail_types.specs.declared.rows.Row.{Row}
use Rattle.sail_types.specs.declared.table.Parameter.{Parameter}
use Rattle.sail_types.specs.declared.table.Types.{Types}
use Rattle.sail_types.specs.declared.types.Typ.{Typ}
use Rattle.sail_core.specs.declared.model.Direction.{Direction}
use Rattle.sail_core.specs.declared.model.Function.{Function}
use Rattle.sail_core.specs.declared.tree.Callee.{Callee}
use Rattle.sail_core.specs.declared.tree.Callee.TheVariants as D
use Rattle.value_indices.specs.declared.indices.Indices.{Indices}
use Rattle.value_indices.specs.declared.indices.Reading.{Reading}
use Rattle.value_indices.specs.declared.indices.Reading.TheVariants as R
use Rattle.value_fits.specs.Fitting.{fits}
use Rattle.pattern_leaves.specs.Settings.{Around}
use Rattle.call_notes.specs.Ends.{any_never, fits_unless}
use Rattle.call_arguments.specs.Callees.{number_parameters, numbers_from, type_parameters, types_from, types_or, was_due}
use Rattle.call_arguments.specs.Holes.{types_without_holes}
use Rattle.call_arguments.specs.Placing.{call_conditions}
use Rattle.call_notes.specs.Calls.{noted_call, function_called, numbered_call, known_call, function_call, direction_applied, direction_called, known_direction}
use Rattle.call_notes.specs.Calls.{direction_call, part_owed, one_owed, parts_owed, named_with, made_named, row_called, called}
use Rattle.note_laws.specs.Ways.{CallsOne, Told, has_direction}
use Rattle.note_laws.proofs.Goes.{Goes, IsTabled, give_goes, bind_goes, if_goes, note_goes, next_variable_goes, owe_fit_goes, tabled_function}
use Rattle.note_laws.proofs.Goes.{tabled_has}
use Rattle.note_laws.proofs.CalleeGoes.{indices_from_goes}
use Rattle.note_laws.proofs.EndGoes.{never_value_goes, wrong_value_goes}
use Rattle.note_laws.proofs.NodeGoes.{made_opened_goes, node_ended_goes}
use Rattle.note_laws.proofs.RowGoes.{row_call_goes}

module _ (told : Told) where
  pub part_owed_goes : (around : Around) (b : Bool) (place : Place) (i : Indices) (r : Reading) → Goes told (part_owed around b place i r)
  part_owed_goes around true place i r = give_goes told _
  part_owed_goes around false place i r = owe_fit_goes told place (fits around.types i r)

  pub one_owed_goes : (around : Around) (place : Place) (known : Option (List Reading)) (t : Typ) (i : Indices) (js : List Index) (qs : List Reading)
      → Goes told (one_owed around place known t i js qs)
  one_owed_goes around place known t i js qs = part_owed_goes around (was_due known t) place i (R.Of t js (types_without_holes qs))

  pub parts_owed_goes : (around : Around) (places : List Place) (known : Option (List Reading)) (ts : List Typ) (is : List Indices) (js : List Index)
      (qs : List Reading) → Goes told (parts_owed around places known ts is js qs)
  parts_owed_goes around (place ∷ places) known (t ∷ ts) (i ∷ is) js qs =
      bind_goes told _ _ (one_owed_goes around place known t i js qs) (λ x. parts_owed_goes around places known ts is js qs)
  parts_owed_goes around places known ts is js qs = give_goes told _

  pub named_with_goes : (around : Around) (u : ℕ) (ps : List Parameter) (places : List Place) (known : Option (List Reading)) (ts : List Typ)
      (is : List Indices) (qs : List Reading) → Goes told (named_with around u ps places known ts is qs)
  named_with_goes around u ps places known ts is qs =
      bind_goes told _ _ (indices_from_goes told 0 (number_parameters ps) ts is)
      (λ js. bind_goes told _ _ (parts_owed_goes around places known ts is js qs) (λ x. give_goes told _))

  pub made_named_goes : (around : Around) (u : ℕ) (ps : List Parameter) (places : List Place) (known : Option (List Reading)) (ts : List Typ)
      (is : List Indices) → Goes told (made_named around u ps places known ts is)
  made_named_goes around u ps places known ts is =
      if_goes told (any_never is) _ _ (never_value_goes told)
      (bind_goes told _ _ (next_variable_goes told)
      (λ m. named_with_goes around u ps places known ts is (types_or known (types_from m 0 (type_parameters ps) ts is))))

  pub noted_call_goes : (place : Place) (k : ℕ) (is : List Indices) (callee : Callee) (js : List Index) (qs : List Reading)
      → CallsOne told callee js → Goes told (noted_call place k is callee js qs)
  noted_call_goes place k is callee js qs there = note_goes told _ (λ facts. there)

  -- a function of the model, whose variables are given these
  abbrev IsCalled : ℕ → Function → Type 0
  IsCalled i f = slice_get told.functions i ≡ Some f

  pub function_called_goes : (around : Around) (place : Place) (k : ℕ) (i : ℕ) (f : Function) (js : List Index) (qs : List Reading) (bs : List Bool)
      (is : List Indices) → CallsOne told (D.Function i) js → Goes told (function_called around place k i f js qs bs is)
  function_called_goes around place k i f js qs bs is there =
      bind_goes told _ _ (owe_fit_goes told place (call_conditions (fits around.types) f js qs bs is))
      (λ t. bind_goes told _ _ (noted_call_goes place k is (D.Function i) js qs there) (λ u. made_opened_goes told place k is (R.Of f.result js qs)))

  pub numbered_call_goes : (around : Around) (place : Place) (k : ℕ) (i : ℕ) (f : Function) (bs : List Bool) (is : List Indices) (m : ℕ) → IsCalled i f
      → Goes told (numbered_call around place k i f bs is m)
  numbered_call_goes around place k i f bs is m there =
      function_called_goes around place k i f (numbers_from 0 f.variables f.parameters is) (types_from m 0 (length f.type_variables) f.parameters is) bs is
      (f, there, (is, refl))

  pub known_call_goes : (around : Around) (place : Place) (k : ℕ) (i : ℕ) (f : Function) (bs : List Bool) (is : List Indices) → IsCalled i f
      → Goes told (known_call around place k i f bs is)
  known_call_goes around place k i f bs is there =
      if_goes told (any_never is) _ _ (never_value_goes told)
      (bind_goes told _ _ (next_variable_goes told) (λ m. numbered_call_goes around place k i f bs is m there))

  pub function_call_goes : (around : Around) (place : Place) (k : ℕ) (i : ℕ) (f : Option Function) (bs : List Bool) (is : List Indices)
      → ((fn : Function) → f ≡ Some fn → IsCalled i fn) → Goes told (function_call around place k i f bs is)
  function_call_goes around place k i None bs is there = wrong_value_goes told place
  function_call_goes around place k i (Some f) bs is there = known_call_goes around place k i f bs is (there f refl)

  pub row_called_goes : (types : Types) (place : Place) (k : ℕ) (row : Row) (is : List Indices) → Goes told (row_called types place k row is)
  row_called_goes types place k row is =
      bind_goes told _ _ (noted_call_goes place k is (D.Row row) [] [] tt)
      (λ t. bind_goes told _ _ (row_call_goes told types place row is) (node_ended_goes told k is))

  pub direction_applied_goes : (around : Around) (place : Place) (k : ℕ) (d : ℕ) (m : Direction) (b : Bool) (is : List Indices) (i : Indices)
      → has_direction told.directions d ≡ true → Goes told (direction_applied around place k d m b is i)
  direction_applied_goes around place k d m b is i there =
      bind_goes told _ _ (owe_fit_goes told place (fits_unless b around i (R.Of m.parameter [] [])))
      (λ t. bind_goes told _ _ (noted_call_goes place k is (D.Converts d) [] [] there) (λ u. made_opened_goes told place k is (R.Of m.result [] [])))

  pub direction_called_goes : (around : Around) (place : Place) (k : ℕ) (d : ℕ) (m : Direction) (bs : List Bool) (is : List Indices)
      → has_direction told.directions d ≡ true → Goes told (direction_called around place k d m bs is)
  direction_called_goes around place k d m (b ∷ []) (i ∷ []) there = direction_applied_goes around place k d m b (i ∷ []) i there
  direction_called_goes around place k d m bs is there = wrong_value_goes told place

  pub known_direction_goes : (around : Around) (place : Place) (k : ℕ) (d : ℕ) (m : Direction) (bs : List Bool) (is : List Indices)
      → has_direction told.directions d ≡ true → Goes told (known_direction around place k d m bs is)
  known_direction_goes around place k d m bs is there =
      if_goes told (any_never is) _ _ (never_value_goes told) (direction_called_goes around place k d m bs is there)

  pub direction_call_goes : (around : Around) (place : Place) (k : ℕ) (d : ℕ) (m : Option Direction) (bs : List Bool) (is : List Indices)
      → (is_some m ≡ true → has_direction told.directions d ≡ true) → Goes told (direction_call around place k d m bs is)
  direction_call_goes around place k d None bs is there = wrong_value_goes told place
  direction_call_goes around place k d (Some m) bs is there = known_direction_goes around place k d m bs is (there refl)

  pub called_goes : (around : Around) (tabled : IsTabled told around) (place : Place) (k : ℕ) (d : Callee) (bs : List Bool) (is : List Indices)
      → Goes told (called around place k d bs is)
  called_goes around tabled place k (D.Function f) bs is =
      function_call_goes around place k f (slice_get around.functions f) bs is (tabled_function told around tabled f)
  called_goes around tabled place k (D.Row row) bs is = row_called_goes around.types place k row is
  called_goes around tabled place k (D.Converts d) bs is =
      direction_call_goes around place k d (slice_get around.directions d) bs is (tabled_has told around tabled d)
  called_goes around tabled place k (D.Applies d) bs is = wrong_value_goes told place
  called_goes around tabled place k (D.Constructor u c) bs is = wrong_value_goes told place
