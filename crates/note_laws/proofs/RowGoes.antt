-- Calls of builtins go through no mapping of a pattern.
use Rattle.std.specs.Prelude.{List, map}
use Rattle.sail_base.specs.declared.place.Place.{Place}
use Rattle.sail_types.specs.Sums.{variable, zero_num}
use Rattle.sail_types.specs.declared.numbers.Con.{Con}
use Rattle.sail_types.specs.declared.numbers.Index.{Index}
use Rattle.sail_types.specs.declared.numbers.Num.{Num}
use Rattle.sail_types.specs.declared.rows.Row.{Row}
use Rattle.sail_types.specs.declared.table.Types.{Types}
use Rattle.row_types.specs.RowTypes.{row_type}
use Rattle.row_types.specs.declared.kinds.Outcome.{Outcome}
use Rattle.row_types.specs.declared.kinds.Outcome.TheVariants as O
use Rattle.row_types.specs.declared.kinds.Product.{Product}
use Rattle.row_types.specs.declared.kinds.RowType.{RowType}
use Rattle.value_indices.specs.Opening.{bound_above, bound_below}
use Rattle.value_indices.specs.declared.indices.Indices.{Indices}
use Rattle.value_indices.specs.declared.indices.Indices.TheVariants as I
use Rattle.value_indices.specs.declared.indices.Naming.TheVariants as M
use Rattle.value_indices.specs.declared.indices.Reading.{Reading}
use Rattle.call_notes.specs.Ends.{any_never}
use Rattle.call_notes.specs.Taken.{takes}
use Rattle.call_notes.specs.declared.numbers.Numbers.{Numbers}
use Rattle.call_notes.specs.Rows.{argument_index, three_indices, numbers_under, number_in, condition_in, conditions_in, owed_by, second_of}
use Rattle.call_notes.specs.Rows.{bits_at, vector_at, fresh_result, outcome, first_shape, row_under, taken_call, row_call}
use Rattle.note_laws.specs.Ways.{Told}
use Rattle.note_laws.proofs.Goes.{Goes, give_goes, bind_goes, if_goes, assume_if_goes, assume_all_goes, fresh_goes, owe_goes}
use Rattle.note_laws.proofs.EndGoes.{never_value_goes, sized_goes, wrong_value_goes}
use Rattle.note_laws.proofs.OpeningGoes.{any_truth_goes, bits_of_goes, number_or_fresh_goes, truth_or_fresh_goes, vector_of_goes}

module _ (told : Told) where
  pub fresh_result_goes : (p : Product) (is : List Index) (low : Num) (high : Num) (cs : List Con) → Goes told (fresh_result p is low high cs)
  fresh_result_goes p is low high cs =
      bind_goes told _ _ (fresh_goes told)
      (λ v. bind_goes told _ _ (assume_if_goes told (bound_below (number_in (numbers_under p is (variable v)) low) (variable v)))
      (λ x. bind_goes told _ _ (assume_if_goes told (bound_above (variable v) (number_in (numbers_under p is (variable v)) high)))
      (λ y. bind_goes told _ _ (assume_all_goes told (conditions_in (numbers_under p is (variable v)) cs)) (λ z. give_goes told _))))

  pub bits_at_goes : (place : Place) (t : Num) → Goes told (bits_at place t)
  bits_at_goes place t = bind_goes told _ _ (sized_goes told place (I.Bits t)) (λ x. bits_of_goes told t)

  pub vector_at_goes : (place : Place) (item : Reading) (t : Num) → Goes told (vector_at place item t)
  vector_at_goes place item t = bind_goes told _ _ (sized_goes told place (I.Vector t item)) (λ x. vector_of_goes told item t)

  pub outcome_goes : (place : Place) (p : Product) (is : List Index) (args : List Indices) (ns : Numbers) (f : Outcome)
      → Goes told (outcome place p is args ns f)
  outcome_goes place p is args ns (O.Integer t) = bind_goes told _ _ (number_or_fresh_goes told (number_in ns t)) (λ n. give_goes told _)
  outcome_goes place p is args ns (O.Fresh low high cs) = fresh_result_goes p is low high cs
  outcome_goes place p is args ns (O.Truth c) = bind_goes told _ _ (truth_or_fresh_goes told (condition_in ns c)) (λ d. give_goes told _)
  outcome_goes place p is args ns O.Bool = any_truth_goes told M.Unnamed
  outcome_goes place p is args ns (O.Bits t) = bind_goes told _ _ (number_or_fresh_goes told (number_in ns t)) (bits_at_goes place)
  outcome_goes place p is args ns (O.Vector t) = bind_goes told _ _ (number_or_fresh_goes told (number_in ns t)) (vector_at_goes place (second_of args))
  outcome_goes place p is args ns O.String = give_goes told _
  outcome_goes place p is args ns O.Unit = give_goes told _

  pub row_under_goes : (place : Place) (row : RowType) (is : List Index) (args : List Indices) → Goes told (row_under place row is args)
  row_under_goes place row is args =
      bind_goes told _ _ (owe_goes told place (owed_by row.product (numbers_under row.product is zero_num) row.conditions))
      (λ t. outcome_goes place row.product is args (numbers_under row.product is zero_num) row.outcome)

  pub taken_call_goes : (place : Place) (row : Row) (args : List Indices) → Goes told (taken_call place row args)
  taken_call_goes place row args = row_under_goes place (row_type row (first_shape args)) (three_indices (map argument_index args)) args

  pub row_call_goes : (types : Types) (place : Place) (row : Row) (args : List Indices) → Goes told (row_call types place row args)
  row_call_goes types place row args =
      if_goes told (any_never args) _ _ (never_value_goes told)
      (if_goes told (takes types row args) _ _ (taken_call_goes place row args) (wrong_value_goes told place))
