-- Holes that are filled go through no mapping.
use Rattle.std.specs.Prelude.{Bool, List, ℕ, ◌∷◌, ◌||◌}
use Rattle.sail_base.specs.declared.place.Place.{Place}
use Rattle.sail_types.specs.declared.numbers.Index.{Index}
use Rattle.sail_types.specs.declared.numbers.Num.{Num}
use Rattle.sail_types.specs.declared.types.Typ.{Typ}
use Rattle.sail_types.specs.declared.types.Typ.TheVariants as Y
use Rattle.value_indices.specs.declared.indices.Indices.{Indices, out-Indices}
use Rattle.value_indices.specs.declared.indices.Indices.TheOpen as W
use Rattle.value_indices.specs.declared.indices.Indices.TheOpen.{Indices-F}
use Rattle.value_indices.specs.declared.indices.Indices.TheVariants as I
use Rattle.value_indices.specs.declared.indices.Reading.{Reading}
use Rattle.value_indices.specs.declared.indices.Reading.TheVariants as R
use Rattle.value_fits.specs.Fitting.{fits}
use Rattle.wide_types.specs.Widening.{widened}
use Rattle.pattern_leaves.specs.Settings.{Around}
use Rattle.call_arguments.specs.Holes.{has_hole, types_without_holes, without_holes}
use Rattle.expression_forms.specs.Ways.{fields_of, update_operands}
use Rattle.expression_forms.specs.declared.ways.Reached.{Reached}
use Rattle.expression_steps.specs.Filling.{filled_or, types_behind, refilled, with_filled, struct_holed, with_made}
use Rattle.expression_steps.specs.Filling.{with_ended, items_filled, part_holed, part_behind, part_put, put_ended}
use Rattle.note_laws.specs.Ways.{Told}
use Rattle.note_laws.proofs.Goes.{Goes, give_goes, bind_goes, if_goes, next_variable_goes, owe_fit_goes}
use Rattle.note_laws.proofs.NodeGoes.{node_ended_goes}
use Rattle.note_laws.proofs.WayGoes.{owe_part_goes}

module _ (told : Told) where
  pub refilled_goes : (around : Around) (place : Place) (ts : List Typ) (i : Indices) (v : ℕ) (js : List Index) (qs : List Reading) (is : List Indices)
      → Goes told (refilled around place ts i v js qs is)
  refilled_goes around place ts i v js qs is =
      bind_goes told _ _ (owe_fit_goes told place (fits around.types (I.Tuple is) (R.Of (Y.Tuple ts) js (types_without_holes qs))))
      (λ t. bind_goes told _ _ (owe_fit_goes told place (fits around.types i (R.Widened (I.Named v js (types_without_holes qs)))))
      (λ u. give_goes told _))

  pub with_filled_goes : (around : Around) (place : Place) (ts : List Typ) (i : Indices) (is : List Indices) (form : Indices-F Indices Reading)
      → Goes told (with_filled around place ts i is form)
  with_filled_goes around place ts i is (W.Named v js rs) =
      bind_goes told _ _ (next_variable_goes told) (λ m. refilled_goes around place ts i v js (types_behind m ts rs is) is)
  with_filled_goes around place ts i is form = give_goes told _

  pub with_made_goes : (around : Around) (place : Place) (u : ℕ) (ks : List ℕ) (i : Indices) (is : List Indices)
      → Goes told (with_made around place u ks i is)
  with_made_goes around place u ks i is =
      if_goes told (struct_holed (out-Indices i)) _ _ (with_filled_goes around place (fields_of around u ks) i is (out-Indices i)) (give_goes told _)

  pub with_ended_goes : (around : Around) (place : Place) (k : ℕ) (u : ℕ) (ks : List ℕ) (i : Indices) (is : List Indices)
      → Goes told (with_ended around place k u ks i is)
  with_ended_goes around place k u ks i is = bind_goes told _ _ (with_made_goes around place u ks i is) (node_ended_goes told k (i ∷ is))

  pub items_filled_goes : (around : Around) (place : Place) (i : Indices) (n : Num) (j : Indices) (q : Reading)
      → Goes told (items_filled around place i n j q)
  items_filled_goes around place i n j q =
      bind_goes told _ _ (owe_fit_goes told place (fits around.types j (without_holes q)))
      (λ t. bind_goes told _ _ (owe_fit_goes told place (fits around.types i (R.Widened (I.Vector n (without_holes q))))) (λ u. give_goes told _))

  pub part_holed_goes : (around : Around) (place : Place) (i : Indices) (r : Reading) (j : Indices) (form : Indices-F Indices Reading)
      → Goes told (part_holed around place i r j form)
  part_holed_goes around place i r j (W.Vector n s) = items_filled_goes around place i n j (filled_or r (widened j))
  part_holed_goes around place i r j form =
      bind_goes told _ _ (owe_fit_goes told place (fits around.types j (without_holes r))) (λ t. give_goes told _)

  pub part_behind_goes : (around : Around) (place : Place) (i : Indices) (r : Reading) (j : Indices) → Goes told (part_behind around place i r j)
  part_behind_goes around place i r j = if_goes told (has_hole r) _ _ (part_holed_goes around place i r j (out-Indices i)) (give_goes told _)

  pub part_put_goes : (around : Around) (place : Place) (is_nested : Bool) (i : Indices) (x : Reached) (j : Indices)
      → Goes told (part_put around place is_nested i x j)
  part_put_goes around place is_nested i x j =
      bind_goes told _ _ (owe_part_goes told around place x (has_hole x.typ || is_nested) j) (λ t. part_behind_goes around place i x.typ j)

  pub put_ended_goes : (around : Around) (place : Place) (k : ℕ) (is_nested : Bool) (i : Indices) (x : Reached) (j : Indices)
      → Goes told (put_ended around place k is_nested i x j)
  put_ended_goes around place k is_nested i x j =
      bind_goes told _ _ (part_put_goes around place is_nested i x j) (node_ended_goes told k (update_operands i x j))
