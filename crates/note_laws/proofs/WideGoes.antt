-- Where ways meet, what is kept of the first goes through no mapping.
use Rattle.std.proofs.Common.{◌≡◌, ℕ, Bool, true, false, List, [], ◌∷◌, map, slice_get, sym, ap, subst}
use Rattle.sail_base.specs.declared.kind.Kind.{Kind}
use Rattle.sail_base.specs.declared.kind.Kind.TheVariants as K
use Rattle.sail_types.specs.declared.numbers.Con.{Con}
use Rattle.sail_types.specs.declared.numbers.Index.{Index}
use Rattle.sail_types.specs.declared.numbers.Index.TheVariants as N
use Rattle.sail_types.specs.declared.numbers.Num.{Num}
use Rattle.sail_types.specs.declared.shapes.Shape.{Shape, Shape-F, roll-Shape}
use Rattle.sail_types.specs.declared.shapes.Shape.TheFolds.{fold-roll-Shape, ind-Shape, map-Shape}
use Rattle.sail_types.specs.declared.shapes.Shape.TheOpen as S
use Rattle.sail_types.specs.declared.shapes.Shape.TheVariants as V
use Rattle.sail_types.specs.declared.table.Parameter.{Parameter}
use Rattle.sail_types.specs.declared.table.Types.{Types}
use Rattle.value_indices.specs.declared.indices.Indices.{Indices, roll-Indices}
use Rattle.value_indices.specs.declared.indices.Indices.TheFolds.{fold-roll-Indices, fold-roll-Reading, ind-Indices, map-Indices, map-Reading}
use Rattle.value_indices.specs.declared.indices.Indices.TheOpen as W
use Rattle.value_indices.specs.declared.indices.Indices.TheOpen.{Indices-F, Reading-F}
use Rattle.value_indices.specs.declared.indices.Naming.TheVariants as M
use Rattle.value_indices.specs.declared.indices.Reading.{Reading, roll-Reading}
use Rattle.value_indices.specs.Steps.{Walk}
use Rattle.wide_types.specs.Widening.{Keep, KeepIndices, each_kept, filled, fresh_index, fresh_indices, in_turn, item_shape, kept_con, kept_each}
use Rattle.wide_types.specs.Widening.{kept_index, kept_indices, kept_integer, kept_num, kept_reading, kept_truth, kept_type, kept_value, met}
use Rattle.wide_types.specs.Widening.{opened_or_not, parameters_of, part_shapes, value_spelled, is_below, is_con_below}
use Rattle.wide_types.specs.Widening.{widest_form, widest_of}
use Rattle.note_laws.specs.Ways.{Told}
use Rattle.note_laws.proofs.Goes.{Goes, bind_goes, each_goes, fresh_goes, give_goes, if_goes}
use Rattle.note_laws.proofs.OpeningGoes.{any_integer_goes, any_truth_goes}

module _ (told : Told) where
  -- ---- numbers

  kept_num_goes : (m : ℕ) (t : Num) → Goes told (kept_num m t)
  unfolding kept_num
  kept_num_goes m t =
      if_goes told (is_below m t) _ _ (give_goes told _) (bind_goes told _ _ (fresh_goes told) (λ v. give_goes told _))

  kept_con_goes : (m : ℕ) (c : Con) → Goes told (kept_con m c)
  unfolding kept_con
  kept_con_goes m c =
      if_goes told (is_con_below m c) _ _ (give_goes told _) (bind_goes told _ _ (fresh_goes told) (λ v. give_goes told _))

  kept_index_goes : (m : ℕ) (i : Index) → Goes told (kept_index m i)
  kept_index_goes m (N.Number t) = bind_goes told _ _ (kept_num_goes m t) (λ u. give_goes told _)
  kept_index_goes m (N.Truth c) = bind_goes told _ _ (kept_con_goes m c) (λ d. give_goes told _)

  kept_each_goes : (m : ℕ) (is : List Index) → Goes told (kept_each m is)
  unfolding kept_each
  kept_each_goes m is = each_goes told (kept_index m) (kept_index_goes m) is

  pub fresh_index_goes : (p : Parameter) (kind : Kind) → Goes told (fresh_index p kind)
  fresh_index_goes p K.Int = bind_goes told _ _ (fresh_goes told) (λ v. give_goes told _)
  fresh_index_goes p K.Bool = bind_goes told _ _ (fresh_goes told) (λ v. give_goes told _)
  fresh_index_goes p K.Type = give_goes told _

  fresh_indices_goes : (ps : List Parameter) → Goes told (fresh_indices ps)
  fresh_indices_goes [] = give_goes told _
  fresh_indices_goes (p ∷ ps) =
      bind_goes told _ _ (fresh_index_goes p p.kind) (λ i. bind_goes told _ _ (fresh_indices_goes ps) (λ is. give_goes told _))

  kept_integer_goes : (opens : Bool) → Goes told (kept_integer opens)
  unfolding kept_integer
  kept_integer_goes true = any_integer_goes told M.Unnamed
  kept_integer_goes false = give_goes told _

  kept_truth_goes : (opens : Bool) → Goes told (kept_truth opens)
  unfolding kept_truth
  kept_truth_goes true = any_truth_goes told M.Unnamed
  kept_truth_goes false = give_goes told _

  module _ (types : Types) where
    -- ---- the widest type of a shape

    WidestGoes : Shape → Type 0
    WidestGoes s = Goes told (widest_of types s)

    abbrev Shaped : Type 0
    Shaped = (s : Shape) × WidestGoes s

    abbrev shape_form : Shape-F Shaped → Shape-F Shape
    shape_form y = map-Shape Shaped Shape (λ p. p.0) y

    shapes_go : (ys : List Shaped) → Goes told (in_turn (map (widest_of types) (map (λ (y : Shaped). y.0) ys)))
    unfolding WidestGoes
    shapes_go [] = give_goes told _
    shapes_go (y ∷ ys) = bind_goes told _ _ y.1 (λ x. bind_goes told _ _ (shapes_go ys) (λ xs. give_goes told _))

    widest_form_goes : (y : Shape-F Shaped) → Goes told (widest_form types (map-Shape Shape (Walk Reading) (widest_of types) (shape_form y)))
    unfolding WidestGoes
    widest_form_goes S.Unit = give_goes told _
    widest_form_goes S.Bool = give_goes told _
    widest_form_goes S.Bit = give_goes told _
    widest_form_goes S.Bits = bind_goes told _ _ (fresh_goes told) (λ v. give_goes told _)
    widest_form_goes S.Int = give_goes told _
    widest_form_goes S.String = give_goes told _
    widest_form_goes (S.List s) = bind_goes told _ _ s.1 (λ r. give_goes told _)
    widest_form_goes (S.Vector s) = bind_goes told _ _ (fresh_goes told) (λ v. bind_goes told _ _ s.1 (λ r. give_goes told _))
    widest_form_goes (S.Tuple ss) = bind_goes told _ _ (shapes_go ss) (λ rs. give_goes told _)
    widest_form_goes (S.Named u ss) =
        bind_goes told _ _ (fresh_indices_goes (parameters_of (slice_get types.definitions u))) (λ is.
        bind_goes told _ _ (shapes_go ss) (λ rs. give_goes told _))
    widest_form_goes (S.Variable i) = give_goes told _
    widest_form_goes S.Hole = give_goes told _
    widest_form_goes S.Never = give_goes told _

    widest_step : (y : Shape-F Shaped) → WidestGoes (roll-Shape (shape_form y))
    unfolding WidestGoes widest_of
    widest_step y =
        subst (λ (w : Walk Reading). Goes told w) (sym (fold-roll-Shape (Walk Reading) (widest_form types) (shape_form y))) (widest_form_goes y)

    each_widest : (s : Shape) → WidestGoes s
    each_widest = ind-Shape WidestGoes (λ e y same_form. subst (λ d. WidestGoes (roll-Shape d)) same_form (widest_step y))

    widest_goes : (s : Shape) → Goes told (widest_of types s)
    unfolding WidestGoes
    widest_goes s = each_widest s

    -- ---- values and types

    module _ (m : ℕ) where
      ValueGoes : Indices → Type 0
      ValueGoes i = (opens : Bool) (s : Shape) → Goes told (kept_value types m i opens s)

      TypeGoes : Reading → Type 0
      TypeGoes r = (s : Shape) → Goes told (kept_type types m r s)

      abbrev Value : Type 0
      Value = (i : Indices) × ValueGoes i

      abbrev Typed : Type 0
      Typed = (r : Reading) × TypeGoes r

      abbrev value_form : Indices-F Value Typed → Indices-F Indices Reading
      value_form y = map-Indices Value Typed Indices Reading (λ p. p.0) (λ p. p.0) y

      abbrev type_form : Reading-F Value Typed → Reading-F Indices Reading
      type_form y = map-Reading Value Typed Indices Reading (λ p. p.0) (λ p. p.0) y

      abbrev kept_form : Indices-F Indices Reading → Bool → Shape → Walk Indices
      kept_form x opens s =
          kept_indices m (map-Indices Indices Reading KeepIndices (Keep Reading) (kept_value types m) (kept_type types m) x) opens s

      abbrev read_form : Reading-F Indices Reading → Shape → Walk Reading
      read_form x s = kept_reading types m (map-Reading Indices Reading KeepIndices (Keep Reading) (kept_value types m) (kept_type types m) x) s

      keeps_form : (x : Indices-F Indices Reading) (opens : Bool) (s : Shape) → kept_value types m (roll-Indices x) opens s ≡ kept_form x opens s
      unfolding kept_value kept_type
      keeps_form x opens s = ap (λ f. f opens s) (fold-roll-Indices KeepIndices (Keep Reading) (kept_indices m) (kept_reading types m) x)

      keeps_type : (x : Reading-F Indices Reading) (s : Shape) → kept_type types m (roll-Reading x) s ≡ read_form x s
      unfolding kept_value kept_type
      keeps_type x s = ap (λ f. f s) (fold-roll-Reading KeepIndices (Keep Reading) (kept_indices m) (kept_reading types m) x)

      values_go : (opens : Bool) (ys : List Value) (ss : List Shape)
          → Goes told (each_kept (opened_or_not opens (map (kept_value types m) (map (λ (y : Value). y.0) ys))) ss)
      unfolding ValueGoes
      values_go opens [] ss = give_goes told _
      values_go opens (y ∷ ys) [] =
          bind_goes told _ _ (y.1 opens V.Hole) (λ x. bind_goes told _ _ (values_go opens ys []) (λ xs. give_goes told _))
      values_go opens (y ∷ ys) (s ∷ ss) =
          bind_goes told _ _ (y.1 opens s) (λ x. bind_goes told _ _ (values_go opens ys ss) (λ xs. give_goes told _))

      types_go : (ys : List Typed) (ss : List Shape) → Goes told (each_kept (map (kept_type types m) (map (λ (y : Typed). y.0) ys)) ss)
      unfolding TypeGoes
      types_go [] ss = give_goes told _
      types_go (y ∷ ys) [] = bind_goes told _ _ (y.1 V.Hole) (λ x. bind_goes told _ _ (types_go ys []) (λ xs. give_goes told _))
      types_go (y ∷ ys) (s ∷ ss) = bind_goes told _ _ (y.1 s) (λ x. bind_goes told _ _ (types_go ys ss) (λ xs. give_goes told _))

      value_goes : (y : Indices-F Value Typed) (opens : Bool) (s : Shape) → Goes told (kept_form (value_form y) opens s)
      unfolding TypeGoes
      value_goes W.Never opens s = give_goes told _
      value_goes W.Unit opens s = give_goes told _
      value_goes (W.Truth c) opens s = kept_truth_goes opens
      value_goes W.Bit opens s = give_goes told _
      value_goes (W.Bits t) opens s = bind_goes told _ _ (kept_num_goes m t) (λ u. give_goes told _)
      value_goes (W.Integer t) opens s = kept_integer_goes opens
      value_goes W.String opens s = give_goes told _
      value_goes (W.List r) opens s = bind_goes told _ _ (r.1 (item_shape s)) (λ q. give_goes told _)
      value_goes (W.Vector n r) opens s =
          bind_goes told _ _ (kept_num_goes m n) (λ k. bind_goes told _ _ (r.1 (item_shape s)) (λ q. give_goes told _))
      value_goes (W.Tuple ys) opens s = bind_goes told _ _ (values_go opens ys (part_shapes s)) (λ is. give_goes told _)
      value_goes (W.Named u arguments ys) opens s =
          bind_goes told _ _ (kept_each_goes m arguments) (λ is. bind_goes told _ _ (types_go ys (part_shapes s)) (λ qs. give_goes told _))
      value_goes (W.Variable i) opens s = give_goes told _

      type_goes : (y : Reading-F Value Typed) (s : Shape) → Goes told (read_form (type_form y) s)
      unfolding ValueGoes
      type_goes (W.Of t is ys) s =
          bind_goes told _ _ (kept_each_goes m is) (λ js. bind_goes told _ _ (types_go ys _) (λ qs. give_goes told _))
      type_goes (W.Widened y) s = bind_goes told _ _ (y.1 false s) (λ j. give_goes told _)
      type_goes (W.Parts ys) s = bind_goes told _ _ (types_go ys (part_shapes s)) (λ qs. give_goes told _)
      type_goes W.Hole s = widest_goes s

      value_step : (y : Indices-F Value Typed) → ValueGoes (roll-Indices (value_form y))
      unfolding ValueGoes
      value_step y opens s = subst (λ (w : Walk Indices). Goes told w) (sym (keeps_form (value_form y) opens s)) (value_goes y opens s)

      type_step : (y : Reading-F Value Typed) → TypeGoes (roll-Reading (type_form y))
      unfolding TypeGoes
      type_step y s = subst (λ (w : Walk Reading). Goes told w) (sym (keeps_type (type_form y) s)) (type_goes y s)

      each_value : (i : Indices) → ValueGoes i
      each_value = ind-Indices ValueGoes TypeGoes (λ e y same_form. subst (λ d. ValueGoes (roll-Indices d)) same_form (value_step y))
          (λ e y same_form. subst (λ d. TypeGoes (roll-Reading d)) same_form (type_step y))

      kept_value_goes : (i : Indices) (opens : Bool) (s : Shape) → Goes told (kept_value types m i opens s)
      unfolding ValueGoes
      kept_value_goes i opens s = each_value i opens s

  pub met_goes : (types : Types) (m : ℕ) (s : Shape) (i : Indices) → Goes told (met types m s i)
  met_goes types m s i = kept_value_goes types m (value_spelled i) true s

  pub filled_goes : (types : Types) (m : ℕ) (s : Shape) (i : Indices) → Goes told (filled types m s i)
  filled_goes types m s i = bind_goes told _ _ (kept_value_goes types m i false s) (λ j. give_goes told _)
