-- What is kept by the steps of a walk is kept where types are widened, filled by a shape, and met.
use Rattle.std.proofs.Common.{ℕ, Bool, true, false, List, [], ◌∷◌, ◌++◌, map, slice_get, Option, Some, None, sym, ap, subst}
use Rattle.std.proofs.Common.{if◌then◌else◌}
use Rattle.sail_types.specs.Sums.{variable, zero_num}
use Rattle.sail_base.specs.declared.kind.Kind.{Kind}
use Rattle.sail_base.specs.declared.kind.Kind.TheVariants as K
use Rattle.sail_types.specs.declared.numbers.Con.{Con}
use Rattle.sail_types.specs.declared.numbers.Con.TheVariants as C
use Rattle.sail_types.specs.declared.numbers.Index.{Index}
use Rattle.sail_types.specs.declared.numbers.Index.TheVariants as N
use Rattle.sail_types.specs.declared.numbers.Num.{Num}
use Rattle.sail_types.specs.declared.shapes.Shape.{Shape, Shape-F, roll-Shape}
use Rattle.sail_types.specs.declared.shapes.Shape.TheFolds.{fold-roll-Shape, ind-Shape, map-Shape}
use Rattle.sail_types.specs.declared.shapes.Shape.TheOpen as S
use Rattle.sail_types.specs.declared.shapes.Shape.TheVariants as V
use Rattle.sail_types.specs.declared.table.Parameter.{Parameter}
use Rattle.sail_types.specs.declared.table.Types.{Types}
use Rattle.value_indices.specs.declared.indices.Indices.{Indices, roll-Indices}
use Rattle.value_indices.specs.declared.indices.Indices.TheFolds.{fold-roll-Indices, fold-roll-Reading, ind-Indices, map-Indices, map-Reading}
use Rattle.value_indices.specs.declared.indices.Indices.TheOpen as W
use Rattle.value_indices.specs.declared.indices.Indices.TheOpen.{Indices-F, Reading-F}
use Rattle.value_indices.specs.declared.indices.Indices.TheVariants as I
use Rattle.value_indices.specs.declared.indices.Naming.{Naming}
use Rattle.value_indices.specs.declared.indices.Naming.TheVariants as M
use Rattle.value_indices.specs.declared.indices.Reading.{Reading, roll-Reading}
use Rattle.value_indices.specs.declared.indices.Reading.TheVariants as R
use Rattle.value_indices.specs.Opening.{any_integer, any_truth}
use Rattle.value_indices.specs.Steps.{Walk, assume_if, bind, each, fresh, give}
use Rattle.wide_types.specs.Widening.{Keep, KeepIndices, each_kept, filled, fresh_index, fresh_indices, in_turn, is_below, is_con_below, kept_con, kept_each}
use Rattle.wide_types.specs.Widening.{kept_index, kept_indices, kept_integer, kept_num, kept_reading, kept_truth, kept_type, kept_value, opened_or_not}
use Rattle.wide_types.specs.Widening.{parameters_of}
use Rattle.wide_types.specs.Widening.{met, part_shapes, value_spelled, widest_form, widest_of, wide_typ}
use Rattle.value_indices.specs.Steps.{assume}
use Rattle.node_counts.proofs.Openings as Opened
use Rattle.node_counts.proofs.Openings.{Keeps}

module _ (P : (A : Type 0) → Walk A → Type 0) (keeps : Keeps P) where
  abbrev Kept : {A : Type 0} → Walk A → Type 0
  Kept {A} w = P A w

  give_kept : {A : Type 0} (x : A) → Kept (give x)
  give_kept x = keeps.gives x

  bind_kept : {A B : Type 0} (w : Walk A) (k : A → Walk B) → Kept w → ((x : A) → Kept (k x)) → Kept (bind w k)
  bind_kept w k h more = keeps.binds w k h more

  assume_kept : (c : Con) → Kept (assume c)
  assume_kept c = keeps.assumes c

  fresh_kept : Kept fresh
  fresh_kept = keeps.counts

  each_kept_by : {A B : Type 0} (f : A → Walk B) → ((x : A) → Kept (f x)) → (xs : List A) → Kept (each f xs)
  each_kept_by f h xs = Opened.each_kept P keeps f h xs

  any_truth_kept : (name : Naming) → Kept (any_truth name)
  any_truth_kept name = Opened.any_truth_kept P keeps name

  any_integer_kept : (name : Naming) → Kept (any_integer name)
  any_integer_kept name = Opened.any_integer_kept P keeps name

  pub if_kept : (o : Option Con) → Kept (assume_if o)
  if_kept None = give_kept tt
  if_kept (Some c) = assume_kept c

  truth_kept : (opens : Bool) → Kept (kept_truth opens)
  unfolding kept_truth
  truth_kept true = any_truth_kept M.Unnamed
  truth_kept false = give_kept (I.Truth (C.Truth true))

  integer_kept : (opens : Bool) → Kept (kept_integer opens)
  unfolding kept_integer
  integer_kept true = any_integer_kept M.Unnamed
  integer_kept false = give_kept (I.Integer zero_num)

  -- ---- numbers that are kept

  num_kept : (m : ℕ) (t : Num) → Kept (kept_num m t)
  unfolding kept_num
  num_kept m t = by (is_below m t)
    where
      by : (b : Bool) → Kept (if b then give t else bind fresh (λ v. give (variable v)))
      by true = give_kept t
      by false = bind_kept fresh (λ v. give (variable v)) fresh_kept (λ v. give_kept (variable v))

  con_kept : (m : ℕ) (c : Con) → Kept (kept_con m c)
  unfolding kept_con
  con_kept m c = by (is_con_below m c)
    where
      by : (b : Bool) → Kept (if b then give c else bind fresh (λ p. give (C.Holds p)))
      by true = give_kept c
      by false = bind_kept fresh (λ p. give (C.Holds p)) fresh_kept (λ p. give_kept (C.Holds p))

  index_kept : (m : ℕ) (i : Index) → Kept (kept_index m i)
  index_kept m (N.Number t) = bind_kept (kept_num m t) (λ u. give (N.Number u)) (num_kept m t) (λ u. give_kept (N.Number u))
  index_kept m (N.Truth c) = bind_kept (kept_con m c) (λ d. give (N.Truth d)) (con_kept m c) (λ d. give_kept (N.Truth d))

  indices_kept : (m : ℕ) (is : List Index) → Kept (kept_each m is)
  unfolding kept_each
  indices_kept m is = each_kept_by (kept_index m) (index_kept m) is

  -- ---- the widest type of a shape

  pub parameter_kept : (p : Parameter) (kind : Kind) → Kept (fresh_index p kind)
  parameter_kept p K.Int = bind_kept fresh (λ v. give (N.Number (variable v) ∷ [])) fresh_kept (λ v. give_kept (N.Number (variable v) ∷ []))
  parameter_kept p K.Bool = bind_kept fresh (λ v. give (N.Truth (C.Holds v) ∷ [])) fresh_kept (λ v. give_kept (N.Truth (C.Holds v) ∷ []))
  parameter_kept p K.Type = give_kept []

  parameters_kept : (ps : List Parameter) → Kept (fresh_indices ps)
  parameters_kept [] = give_kept []
  parameters_kept (p ∷ ps) = bind_kept (fresh_index p p.kind) _ (parameter_kept p p.kind) (λ i.
      bind_kept (fresh_indices ps) _ (parameters_kept ps) (λ is. give_kept (i ++ is)))

  module _ (types : Types) where
    WidestKept : Shape → Type 0
    WidestKept s = Kept (widest_of types s)

    abbrev SuchShape : Type 0
    SuchShape = (s : Shape) × WidestKept s

    abbrev shapes_in : List SuchShape → List Shape
    shapes_in ys = map (λ (y : SuchShape). y.0) ys

    turns_kept : (ys : List SuchShape) → Kept (in_turn (map (widest_of types) (shapes_in ys)))
    unfolding WidestKept
    turns_kept [] = give_kept []
    turns_kept (y ∷ ys) = bind_kept (widest_of types y.0) _ y.1
        (λ r. bind_kept (in_turn (map (widest_of types) (shapes_in ys))) _ (turns_kept ys) (λ rs. give_kept (r ∷ rs)))

    widest_kept : (y : Shape-F SuchShape) → Kept (widest_form types (map-Shape Shape (Walk Reading) (widest_of types) (map-Shape SuchShape Shape (λ p. p.0) y)))
    unfolding WidestKept
    widest_kept S.Unit = give_kept (R.Widened I.Unit)
    widest_kept S.Bool = give_kept (R.Widened (I.Truth (C.Truth true)))
    widest_kept S.Bit = give_kept (R.Widened I.Bit)
    widest_kept S.Bits = bind_kept fresh _ fresh_kept (λ v. give_kept (R.Widened (I.Bits (variable v))))
    widest_kept S.Int = give_kept (R.Widened (I.Integer zero_num))
    widest_kept S.String = give_kept (R.Widened I.String)
    widest_kept (S.List y) = bind_kept (widest_of types y.0) _ y.1 (λ r. give_kept (R.Widened (I.List r)))
    widest_kept (S.Vector y) = bind_kept fresh _ fresh_kept
        (λ v. bind_kept (widest_of types y.0) _ y.1 (λ r. give_kept (R.Widened (I.Vector (variable v) r))))
    widest_kept (S.Tuple ys) = bind_kept (in_turn (map (widest_of types) (shapes_in ys))) _ (turns_kept ys) (λ rs. give_kept (R.Parts rs))
    widest_kept (S.Named u ys) = bind_kept (fresh_indices (parameters_of (slice_get types.definitions u))) _
        (parameters_kept (parameters_of (slice_get types.definitions u))) (λ is.
        bind_kept (in_turn (map (widest_of types) (shapes_in ys))) _ (turns_kept ys) (λ rs. give_kept (R.Widened (I.Named u is rs))))
    widest_kept (S.Variable i) = give_kept (R.Widened (I.Variable i))
    widest_kept S.Hole = give_kept R.Hole
    widest_kept S.Never = give_kept R.Hole

    widest_step : (y : Shape-F SuchShape) → WidestKept (roll-Shape (map-Shape SuchShape Shape (λ p. p.0) y))
    unfolding WidestKept widest_of
    widest_step y = subst (λ w. Kept w) (sym (fold-roll-Shape (Walk Reading) (widest_form types) (map-Shape SuchShape Shape (λ p. p.0) y))) (widest_kept y)

    all_widest : (s : Shape) → WidestKept s
    all_widest = ind-Shape WidestKept (λ e y is. subst (λ d. WidestKept (roll-Shape d)) is (widest_step y))

    -- ---- what is kept of values and of types

    module _ (m : ℕ) where
      ValueKept : Indices → Type 0
      ValueKept i = (opens : Bool) (s : Shape) → Kept (kept_value types m i opens s)

      TypeKept : Reading → Type 0
      TypeKept r = (s : Shape) → Kept (kept_type types m r s)

      abbrev SuchI : Type 0
      SuchI = (i : Indices) × ValueKept i

      abbrev SuchR : Type 0
      SuchR = (r : Reading) × TypeKept r

      abbrev indices_of : Indices-F SuchI SuchR → Indices-F Indices Reading
      indices_of y = map-Indices SuchI SuchR Indices Reading (λ p. p.0) (λ p. p.0) y

      abbrev reading_of : Reading-F SuchI SuchR → Reading-F Indices Reading
      reading_of y = map-Reading SuchI SuchR Indices Reading (λ p. p.0) (λ p. p.0) y

      abbrev values_in : List SuchI → List Indices
      values_in ys = map (λ (y : SuchI). y.0) ys

      abbrev types_in : List SuchR → List Reading
      types_in ys = map (λ (y : SuchR). y.0) ys

      parts_kept : (ys : List SuchI) (opens : Bool) (ss : List Shape) → Kept (each_kept (opened_or_not opens (map (kept_value types m) (values_in ys))) ss)
      unfolding ValueKept
      parts_kept [] opens ss = give_kept []
      parts_kept (y ∷ ys) opens [] = bind_kept (kept_value types m y.0 opens V.Hole) _ (y.1 opens V.Hole) (λ i.
          bind_kept (each_kept (opened_or_not opens (map (kept_value types m) (values_in ys))) []) _ (parts_kept ys opens []) (λ is. give_kept (i ∷ is)))
      parts_kept (y ∷ ys) opens (s ∷ ss) = bind_kept (kept_value types m y.0 opens s) _ (y.1 opens s) (λ i.
          bind_kept (each_kept (opened_or_not opens (map (kept_value types m) (values_in ys))) ss) _ (parts_kept ys opens ss) (λ is. give_kept (i ∷ is)))

      types_kept : (ys : List SuchR) (ss : List Shape) → Kept (each_kept (map (kept_type types m) (types_in ys)) ss)
      unfolding TypeKept
      types_kept [] ss = give_kept []
      types_kept (y ∷ ys) [] = bind_kept (kept_type types m y.0 V.Hole) _ (y.1 V.Hole) (λ r.
          bind_kept (each_kept (map (kept_type types m) (types_in ys)) []) _ (types_kept ys []) (λ rs. give_kept (r ∷ rs)))
      types_kept (y ∷ ys) (s ∷ ss) = bind_kept (kept_type types m y.0 s) _ (y.1 s) (λ r.
          bind_kept (each_kept (map (kept_type types m) (types_in ys)) ss) _ (types_kept ys ss) (λ rs. give_kept (r ∷ rs)))

      abbrev kept_form : Indices-F Indices Reading → KeepIndices
      kept_form x = kept_indices m (map-Indices Indices Reading KeepIndices (Keep Reading) (kept_value types m) (kept_type types m) x)

      abbrev kept_type_form : Reading-F Indices Reading → Keep Reading
      kept_type_form x = kept_reading types m (map-Reading Indices Reading KeepIndices (Keep Reading) (kept_value types m) (kept_type types m) x)

      value_form_kept : (y : Indices-F SuchI SuchR) (opens : Bool) (s : Shape) → Kept (kept_form (indices_of y) opens s)
      unfolding TypeKept
      value_form_kept W.Never opens s = give_kept I.Never
      value_form_kept W.Unit opens s = give_kept I.Unit
      value_form_kept (W.Truth c) opens s = truth_kept opens
      value_form_kept W.Bit opens s = give_kept I.Bit
      value_form_kept (W.Bits t) opens s = bind_kept (kept_num m t) _ (num_kept m t) (λ u. give_kept (I.Bits u))
      value_form_kept (W.Integer t) opens s = integer_kept opens
      value_form_kept W.String opens s = give_kept I.String
      value_form_kept (W.List y) opens s = bind_kept _ _ (y.1 _) (λ q. give_kept (I.List q))
      value_form_kept (W.Vector n y) opens s = bind_kept (kept_num m n) _ (num_kept m n) (λ k. bind_kept _ _ (y.1 _) (λ q. give_kept (I.Vector k q)))
      value_form_kept (W.Tuple ys) opens s = bind_kept _ _ (parts_kept ys opens (part_shapes s)) (λ is. give_kept (I.Tuple is))
      value_form_kept (W.Named u is ys) opens s = bind_kept (kept_each m is) _ (indices_kept m is) (λ js.
          bind_kept _ _ (types_kept ys (part_shapes s)) (λ qs. give_kept (I.Named u js qs)))
      value_form_kept (W.Variable i) opens s = give_kept (I.Variable i)

      type_form_kept : (y : Reading-F SuchI SuchR) (s : Shape) → Kept (kept_type_form (reading_of y) s)
      unfolding ValueKept WidestKept
      type_form_kept (W.Of t is ys) s = bind_kept (kept_each m is) _ (indices_kept m is) (λ js.
          bind_kept _ _ (types_kept ys _) (λ qs. give_kept (R.Of (wide_typ t) js qs)))
      type_form_kept (W.Widened y) s = bind_kept _ _ (y.1 false s) (λ j. give_kept (R.Widened j))
      type_form_kept (W.Parts ys) s = bind_kept _ _ (types_kept ys (part_shapes s)) (λ qs. give_kept (R.Parts qs))
      type_form_kept W.Hole s = all_widest s

      value_step : (y : Indices-F SuchI SuchR) → ValueKept (roll-Indices (indices_of y))
      unfolding ValueKept kept_value kept_type
      value_step y opens s = subst (λ w. Kept w)
          (sym (ap (λ f. f opens s) (fold-roll-Indices KeepIndices (Keep Reading) (kept_indices m) (kept_reading types m) (indices_of y))))
          (value_form_kept y opens s)

      type_step : (y : Reading-F SuchI SuchR) → TypeKept (roll-Reading (reading_of y))
      unfolding TypeKept kept_value kept_type
      type_step y s = subst (λ w. Kept w)
          (sym (ap (λ f. f s) (fold-roll-Reading KeepIndices (Keep Reading) (kept_indices m) (kept_reading types m) (reading_of y)))) (type_form_kept y s)

      value_kept : (i : Indices) → ValueKept i
      value_kept = ind-Indices ValueKept TypeKept (λ e y is. subst (λ d. ValueKept (roll-Indices d)) is (value_step y))
          (λ e y is. subst (λ d. TypeKept (roll-Reading d)) is (type_step y))

      pub filled_value : (s : Shape) (i : Indices) → Kept (filled types m s i)
      unfolding ValueKept
      filled_value s i = bind_kept (kept_value types m i false s) _ (value_kept i false s) (λ j. give_kept (R.Widened j))

  -- and what is met where ways meet
  pub met_kept : (types : Types) (m : ℕ) (s : Shape) (i : Indices) → Kept (met types m s i)
  unfolding ValueKept
  met_kept types m s i = value_kept types m (value_spelled i) true s
