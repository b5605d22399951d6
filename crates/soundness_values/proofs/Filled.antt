-- What is filled by a shape, and what a builtin gives: what was in force still is.
use Rattle.std.proofs.Common.{ℕ, Bool, true, false, List, [], ◌∷◌, ◌++◌, map, slice_get, Option, Some, None, sym, ap, subst, arith}
use Rattle.std.proofs.Common.{if◌then◌else◌}
use Rattle.std.proofs.lemmas.List.{append-nil}
use Rattle.sail_types.specs.Sums.{variable, zero_num}
use Rattle.sail_base.specs.declared.kind.Kind.{Kind}
use Rattle.sail_base.specs.declared.kind.Kind.TheVariants as K
use Rattle.sail_types.specs.declared.numbers.Con.{Con}
use Rattle.sail_types.specs.declared.numbers.Con.TheVariants as C
use Rattle.sail_types.specs.declared.numbers.Index.{Index}
use Rattle.sail_types.specs.declared.numbers.Index.TheVariants as N
use Rattle.sail_types.specs.declared.numbers.Num.{Num}
use Rattle.sail_types.specs.declared.shapes.Shape.{Shape, Shape-F, roll-Shape}
use Rattle.sail_types.specs.declared.shapes.Shape.TheFolds.{fold-roll-Shape, ind-Shape, map-Shape}
use Rattle.sail_types.specs.declared.shapes.Shape.TheOpen as S
use Rattle.sail_types.specs.declared.shapes.Shape.TheVariants as V
use Rattle.sail_types.specs.declared.table.Parameter.{Parameter}
use Rattle.sail_types.specs.declared.table.Types.{Types}
use Rattle.value_indices.specs.declared.indices.Indices.{Indices, roll-Indices}
use Rattle.value_indices.specs.declared.indices.Indices.TheFolds.{fold-roll-Indices, fold-roll-Reading, ind-Indices, map-Indices, map-Reading}
use Rattle.value_indices.specs.declared.indices.Indices.TheOpen as W
use Rattle.value_indices.specs.declared.indices.Indices.TheOpen.{Indices-F, Reading-F}
use Rattle.value_indices.specs.declared.indices.Indices.TheVariants as I
use Rattle.value_indices.specs.declared.indices.Naming.{Naming, Naming-F, out-Naming}
use Rattle.value_indices.specs.declared.indices.Naming.TheOpen as G
use Rattle.value_indices.specs.declared.indices.Naming.TheVariants as M
use Rattle.value_indices.specs.declared.indices.Reading.{Reading, roll-Reading}
use Rattle.value_indices.specs.declared.indices.Reading.TheVariants as R
use Rattle.value_indices.specs.Opening.{any_integer, any_truth, fresh_for, integer_between, named_form}
use Rattle.value_indices.specs.Steps.{Walk, assume_if, bind, each, fresh, fresh_named, give, next_variable}
use Rattle.wide_types.specs.Widening.{Keep, KeepIndices, each_kept, filled, fresh_index, fresh_indices, in_turn, is_below, is_con_below, kept_con, kept_each}
use Rattle.wide_types.specs.Widening.{kept_index, kept_indices, kept_integer, kept_num, kept_reading, kept_truth, kept_type, kept_value, opened_or_not}
use Rattle.wide_types.specs.Widening.{parameters_of}
use Rattle.wide_types.specs.Widening.{met, part_shapes, value_spelled, widest_form, widest_of, wide_typ}
use Rattle.pattern_leaves.specs.Settings.{Around}
use Rattle.expression_steps.specs.Values.{filled_here}
use Rattle.soundness_steps.specs.Steps.{Grows}
use Rattle.soundness_forms.proofs.Growth.{grows_assume, grows_bind, grows_give}

-- ---- variables

pub grows_fresh : Grows fresh
unfolding fresh
grows_fresh = record { onward = λ facts n. omega arith; more = λ facts n. []; extends = λ facts n. sym (append-nil facts) }

grows_next : Grows next_variable
unfolding next_variable
grows_next = record { onward = λ facts n. omega arith; more = λ facts n. []; extends = λ facts n. sym (append-nil facts) }

grows_each : {A B : Type 0} (f : A → Walk B) → ((x : A) → Grows (f x)) → (xs : List A) → Grows (each f xs)
grows_each f h [] = grows_give []
grows_each f h (x ∷ xs) = grows_bind (f x) _ (h x) (λ y. grows_bind (each f xs) _ (grows_each f h xs) (λ ys. grows_give (y ∷ ys)))

fresh_named_grows : (name : List ℕ) → Grows (fresh_named name)
unfolding fresh_named
fresh_named_grows name = record { onward = λ facts n. omega arith; more = λ facts n. []; extends = λ facts n. sym (append-nil facts) }

naming_grows : (x : Naming-F Naming) → Grows (named_form x)
naming_grows (G.Named name) = fresh_named_grows name
naming_grows x = grows_fresh

fresh_for_grows : (name : Naming) → Grows (fresh_for name)
unfolding fresh_for
fresh_for_grows name = naming_grows (out-Naming name)

pub any_truth_grows : (name : Naming) → Grows (any_truth name)
unfolding any_truth
any_truth_grows name = grows_bind (fresh_for name) _ (fresh_for_grows name) (λ p. grows_give (I.Truth (C.Holds p)))

pub if_grows : (o : Option Con) → Grows (assume_if o)
if_grows None = grows_give tt
if_grows (Some c) = grows_assume c

any_integer_grows : (name : Naming) → Grows (any_integer name)
unfolding any_integer integer_between
any_integer_grows name = grows_bind (fresh_for name) _ (fresh_for_grows name) (λ v. grows_bind _ _ (grows_assume _) (λ x.
    grows_bind _ _ (grows_assume _) (λ y. grows_give (I.Integer (variable v)))))

truth_grows : (opens : Bool) → Grows (kept_truth opens)
unfolding kept_truth
truth_grows true = any_truth_grows M.Unnamed
truth_grows false = grows_give (I.Truth (C.Truth true))

integer_grows : (opens : Bool) → Grows (kept_integer opens)
unfolding kept_integer
integer_grows true = any_integer_grows M.Unnamed
integer_grows false = grows_give (I.Integer zero_num)

-- ---- numbers that are kept

num_grows : (m : ℕ) (t : Num) → Grows (kept_num m t)
unfolding kept_num
num_grows m t = by (is_below m t)
  where
    by : (b : Bool) → Grows (if b then give t else bind fresh (λ v. give (variable v)))
    by true = grows_give t
    by false = grows_bind fresh (λ v. give (variable v)) grows_fresh (λ v. grows_give (variable v))

con_grows : (m : ℕ) (c : Con) → Grows (kept_con m c)
unfolding kept_con
con_grows m c = by (is_con_below m c)
  where
    by : (b : Bool) → Grows (if b then give c else bind fresh (λ p. give (C.Holds p)))
    by true = grows_give c
    by false = grows_bind fresh (λ p. give (C.Holds p)) grows_fresh (λ p. grows_give (C.Holds p))

index_grows : (m : ℕ) (i : Index) → Grows (kept_index m i)
index_grows m (N.Number t) = grows_bind (kept_num m t) (λ u. give (N.Number u)) (num_grows m t) (λ u. grows_give (N.Number u))
index_grows m (N.Truth c) = grows_bind (kept_con m c) (λ d. give (N.Truth d)) (con_grows m c) (λ d. grows_give (N.Truth d))

indices_grow : (m : ℕ) (is : List Index) → Grows (kept_each m is)
unfolding kept_each
indices_grow m is = grows_each (kept_index m) (index_grows m) is

-- ---- the widest type of a shape

pub parameter_grows : (p : Parameter) (kind : Kind) → Grows (fresh_index p kind)
parameter_grows p K.Int = grows_bind fresh (λ v. give (N.Number (variable v) ∷ [])) grows_fresh (λ v. grows_give (N.Number (variable v) ∷ []))
parameter_grows p K.Bool = grows_bind fresh (λ v. give (N.Truth (C.Holds v) ∷ [])) grows_fresh (λ v. grows_give (N.Truth (C.Holds v) ∷ []))
parameter_grows p K.Type = grows_give []

parameters_grow : (ps : List Parameter) → Grows (fresh_indices ps)
parameters_grow [] = grows_give []
parameters_grow (p ∷ ps) = grows_bind (fresh_index p p.kind) _ (parameter_grows p p.kind) (λ i.
    grows_bind (fresh_indices ps) _ (parameters_grow ps) (λ is. grows_give (i ++ is)))

module _ (types : Types) where
  WidestGrows : Shape → Type 0
  WidestGrows s = Grows (widest_of types s)

  abbrev SuchShape : Type 0
  SuchShape = (s : Shape) × WidestGrows s

  abbrev shapes_in : List SuchShape → List Shape
  shapes_in ys = map (λ (y : SuchShape). y.0) ys

  turns_grow : (ys : List SuchShape) → Grows (in_turn (map (widest_of types) (shapes_in ys)))
  unfolding WidestGrows
  turns_grow [] = grows_give []
  turns_grow (y ∷ ys) = grows_bind (widest_of types y.0) _ y.1
      (λ r. grows_bind (in_turn (map (widest_of types) (shapes_in ys))) _ (turns_grow ys) (λ rs. grows_give (r ∷ rs)))

  widest_grows : (y : Shape-F SuchShape) → Grows (widest_form types (map-Shape Shape (Walk Reading) (widest_of types) (map-Shape SuchShape Shape (λ p. p.0) y)))
  unfolding WidestGrows
  widest_grows S.Unit = grows_give (R.Widened I.Unit)
  widest_grows S.Bool = grows_give (R.Widened (I.Truth (C.Truth true)))
  widest_grows S.Bit = grows_give (R.Widened I.Bit)
  widest_grows S.Bits = grows_bind fresh _ grows_fresh (λ v. grows_give (R.Widened (I.Bits (variable v))))
  widest_grows S.Int = grows_give (R.Widened (I.Integer zero_num))
  widest_grows S.String = grows_give (R.Widened I.String)
  widest_grows (S.List y) = grows_bind (widest_of types y.0) _ y.1 (λ r. grows_give (R.Widened (I.List r)))
  widest_grows (S.Vector y) = grows_bind fresh _ grows_fresh
      (λ v. grows_bind (widest_of types y.0) _ y.1 (λ r. grows_give (R.Widened (I.Vector (variable v) r))))
  widest_grows (S.Tuple ys) = grows_bind (in_turn (map (widest_of types) (shapes_in ys))) _ (turns_grow ys) (λ rs. grows_give (R.Parts rs))
  widest_grows (S.Named u ys) = grows_bind (fresh_indices (parameters_of (slice_get types.definitions u))) _
      (parameters_grow (parameters_of (slice_get types.definitions u))) (λ is.
      grows_bind (in_turn (map (widest_of types) (shapes_in ys))) _ (turns_grow ys) (λ rs. grows_give (R.Widened (I.Named u is rs))))
  widest_grows (S.Variable i) = grows_give (R.Widened (I.Variable i))
  widest_grows S.Hole = grows_give R.Hole
  widest_grows S.Never = grows_give R.Hole

  widest_step : (y : Shape-F SuchShape) → WidestGrows (roll-Shape (map-Shape SuchShape Shape (λ p. p.0) y))
  unfolding WidestGrows widest_of
  widest_step y = subst (λ w. Grows w) (sym (fold-roll-Shape (Walk Reading) (widest_form types) (map-Shape SuchShape Shape (λ p. p.0) y))) (widest_grows y)

  all_widest : (s : Shape) → WidestGrows s
  all_widest = ind-Shape WidestGrows (λ e y is. subst (λ d. WidestGrows (roll-Shape d)) is (widest_step y))

  -- ---- what is kept of values and of types

  module _ (m : ℕ) where
    ValueGrows : Indices → Type 0
    ValueGrows i = (opens : Bool) (s : Shape) → Grows (kept_value types m i opens s)

    TypeGrows : Reading → Type 0
    TypeGrows r = (s : Shape) → Grows (kept_type types m r s)

    abbrev SuchI : Type 0
    SuchI = (i : Indices) × ValueGrows i

    abbrev SuchR : Type 0
    SuchR = (r : Reading) × TypeGrows r

    abbrev indices_of : Indices-F SuchI SuchR → Indices-F Indices Reading
    indices_of y = map-Indices SuchI SuchR Indices Reading (λ p. p.0) (λ p. p.0) y

    abbrev reading_of : Reading-F SuchI SuchR → Reading-F Indices Reading
    reading_of y = map-Reading SuchI SuchR Indices Reading (λ p. p.0) (λ p. p.0) y

    abbrev values_in : List SuchI → List Indices
    values_in ys = map (λ (y : SuchI). y.0) ys

    abbrev types_in : List SuchR → List Reading
    types_in ys = map (λ (y : SuchR). y.0) ys

    parts_grow : (ys : List SuchI) (opens : Bool) (ss : List Shape) → Grows (each_kept (opened_or_not opens (map (kept_value types m) (values_in ys))) ss)
    unfolding ValueGrows
    parts_grow [] opens ss = grows_give []
    parts_grow (y ∷ ys) opens [] = grows_bind (kept_value types m y.0 opens V.Hole) _ (y.1 opens V.Hole) (λ i.
        grows_bind (each_kept (opened_or_not opens (map (kept_value types m) (values_in ys))) []) _ (parts_grow ys opens []) (λ is. grows_give (i ∷ is)))
    parts_grow (y ∷ ys) opens (s ∷ ss) = grows_bind (kept_value types m y.0 opens s) _ (y.1 opens s) (λ i.
        grows_bind (each_kept (opened_or_not opens (map (kept_value types m) (values_in ys))) ss) _ (parts_grow ys opens ss) (λ is. grows_give (i ∷ is)))

    types_grow : (ys : List SuchR) (ss : List Shape) → Grows (each_kept (map (kept_type types m) (types_in ys)) ss)
    unfolding TypeGrows
    types_grow [] ss = grows_give []
    types_grow (y ∷ ys) [] = grows_bind (kept_type types m y.0 V.Hole) _ (y.1 V.Hole) (λ r.
        grows_bind (each_kept (map (kept_type types m) (types_in ys)) []) _ (types_grow ys []) (λ rs. grows_give (r ∷ rs)))
    types_grow (y ∷ ys) (s ∷ ss) = grows_bind (kept_type types m y.0 s) _ (y.1 s) (λ r.
        grows_bind (each_kept (map (kept_type types m) (types_in ys)) ss) _ (types_grow ys ss) (λ rs. grows_give (r ∷ rs)))

    abbrev kept_form : Indices-F Indices Reading → KeepIndices
    kept_form x = kept_indices m (map-Indices Indices Reading KeepIndices (Keep Reading) (kept_value types m) (kept_type types m) x)

    abbrev kept_type_form : Reading-F Indices Reading → Keep Reading
    kept_type_form x = kept_reading types m (map-Reading Indices Reading KeepIndices (Keep Reading) (kept_value types m) (kept_type types m) x)

    value_form_grows : (y : Indices-F SuchI SuchR) (opens : Bool) (s : Shape) → Grows (kept_form (indices_of y) opens s)
    unfolding TypeGrows
    value_form_grows W.Never opens s = grows_give I.Never
    value_form_grows W.Unit opens s = grows_give I.Unit
    value_form_grows (W.Truth c) opens s = truth_grows opens
    value_form_grows W.Bit opens s = grows_give I.Bit
    value_form_grows (W.Bits t) opens s = grows_bind (kept_num m t) _ (num_grows m t) (λ u. grows_give (I.Bits u))
    value_form_grows (W.Integer t) opens s = integer_grows opens
    value_form_grows W.String opens s = grows_give I.String
    value_form_grows (W.List y) opens s = grows_bind _ _ (y.1 _) (λ q. grows_give (I.List q))
    value_form_grows (W.Vector n y) opens s = grows_bind (kept_num m n) _ (num_grows m n) (λ k. grows_bind _ _ (y.1 _) (λ q. grows_give (I.Vector k q)))
    value_form_grows (W.Tuple ys) opens s = grows_bind _ _ (parts_grow ys opens (part_shapes s)) (λ is. grows_give (I.Tuple is))
    value_form_grows (W.Named u is ys) opens s = grows_bind (kept_each m is) _ (indices_grow m is) (λ js.
        grows_bind _ _ (types_grow ys (part_shapes s)) (λ qs. grows_give (I.Named u js qs)))
    value_form_grows (W.Variable i) opens s = grows_give (I.Variable i)

    type_form_grows : (y : Reading-F SuchI SuchR) (s : Shape) → Grows (kept_type_form (reading_of y) s)
    unfolding ValueGrows WidestGrows
    type_form_grows (W.Of t is ys) s = grows_bind (kept_each m is) _ (indices_grow m is) (λ js.
        grows_bind _ _ (types_grow ys _) (λ qs. grows_give (R.Of (wide_typ t) js qs)))
    type_form_grows (W.Widened y) s = grows_bind _ _ (y.1 false s) (λ j. grows_give (R.Widened j))
    type_form_grows (W.Parts ys) s = grows_bind _ _ (types_grow ys (part_shapes s)) (λ qs. grows_give (R.Parts qs))
    type_form_grows W.Hole s = all_widest s

    value_step : (y : Indices-F SuchI SuchR) → ValueGrows (roll-Indices (indices_of y))
    unfolding ValueGrows kept_value kept_type
    value_step y opens s = subst (λ w. Grows w)
        (sym (ap (λ f. f opens s) (fold-roll-Indices KeepIndices (Keep Reading) (kept_indices m) (kept_reading types m) (indices_of y))))
        (value_form_grows y opens s)

    type_step : (y : Reading-F SuchI SuchR) → TypeGrows (roll-Reading (reading_of y))
    unfolding TypeGrows kept_value kept_type
    type_step y s = subst (λ w. Grows w)
        (sym (ap (λ f. f s) (fold-roll-Reading KeepIndices (Keep Reading) (kept_indices m) (kept_reading types m) (reading_of y)))) (type_form_grows y s)

    value_grows : (i : Indices) → ValueGrows i
    value_grows = ind-Indices ValueGrows TypeGrows (λ e y is. subst (λ d. ValueGrows (roll-Indices d)) is (value_step y))
        (λ e y is. subst (λ d. TypeGrows (roll-Reading d)) is (type_step y))

    pub filled_value : (s : Shape) (i : Indices) → Grows (filled types m s i)
    unfolding ValueGrows
    filled_value s i = grows_bind (kept_value types m i false s) _ (value_grows i false s) (λ j. grows_give (R.Widened j))

pub filled_grows : (around : Around) (s : Shape) (i : Indices) → Grows (filled_here around s i)
filled_grows around s i = grows_bind next_variable _ grows_next (λ m. filled_value around.types m s i)

-- and what is met where ways meet
pub met_grows : (types : Types) (m : ℕ) (s : Shape) (i : Indices) → Grows (met types m s i)
unfolding ValueGrows
met_grows types m s i = value_grows types m (value_spelled i) true s
