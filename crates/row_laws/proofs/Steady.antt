-- The widened type of indices is one and the same where what they mean is.
use Rattle.std.proofs.Common.{◌≡◌, ℕ, List, [], ◌∷◌, map, ap, sym, ◌∙◌, refl, subst}
use Rattle.sail_types.specs.Belongs.{Reading as Closed, Readings as Closeds, reading, no_readings, more_readings}
use Rattle.sail_types.specs.Numbers.{Assignment, Positive}
use Rattle.sail_types.specs.declared.numbers.Index.{Index}
use Rattle.sail_types.specs.declared.table.Types.{Types}
use Rattle.sail_types.specs.declared.types.Typ.{Typ, Typ-F, out-Typ}
use Rattle.sail_types.specs.declared.types.Typ.TheOpen as T
use Rattle.sail_types.specs.declared.types.Typ.TheVariants as U
use Rattle.sail_types.specs.declared.types.Typ.TheViews.{out-roll-Typ}
use Rattle.value_indices.specs.declared.indices.Indices.{Indices, roll-Indices}
use Rattle.value_indices.specs.declared.indices.Indices.TheFolds.{fold-roll-Indices, fold-roll-Reading, map-Indices, map-Reading, ind-Indices}
use Rattle.value_indices.specs.declared.indices.Indices.TheOpen as W
use Rattle.value_indices.specs.declared.indices.Indices.TheOpen.{Indices-F, Reading-F}
use Rattle.value_indices.specs.declared.indices.Reading.{Reading, roll-Reading}
use Rattle.value_indices.specs.declared.indices.Reading.TheVariants as R
use Rattle.value_laws.specs.Belonging.{Integers, standing, closeds, index_there, Meant, meant, closed, closed_form, plain, tuple_of, type_variables}
use Rattle.value_laws.specs.Belonging.{types_or_own, wide_of, wides}
use Rattle.value_laws.proofs.Values.{meanings, meant_is, closing, closed_is}
use Rattle.wide_types.specs.Widening.{wide_indices, wide_reading, wide_typ, wide_value, widened, widened_type}

-- ---- parts of closed types

abbrev pub typ_of : Closed → Typ
typ_of (reading t mu rs) = t

abbrev pub assignment_of : Closed → Assignment
assignment_of (reading t mu rs) = mu

abbrev pub readings_of : Closed → Closeds
readings_of (reading t mu rs) = rs

abbrev list_of : Closeds → List Closed
list_of no_readings = []
list_of (more_readings r rs) = r ∷ list_of rs

list_back : (cs : List Closed) → list_of (closeds cs) ≡ cs
list_back [] = refl
list_back (c ∷ cs) = ap (λ ds. c ∷ ds) (list_back cs)

pub same_lists : (cs ds : List Closed) → closeds cs ≡ closeds ds → cs ≡ ds
same_lists cs ds e = sym (list_back cs) ∙ ap list_of e ∙ list_back ds

abbrev first_or : Closed → List Closed → Closed
first_or c [] = c
first_or c (d ∷ ds) = d

abbrev behind_first : List Closed → List Closed
behind_first [] = []
behind_first (d ∷ ds) = ds

pub first_same : (c d : Closed) (cs ds : List Closed) → (c ∷ cs) ≡ (d ∷ ds) → c ≡ d
first_same c d cs ds e = ap (first_or c) e

pub rest_same : (c d : Closed) (cs ds : List Closed) → (c ∷ cs) ≡ (d ∷ ds) → cs ≡ ds
rest_same c d cs ds e = ap behind_first e

abbrev args_in : Typ-F Typ → List Index
args_in (T.Named u is ts) = is
args_in x = []

args_back : (u : ℕ) (is : List Index) (ts : List Typ) → args_in (out-Typ (U.Named u is ts)) ≡ is
args_back u is ts = ap args_in (ap out-Typ (sym (U.rolls-Named u is ts)) ∙ out-roll-Typ (T.Named u is ts))

pub args_same : (u : ℕ) (is js : List Index) (ts us : List Typ) → U.Named u is ts ≡ U.Named u js us → is ≡ js
args_same u is js ts us e = sym (args_back u is ts) ∙ ap (λ t. args_in (out-Typ t)) e ∙ args_back u js us

module _ (types : Types) (past : Positive) (own : List Closed) (g k : Integers) where
  abbrev one : Assignment
  one = standing past g

  abbrev other : Assignment
  other = standing past k

  -- ---- where the types that two values widen to are the same, those of their widened indices are

  abbrev WideSame : Indices → Type 0
  WideSame i = (meant types (standing past g) own i).wide ≡ (meant types (standing past k) own i).wide

  SameValue : Indices → Type 0
  SameValue i = WideSame i → WideSame (wide_value i)

  SameType : Reading → Type 0
  SameType r = closed types one own r ≡ closed types other own r → closed types one own (widened_type r) ≡ closed types other own (widened_type r)

  abbrev SuchI : Type 0
  SuchI = (i : Indices) × SameValue i

  abbrev SuchR : Type 0
  SuchR = (r : Reading) × SameType r

  abbrev values_in : List SuchI → List Indices
  values_in ys = map (λ (y : SuchI). y.0) ys

  abbrev readings_in : List SuchR → List Reading
  readings_in ys = map (λ (y : SuchR). y.0) ys

  abbrev indices_of : Indices-F SuchI SuchR → Indices-F Indices Reading
  indices_of y = map-Indices SuchI SuchR Indices Reading (λ p. p.0) (λ p. p.0) y

  abbrev reading_of : Reading-F SuchI SuchR → Reading-F Indices Reading
  reading_of y = map-Reading SuchI SuchR Indices Reading (λ p. p.0) (λ p. p.0) y

  abbrev changed_form : Indices-F Indices Reading → Indices-F Indices Reading
  changed_form x = map-Indices Indices Reading Indices Reading wide_value widened_type x

  value_is : (x : Indices-F Indices Reading) → wide_value (roll-Indices x) ≡ roll-Indices (changed_form x)
  value_is x = fold-roll-Indices Indices Reading wide_indices wide_reading x

  type_is : (x : Reading-F Indices Reading)
      → widened_type (roll-Reading x) ≡ wide_reading (map-Reading Indices Reading Indices Reading wide_value widened_type x)
  type_is x = fold-roll-Reading Indices Reading wide_indices wide_reading x

  each_value : (ys : List SuchI) → wides (map (meant types one own) (values_in ys)) ≡ wides (map (meant types other own) (values_in ys))
      → wides (map (meant types one own) (map wide_value (values_in ys))) ≡ wides (map (meant types other own) (map wide_value (values_in ys)))
  unfolding SameValue
  each_value [] e = refl
  each_value (y ∷ ys) e =
      let first = y.1 (first_same (meant types one own y.0).wide (meant types other own y.0).wide (wides (map (meant types one own) (values_in ys)))
      (wides (map (meant types other own) (values_in ys))) e) in
      let rest = each_value ys (rest_same (meant types one own y.0).wide (meant types other own y.0).wide
      (wides (map (meant types one own) (values_in ys))) (wides (map (meant types other own) (values_in ys))) e) in
      λ j. first j ∷ rest j

  each_type : (ys : List SuchR) → map (closed types one own) (readings_in ys) ≡ map (closed types other own) (readings_in ys)
      → map (closed types one own) (map widened_type (readings_in ys)) ≡ map (closed types other own) (map widened_type (readings_in ys))
  unfolding SameType
  each_type [] e = refl
  each_type (y ∷ ys) e =
      let first = y.1 (first_same (closed types one own y.0) (closed types other own y.0) (map (closed types one own) (readings_in ys))
      (map (closed types other own) (readings_in ys)) e) in
      let rest = each_type ys (rest_same (closed types one own y.0) (closed types other own y.0) (map (closed types one own) (readings_in ys))
      (map (closed types other own) (readings_in ys)) e) in
      λ j. first j ∷ rest j

  -- ---- the forms of indices

  abbrev WideOf : Indices-F Indices Reading → Type 0
  WideOf x = wide_of types one own (meanings types one own x) ≡ wide_of types other own (meanings types other own x)

  item_same : (r : Reading) → closeds (closed types one own r ∷ []) ≡ closeds (closed types other own r ∷ [])
      → closed types one own r ≡ closed types other own r
  item_same r e =
      first_same (closed types one own r) (closed types other own r) [] [] (same_lists (closed types one own r ∷ []) (closed types other own r ∷ []) e)

  form_same : (y : Indices-F SuchI SuchR) → WideOf (indices_of y) → WideOf (changed_form (indices_of y))
  unfolding SameType
  form_same (W.List r) e =
      let item = r.1 (item_same r.0 (ap readings_of e)) in
      λ j. plain one (U.List (U.Variable 0)) (item j ∷ [])
  form_same (W.Vector t r) e =
      let item = r.1 (item_same r.0 (ap readings_of e)) in
      λ j. plain one (typ_of (e j)) (item j ∷ [])
  form_same (W.Tuple ys) e =
      let parts = each_value ys (same_lists (wides (map (meant types one own) (values_in ys))) (wides (map (meant types other own) (values_in ys)))
      (ap readings_of e)) in
      λ j. tuple_of one (parts j)
  form_same (W.Named u is rs) e =
      let cs = map (closed types one own) (readings_in rs) in
      let ds = map (closed types other own) (readings_in rs) in
      let args = args_same u (map (index_there one) is) (map (index_there other) is) (type_variables 0 cs) (type_variables 0 ds) (ap typ_of e) in
      let types_there = each_type rs (same_lists cs ds (ap readings_of e)) in
      λ j. plain one (U.Named u (args j) (type_variables 0 (types_there j))) (types_there j)
  form_same W.Never e = e
  form_same W.Unit e = e
  form_same (W.Truth c) e = e
  form_same W.Bit e = e
  form_same (W.Bits t) e = e
  form_same (W.Integer t) e = e
  form_same W.String e = e
  form_same (W.Variable i) e = e

  wide_at : (mu : Assignment) (x : Indices-F Indices Reading)
      → (meant types mu own (roll-Indices x)).wide ≡ wide_of types mu own (meanings types mu own x)
  wide_at mu x = ap (λ (m : Meant). m.wide) (meant_is types mu own (roll-Indices x) x refl)

  wide_changed : (mu : Assignment) (x : Indices-F Indices Reading)
      → (meant types mu own (wide_value (roll-Indices x))).wide ≡ wide_of types mu own (meanings types mu own (changed_form x))
  wide_changed mu x = ap (λ i. (meant types mu own i).wide) (value_is x) ∙ wide_at mu (changed_form x)

  rolled_value : (y : Indices-F SuchI SuchR) → SameValue (roll-Indices (indices_of y))
  unfolding SameValue
  rolled_value y e =
      let x = indices_of y in
      wide_changed one x ∙ form_same y (sym (wide_at one x) ∙ e ∙ wide_at other x) ∙ sym (wide_changed other x)

  -- ---- the forms of types

  closed_at : (mu : Assignment) (x : Reading-F Indices Reading) → closed types mu own (roll-Reading x) ≡ closed_form types mu own (closing types mu own x)
  closed_at mu x = closed_is types mu own (roll-Reading x) x refl

  abbrev ClosedOf : Reading-F Indices Reading → Type 0
  ClosedOf x = closed_form types one own (closing types one own x) ≡ closed_form types other own (closing types other own x)

  -- a type under widened Type variables, of which there may be none
  of_changed : (mu : Assignment) (t : Typ) (is : List Index) (rs : List Reading)
      → closed types mu own (R.Of (wide_typ t) is rs) ≡ closed_form types mu own (closing types mu own (W.Of (wide_typ t) is rs))
  of_changed mu t is rs = closed_is types mu own (R.Of (wide_typ t) is rs) (W.Of (wide_typ t) is rs) (R.rolls-Of (wide_typ t) is rs)

  -- the function's own stand behind them
  own_each : (ys : List SuchR) (os : List Closed)
      → types_or_own (map (closed types one own) (readings_in ys)) os ≡ types_or_own (map (closed types other own) (readings_in ys)) os
      → map (closed types one own) (readings_in ys) ≡ map (closed types other own) (readings_in ys)
  own_each [] os e = refl
  own_each (y ∷ ys) [] e = e
  own_each (y ∷ ys) (o ∷ os) e =
      let c = closed types one own y.0 in
      let d = closed types other own y.0 in
      let cs = types_or_own (map (closed types one own) (readings_in ys)) os in
      let ds = types_or_own (map (closed types other own) (readings_in ys)) os in
      let rest = own_each ys os (rest_same c d cs ds e) in
      λ j. first_same c d cs ds e j ∷ rest j

  of_same : (t : Typ) (is : List Index) (ys : List SuchR) → ClosedOf (W.Of t is (readings_in ys))
      → ClosedOf (W.Of (wide_typ t) is (map widened_type (readings_in ys)))
  of_same t is ys e =
      let cs = map (closed types one own) (readings_in ys) in
      let ds = map (closed types other own) (readings_in ys) in
      let more = each_type ys (own_each ys own (same_lists (types_or_own cs own) (types_or_own ds own) (ap readings_of e))) in
      λ j. reading (wide_typ t) (assignment_of (e j)) (closeds (types_or_own (more j) own))

  type_same : (y : Reading-F SuchI SuchR) → ClosedOf (reading_of y)
      → closed types one own (wide_reading (map-Reading Indices Reading Indices Reading wide_value widened_type (reading_of y)))
      ≡ closed types other own (wide_reading (map-Reading Indices Reading Indices Reading wide_value widened_type (reading_of y)))
  unfolding SameValue
  type_same (W.Of t is ys) e =
      of_changed one t is (map widened_type (readings_in ys)) ∙ of_same t is ys e ∙ sym (of_changed other t is (map widened_type (readings_in ys)))
  type_same (W.Widened i) e = closed_at one (W.Widened (wide_value i.0)) ∙ i.1 e ∙ sym (closed_at other (W.Widened (wide_value i.0)))
  type_same (W.Parts ys) e =
      let parts = each_type ys (same_lists (map (closed types one own) (readings_in ys)) (map (closed types other own) (readings_in ys)) (ap readings_of e)) in
      closed_at one (W.Parts (map widened_type (readings_in ys))) ∙ (λ j. tuple_of one (parts j))
      ∙ sym (closed_at other (W.Parts (map widened_type (readings_in ys))))
  type_same W.Hole e = closed_at one W.Hole ∙ sym (closed_at other W.Hole)

  rolled_type : (y : Reading-F SuchI SuchR) → SameType (roll-Reading (reading_of y))
  unfolding SameType
  rolled_type y e =
      let x = reading_of y in
      ap (closed types one own) (type_is x) ∙ type_same y (sym (closed_at one x) ∙ e ∙ closed_at other x) ∙ sym (ap (closed types other own) (type_is x))

  value_same : (i : Indices) → SameValue i
  value_same = ind-Indices SameValue SameType (λ e y is. subst (λ d. SameValue (roll-Indices d)) is (rolled_value y))
      (λ e y is. subst (λ d. SameType (roll-Reading d)) is (rolled_type y))

  pub widened_same : (i : Indices) → meant types (standing past g) own i ≡ meant types (standing past k) own i
      → closed types (standing past g) own (widened i) ≡ closed types (standing past k) own (widened i)
  unfolding SameValue
  widened_same i e =
      closed_is types one own (widened i) (W.Widened (wide_value i)) (R.rolls-Widened (wide_value i))
      ∙ value_same i (ap (λ (m : Meant). m.wide) e)
      ∙ sym (closed_is types other own (widened i) (W.Widened (wide_value i)) (R.rolls-Widened (wide_value i)))
