-- A value has indices of one form just where it belongs to the type of that form, where numbers and types in both are the same.
use Rattle.std.proofs.Common.{◌≡◌, ℕ, suc, ◌+◌, nat_eq, pos, Bool, true, false, ◌&&◌, List, [], ◌∷◌, map, length}
use Rattle.std.proofs.Common.{refl, sym, ap, ◌∙◌, subst, arith}
use Rattle.std.specs.List.{list_all}
use Rattle.std.specs.Ordering.{int_eq}
use Rattle.std.proofs.lemmas.Bool.{and_parts}
use Rattle.std.proofs.lemmas.List.{length-map}
use Rattle.sail_types.proofs.Substituted.{number_constant}
use Rattle.sail_types.specs.Belongs.{Reading as Closed, Readings as Closeds, reading, no_readings, assigned, read_each, each_belongs, all_belong, fields_belong}
use Rattle.sail_types.specs.Belongs.{payload_belongs, belongs}
use Rattle.sail_types.specs.Limits.{is_small, is_width, is_length}
use Rattle.sail_types.specs.Named.{fields, payload}
use Rattle.sail_types.specs.Numbers.{Assignment, Positive, number}
use Rattle.sail_types.specs.Sums.{constant}
use Rattle.sail_types.specs.declared.numbers.Con.{Con}
use Rattle.sail_types.specs.declared.numbers.Index.{Index}
use Rattle.sail_types.specs.declared.numbers.Num.{Num}
use Rattle.sail_types.specs.declared.table.Types.{Types}
use Rattle.sail_types.specs.declared.types.Typ.{Typ}
use Rattle.sail_types.specs.declared.types.Typ.TheOpen as T
use Rattle.sail_types.specs.declared.types.Typ.TheVariants as U
use Rattle.sail_types.specs.declared.values.Value.{Value, Value-F, out-Value}
use Rattle.sail_types.specs.declared.values.Value.TheOpen as V
use Rattle.row_types.specs.Formulas.{least, most}
use Rattle.value_indices.specs.declared.indices.Indices.{Indices, roll-Indices}
use Rattle.value_indices.specs.declared.indices.Indices.TheFolds.{map-Indices, ind-Indices}
use Rattle.value_indices.specs.declared.indices.Indices.TheOpen as W
use Rattle.value_indices.specs.declared.indices.Indices.TheOpen.{Indices-F}
use Rattle.value_indices.specs.declared.indices.Reading.{Reading}
use Rattle.value_indices.specs.declared.indices.Reading.TheVariants as R
use Rattle.value_laws.specs.Belonging.{Integers, standing, nowhere, closeds, type_variables, index_there, wides, each_holds, number_there}
use Rattle.value_laws.specs.Belonging.{form_holds, indices_hold, wide_of, meant, closed, has}
use Rattle.value_laws.proofs.Basics.{no, two, fronts}
use Rattle.value_laws.proofs.Values.{form_asked, inner, belongs_out, belongs_form, answer, variable_belongs, meanings, meant_is, closed_is}
use Rattle.value_laws.proofs.Alike.{asks, fields_alike, payload_alike, variables_same}
use Rattle.value_laws.proofs.Arguments.{assigned_there}
use Rattle.meeting_laws.proofs.Wider.{bounded}

module _ (types : Types) (past : Positive) (own : List Closed) where
  abbrev there : Integers → Assignment
  there g = standing past g

  module _ (g : Integers) where
    abbrev mu : Assignment
    mu = standing past g

    -- where no variable is fixed
    abbrev none : Assignment
    none = nowhere (standing past g)

    pub unit_as : (w : Value-F Value) → form_asked types w T.Unit none no_readings ≡ form_holds types mu own W.Unit w
    unit_as V.Unit = refl
    unit_as w = refl

    pub bit_as : (w : Value-F Value) → form_asked types w T.Bit none no_readings ≡ form_holds types mu own W.Bit w
    bit_as (V.Bit b) = refl
    bit_as w = refl

    pub string_as : (w : Value-F Value) → form_asked types w T.String none no_readings ≡ form_holds types mu own W.String w
    string_as (V.String text) = refl
    string_as w = refl

    pub bits_as : (t : Num) (w : Value-F Value)
        → form_asked types w (T.Bits (number_there mu t)) none no_readings ≡ form_holds types mu own (W.Bits t) w
    bits_as t (V.Bits bits) = ap (λ z. int_eq (pos (length bits)) z && is_width (length bits)) (number_constant none (number mu t))
    bits_as t w = refl

    item_as : (r : Closed) (x : Value) → belongs types x (reading (U.Variable 0) none (closeds (r ∷ []))) ≡ belongs types x r
    item_as r x = variable_belongs types x 0 none (closeds (r ∷ [])) ∙ sym (belongs_out types x r)

    items_as : (r : Closed) (vs : List Value)
        → all_belong (asks types vs) (reading (U.Variable 0) none (closeds (r ∷ []))) ≡ list_all (λ x. belongs types x r) vs
    items_as r [] = refl
    items_as r (v ∷ vs) = λ j. item_as r v j && items_as r vs j

    pub list_as : (r : Closed) (w : Value-F Value)
        → form_asked types w (T.List (U.Variable 0)) none (closeds (r ∷ [])) ≡ form_holds types mu own (W.List r) w
    list_as r (V.List vs) = items_as r vs
    list_as r w = refl

    pub vector_as : (t : Num) (r : Closed) (w : Value-F Value)
        → form_asked types w (T.Vector (number_there mu t) (U.Variable 0)) none (closeds (r ∷ [])) ≡ form_holds types mu own (W.Vector t r) w
    vector_as t r (V.Vector vs) =
        let many : length (asks types vs) ≡ length vs = length-map vs (λ x. (x, belongs types x)) in
        λ j. (int_eq (pos (many j)) (number_constant none (number mu t) j) && is_length (many j)) && items_as r vs j
    vector_as t r w = refl

    pub named_as : (u : ℕ) (is : List Index) (cs : List Closed) (w : Value-F Value)
        → form_asked types w (T.Named u (map (index_there mu) is) (type_variables 0 cs)) none (closeds cs) ≡ form_holds types mu own (W.Named u is cs) w
    named_as u is cs (V.Member i k) = refl
    named_as u is cs (V.Struct i vs) =
        let ts = type_variables 0 cs in
        let under : List Typ → Closeds = read_each none (closeds cs) in
        let of : Assignment → Closeds → Bool = λ nu ps. nat_eq i u && fields_belong (asks types vs) nu ps (fields types i) in
        ap (λ us. of (assigned none (map (index_there mu) is)) (under us)) (fronts (inner types (V.Struct i vs) (closeds cs)) ts)
        ∙ ap (λ nu. of nu (under ts)) (assigned_there past g is)
        ∙ ap (λ b. nat_eq i u && b) (fields_alike types vs (fields types i) (assigned mu is) (under ts) (closeds cs) (variables_same types none cs))
    named_as u is cs (V.Union i k v) =
        let ts = type_variables 0 cs in
        let under : List Typ → Closeds = read_each none (closeds cs) in
        let of : Assignment → Closeds → Bool = λ nu ps. nat_eq i u && payload_belongs (belongs types v) nu ps (payload types i k) in
        ap (λ us. of (assigned none (map (index_there mu) is)) (under us)) (fronts (inner types (V.Union i k v) (closeds cs)) ts)
        ∙ ap (λ nu. of nu (under ts)) (assigned_there past g is)
        ∙ ap (λ b. nat_eq i u && b) (payload_alike types v (payload types i k) (assigned mu is) (under ts) (closeds cs) (variables_same types none cs))
    named_as u is cs w = refl

  -- ---- tuples, by types of their parts

  abbrev pub each_of : List Value → List Closed → Bool
  each_of [] [] = true
  each_of (v ∷ vs) (c ∷ cs) = belongs types v c && each_of vs cs
  each_of vs cs = false

  parts_as : (nu : Assignment) (all : Closeds) (k : ℕ) (cs : List Closed) (vs : List Value)
      → ((i : ℕ) (w : Value) → answer types w all (k + i) ≡ answer types w (closeds cs) i)
      → each_belongs (asks types vs) nu all (type_variables k cs) ≡ each_of vs cs
  parts_as nu all k [] [] same = refl
  parts_as nu all k [] (v ∷ vs) same = refl
  parts_as nu all k (c ∷ cs) [] same = refl
  parts_as nu all k (c ∷ cs) (v ∷ vs) same =
      let first : belongs types v (reading (U.Variable k) nu all) ≡ belongs types v c = variable_belongs types v k nu all
      ∙ subst (λ n. answer types v all n ≡ answer types v (closeds (c ∷ cs)) 0) (omega arith) (same 0 v) ∙ sym (belongs_out types v c) in
      let rest : each_belongs (asks types vs) nu all (type_variables (suc k) cs) ≡ each_of vs cs = parts_as nu all (suc k) cs vs
      (λ i w. subst (λ n. answer types w all n ≡ answer types w (closeds cs) i) (omega arith) (same (suc i) w)) in
      λ j. first j && rest j

  pub tuple_as : (nu : Assignment) (cs : List Closed) (vs : List Value)
      → form_asked types (V.Tuple vs) (T.Tuple (type_variables 0 cs)) nu (closeds cs) ≡ each_of vs cs
  tuple_as nu cs vs =
      ap (each_belongs (asks types vs) nu (closeds cs)) (fronts (inner types (V.Tuple vs) (closeds cs)) (type_variables 0 cs))
      ∙ parts_as nu (closeds cs) 0 cs vs (λ i w. subst (λ n. answer types w (closeds cs) n ≡ answer types w (closeds cs) i) (omega arith) refl)

  -- ---- a value that has indices is of their widened type

  HasWide : (g : Integers) → Indices → Type 0
  HasWide g i = (v : Value) → has types (there g) own i v ≡ true → belongs types v (meant types (there g) own i).wide ≡ true

  module _ (g : Integers) where
    abbrev SuchI : Type 0
    SuchI = (i : Indices) × HasWide g i

    abbrev SuchR : Type 0
    SuchR = Reading × Unit {0}

    abbrev indices_of : Indices-F SuchI SuchR → Indices-F Indices Reading
    indices_of y = map-Indices SuchI SuchR Indices Reading (λ p. p.0) (λ p. p.0) y

    abbrev bare : List SuchI → List Indices
    bare ys = map (λ (y : SuchI). y.0) ys

    never_in : {A : Type 0} (w : Value-F Value) → form_holds types (there g) own W.Never w ≡ true → A
    never_in w h = no h

    truth_in : (c : Con) (w : Value-F Value) → form_holds types (there g) own (W.Truth c) w ≡ true
        → form_asked types w T.Bool (nowhere (there g)) no_readings ≡ true
    truth_in c (V.Truth b) h = refl
    truth_in c w h = no h

    integer_in : (t : Num) (w : Value-F Value) → form_holds types (there g) own (W.Integer t) w ≡ true
        → form_asked types w (T.Range (constant least) (constant most)) (nowhere (there g)) no_readings ≡ true
    integer_in t (V.Integer z) h = bounded types (nowhere (there g)) z (and_parts (int_eq z (number (there g) t)) (is_small z) h).1
    integer_in t w h = no h

    parts_in : (ys : List SuchI) (vs : List Value) → each_holds (map (meant types (there g) own) (bare ys)) vs ≡ true
        → each_of vs (wides (map (meant types (there g) own) (bare ys))) ≡ true
    unfolding HasWide
    parts_in [] [] h = refl
    parts_in [] (v ∷ vs) h = no h
    parts_in (y ∷ ys) [] h = no h
    parts_in (y ∷ ys) (v ∷ vs) h =
        let k = and_parts (has types (there g) own y.0 v) (each_holds (map (meant types (there g) own) (bare ys)) vs) h in
        two (belongs types v (meant types (there g) own y.0).wide) (each_of vs (wides (map (meant types (there g) own) (bare ys)))) (y.1 v k.0)
        (parts_in ys vs k.1)

    tuple_in : (ys : List SuchI) (w : Value-F Value) → form_holds types (there g) own (W.Tuple (map (meant types (there g) own) (bare ys))) w ≡ true
        → let cs = wides (map (meant types (there g) own) (bare ys)) in
        form_asked types w (T.Tuple (type_variables 0 cs)) (nowhere (there g)) (closeds cs) ≡ true
    tuple_in ys (V.Tuple vs) h =
        tuple_as (nowhere (there g)) (wides (map (meant types (there g) own) (bare ys))) vs ∙ parts_in ys vs h
    tuple_in ys w h = no h

    abbrev here : Assignment
    here = nowhere (there g)

    form_in : (y : Indices-F SuchI SuchR) (v : Value) → indices_hold types (there g) own (meanings types (there g) own (indices_of y)) v ≡ true
        → belongs types v (wide_of types (there g) own (meanings types (there g) own (indices_of y))) ≡ true
    form_in W.Never v h = never_in (out-Value v) h
    form_in W.Unit v h = belongs_form types v T.Unit U.Unit here no_readings U.rolls-Unit ∙ unit_as g (out-Value v) ∙ h
    form_in (W.Truth c) v h = belongs_form types v T.Bool U.Bool here no_readings U.rolls-Bool ∙ truth_in c (out-Value v) h
    form_in W.Bit v h = belongs_form types v T.Bit U.Bit here no_readings U.rolls-Bit ∙ bit_as g (out-Value v) ∙ h
    form_in (W.Bits t) v h =
        let u = number_there (there g) t in
        belongs_form types v (T.Bits u) (U.Bits u) here no_readings (U.rolls-Bits u) ∙ bits_as g t (out-Value v) ∙ h
    form_in (W.Integer t) v h =
        belongs_form types v (T.Range (constant least) (constant most)) (U.Range (constant least) (constant most)) here no_readings
        (U.rolls-Range (constant least) (constant most)) ∙ integer_in t (out-Value v) h
    form_in W.String v h = belongs_form types v T.String U.String here no_readings U.rolls-String ∙ string_as g (out-Value v) ∙ h
    form_in (W.List r) v h =
        let c = closed types (there g) own r.0 in
        belongs_form types v (T.List (U.Variable 0)) (U.List (U.Variable 0)) here (closeds (c ∷ [])) (U.rolls-List (U.Variable 0))
        ∙ list_as g c (out-Value v) ∙ h
    form_in (W.Vector t r) v h =
        let c = closed types (there g) own r.0 in
        let u = number_there (there g) t in
        belongs_form types v (T.Vector u (U.Variable 0)) (U.Vector u (U.Variable 0)) here (closeds (c ∷ [])) (U.rolls-Vector u (U.Variable 0))
        ∙ vector_as g t c (out-Value v) ∙ h
    form_in (W.Tuple ys) v h =
        let cs = wides (map (meant types (there g) own) (bare ys)) in
        belongs_form types v (T.Tuple (type_variables 0 cs)) (U.Tuple (type_variables 0 cs)) here (closeds cs) (U.rolls-Tuple (type_variables 0 cs))
        ∙ tuple_in ys (out-Value v) h
    form_in (W.Named u is rs) v h =
        let cs = map (closed types (there g) own) (map (λ (r : SuchR). r.0) rs) in
        let js = map (index_there (there g)) is in
        belongs_form types v (T.Named u js (type_variables 0 cs)) (U.Named u js (type_variables 0 cs)) here (closeds cs)
        (U.rolls-Named u js (type_variables 0 cs)) ∙ named_as g u is cs (out-Value v) ∙ h
    form_in (W.Variable i) v h = h

    rolled_in : (y : Indices-F SuchI SuchR) → HasWide g (roll-Indices (indices_of y))
    unfolding HasWide
    rolled_in y v h =
        let is = meant_is types (there g) own (roll-Indices (indices_of y)) (indices_of y) refl in
        ap (λ m. belongs types v m.wide) is ∙ form_in y v (sym (ap (λ m. m.holds v) is) ∙ h)

    has_wide : (i : Indices) → HasWide g i
    has_wide = ind-Indices (HasWide g) (λ r. Unit {0}) (λ e y is. subst (λ d. HasWide g (roll-Indices d)) is (rolled_in y)) (λ e y is. tt)

  pub is_wide : (g : Integers) (i : Indices) (v : Value) → has types (there g) own i v ≡ true
      → belongs types v (meant types (there g) own i).wide ≡ true
  unfolding HasWide
  is_wide g i v h = has_wide g i v h

  -- the widened type of a value, as a type
  pub widened_is : (g : Integers) (i : Indices) → closed types (there g) own (R.Widened i) ≡ (meant types (there g) own i).wide
  widened_is g i = closed_is types (there g) own (R.Widened i) (W.Widened i) (R.rolls-Widened i)
