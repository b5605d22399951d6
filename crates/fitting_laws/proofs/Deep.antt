-- Where what `fits` asks is true, a value that has the indices belongs to the type: widened types, tuples of types, and types inside types.
use Rattle.std.proofs.Common.{◌≡◌, ℕ, zero, suc, ◌+◌, nat_eq, Bool, true, false, List, [], ◌∷◌, map, slice_get, Some, if◌then◌else◌}
use Rattle.std.proofs.Common.{refl, sym, ap, ◌∙◌, subst, arith}
use Rattle.std.specs.List.{list_any}
use Rattle.std.proofs.lemmas.Bool.Decides.{Decides-eqb}
use Rattle.sail_types.proofs.Substituted.{number_constant}
use Rattle.sail_types.specs.Belongs.{Reading as Closed, Readings as Closeds, reading, no_readings, each_belongs, belongs}
use Rattle.sail_types.specs.Numbers.{Assignment, Positive, number}
use Rattle.sail_types.specs.Sums.{constant}
use Rattle.sail_types.specs.Zero.{deepest}
use Rattle.sail_types.specs.declared.table.Types.{Types}
use Rattle.sail_types.specs.declared.types.Typ.{out-Typ}
use Rattle.sail_types.specs.declared.types.Typ.TheOpen as T
use Rattle.sail_types.specs.declared.types.Typ.TheViews.{roll-out-Typ}
use Rattle.sail_types.specs.declared.types.Typ.TheVariants as U
use Rattle.sail_types.specs.declared.values.Value.{Value, Value-F, out-Value}
use Rattle.sail_types.specs.declared.values.Value.TheOpen as V
use Rattle.row_types.specs.Formulas.{least, most}
use Rattle.value_indices.specs.declared.indices.Indices.{Indices, out-Indices}
use Rattle.value_indices.specs.declared.indices.Indices.TheFolds.{map-Indices}
use Rattle.value_indices.specs.declared.indices.Indices.TheOpen as W
use Rattle.value_indices.specs.declared.indices.Indices.TheOpen.{Indices-F, Reading-F}
use Rattle.value_indices.specs.declared.indices.Indices.TheViews.{roll-out-Indices, roll-out-Reading}
use Rattle.value_indices.specs.declared.indices.Reading.{Reading, out-Reading, roll-Reading}
use Rattle.value_indices.specs.declared.indices.Reading.TheVariants as R
use Rattle.value_indices.specs.Opening.{least_num, largest_num}
use Rattle.value_fits.specs.Fitting.{Fit, says, never, each_pair, number_fits, in_range, item_fits, same_variable, widened_part, widened_fits}
use Rattle.value_fits.specs.Fitting.{tuple_fits, reading_fits, value_fits, fits_within}
use Rattle.call_arguments.specs.Holes.{has_hole, value_has_hole, value_holed}
use Rattle.value_laws.specs.Belonging.{Integers, standing, nowhere, closeds, or_no_value, type_variables, number_there, index_there, Meant, form_holds}
use Rattle.value_laws.specs.Belonging.{meant, is_of}
use Rattle.value_laws.specs.Known.{Point, Agree}
use Rattle.value_laws.proofs.Alike.{asks, variables_same}
use Rattle.value_laws.proofs.Arguments.{assigned_there}
use Rattle.value_laws.proofs.Basics.{fronts, no, two}
use Rattle.value_laws.proofs.Opening.{cons_same, item_same, same_lists}
use Rattle.value_laws.proofs.Steps.{same}
use Rattle.value_laws.proofs.Values.{inner, form_asked, belongs_out, belongs_form, answer, variable_belongs, closed_is}
use Rattle.fitting_laws.specs.Fitting.{FittingSuffices, Suffices}
use Rattle.fitting_laws.proofs.Counted.{FitCounts, fits_count}
use Rattle.fitting_laws.proofs.Forms.{EachFits, FitGoes, Fits, ReadPlaced, Wanted, item_suffices, named_suffices, pairs_suffice, type_of, types_of}
use Rattle.fitting_laws.proofs.Forms.{typ_suffices}
use Rattle.fitting_laws.proofs.Holes.{Full, first_full, first_whole, hole_is, value_hole_is, widened_full}
use Rattle.fitting_laws.proofs.Joining.{also_suffice, never_suffices, says_so, suffice_as}
use Rattle.fitting_laws.proofs.Leaves.{bit_into, bits_into, bool_into, equal_said, list_into, named_into, string_into, unit_into, vector_into, wide_into}
use Rattle.fitting_laws.proofs.Standing.{Always, Had, HadForm, Stays, StaysUnder, assignment_part, each_had, had_form, list_stays, named_stays, readings_part}
use Rattle.fitting_laws.proofs.Standing.{stays_later, tuple_stays, vector_stays, wide_at, wide_is, wides_at}

module _ (types : Types) (past : Positive) (own : List Closed) where
  abbrev there : Integers → Assignment
  there g = standing past g

  -- ---- values of a tuple of types

  abbrev AllIn : List Value → List Closed → Type 0
  AllIn [] [] = Unit {0}
  AllIn (v ∷ vs) (c ∷ cs) = (belongs types v c ≡ true) × AllIn vs cs
  AllIn vs cs = ⊥

  each_out : (mu : Assignment) (all : Closeds) (k : ℕ) (cs : List Closed) (vs : List Value)
      → ((i : ℕ) (w : Value) → answer types w all (k + i) ≡ answer types w (closeds cs) i) → AllIn vs cs
      → each_belongs (asks types vs) mu all (type_variables k cs) ≡ true
  each_out mu all k [] [] same_answer h = refl
  each_out mu all k [] (v ∷ vs) same_answer h = absurd h
  each_out mu all k (c ∷ cs) [] same_answer h = absurd h
  each_out mu all k (c ∷ cs) (v ∷ vs) same_answer h =
      two (belongs types v (reading (U.Variable k) mu all)) (each_belongs (asks types vs) mu all (type_variables (suc k) cs))
      (variable_belongs types v k mu all
      ∙ subst (λ n. answer types v all n ≡ answer types v (closeds (c ∷ cs)) 0) (omega arith) (same_answer 0 v)
      ∙ sym (belongs_out types v c) ∙ h.0)
      (each_out mu all (suc k) cs vs (λ i w. subst (λ n. answer types w all n ≡ answer types w (closeds cs) i) (omega arith) (same_answer (suc i) w)) h.1)

  tuple_out : (mu : Assignment) (cs : List Closed) (vs : List Value) → AllIn vs cs
      → form_asked types (V.Tuple vs) (T.Tuple (type_variables 0 cs)) mu (closeds cs) ≡ true
  tuple_out mu cs vs h =
      ap (each_belongs (asks types vs) mu (closeds cs)) (fronts (inner types (V.Tuple vs) (closeds cs)) (type_variables 0 cs))
      ∙ each_out mu (closeds cs) 0 cs vs (λ i w. subst (λ n. answer types w (closeds cs) n ≡ answer types w (closeds cs) i) (omega arith) refl) h

  -- what a widened type is
  wide_type : (g : Integers) (j : Indices) → type_of types past own g (R.Widened j) ≡ (meant types (there g) own j).wide
  wide_type g j = closed_is types (there g) own (R.Widened j) (W.Widened j) (R.rolls-Widened j)

  module _ (fit : Fit) (go : FitGoes types past own fit) (counts : FitCounts fit) where
    abbrev WideFits : Indices-F Indices Reading → Value → Integers → Type 0
    WideFits x v g = belongs types v (wide_at types past own g x) ≡ true

    -- nothing in it has a hole
    abbrev Whole : Indices-F Indices Reading → Type 0
    Whole x = value_holed (map-Indices Indices Reading Bool Bool value_has_hole has_hole x) ≡ false

    abbrev WideStays : {n : ℕ} → Point n → Indices-F Indices Reading → Type 0
    WideStays f x = Always types past own f (λ g. wide_at types past own g x ≡ wide_at types past own f.integers x)

    -- parts of a tuple, each of the widened type of another
    abbrev PartsStay : {n : ℕ} → Point n → List Indices → Type 0
    PartsStay f js = Always types past own f (λ g. wides_at types past own g js ≡ wides_at types past own f.integers js)

    parts_wanted : {n : ℕ} (f : Point n) (js : List Indices) → list_any (λ b. b) (map value_has_hole js) ≡ false → PartsStay f js
        → Wanted types past own fit go counts R.Widened f js
    parts_wanted f [] h s = tt
    parts_wanted f (j ∷ js) h s =
        let holes = first_whole j js h in
        let apart : (g : Integers) → Agree f g → ((meant types (there g) own j).wide ≡ (meant types (there f.integers) own j).wide)
        × (wides_at types past own g js ≡ wides_at types past own f.integers js) =
        λ g a. cons_same types past own (meant types (there g) own j).wide (meant types (there f.integers) own j).wide (wides_at types past own g js)
        (wides_at types past own f.integers js) (s g a) in (
          (widened_full j holes.0, λ g a. wide_type g j ∙ (apart g a).0 ∙ sym (wide_type f.integers j)),
          parts_wanted f js holes.1 (λ g a. (apart g a).1),
        )

    wide_parts : (g : Integers) (is js : List Indices) (vs : List Value) → EachFits types past own fit go counts R.Widened g is js vs
        → AllIn vs (wides_at types past own g js)
    wide_parts g [] [] [] h = tt
    wide_parts g [] [] (v ∷ vs) h = absurd h
    wide_parts g [] (j ∷ js) vs h = absurd h
    wide_parts g (i ∷ is) [] vs h = absurd h
    wide_parts g (i ∷ is) (j ∷ js) [] h = absurd h
    wide_parts g (i ∷ is) (j ∷ js) (v ∷ vs) h = (ap (belongs types v) (sym (wide_type g j)) ∙ h.0.0, wide_parts g is js vs h.1)

    -- a value of a tuple's indices
    abbrev TupleHad : {n : ℕ} → Point n → List Indices → Value-F Value → Type 0
    TupleHad f is w =
        Always types past own f (λ g. (form_holds types (there g) own (W.Tuple (map (meant types (there g) own) is)) w ≡ true)
        × (wide_at types past own g (W.Tuple is) ≡ wide_at types past own f.integers (W.Tuple is)))

    wide_tuple_suffices : (js is : List Indices) (w : Value-F Value) (n : ℕ) (f : Point n) → list_any (λ b. b) (map value_has_hole js) ≡ false
        → PartsStay f js → TupleHad f is w
        → Suffices past n f (each_pair (widened_part fit) is js n) (λ g.
        form_asked types w (T.Tuple (type_variables 0 (wides_at types past own g js))) (nowhere (there g)) (closeds (wides_at types past own g js)) ≡ true)
    wide_tuple_suffices js is (V.Tuple vs) n f whole s h =
        suffice_as (pairs_suffice types past own fit go counts R.Widened is js vs n f
        (each_had types past own f is vs (λ g a. ((h g a).0, tuple_stays types past own g f.integers is (h g a).1))) (parts_wanted f js whole s))
        (λ g a q. tuple_out (nowhere (there g)) (wides_at types past own g js) vs (wide_parts g is js vs q))
    wide_tuple_suffices js is w n f whole s h = no (h f.integers (same f)).0

    wide_variable_suffices : (j i : ℕ) (v : Value) (n : ℕ) (f : Point n) → HadForm types past own f (W.Variable i) v
        → Suffices past n f (same_variable i j n) (WideFits (W.Variable j) v)
    wide_variable_suffices j i v n f h = by (nat_eq i j) refl
      where
        by : (b : Bool) → nat_eq i j ≡ b → Suffices past n f (if b then says [] n else never n) (WideFits (W.Variable j) v)
        by false e = never_suffices n f (WideFits (W.Variable j) v)
        by true e =
            says_so [] (λ g a said. ap (λ m. belongs types v (or_no_value (there g) (slice_get own m))) (sym ((Decides-eqb i j).0 e)) ∙ (h g a).0)

    widened_suffices : (x y : Indices-F Indices Reading) (v : Value) (n : ℕ) (f : Point n) → Whole x → WideStays f x → HadForm types past own f y v
        → Suffices past n f (widened_fits types fit x y n) (WideFits x v)
    widened_suffices W.Unit W.Unit v n f whole s h =
        says_so [] (λ g a said.
        belongs_form types v T.Unit U.Unit (nowhere (there g)) no_readings U.rolls-Unit
        ∙ unit_into types own (there g) (nowhere (there g)) no_readings (out-Value v) (h g a).0)
    widened_suffices (W.Truth c) (W.Truth d) v n f whole s h =
        says_so [] (λ g a said.
        belongs_form types v T.Bool U.Bool (nowhere (there g)) no_readings U.rolls-Bool
        ∙ bool_into types own (there g) (nowhere (there g)) no_readings d (out-Value v) (h g a).0)
    widened_suffices W.Bit W.Bit v n f whole s h =
        says_so [] (λ g a said.
        belongs_form types v T.Bit U.Bit (nowhere (there g)) no_readings U.rolls-Bit
        ∙ bit_into types own (there g) (nowhere (there g)) no_readings (out-Value v) (h g a).0)
    widened_suffices (W.Bits t) (W.Bits w) v n f whole s h =
        says_so (number_fits w (Some t)) (λ g a said.
        let u = number_there (there g) t in
        belongs_form types v (T.Bits u) (U.Bits u) (nowhere (there g)) no_readings (U.rolls-Bits u)
        ∙ bits_into types own (there g) (nowhere (there g)) no_readings w u
        (equal_said (there g) w t said.0 ∙ sym (number_constant (nowhere (there g)) (number (there g) t))) (out-Value v) (h g a).0)
    widened_suffices (W.Integer t) (W.Integer i) v n f whole s h =
        says_so (in_range i (Some least_num) (Some largest_num)) (λ g a said.
        belongs_form types v (T.Range (constant least) (constant most)) (U.Range (constant least) (constant most)) (nowhere (there g)) no_readings
        (U.rolls-Range (constant least) (constant most))
        ∙ wide_into types own (there g) (nowhere (there g)) no_readings i (out-Value v) (h g a).0)
    widened_suffices W.String W.String v n f whole s h =
        says_so [] (λ g a said.
        belongs_form types v T.String U.String (nowhere (there g)) no_readings U.rolls-String
        ∙ string_into types own (there g) (nowhere (there g)) no_readings (out-Value v) (h g a).0)
    widened_suffices (W.List q) (W.List r) v n f whole s h =
        suffice_as
        (item_suffices types past own fit go counts n f r q whole (list_stays types past own f r (λ g a. (h g a).1)) (list_stays types past own f q s))
        (λ g a k.
        let c = type_of types past own g q in
        belongs_form types v (T.List (U.Variable 0)) (U.List (U.Variable 0)) (nowhere (there g)) (closeds (c ∷ [])) (U.rolls-List (U.Variable 0))
        ∙ list_into types own (there g) (nowhere (there g)) (closeds (c ∷ [])) (type_of types past own g r) (U.Variable 0)
        (λ x b. item_same types past own g c x ∙ k x b) (out-Value v) (h g a).0)
    widened_suffices (W.Vector l q) (W.Vector k r) v n f whole s h =
        suffice_as (also_suffice (item_fits fit r q) (says_so (number_fits k (Some l)) (λ g a said. said)) (λ g b.
        item_suffices types past own fit go counts n g r q whole (stays_later types past own f g r b (vector_stays types past own f k r (λ m a. (h m a).1)))
        (stays_later types past own f g q b (vector_stays types past own f l q s))))
        (λ g a p.
        let c = type_of types past own g q in
        let u = number_there (there g) l in
        belongs_form types v (T.Vector u (U.Variable 0)) (U.Vector u (U.Variable 0)) (nowhere (there g)) (closeds (c ∷ [])) (U.rolls-Vector u (U.Variable 0))
        ∙ vector_into types own (there g) (nowhere (there g)) (closeds (c ∷ [])) k u
        (equal_said (there g) k l p.0.0 ∙ sym (number_constant (nowhere (there g)) (number (there g) l))) (type_of types past own g r) (U.Variable 0)
        (λ x b. item_same types past own g c x ∙ p.1 x b) (out-Value v) (h g a).0)
    widened_suffices (W.Tuple js) (W.Tuple is) v n f whole s h =
        suffice_as (wide_tuple_suffices js is (out-Value v) n f whole (λ g a. tuple_stays types past own g f.integers js (s g a)) h)
        (λ g a q.
        let cs = wides_at types past own g js in
        belongs_form types v (T.Tuple (type_variables 0 cs)) (U.Tuple (type_variables 0 cs)) (nowhere (there g)) (closeds cs)
        (U.rolls-Tuple (type_variables 0 cs)) ∙ q)
    widened_suffices (W.Named u js qs) (W.Named k is rs) v n f whole s h =
        suffice_as
        (named_suffices types past own fit go counts u k (out-Value v) is rs js qs n f whole (named_stays types past own f k is rs (λ g a. (h g a).1))
        (named_stays types past own f u js qs s) (λ g a. (h g a).0))
        (λ g a q.
        let cs = types_of types past own g qs in
        let args = map (index_there (there g)) js in
        belongs_form types v (T.Named u args (type_variables 0 cs)) (U.Named u args (type_variables 0 cs)) (nowhere (there g)) (closeds cs)
        (U.rolls-Named u args (type_variables 0 cs))
        ∙ named_into types own (there g) (nowhere (there g)) (closeds cs) u k q.0 is args (types_of types past own g rs) (type_variables 0 cs)
        (q.1 ∙ sym (assigned_there past g js)) (λ i w b. variables_same types (nowhere (there g)) cs i w ∙ q.2 i w b) (out-Value v) (h g a).0)
    widened_suffices (W.Variable j) (W.Variable i) v n f whole s h = wide_variable_suffices j i v n f h
    widened_suffices x y v n f whole s h = never_suffices n f (WideFits x v)

    -- ---- a tuple of types

    abbrev ListStays : {n : ℕ} → Point n → List Reading → Type 0
    ListStays f rs = Always types past own f (λ g. types_of types past own g rs ≡ types_of types past own f.integers rs)

    types_wanted : {n : ℕ} (f : Point n) (rs : List Reading) → Full rs → ListStays f rs → Wanted types past own fit go counts (λ r. r) f rs
    types_wanted f [] h s = tt
    types_wanted f (r ∷ rs) h s =
        let holes = first_full r rs h in
        let apart : (g : Integers) → Agree f g → (type_of types past own g r ≡ type_of types past own f.integers r)
        × (types_of types past own g rs ≡ types_of types past own f.integers rs) =
        λ g a. cons_same types past own (type_of types past own g r) (type_of types past own f.integers r) (types_of types past own g rs)
        (types_of types past own f.integers rs) (s g a) in
        ((holes.0, λ g a. (apart g a).0), types_wanted f rs holes.1 (λ g a. (apart g a).1))

    all_parts : (g : Integers) (is : List Indices) (rs : List Reading) (vs : List Value) → EachFits types past own fit go counts (λ r. r) g is rs vs
        → AllIn vs (types_of types past own g rs)
    all_parts g [] [] [] h = tt
    all_parts g [] [] (v ∷ vs) h = absurd h
    all_parts g [] (r ∷ rs) vs h = absurd h
    all_parts g (i ∷ is) [] vs h = absurd h
    all_parts g (i ∷ is) (r ∷ rs) [] h = absurd h
    all_parts g (i ∷ is) (r ∷ rs) (v ∷ vs) h = (h.0.0, all_parts g is rs vs h.1)

    abbrev PartsFit : List Reading → Value-F Value → Integers → Type 0
    PartsFit rs w g =
        let cs = types_of types past own g rs in form_asked types w (T.Tuple (type_variables 0 cs)) (nowhere (there g)) (closeds cs) ≡ true

    whole_tuple_suffices : (rs : List Reading) (is : List Indices) (w : Value-F Value) (n : ℕ) (f : Point n) → Full rs → ListStays f rs → TupleHad f is w
        → Suffices past n f (each_pair fit is rs n) (PartsFit rs w)
    whole_tuple_suffices rs is (V.Tuple vs) n f full s h =
        suffice_as (pairs_suffice types past own fit go counts (λ r. r) is rs vs n f
        (each_had types past own f is vs (λ g a. ((h g a).0, tuple_stays types past own g f.integers is (h g a).1))) (types_wanted f rs full s))
        (λ g a q. tuple_out (nowhere (there g)) (types_of types past own g rs) vs (all_parts g is rs vs q))
    whole_tuple_suffices rs is w n f full s h = no (h f.integers (same f)).0

    parts_suffice : (rs : List Reading) (y : Indices-F Indices Reading) (v : Value) (n : ℕ) (f : Point n) → Full rs → ListStays f rs
        → HadForm types past own f y v → Suffices past n f (tuple_fits fit rs y n) (PartsFit rs (out-Value v))
    parts_suffice rs (W.Tuple is) v n f full s h = whole_tuple_suffices rs is (out-Value v) n f full s h
    parts_suffice rs y v n f full s h = never_suffices n f (PartsFit rs (out-Value v))

    -- ---- a type of the walk

    abbrev ReadingFits : Reading → Reading-F Indices Reading → Indices → Value → Integers → Type 0
    ReadingFits r x i v g = (is_of types (there g) own r v ≡ true) × ReadPlaced types past own g x i v

    reading_suffices : (x : Reading-F Indices Reading) (r : Reading) → roll-Reading x ≡ r → (i : Indices) (v : Value) (n : ℕ) (f : Point n)
        → has_hole r ≡ false → Had types past own f i v → Stays types past own f r
        → Suffices past n f (reading_fits types fit i x n) (ReadingFits r x i v)
    reading_suffices (W.Of t is rs) r e i v n f full h s =
        let type_is = λ (g : Integers). closed_is types (there g) own r (W.Of t is rs) e in
        let under : StaysUnder types past own f is rs =
        λ g a. let p = sym (type_is g) ∙ s g a ∙ type_is f.integers in (ap assignment_part p, ap readings_part p) in
        suffice_as (typ_suffices types past own fit go counts is rs (sym (hole_is r (W.Of t is rs) e) ∙ full) (out-Typ t) t (roll-out-Typ t) i v n f under h)
        (λ g a q. (ap (belongs types v) (type_is g) ∙ q.0, q.1))
    reading_suffices (W.Widened j) r e i v n f full h s =
        let type_is = λ (g : Integers). closed_is types (there g) own r (W.Widened j) e ∙ wide_is types past own g j in
        let whole = sym (value_hole_is j (out-Indices j) (roll-out-Indices j)) ∙ sym (hole_is r (W.Widened j) e) ∙ full in
        suffice_as (widened_suffices (out-Indices j) (out-Indices i) v n f whole (λ g a. sym (type_is g) ∙ s g a ∙ type_is f.integers)
        (had_form types past own f i v h))
        (λ g a q. (ap (belongs types v) (type_is g) ∙ q, tt))
    reading_suffices (W.Parts rs) r e i v n f full h s =
        let type_is = λ (g : Integers). closed_is types (there g) own r (W.Parts rs) e in
        suffice_as (parts_suffice rs (out-Indices i) v n f (sym (hole_is r (W.Parts rs) e) ∙ full)
        (λ g a. same_lists types past own (types_of types past own g rs) (types_of types past own f.integers rs)
        (ap readings_part (sym (type_is g) ∙ s g a ∙ type_is f.integers)))
        (had_form types past own f i v h))
        (λ g a q.
        let cs = types_of types past own g rs in (
          ap (belongs types v) (type_is g)
              ∙ belongs_form types v (T.Tuple (type_variables 0 cs)) (U.Tuple (type_variables 0 cs)) (nowhere (there g)) (closeds cs)
              (U.rolls-Tuple (type_variables 0 cs)) ∙ q,
          tt,
        ))
    reading_suffices W.Hole r e i v n f full h s = no (sym full ∙ hole_is r W.Hole e)

    -- a value that there is
    value_suffices : (y : Indices-F Indices Reading) (i : Indices) (r : Reading) (v : Value) (n : ℕ) (f : Point n) → has_hole r ≡ false
        → HadForm types past own f y v → Had types past own f i v → Stays types past own f r
        → Suffices past n f (value_fits types fit y i r n) (Fits types past own r i v)
    value_suffices W.Never i r v n f full form h s = no (form f.integers (same f)).0
    value_suffices y i r v n f full form h s = reading_suffices (out-Reading r) r (roll-out-Reading r) i v n f full h s

  -- ---- types inside types

  pub fits_go : (depth : ℕ) → FitGoes types past own (fits_within types depth)
  fits_go zero i r n f v full h s = never_suffices n f (Fits types past own r i v)
  fits_go (suc depth) i r n f v full h s =
      value_suffices (fits_within types depth) (fits_go depth) (fits_count types depth) (out-Indices i) i r v n f full (had_form types past own f i v h) h s

pub fitting : FittingSuffices
fitting types past own i r n f v full i_stays r_stays h =
    suffice_as (fits_go types past own deepest i r n f v full
    (λ g a. (ap (λ (m : Meant). m.holds v) (i_stays g a) ∙ h, ap (λ (m : Meant). m.wide) (i_stays g a))) r_stays)
    (λ g a q. q.0)
