-- A value of a type is opened to indices of the same type under constants, form by form.
use Rattle.std.proofs.Common.{◌≡◌, ℕ, Bool, true, false, List, [], ◌∷◌, map, slice_get, Option, Some, None, option_map, if◌then◌else◌}
use Rattle.std.proofs.Common.{refl, sym, ap, ◌∙◌}
use Rattle.std.specs.Prelude.{length}
use Rattle.std.proofs.lemmas.Option.{slice_get-map}
use Rattle.sail_types.specs.Readings.{read_con}
use Rattle.sail_types.specs.Sums.{is_constant, read, variable}
use Rattle.sail_types.specs.declared.numbers.Con.{Con}
use Rattle.sail_types.specs.declared.numbers.Con.TheVariants as C
use Rattle.sail_types.specs.declared.numbers.Index.{Index}
use Rattle.sail_types.specs.declared.numbers.Index.TheVariants as N
use Rattle.sail_types.specs.declared.numbers.Num.{Num}
use Rattle.sail_types.specs.declared.table.Types.{Types}
use Rattle.sail_types.specs.declared.types.Typ.{Typ}
use Rattle.sail_types.specs.declared.types.Typ.TheOpen as T
use Rattle.sail_types.specs.declared.types.Typ.TheVariants as U
use Rattle.value_indices.specs.declared.indices.Indices.{Indices}
use Rattle.value_indices.specs.declared.indices.Indices.TheFolds.{para-roll-Reading, map-Reading}
use Rattle.value_indices.specs.declared.indices.Indices.TheOpen as W
use Rattle.value_indices.specs.declared.indices.Indices.TheOpen.{Reading-F}
use Rattle.value_indices.specs.declared.indices.Indices.TheVariants as I
use Rattle.value_indices.specs.declared.indices.Naming.{Naming}
use Rattle.value_indices.specs.declared.indices.Naming.TheVariants as M
use Rattle.value_indices.specs.declared.indices.Reading.{Reading, roll-Reading}
use Rattle.value_indices.specs.declared.indices.Reading.TheVariants as R
use Rattle.value_indices.specs.declared.notes.Fact.{Fact}
use Rattle.value_indices.specs.Steps.{Walk, assume, bind, fresh_named, give}
use Rattle.value_indices.specs.Opening.{any_truth, between, bits_of, bits_opened, bound_inside, fresh_for, integer_between, integer_of, integer_opened}
use Rattle.value_indices.specs.Opening.{each_read, largest_num, least_num, named_opened, namings_of, number_or_fresh, opening, parts_opened, range_opened}
use Rattle.value_indices.specs.Opening.{reading_opened, truth_opened, truth_or_fresh, typ_opened, variable_opened, vector_of, vector_opened, wide_opening}
use Rattle.value_indices.specs.Opening.{widened_opened, with_openings, Opening, Inner as Inside}
use Rattle.size_values.specs.declared.constants.Constant.{Constant}
use Rattle.size_values.specs.declared.constants.Constant.TheVariants as K
use Rattle.size_values.specs.declared.sized.Sized.{Sized}
use Rattle.size_values.specs.declared.sized.Sized.TheVariants as S
use Rattle.size_values.specs.Sized.{each_sized, or_never, reading_sized, sized_at, typ_sized, value_sized}
use Rattle.size_laws.specs.Laws.{OpeningKeepsSizes}
use Rattle.size_laws.specs.Settled.{Piece, of_type, of_types, of_reading, of_readings, Says, SaysArguments, IsAlike, AreAlike, Settled, constants, stood}
use Rattle.size_laws.specs.Settled.{unit, bool, truth, bit, bits, int, range, string, list, vector, tuple, named, found, own_variable, exists, no_types}
use Rattle.size_laws.specs.Settled.{more_types, typ_of, widened, parts, hole, no_readings, more_readings}
use Rattle.size_laws.proofs.Arguments.{numbers_same, types_same}
use Rattle.size_laws.proofs.Forms.{by_form, inside, of_is, reading_is, value_is}
use Rattle.size_laws.proofs.Wide.{wide_keeps}

none : {A B : Type 0} {x : A} → None ≡ Some x → B
none h = absurd (cc)

module _ (types : Types) (own : List Sized) (of : ℕ → Constant) where
  -- the type of a value of these indices, and of a type
  abbrev sized : Indices → Sized
  sized = value_sized types own of

  abbrev typed : Reading → Sized
  typed = reading_sized types own of

  abbrev under : List Reading → Typ → List Constant → Sized
  under rs = typ_sized types (stood types own of rs)

  abbrev pub Keeps : Piece → Type 0
  Keeps (of_type rs is cs t) = (tells : Bool) (name : Naming) (facts : List Fact) (n : ℕ)
      → sized (typ_opened (with_openings rs) t is tells name facts n).value ≡ under rs t cs
  Keeps (of_types rs is cs ts) = (tells : Bool) (ns : List Naming) (facts : List Fact) (n : ℕ)
      → map sized (parts_opened tells (map (λ (t : Typ × Inside). t.1 is) (inside types own of rs ts)) ns facts n).value
      ≡ each_sized (map (under rs) ts) cs
  Keeps (of_reading r) = (tells : Bool) (name : Naming) (facts : List Fact) (n : ℕ) → sized (opening r tells name facts n).value ≡ typed r
  Keeps (of_readings rs) = (tells : Bool) (ns : List Naming) (facts : List Fact) (n : ℕ)
      → map sized (parts_opened tells (map (λ (r : Reading × Opening). r.1) (map (λ r. (r, opening r)) rs)) ns facts n).value ≡ map typed rs

  -- ---- types, by their forms

  module _ (rs : List Reading) (is : List Index) (cs : List Constant) where
    unit_keeps : Keeps (of_type rs is cs U.Unit)
    unfolding give
    unit_keeps tells name facts n =
        by_form types own of rs is cs U.Unit T.Unit U.rolls-Unit tells name facts n (value_is types own of I.Unit W.Unit I.rolls-Unit)

    bool_keeps : Keeps (of_type rs is cs U.Bool)
    unfolding any_truth bind give
    bool_keeps tells name facts n =
        let d = C.Holds (fresh_for name facts n).value in
        by_form types own of rs is cs U.Bool T.Bool U.rolls-Bool tells name facts n (value_is types own of (I.Truth d) (W.Truth d) (I.rolls-Truth d))

    truth_keeps : (c : Con) → Keeps (of_type rs is cs (U.Truth c))
    unfolding truth_opened bind give
    truth_keeps c tells name facts n =
        let d = (truth_or_fresh (read_con is c) facts n).value in
        by_form types own of rs is cs (U.Truth c) (T.Truth c) (U.rolls-Truth c) tells name facts n
        (value_is types own of (I.Truth d) (W.Truth d) (I.rolls-Truth d))

    bit_keeps : Keeps (of_type rs is cs U.Bit)
    unfolding give
    bit_keeps tells name facts n =
        by_form types own of rs is cs U.Bit T.Bit U.rolls-Bit tells name facts n (value_is types own of I.Bit W.Bit I.rolls-Bit)

    bits_keep : (t : Num) → Says types own of is cs t → Keeps (of_type rs is cs (U.Bits t))
    unfolding bits_opened number_or_fresh bits_of between bind assume give
    bits_keep t says tells name facts n =
        by_form types own of rs is cs (U.Bits t) (T.Bits t) (U.rolls-Bits t) tells name facts n
        (ap (λ (o : Option Num). sized (bind (number_or_fresh o) bits_of facts n).value) says.is_said
        ∙ value_is types own of (I.Bits says.said) (W.Bits says.said) (I.rolls-Bits says.said)
        ∙ ap S.Bits says.same)

    integer_is : (tells : Bool) (t : Num) (facts : List Fact) (n : ℕ) → sized (integer_of tells t facts n).value ≡ S.Int
    unfolding integer_of between bind assume give
    integer_is tells t facts n = by tells (is_constant t)
      where
        by : (s c : Bool) → sized ((if s then (if c then give (I.Integer t) else bind (between least_num t largest_num) (λ x. give (I.Integer t)))
            else give (I.Integer t)) facts n).value ≡ S.Int
        by false c = value_is types own of (I.Integer t) (W.Integer t) (I.rolls-Integer t)
        by true true = value_is types own of (I.Integer t) (W.Integer t) (I.rolls-Integer t)
        by true false = value_is types own of (I.Integer t) (W.Integer t) (I.rolls-Integer t)

    int_keeps : (t : Num) → Keeps (of_type rs is cs (U.Int t))
    unfolding integer_opened bind
    int_keeps t tells name facts n =
        let w = number_or_fresh (read is t) facts n in
        by_form types own of rs is cs (U.Int t) (T.Int t) (U.rolls-Int t) tells name facts n (integer_is tells w.value w.facts w.next)

    range_keeps : (t u : Num) → Keeps (of_type rs is cs (U.Range t u))
    unfolding range_opened integer_between bind give
    range_keeps t u tells name facts n =
        let v = variable (fresh_for name facts n).value in
        by_form types own of rs is cs (U.Range t u) (T.Range t u) (U.rolls-Range t u) tells name facts n
        (value_is types own of (I.Integer v) (W.Integer v) (I.rolls-Integer v))

    string_keeps : Keeps (of_type rs is cs U.String)
    unfolding give
    string_keeps tells name facts n =
        by_form types own of rs is cs U.String T.String U.rolls-String tells name facts n (value_is types own of I.String W.String I.rolls-String)

    -- what isn't opened
    item_is : (t : Typ) → IsAlike types own of rs is cs t → typed (R.Of t is rs) ≡ under rs t cs
    item_is t alike = of_is types own of t is rs ∙ sym alike

    list_keeps : (t : Typ) → IsAlike types own of rs is cs t → Keeps (of_type rs is cs (U.List t))
    unfolding give
    list_keeps t alike tells name facts n =
        let r : Reading = R.Of t is rs in
        by_form types own of rs is cs (U.List t) (T.List t) (U.rolls-List t) tells name facts n
        (value_is types own of (I.List r) (W.List r) (I.rolls-List r) ∙ ap S.List (item_is t alike))

    vector_keeps : (l : Num) (t : Typ) → Says types own of is cs l → IsAlike types own of rs is cs t → Keeps (of_type rs is cs (U.Vector l t))
    unfolding vector_opened number_or_fresh vector_of between bind assume give
    vector_keeps l t says alike tells name facts n =
        let r : Reading = R.Of t is rs in
        by_form types own of rs is cs (U.Vector l t) (T.Vector l t) (U.rolls-Vector l t) tells name facts n
        (ap (λ (o : Option Num). sized (bind (number_or_fresh o) (vector_of r) facts n).value) says.is_said
        ∙ value_is types own of (I.Vector says.said r) (W.Vector says.said r) (I.rolls-Vector says.said r)
        ∙ (λ j. S.Vector (says.same j) (item_is t alike j)))

    tuple_keeps : (ts : List Typ) → Keeps (of_types rs is cs ts) → Keeps (of_type rs is cs (U.Tuple ts))
    unfolding bind give
    tuple_keeps ts each tells name facts n =
        let vs : List Indices = (parts_opened tells (map (λ (t : Typ × Inside). t.1 is) (inside types own of rs ts)) (namings_of name) facts n).value in
        by_form types own of rs is cs (U.Tuple ts) (T.Tuple ts) (U.rolls-Tuple ts) tells name facts n
        (value_is types own of (I.Tuple vs) (W.Tuple vs) (I.rolls-Tuple vs) ∙ ap S.Tuple (each tells (namings_of name) facts n))

    named_keeps : (u : ℕ) (args : List Index) (ts : List Typ) → SaysArguments types own of u (length args) 0 is cs args → AreAlike types own of rs is cs ts
        → Keeps (of_type rs is cs (U.Named u args ts))
    unfolding named_opened bind give
    named_keeps u args ts says alike tells name facts n =
        let js : List Index = (each_read is args facts n).value in
        let qs : List Reading = map (λ (t : Typ × Inside). R.Of t.0 is rs) (inside types own of rs ts) in
        by_form types own of rs is cs (U.Named u args ts) (T.Named u args ts) (U.rolls-Named u args ts) tells name facts n
        (value_is types own of (I.Named u js qs) (W.Named u js qs) (I.rolls-Named u js qs)
        ∙ (λ j. S.Named u (numbers_same types own of u is cs args says facts n j) (types_same types own of rs is cs ts alike j)))

    exists_keeps : (binder : List ℕ) (c : Con) (t : Typ)
        → ((v : ℕ) → Keeps (of_type rs (N.Number (variable v) ∷ is) (K.Bound binder ∷ cs) t)) → Keeps (of_type rs is cs (U.Exists binder c t))
    unfolding bound_inside fresh_named bind give
    exists_keeps binder c t each tells name facts n =
        let w = bound_inside binder c is facts n in
        by_form types own of rs is cs (U.Exists binder c t) (T.Exists binder c t) (U.rolls-Exists binder c t) tells name facts n
        (each n true name w.facts w.next)

    -- ---- Type variables

    own_keeps : (i : ℕ) → slice_get rs i ≡ None → sized_at (stood types own of rs) i ≡ sized_at own i → Keeps (of_type rs is cs (U.Variable i))
    unfolding give
    own_keeps i free same tells name facts n =
        by_form types own of rs is cs (U.Variable i) (T.Variable i) (U.rolls-Variable i) tells name facts n
        (ap (λ (o : Option (Reading × Opening)). sized (variable_opened i o tells name facts n).value)
        (slice_get-map (λ r. (r, opening r)) rs i ∙ ap (option_map (λ r. (r, opening r))) free)
        ∙ value_is types own of (I.Variable i) (W.Variable i) (I.rolls-Variable i)
        ∙ sym same)

  stands_for : (rs : List Reading) (i : ℕ) (r : Reading) → slice_get rs i ≡ Some r → sized_at (stood types own of rs) i ≡ typed r
  stands_for [] i r e = none e
  stands_for (q ∷ rs) i r e = ap or_never (slice_get-map typed (q ∷ rs) i ∙ ap (option_map typed) e)

  found_keeps : (rs : List Reading) (is : List Index) (cs : List Constant) (i : ℕ) (r : Reading) → slice_get rs i ≡ Some r → Keeps (of_reading r)
      → Keeps (of_type rs is cs (U.Variable i))
  found_keeps rs is cs i r e inner tells name facts n =
      by_form types own of rs is cs (U.Variable i) (T.Variable i) (U.rolls-Variable i) tells name facts n
      (ap (λ (o : Option (Reading × Opening)). sized (variable_opened i o tells name facts n).value)
      (slice_get-map (λ r. (r, opening r)) rs i ∙ ap (option_map (λ r. (r, opening r))) e)
      ∙ inner tells name facts n
      ∙ sym (stands_for rs i r e))

  -- ---- several

  none_keep : (rs : List Reading) (is : List Index) (cs : List Constant) → Keeps (of_types rs is cs [])
  unfolding give
  none_keep rs is cs tells ns facts n = refl

  more_keep : (rs : List Reading) (is : List Index) (cs : List Constant) (t : Typ) (ts : List Typ) → Keeps (of_type rs is cs t)
      → Keeps (of_types rs is cs ts) → Keeps (of_types rs is cs (t ∷ ts))
  unfolding bind give
  more_keep rs is cs t ts one rest tells [] facts n =
      let w = typ_opened (with_openings rs) t is tells M.Unnamed facts n in
      λ j. one tells M.Unnamed facts n j ∷ rest tells [] w.facts w.next j
  more_keep rs is cs t ts one rest tells (name ∷ ns) facts n =
      let w = typ_opened (with_openings rs) t is tells name facts n in
      λ j. one tells name facts n j ∷ rest tells ns w.facts w.next j

  no_readings_keep : Keeps (of_readings [])
  unfolding give
  no_readings_keep tells ns facts n = refl

  more_readings_keep : (r : Reading) (rs : List Reading) → Keeps (of_reading r) → Keeps (of_readings rs) → Keeps (of_readings (r ∷ rs))
  unfolding bind give
  more_readings_keep r rs one rest tells [] facts n =
      let w = opening r tells M.Unnamed facts n in
      λ j. one tells M.Unnamed facts n j ∷ rest tells [] w.facts w.next j
  more_readings_keep r rs one rest tells (name ∷ ns) facts n =
      let w = opening r tells name facts n in
      λ j. one tells name facts n j ∷ rest tells ns w.facts w.next j

  -- ---- types of the walk

  abbrev reading_form : Reading-F Indices Reading → Bool → Naming → Walk Indices
  reading_form x tells name =
      reading_opened (map-Reading Indices Reading (Indices × Opening) (Reading × Opening) (λ i. (i, wide_opening i)) (λ r. (r, opening r)) x) tells name

  pub opens_reading : (x : Reading-F Indices Reading) (r : Reading) → roll-Reading x ≡ r → (tells : Bool) (name : Naming)
      → opening r tells name ≡ reading_form x tells name
  unfolding wide_opening opening
  opens_reading x r e tells name =
      ap (λ (q : Reading). opening q tells name) (sym e)
      ∙ ap (λ (o : Opening). o tells name) (para-roll-Reading Opening Opening widened_opened reading_opened x)

  -- its indices are of its sized type, where the form's are
  by_reading : (r : Reading) (x : Reading-F Indices Reading) → roll-Reading x ≡ r → (tells : Bool) (name : Naming) (facts : List Fact) (n : ℕ) (s : Sized)
      → typed r ≡ s → sized (reading_form x tells name facts n).value ≡ s → sized (opening r tells name facts n).value ≡ typed r
  by_reading r x e tells name facts n s is_typed h =
      ap (λ (w : Walk Indices). sized (w facts n).value) (opens_reading x r e tells name) ∙ h ∙ sym is_typed

  of_keeps : (t : Typ) (is : List Index) (rs : List Reading) → Keeps (of_type rs is (constants types own of is) t) → Keeps (of_reading (R.Of t is rs))
  of_keeps t is rs inner tells name facts n =
      by_reading (R.Of t is rs) (W.Of t is rs) (R.rolls-Of t is rs) tells name facts n (under rs t (constants types own of is))
      (of_is types own of t is rs) (inner tells name facts n)

  widened_keeps : (i : Indices) → Keeps (of_reading (R.Widened i))
  widened_keeps i tells name facts n =
      by_reading (R.Widened i) (W.Widened i) (R.rolls-Widened i) tells name facts n (sized i)
      (reading_is types own of (R.Widened i) (W.Widened i) (R.rolls-Widened i)) (wide_keeps types own of i name facts n)

  parts_keep : (rs : List Reading) → Keeps (of_readings rs) → Keeps (of_reading (R.Parts rs))
  unfolding bind give
  parts_keep rs each tells name facts n =
      let vs : List Indices =
      (parts_opened tells (map (λ (r : Reading × Opening). r.1) (map (λ r. (r, opening r)) rs)) (namings_of name) facts n).value in
      by_reading (R.Parts rs) (W.Parts rs) (R.rolls-Parts rs) tells name facts n (S.Tuple (map typed rs))
      (reading_is types own of (R.Parts rs) (W.Parts rs) (R.rolls-Parts rs))
      (value_is types own of (I.Tuple vs) (W.Tuple vs) (I.rolls-Tuple vs) ∙ ap S.Tuple (each tells (namings_of name) facts n))

  hole_keeps : Keeps (of_reading R.Hole)
  unfolding give
  hole_keeps tells name facts n =
      by_reading R.Hole W.Hole R.rolls-Hole tells name facts n S.Never (reading_is types own of R.Hole W.Hole R.rolls-Hole)
      (value_is types own of I.Never W.Never I.rolls-Never)

  -- ---- all of them

  pub keeps : (p : Piece) → Settled types own of p → Keeps p
  keeps p (unit rs is cs) = unit_keeps rs is cs
  keeps p (bool rs is cs) = bool_keeps rs is cs
  keeps p (truth rs is cs c) = truth_keeps rs is cs c
  keeps p (bit rs is cs) = bit_keeps rs is cs
  keeps p (bits rs is cs t says) = bits_keep rs is cs t says
  keeps p (int rs is cs t) = int_keeps rs is cs t
  keeps p (range rs is cs t u) = range_keeps rs is cs t u
  keeps p (string rs is cs) = string_keeps rs is cs
  keeps p (list rs is cs t alike) = list_keeps rs is cs t alike
  keeps p (vector rs is cs l t says alike) = vector_keeps rs is cs l t says alike
  keeps p (tuple rs is cs ts each) = tuple_keeps rs is cs ts (keeps (of_types rs is cs ts) each)
  keeps p (named rs is cs u args ts says alike) = named_keeps rs is cs u args ts says alike
  keeps p (found rs is cs i r e inner) = found_keeps rs is cs i r e (keeps (of_reading r) inner)
  keeps p (own_variable rs is cs i free same) = own_keeps rs is cs i free same
  keeps p (exists rs is cs binder c t each) =
      exists_keeps rs is cs binder c t (λ v. keeps (of_type rs (N.Number (variable v) ∷ is) (K.Bound binder ∷ cs) t) (each v))
  keeps p (no_types rs is cs) = none_keep rs is cs
  keeps p (more_types rs is cs t ts one rest) =
      more_keep rs is cs t ts (keeps (of_type rs is cs t) one) (keeps (of_types rs is cs ts) rest)
  keeps p (typ_of t is rs inner) = of_keeps t is rs (keeps (of_type rs is (constants types own of is) t) inner)
  keeps p (widened i) = widened_keeps i
  keeps p (parts rs each) = parts_keep rs (keeps (of_readings rs) each)
  keeps p hole = hole_keeps
  keeps p no_readings = no_readings_keep
  keeps p (more_readings r rs one rest) = more_readings_keep r rs (keeps (of_reading r) one) (keeps (of_readings rs) rest)

pub opening_keeps_sizes : OpeningKeepsSizes
opening_keeps_sizes types own of r settled tells name facts n = keeps types own of (of_reading r) settled tells name facts n
