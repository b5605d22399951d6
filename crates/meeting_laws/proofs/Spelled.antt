-- A value of a type is of the type spelled out.
use Rattle.std.proofs.Common.{◌≡◌, ℕ, zero, suc, nat_eq, ℤ, pos, Bool, true, ◌&&◌, List, [], ◌∷◌, map, length, slice_get}
use Rattle.std.proofs.Common.{Option, Some, None, refl, sym, ap, ◌∙◌, subst}
use Rattle.std.specs.Ordering.{int_eq}
use Rattle.std.proofs.lemmas.Bool.{and_parts}
use Rattle.sail_types.proofs.Substituted.{number_constant}
use Rattle.sail_types.specs.Belongs.{Reading as Closed, Readings as Closeds, reading, no_readings, assigned, read_each, each_belongs, all_belong, fields_belong}
use Rattle.sail_types.specs.Belongs.{payload_belongs, belongs}
use Rattle.sail_types.specs.Limits.{is_small, is_width, is_length}
use Rattle.sail_types.specs.Named.{fields, payload}
use Rattle.sail_types.specs.Numbers.{Assignment, Positive, number}
use Rattle.sail_types.specs.Readings.{more, read_index, read_indices}
use Rattle.sail_types.specs.Sums.{constant, read}
use Rattle.sail_types.specs.declared.numbers.Con.{Con}
use Rattle.sail_types.specs.declared.numbers.Con.TheVariants as C
use Rattle.sail_types.specs.declared.numbers.Index.{Index}
use Rattle.sail_types.specs.declared.numbers.Num.{Num}
use Rattle.sail_types.specs.declared.table.Types.{Types}
use Rattle.sail_types.specs.declared.types.Typ.{Typ, Typ-F, roll-Typ}
use Rattle.sail_types.specs.declared.types.Typ.TheFolds.{para-roll-Typ, map-Typ, ind-Typ}
use Rattle.sail_types.specs.declared.types.Typ.TheOpen as T
use Rattle.sail_types.specs.declared.types.Typ.TheVariants as U
use Rattle.sail_types.specs.declared.values.Value.{Value, Value-F, out-Value}
use Rattle.sail_types.specs.declared.values.Value.TheOpen as V
use Rattle.row_types.specs.Formulas.{least, most}
use Rattle.value_indices.specs.Opening.{zero_num}
use Rattle.value_indices.specs.declared.indices.Indices.{Indices, roll-Indices}
use Rattle.value_indices.specs.declared.indices.Indices.TheOpen as W
use Rattle.value_indices.specs.declared.indices.Indices.TheOpen.{Indices-F}
use Rattle.value_indices.specs.declared.indices.Indices.TheVariants as I
use Rattle.value_indices.specs.declared.indices.Reading.{Reading}
use Rattle.value_indices.specs.declared.indices.Reading.TheVariants as R
use Rattle.value_laws.specs.Belonging.{Integers, standing, nowhere, closeds, type_variables, index_there, number_there}
use Rattle.value_laws.specs.Belonging.{types_or_own, wide_of, meant, closed}
use Rattle.value_laws.proofs.Basics.{no, two, fronts}
use Rattle.value_laws.proofs.Numbers.{mapped, beyond_past, beyond_read, number_read, index_number, index_truth, index_read}
use Rattle.value_laws.proofs.Values.{form_asked, inner, belongs_out, belongs_form, answer, variable_belongs, meanings, meant_is}
use Rattle.value_laws.proofs.Values.{closed_is}
use Rattle.value_laws.proofs.Alike.{asks, fields_alike, payload_alike, variables_same}
use Rattle.value_laws.proofs.Opening.{found_answer, free_answer}
use Rattle.value_laws.proofs.Arguments.{AreAs, IsAs, assigned_as, assigned_there, under_these}
use Rattle.wide_types.specs.Widening.{bits_spelled, vector_spelled, named_spelled, variable_spelled, form_spelled, typ_spelled, reading_spelled}
use Rattle.wide_types.specs.Widening.{value_spelled}
use Rattle.meeting_laws.proofs.Larger.{AllMore, belongs_more, fields_more, payload_more}
use Rattle.meeting_laws.proofs.Wider.{Wider, EachWider, all_more, bounded, items_wider, own_wider}
use Rattle.meeting_laws.proofs.Inside.{values_wider}
use Rattle.meeting_laws.proofs.Forms.{each_of, tuple_as, widened_is}

none : {A B : Type 0} {x : A} → None ≡ Some x → B
none h = absurd (cc)

-- the first of several that all are there, and the others
more_there : {A : Type 0} (o : Option A) (os : Option (List A)) (ys : List A) → more o os ≡ Some ys
    → (x : A) × (xs : List A) × (o ≡ Some x) × (os ≡ Some xs) × ((x ∷ xs) ≡ ys)
more_there None os ys e = none e
more_there (Some x) os ys e = let p = mapped (λ xs. x ∷ xs) os ys e in (x, p.0, refl, p.1, p.2)

module _ (types : Types) (past : Positive) (own : List Closed) (g : Integers) where
  abbrev mu : Assignment
  mu = standing past g

  abbrev here : Assignment
  here = nowhere mu

  abbrev closing_all : List Reading → List Closed
  closing_all rs = map (closed types mu own) rs

  -- ---- types under what their variables stand for

  module _ (is : List Index) (rs qs : List Reading) (larger : EachWider types (closing_all rs) (closing_all qs)) where
    abbrev nu : Assignment
    nu = under_these past g is

    abbrev stood : List Reading → Closeds
    stood ps = closeds (types_or_own (closing_all ps) own)

    stands_more : AllMore types (stood rs) (stood qs)
    stands_more =
        all_more types (types_or_own (closing_all rs) own) (types_or_own (closing_all qs) own) (own_wider types (closing_all rs) (closing_all qs) own larger)

    Spells : Typ → Type 0
    Spells t = Wider types (reading t nu (stood rs)) (closed types mu own (typ_spelled is qs t))

    abbrev SuchTyp : Type 0
    SuchTyp = (t : Typ) × Spells t

    abbrev typ_form : Typ-F SuchTyp → Typ-F Typ
    typ_form y = map-Typ SuchTyp Typ (λ p. p.0) y

    abbrev types_in : List SuchTyp → List Typ
    types_in ys = map (λ (y : SuchTyp). y.0) ys

    spelled_is : (x : Typ-F Typ) → typ_spelled is qs (roll-Typ x) ≡ form_spelled is qs (map-Typ Typ (Typ × Reading) (λ t. (t, typ_spelled is qs t)) x)
    unfolding typ_spelled
    spelled_is x = para-roll-Typ Reading (form_spelled is qs) x

    firsts : (ts : List Typ) → map (λ (part : Typ × Reading). part.0) (map (λ t. (t, typ_spelled is qs t)) ts) ≡ ts
    firsts [] = refl
    firsts (t ∷ ts) = ap (λ us. t ∷ us) (firsts ts)

    seconds : (ts : List Typ) → map (λ (part : Typ × Reading). part.1) (map (λ t. (t, typ_spelled is qs t)) ts) ≡ map (typ_spelled is qs) ts
    seconds [] = refl
    seconds (t ∷ ts) = ap (λ us. typ_spelled is qs t ∷ us) (seconds ts)

    -- what is left as it is
    left_as_is : (t : Typ) (v : Value) → belongs types v (reading t nu (stood rs)) ≡ true → belongs types v (closed types mu own (R.Of t is qs)) ≡ true
    left_as_is t v k =
        ap (belongs types v) (closed_is types mu own (R.Of t is qs) (W.Of t is qs) (R.rolls-Of t is qs))
        ∙ belongs_more types v t nu (stood rs) (stood qs) stands_more k

    -- where it is the widened type of these indices
    widens_to : (i : Indices) (x : Indices-F Indices Reading) (v : Value) → roll-Indices x ≡ i
        → belongs types v (wide_of types mu own (meanings types mu own x)) ≡ true → belongs types v (closed types mu own (R.Widened i)) ≡ true
    widens_to i x v e k = ap (belongs types v) (widened_is types past own g i ∙ ap (λ m. m.wide) (meant_is types mu own i x e)) ∙ k

    unit_spells : (w : Value-F Value) → form_asked types w T.Unit nu (stood rs) ≡ true → form_asked types w T.Unit here no_readings ≡ true
    unit_spells V.Unit h = refl
    unit_spells w h = no h

    bit_spells : (w : Value-F Value) → form_asked types w T.Bit nu (stood rs) ≡ true → form_asked types w T.Bit here no_readings ≡ true
    bit_spells (V.Bit b) h = refl
    bit_spells w h = no h

    string_spells : (w : Value-F Value) → form_asked types w T.String nu (stood rs) ≡ true → form_asked types w T.String here no_readings ≡ true
    string_spells (V.String text) h = refl
    string_spells w h = no h

    bool_spells : (w : Value-F Value) → form_asked types w T.Bool nu (stood rs) ≡ true → form_asked types w T.Bool here no_readings ≡ true
    bool_spells (V.Truth b) h = refl
    bool_spells w h = no h

    truth_spells : (c : Con) (w : Value-F Value) → form_asked types w (T.Truth c) nu (stood rs) ≡ true → form_asked types w T.Bool here no_readings ≡ true
    truth_spells c (V.Truth b) h = refl
    truth_spells c w h = no h

    abbrev whole_range : Typ-F Typ
    whole_range = T.Range (constant least) (constant most)

    int_spells : (t : Num) (w : Value-F Value) → form_asked types w (T.Int t) nu (stood rs) ≡ true → form_asked types w whole_range here no_readings ≡ true
    int_spells t (V.Integer z) h = bounded types here z (and_parts (int_eq z (number nu t)) (is_small z) h).1
    int_spells t w h = no h

    range_spells : (t u : Num) (w : Value-F Value) → form_asked types w (T.Range t u) nu (stood rs) ≡ true
        → form_asked types w whole_range here no_readings ≡ true
    range_spells t u (V.Integer z) h = bounded types here z (and_parts _ (is_small z) h).1
    range_spells t u w h = no h

    bits_spell : (t u : Num) → number mu u ≡ number nu t → (w : Value-F Value) → form_asked types w (T.Bits t) nu (stood rs) ≡ true
        → form_asked types w (T.Bits (number_there mu u)) here no_readings ≡ true
    bits_spell t u e (V.Bits bits) h =
        ap (λ z. int_eq (pos (length bits)) z && is_width (length bits)) (number_constant here (number mu u) ∙ e) ∙ h
    bits_spell t u e w h = no h

    -- items of the type spelled out, as those of what a variable stands for
    item_wider : (c d : Closed) → Wider types c d → Wider types c (reading (U.Variable 0) here (closeds (d ∷ [])))
    item_wider c d h v k = variable_belongs types v 0 here (closeds (d ∷ [])) ∙ sym (belongs_out types v d) ∙ h v k

    list_spells : (t : Typ) (d : Closed) → Wider types (reading t nu (stood rs)) d → (w : Value-F Value)
        → form_asked types w (T.List t) nu (stood rs) ≡ true → form_asked types w (T.List (U.Variable 0)) here (closeds (d ∷ [])) ≡ true
    list_spells t d h (V.List vs) k =
        items_wider types vs (reading t nu (stood rs)) (reading (U.Variable 0) here (closeds (d ∷ []))) (item_wider (reading t nu (stood rs)) d h) k
    list_spells t d h w k = no k

    vector_spells : (n u : Num) (t : Typ) (d : Closed) → number mu u ≡ number nu n → Wider types (reading t nu (stood rs)) d → (w : Value-F Value)
        → form_asked types w (T.Vector n t) nu (stood rs) ≡ true
        → form_asked types w (T.Vector (number_there mu u) (U.Variable 0)) here (closeds (d ∷ [])) ≡ true
    vector_spells n u t d e h (V.Vector vs) k =
        let so : ℤ → Bool = λ z. int_eq (pos (length (asks types vs))) z && is_length (length (asks types vs)) in
        let l = and_parts (so (number nu n)) (all_belong (asks types vs) (reading t nu (stood rs))) k in
        two (so (number here (number_there mu u))) (all_belong (asks types vs) (reading (U.Variable 0) here (closeds (d ∷ []))))
        (ap so (number_constant here (number mu u) ∙ e) ∙ l.0)
        (items_wider types vs (reading t nu (stood rs)) (reading (U.Variable 0) here (closeds (d ∷ []))) (item_wider (reading t nu (stood rs)) d h) l.1)
    vector_spells n u t d e h w k = no k

    parts_spell : (ys : List SuchTyp) (vs : List Value) → each_belongs (asks types vs) nu (stood rs) (types_in ys) ≡ true
        → each_of types past own vs (closing_all (map (typ_spelled is qs) (types_in ys))) ≡ true
    unfolding Spells
    parts_spell [] [] k = refl
    parts_spell [] (v ∷ vs) k = no k
    parts_spell (y ∷ ys) [] k = no k
    parts_spell (y ∷ ys) (v ∷ vs) k =
        let l = and_parts (belongs types v (reading y.0 nu (stood rs))) (each_belongs (asks types vs) nu (stood rs) (types_in ys)) k in
        two (belongs types v (closed types mu own (typ_spelled is qs y.0))) (each_of types past own vs (closing_all (map (typ_spelled is qs) (types_in ys))))
        (y.1 v l.0) (parts_spell ys vs l.1)

    tuple_spells : (ys : List SuchTyp) (w : Value-F Value) → form_asked types w (T.Tuple (types_in ys)) nu (stood rs) ≡ true
        → let cs = closing_all (map (typ_spelled is qs) (types_in ys)) in form_asked types w (T.Tuple (type_variables 0 cs)) here (closeds cs) ≡ true
    tuple_spells ys (V.Tuple vs) k =
        tuple_as types past own here (closing_all (map (typ_spelled is qs) (types_in ys))) vs
        ∙ parts_spell ys vs (sym (ap (each_belongs (asks types vs) nu (stood rs)) (fronts (inner types (V.Tuple vs) (stood rs)) (types_in ys))) ∙ k)
    tuple_spells ys w k = no k

    -- arguments that can be said are as they were
    arguments_as : (js ks : List Index) → read_indices is js ≡ Some ks → AreAs mu nu js ks
    arguments_as [] [] e = tt
    arguments_as [] (k ∷ ks) e = absurd (cc)
    arguments_as (j ∷ js) ks e =
        let p = more_there (read_index is j) (read_indices is js) ks e in
        let one : IsAs mu nu j p.0 = record {
          numbers = index_number past g is j p.0 p.2;
          truths = index_truth past g is j p.0 p.2;
          as_there = index_read past g is j p.0 p.2;
        } in
        subst (λ ys. AreAs mu nu (j ∷ js) ys) p.4 (one, arguments_as js p.1 p.3)

    arguments_more : (ys : List SuchTyp)
        → AllMore types (read_each nu (stood rs) (types_in ys)) (closeds (closing_all (map (typ_spelled is qs) (types_in ys))))
    unfolding Spells
    arguments_more [] i w k = k
    arguments_more (y ∷ ys) zero w k =
        sym (belongs_out types w (closed types mu own (typ_spelled is qs y.0))) ∙ y.1 w (belongs_out types w (reading y.0 nu (stood rs)) ∙ k)
    arguments_more (y ∷ ys) (suc i) w k = arguments_more ys i w k

    module _ (u : ℕ) (js ks : List Index) (ys : List SuchTyp) (assigns : assigned mu ks ≡ assigned nu js) where
      abbrev cs : List Closed
      cs = closing_all (map (typ_spelled is qs) (types_in ys))

      abbrev args : List Index
      args = map (index_there mu) ks

      abbrev vars : List Typ
      vars = type_variables 0 cs

      named_spells : (w : Value-F Value) → form_asked types w (T.Named u js (types_in ys)) nu (stood rs) ≡ true
          → form_asked types w (T.Named u args vars) here (closeds cs) ≡ true
      named_spells (V.Member i k) h = h
      named_spells (V.Struct i vs) h =
          let of : Assignment → Closeds → Bool = λ na ps. fields_belong (asks types vs) na ps (fields types i) in
          let k = and_parts (nat_eq i u) (of (assigned nu js) (read_each nu (stood rs) (types_in ys)))
          (sym (ap (λ us. nat_eq i u && of (assigned nu js) (read_each nu (stood rs) us)) (fronts (inner types (V.Struct i vs) (stood rs)) (types_in ys)))
          ∙ h) in
          ap (λ us. nat_eq i u && of (assigned here args) (read_each here (closeds cs) us)) (fronts (inner types (V.Struct i vs) (closeds cs)) vars)
          ∙ two (nat_eq i u) (of (assigned here args) (read_each here (closeds cs) vars)) k.0
          (ap (λ na. of na (read_each here (closeds cs) vars)) (assigned_there past g ks ∙ assigns)
          ∙ fields_alike types vs (fields types i) (assigned nu js) (read_each here (closeds cs) vars) (closeds cs) (variables_same types here cs)
          ∙ fields_more types vs (fields types i) (assigned nu js) (read_each nu (stood rs) (types_in ys)) (closeds cs) (arguments_more ys) k.1)
      named_spells (V.Union i j v) h =
          let of : Assignment → Closeds → Bool = λ na ps. payload_belongs (belongs types v) na ps (payload types i j) in
          let k = and_parts (nat_eq i u) (of (assigned nu js) (read_each nu (stood rs) (types_in ys)))
          (sym (ap (λ us. nat_eq i u && of (assigned nu js) (read_each nu (stood rs) us)) (fronts (inner types (V.Union i j v) (stood rs)) (types_in ys)))
          ∙ h) in
          ap (λ us. nat_eq i u && of (assigned here args) (read_each here (closeds cs) us)) (fronts (inner types (V.Union i j v) (closeds cs)) vars)
          ∙ two (nat_eq i u) (of (assigned here args) (read_each here (closeds cs) vars)) k.0
          (ap (λ na. of na (read_each here (closeds cs) vars)) (assigned_there past g ks ∙ assigns)
          ∙ payload_alike types v (payload types i j) (assigned nu js) (read_each here (closeds cs) vars) (closeds cs) (variables_same types here cs)
          ∙ payload_more types v (payload types i j) (assigned nu js) (read_each nu (stood rs) (types_in ys)) (closeds cs) (arguments_more ys) k.1)
      named_spells w h = no h

    asked : (x : Typ-F Typ) (v : Value) → belongs types v (reading (roll-Typ x) nu (stood rs)) ≡ true → form_asked types (out-Value v) x nu (stood rs) ≡ true
    asked x v k = sym (belongs_form types v x (roll-Typ x) nu (stood rs) refl) ∙ k

    -- as the type is written
    written : (s t : Typ) (v : Value) → s ≡ t → belongs types v (reading s nu (stood rs)) ≡ true → belongs types v (reading t nu (stood rs)) ≡ true
    written s t v e k = ap (λ u. belongs types v (reading u nu (stood rs))) (sym e) ∙ k

    bits_case : (t : Num) (v : Value) (o : Option Num) → read is t ≡ o → belongs types v (reading (roll-Typ (T.Bits t)) nu (stood rs)) ≡ true
        → belongs types v (closed types mu own (bits_spelled (R.Of (U.Bits t) is qs) o)) ≡ true
    bits_case t v None e k = left_as_is (U.Bits t) v (written (roll-Typ (T.Bits t)) (U.Bits t) v (U.rolls-Bits t) k)
    bits_case t v (Some u) e k =
        widens_to (I.Bits u) (W.Bits u) v (I.rolls-Bits u)
        (belongs_form types v (T.Bits (number_there mu u)) (U.Bits (number_there mu u)) here no_readings (U.rolls-Bits (number_there mu u))
        ∙ bits_spell t u (number_read past g is t u e) (out-Value v) (asked (T.Bits t) v k))

    vector_case : (n : Num) (y : SuchTyp) (v : Value) (o : Option Num) → read is n ≡ o
        → belongs types v (reading (roll-Typ (T.Vector n y.0)) nu (stood rs)) ≡ true
        → belongs types v (closed types mu own (vector_spelled (R.Of (U.Vector n y.0) is qs) (typ_spelled is qs y.0) o)) ≡ true
    unfolding Spells
    vector_case n y v None e k = left_as_is (U.Vector n y.0) v (written (roll-Typ (T.Vector n y.0)) (U.Vector n y.0) v (U.rolls-Vector n y.0) k)
    vector_case n y v (Some u) e k =
        let r = typ_spelled is qs y.0 in
        let d = closed types mu own (typ_spelled is qs y.0) in
        widens_to (I.Vector u r) (W.Vector u r) v (I.rolls-Vector u r)
        (belongs_form types v (T.Vector (number_there mu u) (U.Variable 0)) (U.Vector (number_there mu u) (U.Variable 0)) here (closeds (d ∷ []))
        (U.rolls-Vector (number_there mu u) (U.Variable 0))
        ∙ vector_spells n u y.0 d (number_read past g is n u e) y.1 (out-Value v) (asked (T.Vector n y.0) v k))

    named_case : (u : ℕ) (js : List Index) (ys : List SuchTyp) (v : Value) (o : Option (List Index)) → read_indices is js ≡ o
        → belongs types v (reading (roll-Typ (T.Named u js (types_in ys))) nu (stood rs)) ≡ true
        → belongs types v (closed types mu own (named_spelled (R.Of (U.Named u js (types_in ys)) is qs) u (map (typ_spelled is qs) (types_in ys)) o)) ≡ true
    named_case u js ys v None e k =
        left_as_is (U.Named u js (types_in ys)) v
        (written (roll-Typ (T.Named u js (types_in ys))) (U.Named u js (types_in ys)) v (U.rolls-Named u js (types_in ys)) k)
    named_case u js ys v (Some ks) e k =
        let ps : List Reading = map (typ_spelled is qs) (types_in ys) in
        let ds = closing_all ps in
        let args = map (index_there mu) ks in
        let assigns : assigned mu ks ≡ assigned nu js =
        assigned_as mu nu (λ o p. beyond_past past g o ∙ sym (beyond_read past g is p)) js ks (arguments_as js ks e) in
        widens_to (I.Named u ks ps) (W.Named u ks ps) v (I.rolls-Named u ks ps)
        (belongs_form types v (T.Named u args (type_variables 0 ds)) (U.Named u args (type_variables 0 ds)) here (closeds ds)
        (U.rolls-Named u args (type_variables 0 ds))
        ∙ named_spells u js ks ys assigns (out-Value v) (asked (T.Named u js (types_in ys)) v k))

    variable_case : (i : ℕ) (v : Value) (o : Option Reading) → slice_get qs i ≡ o → answer types v (stood qs) i ≡ true
        → belongs types v (closed types mu own (variable_spelled i o)) ≡ true
    variable_case i v (Some r) e k = sym (found_answer types past own qs g i r v e) ∙ k
    variable_case i v None e k = widens_to (I.Variable i) (W.Variable i) v (I.rolls-Variable i) (sym (free_answer types past own qs g i v e) ∙ k)

    form_spells : (y : Typ-F SuchTyp) (v : Value) → belongs types v (reading (roll-Typ (typ_form y)) nu (stood rs)) ≡ true
        → belongs types v (closed types mu own (form_spelled is qs (map-Typ Typ (Typ × Reading) (λ t. (t, typ_spelled is qs t)) (typ_form y)))) ≡ true
    unfolding Spells
    form_spells T.Unit v k =
        widens_to I.Unit W.Unit v I.rolls-Unit
        (belongs_form types v T.Unit U.Unit here no_readings U.rolls-Unit ∙ unit_spells (out-Value v) (asked T.Unit v k))
    form_spells T.Bool v k =
        widens_to (I.Truth (C.Truth true)) (W.Truth (C.Truth true)) v (I.rolls-Truth (C.Truth true))
        (belongs_form types v T.Bool U.Bool here no_readings U.rolls-Bool ∙ bool_spells (out-Value v) (asked T.Bool v k))
    form_spells (T.Truth c) v k =
        widens_to (I.Truth (C.Truth true)) (W.Truth (C.Truth true)) v (I.rolls-Truth (C.Truth true))
        (belongs_form types v T.Bool U.Bool here no_readings U.rolls-Bool ∙ truth_spells c (out-Value v) (asked (T.Truth c) v k))
    form_spells T.Bit v k =
        widens_to I.Bit W.Bit v I.rolls-Bit (belongs_form types v T.Bit U.Bit here no_readings U.rolls-Bit ∙ bit_spells (out-Value v) (asked T.Bit v k))
    form_spells (T.Bits t) v k = bits_case t v (read is t) refl k
    form_spells (T.Int t) v k =
        widens_to (I.Integer zero_num) (W.Integer zero_num) v (I.rolls-Integer zero_num)
        (belongs_form types v whole_range (U.Range (constant least) (constant most)) here no_readings (U.rolls-Range (constant least) (constant most))
        ∙ int_spells t (out-Value v) (asked (T.Int t) v k))
    form_spells (T.Range t u) v k =
        widens_to (I.Integer zero_num) (W.Integer zero_num) v (I.rolls-Integer zero_num)
        (belongs_form types v whole_range (U.Range (constant least) (constant most)) here no_readings (U.rolls-Range (constant least) (constant most))
        ∙ range_spells t u (out-Value v) (asked (T.Range t u) v k))
    form_spells T.String v k =
        widens_to I.String W.String v I.rolls-String
        (belongs_form types v T.String U.String here no_readings U.rolls-String ∙ string_spells (out-Value v) (asked T.String v k))
    form_spells (T.List y) v k =
        let r = typ_spelled is qs y.0 in
        let d = closed types mu own (typ_spelled is qs y.0) in
        widens_to (I.List r) (W.List r) v (I.rolls-List r)
        (belongs_form types v (T.List (U.Variable 0)) (U.List (U.Variable 0)) here (closeds (d ∷ [])) (U.rolls-List (U.Variable 0))
        ∙ list_spells y.0 d y.1 (out-Value v) (asked (T.List y.0) v k))
    form_spells (T.Vector n y) v k = vector_case n y v (read is n) refl k
    form_spells (T.Tuple ys) v k =
        let ps : List Reading = map (typ_spelled is qs) (types_in ys) in
        let ds = closing_all ps in
        ap (λ us. belongs types v (closed types mu own (R.Parts us))) (seconds (types_in ys))
        ∙ ap (belongs types v) (closed_is types mu own (R.Parts ps) (W.Parts ps) (R.rolls-Parts ps))
        ∙ belongs_form types v (T.Tuple (type_variables 0 ds)) (U.Tuple (type_variables 0 ds)) here (closeds ds) (U.rolls-Tuple (type_variables 0 ds))
        ∙ tuple_spells ys (out-Value v) (asked (T.Tuple (types_in ys)) v k)
    form_spells (T.Named u js ys) v k =
        (λ j. belongs types v (closed types mu own (named_spelled (R.Of (U.Named u js (firsts (types_in ys) j)) is qs) u (seconds (types_in ys) j)
        (read_indices is js))))
        ∙ named_case u js ys v (read_indices is js) refl k
    form_spells (T.Variable i) v k = variable_case i v (slice_get qs i) refl (stands_more i v (asked (T.Variable i) v k))
    form_spells (T.Exists name c y) v k =
        left_as_is (U.Exists name c y.0) v (written (roll-Typ (T.Exists name c y.0)) (U.Exists name c y.0) v (U.rolls-Exists name c y.0) k)

    typ_step : (y : Typ-F SuchTyp) → Spells (roll-Typ (typ_form y))
    unfolding Spells
    typ_step y v k = ap (λ r. belongs types v (closed types mu own r)) (spelled_is (typ_form y)) ∙ form_spells y v k

    typ_spells : (t : Typ) → Spells t
    typ_spells = ind-Typ Spells (λ e y same_form. subst (λ d. Spells (roll-Typ d)) same_form (typ_step y))

    pub of_spells : (t : Typ) → Wider types (closed types mu own (R.Of t is rs)) (closed types mu own (typ_spelled is qs t))
    unfolding Spells
    of_spells t v k =
        typ_spells t v (sym (ap (belongs types v) (closed_is types mu own (R.Of t is rs) (W.Of t is rs) (R.rolls-Of t is rs))) ∙ k)

  -- a value of the widened type is of that of the value spelled out
  pub spelled_wider : (i : Indices) → Wider types (meant types mu own i).wide (meant types mu own (value_spelled i)).wide
  spelled_wider i =
      values_wider types past own g reading_spelled (λ j. refl) (λ ps. refl) refl (λ t is rs qs larger. of_spells is rs qs larger t) i
