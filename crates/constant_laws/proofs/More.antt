-- Form by form: more values have what is built of types that have more.
use Rattle.std.proofs.Common.{◌≡◌, ◌∙◌, ap, sym, refl, subst, ℕ, zero, suc, nat_eq, pos, Bool, true, ◌&&◌, List, [], ◌∷◌, length, map}
use Rattle.std.specs.List.{list_all}
use Rattle.std.specs.Ordering.{int_eq}
use Rattle.std.proofs.lemmas.Bool.{and_parts}
use Rattle.sail_types.specs.Belongs.{Reading as Closed, assigned, belongs, fields_belong, payload_belongs}
use Rattle.sail_types.specs.Limits.{is_length}
use Rattle.sail_types.specs.Named.{fields, payload}
use Rattle.sail_types.specs.Numbers.{Assignment, Positive, number}
use Rattle.sail_types.specs.declared.numbers.Con.{Con}
use Rattle.sail_types.specs.declared.numbers.Index.{Index}
use Rattle.sail_types.specs.declared.numbers.Num.{Num}
use Rattle.sail_types.specs.declared.table.Types.{Types}
use Rattle.sail_types.specs.declared.types.Typ.TheVariants as U
use Rattle.sail_types.specs.declared.values.Value.{Value, Value-F, out-Value}
use Rattle.sail_types.specs.declared.values.Value.TheOpen as V
use Rattle.value_indices.specs.declared.indices.Indices.{Indices, roll-Indices}
use Rattle.value_indices.specs.declared.indices.Indices.TheFolds.{map-Indices, map-Reading, ind-Indices, ind-Reading}
use Rattle.value_indices.specs.declared.indices.Indices.TheOpen as W
use Rattle.value_indices.specs.declared.indices.Indices.TheOpen.{Indices-F, Reading-F}
use Rattle.value_indices.specs.declared.indices.Reading.{Reading, roll-Reading}
use Rattle.value_laws.specs.Belonging.{Integers, Meant, asked, closed, closed_form, closeds, each_holds, form_holds, has, index_there, indices_hold, is_of, meant}
use Rattle.value_laws.specs.Belonging.{nowhere, number_there, standing, types_or_own, wide_of, wides}
use Rattle.value_laws.proofs.Basics.{no, two}
use Rattle.value_laws.proofs.Values.{answer, belongs_out, closed_is, closing, meanings, meant_is, nothing_belongs}
use Rattle.meeting_laws.proofs.Larger.{AllMore, belongs_more, fields_more, payload_more}
use Rattle.meeting_laws.proofs.Wider.{EachWider, Wider, all_more, named_wider, over_wider, tuple_wider}

-- behind which no type stands
pub none_behind : (cs : List Closed) → types_or_own cs [] ≡ cs
none_behind [] = refl
none_behind (c ∷ cs) = refl

module _ (types : Types) where
  own_more : (cs ds es : List Closed) → EachWider types cs ds → AllMore types (closeds (types_or_own cs [])) (closeds (types_or_own ds es))
  own_more [] [] es h i w k = no k
  own_more [] (d ∷ ds) es h i w k = absurd h
  own_more (c ∷ cs) [] es h i w k = absurd h
  own_more (c ∷ cs) (d ∷ ds) [] h i w k = all_more types (c ∷ cs) (d ∷ ds) h i w k
  own_more (c ∷ cs) (d ∷ ds) (e ∷ es) h zero w k = sym (belongs_out types w d) ∙ h.0 w (belongs_out types w c ∙ k)
  own_more (c ∷ cs) (d ∷ ds) (e ∷ es) h (suc i) w k =
      own_more cs ds es h.1 i w (subst (λ l. answer types w (closeds l) i ≡ true) (sym (none_behind cs)) k)

  items_more : (c d : Closed) → Wider types c d → (vs : List Value) → list_all (λ v. belongs types v c) vs ≡ true
      → list_all (λ v. belongs types v d) vs ≡ true
  items_more c d h [] k = refl
  items_more c d h (v ∷ vs) k =
      let l = and_parts (belongs types v c) (list_all (λ u. belongs types u c) vs) k in
      two (belongs types v d) (list_all (λ u. belongs types u d) vs) (h v l.0) (items_more c d h vs l.1)

  module _ (past : Positive) (own : List Closed) (f : Integers) where
    abbrev mu : Assignment
    mu = standing past f

    abbrev here : Assignment
    here = nowhere mu

    MoreI : Indices → Type 0
    MoreI i = ((v : Value) → has types mu [] i v ≡ true → has types mu own i v ≡ true) × Wider types (meant types mu [] i).wide (meant types mu own i).wide

    MoreR : Reading → Type 0
    MoreR r = Wider types (closed types mu [] r) (closed types mu own r)

    abbrev SuchI : Type 0
    SuchI = (i : Indices) × MoreI i

    abbrev SuchR : Type 0
    SuchR = (r : Reading) × MoreR r

    abbrev values_in : List SuchI → List Indices
    values_in ys = map (λ (y : SuchI). y.0) ys

    abbrev readings_in : List SuchR → List Reading
    readings_in ys = map (λ (y : SuchR). y.0) ys

    abbrev indices_of : Indices-F SuchI SuchR → Indices-F Indices Reading
    indices_of y = map-Indices SuchI SuchR Indices Reading (λ p. p.0) (λ p. p.0) y

    abbrev reading_of : Reading-F SuchI SuchR → Reading-F Indices Reading
    reading_of y = map-Reading SuchI SuchR Indices Reading (λ p. p.0) (λ p. p.0) y

    abbrev before : List SuchR → List Closed
    before ys = map (closed types mu []) (readings_in ys)

    abbrev behind : List SuchR → List Closed
    behind ys = map (closed types mu own) (readings_in ys)

    types_wider : (ys : List SuchR) → EachWider types (before ys) (behind ys)
    unfolding MoreR
    types_wider [] = tt
    types_wider (y ∷ ys) = (y.1, types_wider ys)

    wides_wider : (ys : List SuchI) → EachWider types (wides (map (meant types mu []) (values_in ys))) (wides (map (meant types mu own) (values_in ys)))
    unfolding MoreI
    wides_wider [] = tt
    wides_wider (y ∷ ys) = (y.1.1, wides_wider ys)

    -- ---- values

    each_more : (ys : List SuchI) (vs : List Value) → each_holds (map (meant types mu []) (values_in ys)) vs ≡ true
        → each_holds (map (meant types mu own) (values_in ys)) vs ≡ true
    unfolding MoreI
    each_more [] [] k = refl
    each_more [] (v ∷ vs) k = no k
    each_more (y ∷ ys) [] k = no k
    each_more (y ∷ ys) (v ∷ vs) k =
        let l = and_parts (has types mu [] y.0 v) (each_holds (map (meant types mu []) (values_in ys)) vs) k in
        two (has types mu own y.0 v) (each_holds (map (meant types mu own) (values_in ys)) vs) (y.1.0 v l.0) (each_more ys vs l.1)

    unit_more : (w : Value-F Value) → form_holds types mu [] W.Unit w ≡ true → form_holds types mu own W.Unit w ≡ true
    unit_more V.Unit k = refl
    unit_more w k = no k

    truth_more : (c : Con) (w : Value-F Value) → form_holds types mu [] (W.Truth c) w ≡ true → form_holds types mu own (W.Truth c) w ≡ true
    truth_more c (V.Truth b) k = k
    truth_more c w k = no k

    bit_more : (w : Value-F Value) → form_holds types mu [] W.Bit w ≡ true → form_holds types mu own W.Bit w ≡ true
    bit_more (V.Bit b) k = refl
    bit_more w k = no k

    bits_more : (t : Num) (w : Value-F Value) → form_holds types mu [] (W.Bits t) w ≡ true → form_holds types mu own (W.Bits t) w ≡ true
    bits_more t (V.Bits bits) k = k
    bits_more t w k = no k

    integer_more : (t : Num) (w : Value-F Value) → form_holds types mu [] (W.Integer t) w ≡ true → form_holds types mu own (W.Integer t) w ≡ true
    integer_more t (V.Integer z) k = k
    integer_more t w k = no k

    string_more : (w : Value-F Value) → form_holds types mu [] W.String w ≡ true → form_holds types mu own W.String w ≡ true
    string_more (V.String text) k = refl
    string_more w k = no k

    list_more : (c d : Closed) → Wider types c d → (w : Value-F Value) → form_holds types mu [] (W.List c) w ≡ true
        → form_holds types mu own (W.List d) w ≡ true
    list_more c d h (V.List vs) k = items_more c d h vs k
    list_more c d h w k = no k

    vector_more : (t : Num) (c d : Closed) → Wider types c d → (w : Value-F Value) → form_holds types mu [] (W.Vector t c) w ≡ true
        → form_holds types mu own (W.Vector t d) w ≡ true
    vector_more t c d h (V.Vector vs) k =
        let fits : Bool = int_eq (pos (length vs)) (number mu t) && is_length (length vs) in
        let l = and_parts fits (list_all (λ v. belongs types v c) vs) k in two fits (list_all (λ v. belongs types v d) vs) l.0 (items_more c d h vs l.1)
    vector_more t c d h w k = no k

    tuple_more : (ys : List SuchI) (w : Value-F Value) → form_holds types mu [] (W.Tuple (map (meant types mu []) (values_in ys))) w ≡ true
        → form_holds types mu own (W.Tuple (map (meant types mu own) (values_in ys))) w ≡ true
    tuple_more ys (V.Tuple vs) k = each_more ys vs k
    tuple_more ys w k = no k

    named_more : (u : ℕ) (is : List Index) (cs ds : List Closed) → EachWider types cs ds → (w : Value-F Value)
        → form_holds types mu [] (W.Named u is cs) w ≡ true → form_holds types mu own (W.Named u is ds) w ≡ true
    named_more u is cs ds h (V.Member i c) k = k
    named_more u is cs ds h (V.Struct i vs) k =
        let l = and_parts (nat_eq i u) (fields_belong (asked types mu [] vs) (assigned mu is) (closeds cs) (fields types i)) k in
        two (nat_eq i u) (fields_belong (asked types mu own vs) (assigned mu is) (closeds ds) (fields types i)) l.0
        (fields_more types vs (fields types i) (assigned mu is) (closeds cs) (closeds ds) (all_more types cs ds h) l.1)
    named_more u is cs ds h (V.Union i c v) k =
        let l = and_parts (nat_eq i u) (payload_belongs (belongs types v) (assigned mu is) (closeds cs) (payload types i c)) k in
        two (nat_eq i u) (payload_belongs (belongs types v) (assigned mu is) (closeds ds) (payload types i c)) l.0
        (payload_more types v (payload types i c) (assigned mu is) (closeds cs) (closeds ds) (all_more types cs ds h) l.1)
    named_more u is cs ds h w k = no k

    form_more : (y : Indices-F SuchI SuchR) (v : Value) → indices_hold types mu [] (meanings types mu [] (indices_of y)) v ≡ true
        → indices_hold types mu own (meanings types mu own (indices_of y)) v ≡ true
    unfolding MoreR
    form_more W.Never v k = no k
    form_more W.Unit v k = unit_more (out-Value v) k
    form_more (W.Truth c) v k = truth_more c (out-Value v) k
    form_more W.Bit v k = bit_more (out-Value v) k
    form_more (W.Bits t) v k = bits_more t (out-Value v) k
    form_more (W.Integer t) v k = integer_more t (out-Value v) k
    form_more W.String v k = string_more (out-Value v) k
    form_more (W.List r) v k = list_more (closed types mu [] r.0) (closed types mu own r.0) r.1 (out-Value v) k
    form_more (W.Vector t r) v k = vector_more t (closed types mu [] r.0) (closed types mu own r.0) r.1 (out-Value v) k
    form_more (W.Tuple ys) v k = tuple_more ys (out-Value v) k
    form_more (W.Named u is rs) v k = named_more u is (before rs) (behind rs) (types_wider rs) (out-Value v) k
    form_more (W.Variable i) v k = no (sym (nothing_belongs types v mu) ∙ k)

    -- ---- widened types, and types

    form_wider : (y : Indices-F SuchI SuchR) → Wider types (wide_of types mu [] (meanings types mu [] (indices_of y)))
        (wide_of types mu own (meanings types mu own (indices_of y)))
    unfolding MoreR
    form_wider (W.List r) v k =
        over_wider types (U.List (U.Variable 0)) here (closed types mu [] r.0 ∷ []) (closed types mu own r.0 ∷ []) (r.1, tt) v k
    form_wider (W.Vector t r) v k =
        over_wider types (U.Vector (number_there mu t) (U.Variable 0)) here (closed types mu [] r.0 ∷ []) (closed types mu own r.0 ∷ []) (r.1, tt) v k
    form_wider (W.Tuple ys) v k =
        tuple_wider types here (wides (map (meant types mu []) (values_in ys))) (wides (map (meant types mu own) (values_in ys))) (wides_wider ys) v k
    form_wider (W.Named u is rs) v k = named_wider types u (map (index_there mu) is) here (before rs) (behind rs) (types_wider rs) v k
    form_wider (W.Variable i) v k = no (sym (nothing_belongs types v mu) ∙ k)
    form_wider W.Never v k = k
    form_wider W.Unit v k = k
    form_wider (W.Truth c) v k = k
    form_wider W.Bit v k = k
    form_wider (W.Bits t) v k = k
    form_wider (W.Integer t) v k = k
    form_wider W.String v k = k

    rolled_value : (y : Indices-F SuchI SuchR) → MoreI (roll-Indices (indices_of y))
    unfolding MoreI
    rolled_value y =
        let x : Indices-F Indices Reading = indices_of y in
        let first = meant_is types mu [] (roll-Indices x) x refl in
        let last = meant_is types mu own (roll-Indices x) x refl in (
          λ v k. ap (λ (m : Meant). m.holds v) last ∙ form_more y v (sym (ap (λ (m : Meant). m.holds v) first) ∙ k),
          λ v k. ap (λ (m : Meant). belongs types v m.wide) last ∙ form_wider y v (sym (ap (λ (m : Meant). belongs types v m.wide) first) ∙ k),
        )

    reading_wider : (y : Reading-F SuchI SuchR) → Wider types (closed_form types mu [] (closing types mu [] (reading_of y)))
        (closed_form types mu own (closing types mu own (reading_of y)))
    unfolding MoreI
    reading_wider (W.Of t is rs) v k =
        belongs_more types v t (assigned mu is) (closeds (types_or_own (before rs) [])) (closeds (types_or_own (behind rs) own))
        (own_more (before rs) (behind rs) own (types_wider rs)) k
    reading_wider (W.Widened i) v k = i.1.1 v k
    reading_wider (W.Parts rs) v k = tuple_wider types here (before rs) (behind rs) (types_wider rs) v k
    reading_wider W.Hole v k = k

    rolled_type : (y : Reading-F SuchI SuchR) → MoreR (roll-Reading (reading_of y))
    unfolding MoreR
    rolled_type y v k =
        let x : Reading-F Indices Reading = reading_of y in
        ap (belongs types v) (closed_is types mu own (roll-Reading x) x refl)
        ∙ reading_wider y v (sym (ap (belongs types v) (closed_is types mu [] (roll-Reading x) x refl)) ∙ k)

    value_more : (i : Indices) → MoreI i
    value_more = ind-Indices MoreI MoreR (λ e y is. subst (λ d. MoreI (roll-Indices d)) is (rolled_value y))
        (λ e y is. subst (λ d. MoreR (roll-Reading d)) is (rolled_type y))

    type_more : (r : Reading) → MoreR r
    type_more = ind-Reading MoreI MoreR (λ e y is. subst (λ d. MoreI (roll-Indices d)) is (rolled_value y))
        (λ e y is. subst (λ d. MoreR (roll-Reading d)) is (rolled_type y))

    pub more_values : (i : Indices) (v : Value) → has types mu [] i v ≡ true → has types mu own i v ≡ true
    unfolding MoreI
    more_values i v k = (value_more i).0 v k

    pub more_of : (r : Reading) (v : Value) → is_of types mu [] r v ≡ true → is_of types mu own r v ≡ true
    unfolding MoreR
    more_of r v k = type_more r v k
