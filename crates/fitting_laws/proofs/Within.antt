-- A value that belongs to a type belongs to it too where each Type variable stands for a type of those values and others.
use Rattle.std.proofs.Common.{◌≡◌, ℕ, zero, suc, ◌+◌, ◌≤◌, nat_eq, pos, Bool, true, false, ◌&&◌, List, [], ◌∷◌, map, length, slice_index_or}
use Rattle.std.proofs.Common.{Option, Some, None, refl, sym, ap, ◌∙◌, subst, arith}
use Rattle.std.specs.Ordering.{int_eq}
use Rattle.std.proofs.lemmas.Bool.{and_parts}
use Rattle.sail_types.specs.Belongs.{Readings as Closeds, reading, assigned, under, read_each, Asked, Inner}
use Rattle.sail_types.specs.Belongs.{each_belongs, all_belong, fields_belong, payload_belongs, inner_types, given_belongs, form_belongs, answers_to, belongs}
use Rattle.sail_types.specs.Limits.{is_length}
use Rattle.sail_types.specs.Named.{fields, field_types, payload}
use Rattle.sail_types.specs.Numbers.{Assignment, number, true_in}
use Rattle.sail_types.specs.Places.{Given, an_int, a_bool, placed}
use Rattle.sail_types.specs.declared.numbers.Con.{Con}
use Rattle.sail_types.specs.declared.numbers.Index.{Index}
use Rattle.sail_types.specs.declared.table.Field.{Field}
use Rattle.sail_types.specs.declared.table.Types.{Types}
use Rattle.sail_types.specs.declared.types.Typ.{Typ, Typ-F, roll-Typ}
use Rattle.sail_types.specs.declared.types.Typ.TheFolds.{para-roll-Typ, map-Typ, ind-Typ}
use Rattle.sail_types.specs.declared.types.Typ.TheOpen as T
use Rattle.sail_types.specs.declared.values.Value.{Value, Value-F, out-Value, roll-Value}
use Rattle.sail_types.specs.declared.values.Value.TheFolds.{map-Value}
use Rattle.sail_types.specs.declared.values.Value.TheOpen as W
use Rattle.value_laws.proofs.Alike.{asks, form_size, size, size_is, sizes, some_size, total}
use Rattle.value_laws.proofs.Basics.{fronts, no, two}
use Rattle.value_laws.proofs.Values.{questions, inner, form_asked, belongs_out, answer}

module _ (types : Types) where
  -- of these values, of which none is larger than d, each that belongs to the one belongs to the other
  abbrev pub Less : ℕ → Closeds → Closeds → Type 0
  Less d rs qs = (i : ℕ) (w : Value) → size w ≤ d → answer types w rs i ≡ true → answer types w qs i ≡ true

  abbrev Told : ℕ → Type 0
  Told d = (v : Value) → size v ≤ d → (t : Typ) (nu : Assignment) (rs qs : Closeds) → Less d rs qs
      → belongs types v (reading t nu rs) ≡ true → belongs types v (reading t nu qs) ≡ true

  less_smaller : (d : ℕ) (rs qs : Closeds) → Less (suc d) rs qs → Less d rs qs
  less_smaller d rs qs h i w le = h i w (omega arith)

  -- the number that the value gives
  given_told : (given : Option Given) (nu : Assignment) (c : Con) (before behind : Inner) → ((mu : Assignment) → before mu ≡ true → behind mu ≡ true)
      → given_belongs given nu c before ≡ true → given_belongs given nu c behind ≡ true
  given_told (Some (an_int z)) nu c before behind h b =
      let k = and_parts (true_in (under z nu) c) (before (under z nu)) b in two (true_in (under z nu) c) (behind (under z nu)) k.0 (h (under z nu) k.1)
  given_told (Some (a_bool truth)) nu c before behind h b = no b
  given_told None nu c before behind h b = no b

  -- ---- where it is so of values that are smaller

  module _ (d : ℕ) (told : Told d) where
    each_told : (vs : List Value) → total (map size vs) ≤ d → (ts : List Typ) (nu : Assignment) (rs qs : Closeds) → Less d rs qs
        → each_belongs (asks types vs) nu rs ts ≡ true → each_belongs (asks types vs) nu qs ts ≡ true
    each_told [] le [] nu rs qs h b = refl
    each_told [] le (t ∷ ts) nu rs qs h b = no b
    each_told (v ∷ vs) le [] nu rs qs h b = no b
    each_told (v ∷ vs) le (t ∷ ts) nu rs qs h b =
        let l : size v + total (map size vs) ≤ d = le in
        let k = and_parts (belongs types v (reading t nu rs)) (each_belongs (asks types vs) nu rs ts) b in
        two (belongs types v (reading t nu qs)) (each_belongs (asks types vs) nu qs ts) (told v (omega arith) t nu rs qs h k.0)
        (each_told vs (omega arith) ts nu rs qs h k.1)

    all_told : (vs : List Value) → total (map size vs) ≤ d → (t : Typ) (nu : Assignment) (rs qs : Closeds) → Less d rs qs
        → all_belong (asks types vs) (reading t nu rs) ≡ true → all_belong (asks types vs) (reading t nu qs) ≡ true
    all_told [] le t nu rs qs h b = refl
    all_told (v ∷ vs) le t nu rs qs h b =
        let l : size v + total (map size vs) ≤ d = le in
        let k = and_parts (belongs types v (reading t nu rs)) (all_belong (asks types vs) (reading t nu rs)) b in
        two (belongs types v (reading t nu qs)) (all_belong (asks types vs) (reading t nu qs)) (told v (omega arith) t nu rs qs h k.0)
        (all_told vs (omega arith) t nu rs qs h k.1)

    each_less : (ts : List Typ) (nu : Assignment) (rs qs : Closeds) → Less d rs qs → Less d (read_each nu rs ts) (read_each nu qs ts)
    each_less [] nu rs qs h i w le b = no b
    each_less (t ∷ ts) nu rs qs h zero w le b =
        sym (belongs_out types w (reading t nu qs)) ∙ told w le t nu rs qs h (belongs_out types w (reading t nu rs) ∙ b)
    each_less (t ∷ ts) nu rs qs h (suc i) w le b = each_less ts nu rs qs h i w le b

    fields_told : (vs : List Value) → total (map size vs) ≤ d → (fs : Option (List Field)) (nu : Assignment) (rs qs : Closeds) → Less d rs qs
        → fields_belong (asks types vs) nu rs fs ≡ true → fields_belong (asks types vs) nu qs fs ≡ true
    fields_told vs le None nu rs qs h b = no b
    fields_told vs le (Some fs) nu rs qs h b = each_told vs le (field_types fs) nu rs qs h b

    payload_told : (v : Value) → size v ≤ d → (o : Option Typ) (nu : Assignment) (rs qs : Closeds) → Less d rs qs
        → payload_belongs (belongs types v) nu rs o ≡ true → payload_belongs (belongs types v) nu qs o ≡ true
    payload_told v le None nu rs qs h b = no b
    payload_told v le (Some t) nu rs qs h b = told v le t nu rs qs h b

    -- ---- a value of one form, of a type of one form

    Such : Value-F Value → Closeds → Closeds → Typ → Type 0
    Such w rs qs t = (nu : Assignment) → inner types w rs t nu ≡ true → inner types w qs t nu ≡ true

    abbrev SuchTyp : Value-F Value → Closeds → Closeds → Type 0
    SuchTyp w rs qs = (t : Typ) × Such w rs qs t

    abbrev typ_form : (w : Value-F Value) (rs qs : Closeds) → Typ-F (SuchTyp w rs qs) → Typ-F Typ
    typ_form w rs qs y = map-Typ (SuchTyp w rs qs) Typ (λ p. p.0) y

    abbrev types_of : (w : Value-F Value) (rs qs : Closeds) → List (SuchTyp w rs qs) → List Typ
    types_of w rs qs ys = map (λ (p : SuchTyp w rs qs). p.0) ys

    abbrev bare : Value-F Value → Value
    bare w = roll-Value (map-Value (Value × Asked) Value (λ p. p.0) (questions types w))

    abbrev inners : Value-F Value → Closeds → List Typ → List (Typ × Inner)
    inners w ps ts = map (λ t. (t, inner types w ps t)) ts

    abbrev Here : Value-F Value → Closeds → Closeds → Type 0
    Here w rs qs =
        (i : ℕ) → slice_index_or (answers_to types (questions types w) rs) i false ≡ true
        → slice_index_or (answers_to types (questions types w) qs) i false ≡ true

    struct_told : (w : Value-F Value) (i u : ℕ) (vs : List Value) → total (map size vs) ≤ d → (indices : List Index) (ts : List Typ) (nu : Assignment)
        (rs qs : Closeds) → Less d rs qs
        → (nat_eq i u && fields_belong (asks types vs) (assigned nu indices) (read_each nu rs (inner_types (inners w rs ts))) (fields types i)) ≡ true
        → (nat_eq i u && fields_belong (asks types vs) (assigned nu indices) (read_each nu qs (inner_types (inners w qs ts))) (fields types i)) ≡ true
    struct_told w i u vs le indices ts nu rs qs h b =
        let of : Closeds → List Typ → Bool = λ ps us. fields_belong (asks types vs) (assigned nu indices) (read_each nu ps us) (fields types i) in
        let k = and_parts (nat_eq i u) (of rs (inner_types (inners w rs ts))) b in
        two (nat_eq i u) (of qs (inner_types (inners w qs ts))) k.0
        (ap (of qs) (fronts (inner types w qs) ts)
        ∙ fields_told vs le (fields types i) (assigned nu indices) (read_each nu rs ts) (read_each nu qs ts) (each_less ts nu rs qs h)
        (ap (of rs) (sym (fronts (inner types w rs) ts)) ∙ k.1))

    union_told : (w : Value-F Value) (i k u : ℕ) (v : Value) → size v ≤ d → (indices : List Index) (ts : List Typ) (nu : Assignment)
        (rs qs : Closeds) → Less d rs qs
        → (nat_eq i u && payload_belongs (belongs types v) (assigned nu indices) (read_each nu rs (inner_types (inners w rs ts))) (payload types i k)) ≡ true
        → (nat_eq i u && payload_belongs (belongs types v) (assigned nu indices) (read_each nu qs (inner_types (inners w qs ts))) (payload types i k)) ≡ true
    union_told w i k u v le indices ts nu rs qs h b =
        let of : Closeds → List Typ → Bool = λ ps us. payload_belongs (belongs types v) (assigned nu indices) (read_each nu ps us) (payload types i k) in
        let p = and_parts (nat_eq i u) (of rs (inner_types (inners w rs ts))) b in
        two (nat_eq i u) (of qs (inner_types (inners w qs ts))) p.0
        (ap (of qs) (fronts (inner types w qs) ts)
        ∙ payload_told v le (payload types i k) (assigned nu indices) (read_each nu rs ts) (read_each nu qs ts) (each_less ts nu rs qs h)
        (ap (of rs) (sym (fronts (inner types w rs) ts)) ∙ p.1))

    form_told : (w : Value-F Value) (rs qs : Closeds) → form_size (sizes w) ≤ suc d → Less d rs qs → Here w rs qs
        → (y : Typ-F (SuchTyp w rs qs)) (nu : Assignment)
        → form_asked types w (typ_form w rs qs y) nu rs ≡ true → form_asked types w (typ_form w rs qs y) nu qs ≡ true
    unfolding Such
    form_told w rs qs le h here (T.Variable i) nu b = here i b
    form_told w rs qs le h here (T.Exists name c y) nu b =
        given_told (placed y.0 0 (bare w)) nu c (inner types w rs y.0) (inner types w qs y.0) y.1 b
    form_told (W.List vs) rs qs le h here (T.List y) nu b =
        let l : suc (total (map size vs)) ≤ suc d = le in all_told vs (omega arith) y.0 nu rs qs h b
    form_told (W.Vector vs) rs qs le h here (T.Vector n y) nu b =
        let l : suc (total (map size vs)) ≤ suc d = le in
        let long : Bool = int_eq (pos (length (asks types vs))) (number nu n) && is_length (length (asks types vs)) in
        let k = and_parts long (all_belong (asks types vs) (reading y.0 nu rs)) b in
        two long (all_belong (asks types vs) (reading y.0 nu qs)) k.0 (all_told vs (omega arith) y.0 nu rs qs h k.1)
    form_told (W.Tuple vs) rs qs le h here (T.Tuple ys) nu b =
        let l : suc (total (map size vs)) ≤ suc d = le in
        let ts = types_of (W.Tuple vs) rs qs ys in
        ap (each_belongs (asks types vs) nu qs) (fronts (inner types (W.Tuple vs) qs) ts)
        ∙ each_told vs (omega arith) ts nu rs qs h
        (ap (each_belongs (asks types vs) nu rs) (sym (fronts (inner types (W.Tuple vs) rs) ts)) ∙ b)
    form_told (W.Struct i vs) rs qs le h here (T.Named u indices ys) nu b =
        let l : suc (total (map size vs)) ≤ suc d = le in
        struct_told (W.Struct i vs) i u vs (omega arith) indices (types_of (W.Struct i vs) rs qs ys) nu rs qs h b
    form_told (W.Union i k v) rs qs le h here (T.Named u indices ys) nu b =
        let l : suc (size v) ≤ suc d = le in
        union_told (W.Union i k v) i k u v (omega arith) indices (types_of (W.Union i k v) rs qs ys) nu rs qs h b
    form_told W.Unit rs qs le h here y nu b = b
    form_told (W.Integer z) rs qs le h here y nu b = b
    form_told (W.Truth truth) rs qs le h here y nu b = b
    form_told (W.Bit bit) rs qs le h here y nu b = b
    form_told (W.Bits bits) rs qs le h here y nu b = b
    form_told (W.String text) rs qs le h here y nu b = b
    form_told (W.Member i k) rs qs le h here y nu b = b
    form_told (W.List vs) rs qs le h here y nu b = b
    form_told (W.Vector vs) rs qs le h here y nu b = b
    form_told (W.Tuple vs) rs qs le h here y nu b = b
    form_told (W.Struct i vs) rs qs le h here y nu b = b
    form_told (W.Union i k v) rs qs le h here y nu b = b

    typ_told : (w : Value-F Value) (rs qs : Closeds) → form_size (sizes w) ≤ suc d → Less d rs qs → Here w rs qs
        → (y : Typ-F (SuchTyp w rs qs)) → Such w rs qs (roll-Typ (typ_form w rs qs y))
    unfolding Such
    typ_told w rs qs le h here y nu b =
        ap (λ f. f nu) (para-roll-Typ Inner (form_belongs types (questions types w) qs (answers_to types (questions types w) qs)) (typ_form w rs qs y))
        ∙ form_told w rs qs le h here y nu
        (sym (ap (λ f. f nu)
        (para-roll-Typ Inner (form_belongs types (questions types w) rs (answers_to types (questions types w) rs)) (typ_form w rs qs y))) ∙ b)

    inner_told : (w : Value-F Value) (rs qs : Closeds) → form_size (sizes w) ≤ suc d → Less d rs qs → Here w rs qs → (t : Typ) → Such w rs qs t
    inner_told w rs qs le h here = ind-Typ (Such w rs qs) (λ e y is. subst (λ d. Such w rs qs (roll-Typ d)) is (typ_told w rs qs le h here y))

  of_size : (d : ℕ) → Told d
  unfolding Such
  of_size zero v le t nu rs qs h b = absurd (some_size types (sizes (out-Value v)) (subst (λ n. n ≤ 0) (size_is v) le))
  of_size (suc d) v le t nu rs qs h b =
      belongs_out types v (reading t nu qs)
      ∙ inner_told d (of_size d) (out-Value v) rs qs (subst (λ n. n ≤ suc d) (size_is v) le) (less_smaller d rs qs h) (λ i. h i v le) t nu
      (sym (belongs_out types v (reading t nu rs)) ∙ b)

  -- ---- Type variables that stand for no fewer values

  abbrev pub AllWithin : Closeds → Closeds → Type 0
  AllWithin rs qs = (i : ℕ) (w : Value) → answer types w rs i ≡ true → answer types w qs i ≡ true

  pub belongs_within : (v : Value) (t : Typ) (nu : Assignment) (rs qs : Closeds) → AllWithin rs qs
      → belongs types v (reading t nu rs) ≡ true → belongs types v (reading t nu qs) ≡ true
  belongs_within v t nu rs qs h b = of_size (size v) v (omega arith) t nu rs qs (λ i w le. h i w) b

  each_within : (vs : List Value) (ts : List Typ) (nu : Assignment) (rs qs : Closeds) → AllWithin rs qs
      → each_belongs (asks types vs) nu rs ts ≡ true → each_belongs (asks types vs) nu qs ts ≡ true
  each_within [] [] nu rs qs h b = refl
  each_within [] (t ∷ ts) nu rs qs h b = no b
  each_within (v ∷ vs) [] nu rs qs h b = no b
  each_within (v ∷ vs) (t ∷ ts) nu rs qs h b =
      let k = and_parts (belongs types v (reading t nu rs)) (each_belongs (asks types vs) nu rs ts) b in
      two (belongs types v (reading t nu qs)) (each_belongs (asks types vs) nu qs ts) (belongs_within v t nu rs qs h k.0) (each_within vs ts nu rs qs h k.1)

  pub fields_within : (vs : List Value) (fs : Option (List Field)) (nu : Assignment) (rs qs : Closeds) → AllWithin rs qs
      → fields_belong (asks types vs) nu rs fs ≡ true → fields_belong (asks types vs) nu qs fs ≡ true
  fields_within vs None nu rs qs h b = no b
  fields_within vs (Some fs) nu rs qs h b = each_within vs (field_types fs) nu rs qs h b

  pub payload_within : (v : Value) (o : Option Typ) (nu : Assignment) (rs qs : Closeds) → AllWithin rs qs
      → payload_belongs (belongs types v) nu rs o ≡ true → payload_belongs (belongs types v) nu qs o ≡ true
  payload_within v None nu rs qs h b = no b
  payload_within v (Some t) nu rs qs h b = belongs_within v t nu rs qs h b
