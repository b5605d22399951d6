-- Where more values belong to what the Type variables of a type stand for, more belong to the type.
use Rattle.std.proofs.Common.{◌≡◌, ℕ, zero, suc, ◌+◌, ◌≤◌, nat_eq, pos, Bool, true, false, ◌&&◌, List, [], ◌∷◌, map, length, slice_index_or}
use Rattle.std.proofs.Common.{Option, Some, None, sym, ap, ◌∙◌, subst, arith}
use Rattle.std.specs.Ordering.{int_eq}
use Rattle.std.proofs.lemmas.Bool.{and_parts}
use Rattle.value_laws.proofs.Basics.{no, two, fronts}
use Rattle.sail_types.specs.Belongs.{Readings as Closeds, reading, assigned, under, read_each, Asked, Inner}
use Rattle.sail_types.specs.Belongs.{each_belongs, all_belong, fields_belong, payload_belongs, inner_types, given_belongs, form_belongs, answers_to, belongs}
use Rattle.sail_types.specs.Limits.{is_length}
use Rattle.sail_types.specs.Named.{fields, field_types, payload}
use Rattle.sail_types.specs.Numbers.{Assignment, number, true_in}
use Rattle.sail_types.specs.Places.{Given, an_int, a_bool, placed}
use Rattle.sail_types.specs.declared.numbers.Con.{Con}
use Rattle.sail_types.specs.declared.numbers.Index.{Index}
use Rattle.sail_types.specs.declared.table.Field.{Field}
use Rattle.sail_types.specs.declared.table.Types.{Types}
use Rattle.sail_types.specs.declared.types.Typ.{Typ, Typ-F, roll-Typ}
use Rattle.sail_types.specs.declared.types.Typ.TheFolds.{para-roll-Typ, map-Typ, ind-Typ}
use Rattle.sail_types.specs.declared.types.Typ.TheOpen as T
use Rattle.sail_types.specs.declared.values.Value.{Value, Value-F, out-Value, roll-Value}
use Rattle.sail_types.specs.declared.values.Value.TheFolds.{map-Value}
use Rattle.sail_types.specs.declared.values.Value.TheOpen as W
use Rattle.value_laws.proofs.Alike.{asks, form_size, size, sizes, size_is, some_size, total}
use Rattle.value_laws.proofs.Values.{questions, inner, form_asked, belongs_out, answer}

abbrev Gives : Bool → Bool → Type 0
Gives a b = a ≡ true → b ≡ true

both_give : (a b c d : Bool) → Gives a c → Gives b d → Gives (a && b) (c && d)
both_give a b c d f g h = let k = and_parts a b h in two c d (f k.0) (g k.1)

given_more : (o : Option Given) (nu : Assignment) (c : Con) (f g : Inner) → ((mu : Assignment) → Gives (f mu) (g mu))
    → Gives (given_belongs o nu c f) (given_belongs o nu c g)
given_more (Some (an_int z)) nu c f g h k =
    both_give (true_in (under z nu) c) (f (under z nu)) (true_in (under z nu) c) (g (under z nu)) (λ e. e) (h (under z nu)) k
given_more (Some (a_bool b)) nu c f g h k = no k
given_more None nu c f g h k = no k

module _ (types : Types) where
  -- these values belong, of which none is larger than d
  abbrev More : ℕ → Closeds → Closeds → Type 0
  More d rs qs = (i : ℕ) (w : Value) → size w ≤ d → Gives (answer types w rs i) (answer types w qs i)

  abbrev Told : ℕ → Type 0
  Told d = (v : Value) → size v ≤ d → (t : Typ) (nu : Assignment) (rs qs : Closeds) → More d rs qs
      → Gives (belongs types v (reading t nu rs)) (belongs types v (reading t nu qs))

  less_more : (d : ℕ) (rs qs : Closeds) → More (suc d) rs qs → More d rs qs
  less_more d rs qs h i w le = h i w (omega arith)

  -- ---- where it is so of values that are smaller

  module _ (d : ℕ) (told : Told d) where
    each_told : (vs : List Value) → total (map size vs) ≤ d → (ts : List Typ) (nu : Assignment) (rs qs : Closeds) → More d rs qs
        → Gives (each_belongs (asks types vs) nu rs ts) (each_belongs (asks types vs) nu qs ts)
    each_told [] le [] nu rs qs h k = k
    each_told [] le (t ∷ ts) nu rs qs h k = k
    each_told (v ∷ vs) le [] nu rs qs h k = k
    each_told (v ∷ vs) le (t ∷ ts) nu rs qs h k =
        let l : size v + total (map size vs) ≤ d = le in
        both_give (belongs types v (reading t nu rs)) (each_belongs (asks types vs) nu rs ts) (belongs types v (reading t nu qs))
        (each_belongs (asks types vs) nu qs ts) (told v (omega arith) t nu rs qs h) (each_told vs (omega arith) ts nu rs qs h) k

    all_told : (vs : List Value) → total (map size vs) ≤ d → (t : Typ) (nu : Assignment) (rs qs : Closeds) → More d rs qs
        → Gives (all_belong (asks types vs) (reading t nu rs)) (all_belong (asks types vs) (reading t nu qs))
    all_told [] le t nu rs qs h k = k
    all_told (v ∷ vs) le t nu rs qs h k =
        let l : size v + total (map size vs) ≤ d = le in
        both_give (belongs types v (reading t nu rs)) (all_belong (asks types vs) (reading t nu rs)) (belongs types v (reading t nu qs))
        (all_belong (asks types vs) (reading t nu qs)) (told v (omega arith) t nu rs qs h) (all_told vs (omega arith) t nu rs qs h) k

    each_more : (ts : List Typ) (nu : Assignment) (rs qs : Closeds) → More d rs qs → More d (read_each nu rs ts) (read_each nu qs ts)
    each_more [] nu rs qs h i w le k = k
    each_more (t ∷ ts) nu rs qs h zero w le k =
        sym (belongs_out types w (reading t nu qs)) ∙ told w le t nu rs qs h (belongs_out types w (reading t nu rs) ∙ k)
    each_more (t ∷ ts) nu rs qs h (suc i) w le k = each_more ts nu rs qs h i w le k

    fields_told : (vs : List Value) → total (map size vs) ≤ d → (fs : Option (List Field)) (nu : Assignment) (rs qs : Closeds) → More d rs qs
        → Gives (fields_belong (asks types vs) nu rs fs) (fields_belong (asks types vs) nu qs fs)
    fields_told vs le None nu rs qs h k = k
    fields_told vs le (Some fs) nu rs qs h k = each_told vs le (field_types fs) nu rs qs h k

    payload_told : (v : Value) → size v ≤ d → (o : Option Typ) (nu : Assignment) (rs qs : Closeds) → More d rs qs
        → Gives (payload_belongs (belongs types v) nu rs o) (payload_belongs (belongs types v) nu qs o)
    payload_told v le None nu rs qs h k = k
    payload_told v le (Some t) nu rs qs h k = told v le t nu rs qs h k

    -- ---- a value of one form, of a type of one form

    Such : Value-F Value → Closeds → Closeds → Typ → Type 0
    Such w rs qs t = (nu : Assignment) → Gives (inner types w rs t nu) (inner types w qs t nu)

    abbrev SuchTyp : Value-F Value → Closeds → Closeds → Type 0
    SuchTyp w rs qs = (t : Typ) × Such w rs qs t

    abbrev typ_form : (w : Value-F Value) (rs qs : Closeds) → Typ-F (SuchTyp w rs qs) → Typ-F Typ
    typ_form w rs qs y = map-Typ (SuchTyp w rs qs) Typ (λ p. p.0) y

    abbrev types_of : (w : Value-F Value) (rs qs : Closeds) → List (SuchTyp w rs qs) → List Typ
    types_of w rs qs ys = map (λ (p : SuchTyp w rs qs). p.0) ys

    abbrev bare : Value-F Value → Value
    bare w = roll-Value (map-Value (Value × Asked) Value (λ p. p.0) (questions types w))

    abbrev inners : Value-F Value → Closeds → List Typ → List (Typ × Inner)
    inners w ps ts = map (λ t. (t, inner types w ps t)) ts

    abbrev Here : Value-F Value → Closeds → Closeds → Type 0
    Here w rs qs = (i : ℕ) → Gives (slice_index_or (answers_to types (questions types w) rs) i false)
        (slice_index_or (answers_to types (questions types w) qs) i false)

    struct_told : (w : Value-F Value) (i u : ℕ) (vs : List Value) → total (map size vs) ≤ d → (indices : List Index) (ts : List Typ) (nu : Assignment)
        (rs qs : Closeds) → More d rs qs
        → Gives (nat_eq i u && fields_belong (asks types vs) (assigned nu indices) (read_each nu rs (inner_types (inners w rs ts))) (fields types i))
        (nat_eq i u && fields_belong (asks types vs) (assigned nu indices) (read_each nu qs (inner_types (inners w qs ts))) (fields types i))
    struct_told w i u vs le indices ts nu rs qs h k =
        let of : Closeds → List Typ → Bool = λ ps us. fields_belong (asks types vs) (assigned nu indices) (read_each nu ps us) (fields types i) in
        ap (λ us. nat_eq i u && of qs us) (fronts (inner types w qs) ts)
        ∙ both_give (nat_eq i u) (of rs ts) (nat_eq i u) (of qs ts) (λ e. e)
        (fields_told vs le (fields types i) (assigned nu indices) (read_each nu rs ts) (read_each nu qs ts) (each_more ts nu rs qs h))
        (sym (ap (λ us. nat_eq i u && of rs us) (fronts (inner types w rs) ts)) ∙ k)

    union_told : (w : Value-F Value) (i k u : ℕ) (v : Value) → size v ≤ d → (indices : List Index) (ts : List Typ) (nu : Assignment)
        (rs qs : Closeds) → More d rs qs
        → Gives (nat_eq i u && payload_belongs (belongs types v) (assigned nu indices) (read_each nu rs (inner_types (inners w rs ts))) (payload types i k))
        (nat_eq i u && payload_belongs (belongs types v) (assigned nu indices) (read_each nu qs (inner_types (inners w qs ts))) (payload types i k))
    union_told w i k u v le indices ts nu rs qs h l =
        let of : Closeds → List Typ → Bool =
        λ ps us. payload_belongs (belongs types v) (assigned nu indices) (read_each nu ps us) (payload types i k) in
        ap (λ us. nat_eq i u && of qs us) (fronts (inner types w qs) ts)
        ∙ both_give (nat_eq i u) (of rs ts) (nat_eq i u) (of qs ts) (λ e. e)
        (payload_told v le (payload types i k) (assigned nu indices) (read_each nu rs ts) (read_each nu qs ts) (each_more ts nu rs qs h))
        (sym (ap (λ us. nat_eq i u && of rs us) (fronts (inner types w rs) ts)) ∙ l)

    form_told : (w : Value-F Value) (rs qs : Closeds) → form_size (sizes w) ≤ suc d → More d rs qs → Here w rs qs
        → (y : Typ-F (SuchTyp w rs qs)) (nu : Assignment)
        → Gives (form_asked types w (typ_form w rs qs y) nu rs) (form_asked types w (typ_form w rs qs y) nu qs)
    unfolding Such
    form_told w rs qs le h here (T.Variable i) nu k = here i k
    form_told w rs qs le h here (T.Exists name c y) nu k =
        given_more (placed y.0 0 (bare w)) nu c (inner types w rs y.0) (inner types w qs y.0) y.1 k
    form_told (W.List vs) rs qs le h here (T.List y) nu k =
        let l : suc (total (map size vs)) ≤ suc d = le in all_told vs (omega arith) y.0 nu rs qs h k
    form_told (W.Vector vs) rs qs le h here (T.Vector n y) nu k =
        let l : suc (total (map size vs)) ≤ suc d = le in
        let fits : Bool = int_eq (pos (length (asks types vs))) (number nu n) && is_length (length (asks types vs)) in
        both_give fits (all_belong (asks types vs) (reading y.0 nu rs)) fits (all_belong (asks types vs) (reading y.0 nu qs)) (λ e. e)
        (all_told vs (omega arith) y.0 nu rs qs h) k
    form_told (W.Tuple vs) rs qs le h here (T.Tuple ys) nu k =
        let l : suc (total (map size vs)) ≤ suc d = le in
        let ts = types_of (W.Tuple vs) rs qs ys in
        ap (each_belongs (asks types vs) nu qs) (fronts (inner types (W.Tuple vs) qs) ts)
        ∙ each_told vs (omega arith) ts nu rs qs h (sym (ap (each_belongs (asks types vs) nu rs) (fronts (inner types (W.Tuple vs) rs) ts)) ∙ k)
    form_told (W.Struct i vs) rs qs le h here (T.Named u indices ys) nu k =
        let l : suc (total (map size vs)) ≤ suc d = le in
        struct_told (W.Struct i vs) i u vs (omega arith) indices (types_of (W.Struct i vs) rs qs ys) nu rs qs h k
    form_told (W.Union i j v) rs qs le h here (T.Named u indices ys) nu k =
        let l : suc (size v) ≤ suc d = le in
        union_told (W.Union i j v) i j u v (omega arith) indices (types_of (W.Union i j v) rs qs ys) nu rs qs h k
    form_told W.Unit rs qs le h here y nu k = k
    form_told (W.Integer z) rs qs le h here y nu k = k
    form_told (W.Truth b) rs qs le h here y nu k = k
    form_told (W.Bit b) rs qs le h here y nu k = k
    form_told (W.Bits bits) rs qs le h here y nu k = k
    form_told (W.String text) rs qs le h here y nu k = k
    form_told (W.Member i j) rs qs le h here y nu k = k
    form_told (W.List vs) rs qs le h here y nu k = k
    form_told (W.Vector vs) rs qs le h here y nu k = k
    form_told (W.Tuple vs) rs qs le h here y nu k = k
    form_told (W.Struct i vs) rs qs le h here y nu k = k
    form_told (W.Union i j v) rs qs le h here y nu k = k

    typ_told : (w : Value-F Value) (rs qs : Closeds) → form_size (sizes w) ≤ suc d → More d rs qs → Here w rs qs
        → (y : Typ-F (SuchTyp w rs qs)) → Such w rs qs (roll-Typ (typ_form w rs qs y))
    unfolding Such
    typ_told w rs qs le h here y nu k =
        ap (λ f. f nu) (para-roll-Typ Inner (form_belongs types (questions types w) qs (answers_to types (questions types w) qs)) (typ_form w rs qs y))
        ∙ form_told w rs qs le h here y nu
        (sym (ap (λ f. f nu)
        (para-roll-Typ Inner (form_belongs types (questions types w) rs (answers_to types (questions types w) rs)) (typ_form w rs qs y))) ∙ k)

    inner_told : (w : Value-F Value) (rs qs : Closeds) → form_size (sizes w) ≤ suc d → More d rs qs → Here w rs qs → (t : Typ) → Such w rs qs t
    inner_told w rs qs le h here = ind-Typ (Such w rs qs) (λ e y is. subst (λ x. Such w rs qs (roll-Typ x)) is (typ_told w rs qs le h here y))

  of_size : (d : ℕ) → Told d
  unfolding Such
  of_size zero v le t nu rs qs h k = absurd (some_size types (sizes (out-Value v)) (subst (λ n. n ≤ 0) (size_is v) le))
  of_size (suc d) v le t nu rs qs h k =
      belongs_out types v (reading t nu qs)
      ∙ inner_told d (of_size d) (out-Value v) rs qs (subst (λ n. n ≤ suc d) (size_is v) le) (less_more d rs qs h) (λ i. h i v le) t nu
      (sym (belongs_out types v (reading t nu rs)) ∙ k)

  -- ---- Type variables that stand for what more values belong to

  abbrev pub AllMore : Closeds → Closeds → Type 0
  AllMore rs qs = (i : ℕ) (w : Value) → answer types w rs i ≡ true → answer types w qs i ≡ true

  pub belongs_more : (v : Value) (t : Typ) (nu : Assignment) (rs qs : Closeds) → AllMore rs qs → belongs types v (reading t nu rs) ≡ true
      → belongs types v (reading t nu qs) ≡ true
  belongs_more v t nu rs qs h k = of_size (size v) v (omega arith) t nu rs qs (λ i w le. h i w) k

  each_most : (vs : List Value) (ts : List Typ) (nu : Assignment) (rs qs : Closeds) → AllMore rs qs → each_belongs (asks types vs) nu rs ts ≡ true
      → each_belongs (asks types vs) nu qs ts ≡ true
  each_most [] [] nu rs qs h k = k
  each_most [] (t ∷ ts) nu rs qs h k = k
  each_most (v ∷ vs) [] nu rs qs h k = k
  each_most (v ∷ vs) (t ∷ ts) nu rs qs h k =
      both_give (belongs types v (reading t nu rs)) (each_belongs (asks types vs) nu rs ts) (belongs types v (reading t nu qs))
      (each_belongs (asks types vs) nu qs ts) (belongs_more v t nu rs qs h) (each_most vs ts nu rs qs h) k

  pub fields_more : (vs : List Value) (fs : Option (List Field)) (nu : Assignment) (rs qs : Closeds) → AllMore rs qs
      → fields_belong (asks types vs) nu rs fs ≡ true → fields_belong (asks types vs) nu qs fs ≡ true
  fields_more vs None nu rs qs h k = k
  fields_more vs (Some fs) nu rs qs h k = each_most vs (field_types fs) nu rs qs h k

  pub payload_more : (v : Value) (o : Option Typ) (nu : Assignment) (rs qs : Closeds) → AllMore rs qs
      → payload_belongs (belongs types v) nu rs o ≡ true → payload_belongs (belongs types v) nu qs o ≡ true
  payload_more v None nu rs qs h k = k
  payload_more v (Some t) nu rs qs h k = belongs_more v t nu rs qs h k
