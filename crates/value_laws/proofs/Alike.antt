-- Whether a value belongs to a type hangs on no more of what its Type variables stand for than which smaller values belong to that.
use Rattle.std.proofs.Common.{◌≡◌, ℕ, zero, suc, ◌+◌, ◌≤◌, nat_eq, pos, Bool, false, ◌&&◌, List, [], ◌∷◌, map, length, slice_index_or}
use Rattle.std.proofs.Common.{Option, Some, None, refl, sym, ap, ◌∙◌, subst, arith}
use Rattle.std.specs.Ordering.{int_eq}
use Rattle.value_laws.proofs.Basics.{fronts}
use Rattle.sail_types.specs.Belongs.{Reading as Closed, Readings as Closeds, reading, assigned, read_each, Asked, Inner}
use Rattle.sail_types.specs.Belongs.{each_belongs, all_belong, fields_belong, payload_belongs, inner_types, given_belongs, form_belongs, answers_to, belongs}
use Rattle.sail_types.specs.Limits.{is_length}
use Rattle.sail_types.specs.Named.{fields, field_types, payload}
use Rattle.sail_types.specs.Numbers.{Assignment, number}
use Rattle.sail_types.specs.Places.{placed}
use Rattle.sail_types.specs.declared.numbers.Index.{Index}
use Rattle.sail_types.specs.declared.table.Field.{Field}
use Rattle.sail_types.specs.declared.table.Types.{Types}
use Rattle.sail_types.specs.declared.types.Typ.{Typ, Typ-F, roll-Typ}
use Rattle.sail_types.specs.declared.types.Typ.TheFolds.{para-roll-Typ, map-Typ, ind-Typ}
use Rattle.sail_types.specs.declared.types.Typ.TheOpen as T
use Rattle.sail_types.specs.declared.types.Typ.TheVariants as U
use Rattle.sail_types.specs.declared.values.Value.{Value, Value-F, out-Value, roll-Value, fold-Value}
use Rattle.sail_types.specs.declared.values.Value.TheFolds.{fold-roll-Value, map-Value}
use Rattle.sail_types.specs.declared.values.Value.TheOpen as W
use Rattle.sail_types.specs.declared.values.Value.TheViews.{roll-out-Value}
use Rattle.value_laws.specs.Belonging.{closeds, type_variables}
use Rattle.value_laws.proofs.Values.{questions, inner, form_asked, belongs_out, answer, variable_belongs}

-- ---- how many values a value has in it, with itself

abbrev pub total : List ℕ → ℕ
total [] = 0
total (n ∷ ns) = n + total ns

abbrev pub form_size : Value-F ℕ → ℕ
form_size (W.Vector ns) = suc (total ns)
form_size (W.List ns) = suc (total ns)
form_size (W.Tuple ns) = suc (total ns)
form_size (W.Struct i ns) = suc (total ns)
form_size (W.Union i k n) = suc n
form_size v = 1

abbrev pub size : Value → ℕ
size = fold-Value ℕ form_size

abbrev pub sizes : Value-F Value → Value-F ℕ
sizes w = map-Value Value ℕ size w

pub size_is : (v : Value) → size v ≡ form_size (sizes (out-Value v))
size_is v = ap size (sym (roll-out-Value v)) ∙ fold-roll-Value ℕ form_size (out-Value v)

module _ (types : Types) where
  -- the same of these values, of which none is larger than d
  abbrev pub Same : ℕ → Closeds → Closeds → Type 0
  Same d rs qs = (i : ℕ) (w : Value) → size w ≤ d → answer types w rs i ≡ answer types w qs i

  abbrev Told : ℕ → Type 0
  Told d = (v : Value) → size v ≤ d → (t : Typ) (nu : Assignment) (rs qs : Closeds) → Same d rs qs
      → belongs types v (reading t nu rs) ≡ belongs types v (reading t nu qs)

  less_same : (d : ℕ) (rs qs : Closeds) → Same (suc d) rs qs → Same d rs qs
  less_same d rs qs h i w le = h i w (omega arith)

  abbrev pub asks : List Value → List (Value × Asked)
  asks vs = map (λ v. (v, belongs types v)) vs

  -- ---- where it is so of values that are smaller

  module _ (d : ℕ) (told : Told d) where
    each_told : (vs : List Value) → total (map size vs) ≤ d → (ts : List Typ) (nu : Assignment) (rs qs : Closeds) → Same d rs qs
        → each_belongs (asks vs) nu rs ts ≡ each_belongs (asks vs) nu qs ts
    each_told [] le [] nu rs qs h = refl
    each_told [] le (t ∷ ts) nu rs qs h = refl
    each_told (v ∷ vs) le [] nu rs qs h = refl
    each_told (v ∷ vs) le (t ∷ ts) nu rs qs h =
        let l : size v + total (map size vs) ≤ d = le in
        let first : belongs types v (reading t nu rs) ≡ belongs types v (reading t nu qs) = told v (omega arith) t nu rs qs h in
        let rest : each_belongs (asks vs) nu rs ts ≡ each_belongs (asks vs) nu qs ts = each_told vs (omega arith) ts nu rs qs h in
        λ j. first j && rest j

    all_told : (vs : List Value) → total (map size vs) ≤ d → (t : Typ) (nu : Assignment) (rs qs : Closeds) → Same d rs qs
        → all_belong (asks vs) (reading t nu rs) ≡ all_belong (asks vs) (reading t nu qs)
    all_told [] le t nu rs qs h = refl
    all_told (v ∷ vs) le t nu rs qs h =
        let l : size v + total (map size vs) ≤ d = le in
        let first : belongs types v (reading t nu rs) ≡ belongs types v (reading t nu qs) = told v (omega arith) t nu rs qs h in
        let rest : all_belong (asks vs) (reading t nu rs) ≡ all_belong (asks vs) (reading t nu qs) = all_told vs (omega arith) t nu rs qs h in
        λ j. first j && rest j

    each_same : (ts : List Typ) (nu : Assignment) (rs qs : Closeds) → Same d rs qs → Same d (read_each nu rs ts) (read_each nu qs ts)
    each_same [] nu rs qs h i w le = refl
    each_same (t ∷ ts) nu rs qs h zero w le =
        sym (belongs_out types w (reading t nu rs)) ∙ told w le t nu rs qs h ∙ belongs_out types w (reading t nu qs)
    each_same (t ∷ ts) nu rs qs h (suc i) w le = each_same ts nu rs qs h i w le

    fields_told : (vs : List Value) → total (map size vs) ≤ d → (fs : Option (List Field)) (nu : Assignment) (rs qs : Closeds) → Same d rs qs
        → fields_belong (asks vs) nu rs fs ≡ fields_belong (asks vs) nu qs fs
    fields_told vs le None nu rs qs h = refl
    fields_told vs le (Some fs) nu rs qs h = each_told vs le (field_types fs) nu rs qs h

    payload_told : (v : Value) → size v ≤ d → (o : Option Typ) (nu : Assignment) (rs qs : Closeds) → Same d rs qs
        → payload_belongs (belongs types v) nu rs o ≡ payload_belongs (belongs types v) nu qs o
    payload_told v le None nu rs qs h = refl
    payload_told v le (Some t) nu rs qs h = told v le t nu rs qs h

    -- ---- a value of one form, of a type of one form

    Such : Value-F Value → Closeds → Closeds → Typ → Type 0
    Such w rs qs t = (nu : Assignment) → inner types w rs t nu ≡ inner types w qs t nu

    abbrev SuchTyp : Value-F Value → Closeds → Closeds → Type 0
    SuchTyp w rs qs = (t : Typ) × Such w rs qs t

    abbrev typ_form : (w : Value-F Value) (rs qs : Closeds) → Typ-F (SuchTyp w rs qs) → Typ-F Typ
    typ_form w rs qs y = map-Typ (SuchTyp w rs qs) Typ (λ p. p.0) y

    abbrev types_of : (w : Value-F Value) (rs qs : Closeds) → List (SuchTyp w rs qs) → List Typ
    types_of w rs qs ys = map (λ (p : SuchTyp w rs qs). p.0) ys

    abbrev bare : Value-F Value → Value
    bare w = roll-Value (map-Value (Value × Asked) Value (λ p. p.0) (questions types w))

    abbrev inners : Value-F Value → Closeds → List Typ → List (Typ × Inner)
    inners w ps ts = map (λ t. (t, inner types w ps t)) ts

    abbrev Here : Value-F Value → Closeds → Closeds → Type 0
    Here w rs qs =
        (i : ℕ) → slice_index_or (answers_to types (questions types w) rs) i false ≡ slice_index_or (answers_to types (questions types w) qs) i false

    struct_told : (w : Value-F Value) (i u : ℕ) (vs : List Value) → total (map size vs) ≤ d → (indices : List Index) (ts : List Typ) (nu : Assignment)
        (rs qs : Closeds) → Same d rs qs
        → (nat_eq i u && fields_belong (asks vs) (assigned nu indices) (read_each nu rs (inner_types (inners w rs ts))) (fields types i))
        ≡ (nat_eq i u && fields_belong (asks vs) (assigned nu indices) (read_each nu qs (inner_types (inners w qs ts))) (fields types i))
    struct_told w i u vs le indices ts nu rs qs h =
        let of : Closeds → List Typ → Bool = λ ps us. nat_eq i u && fields_belong (asks vs) (assigned nu indices) (read_each nu ps us) (fields types i) in
        ap (of rs) (fronts (inner types w rs) ts)
        ∙ ap (λ b. nat_eq i u && b)
        (fields_told vs le (fields types i) (assigned nu indices) (read_each nu rs ts) (read_each nu qs ts) (each_same ts nu rs qs h))
        ∙ sym (ap (of qs) (fronts (inner types w qs) ts))

    union_told : (w : Value-F Value) (i k u : ℕ) (v : Value) → size v ≤ d → (indices : List Index) (ts : List Typ) (nu : Assignment)
        (rs qs : Closeds) → Same d rs qs
        → (nat_eq i u && payload_belongs (belongs types v) (assigned nu indices) (read_each nu rs (inner_types (inners w rs ts))) (payload types i k))
        ≡ (nat_eq i u && payload_belongs (belongs types v) (assigned nu indices) (read_each nu qs (inner_types (inners w qs ts))) (payload types i k))
    union_told w i k u v le indices ts nu rs qs h =
        let of : Closeds → List Typ → Bool =
        λ ps us. nat_eq i u && payload_belongs (belongs types v) (assigned nu indices) (read_each nu ps us) (payload types i k) in
        ap (of rs) (fronts (inner types w rs) ts)
        ∙ ap (λ b. nat_eq i u && b)
        (payload_told v le (payload types i k) (assigned nu indices) (read_each nu rs ts) (read_each nu qs ts) (each_same ts nu rs qs h))
        ∙ sym (ap (of qs) (fronts (inner types w qs) ts))

    form_told : (w : Value-F Value) (rs qs : Closeds) → form_size (sizes w) ≤ suc d → Same d rs qs → Here w rs qs
        → (y : Typ-F (SuchTyp w rs qs)) (nu : Assignment)
        → form_asked types w (typ_form w rs qs y) nu rs ≡ form_asked types w (typ_form w rs qs y) nu qs
    unfolding Such
    form_told w rs qs le h here (T.Variable i) nu = here i
    form_told w rs qs le h here (T.Exists name c y) nu = λ j. given_belongs (placed y.0 0 (bare w)) nu c (λ mu. y.1 mu j)
    form_told (W.List vs) rs qs le h here (T.List y) nu =
        let l : suc (total (map size vs)) ≤ suc d = le in all_told vs (omega arith) y.0 nu rs qs h
    form_told (W.Vector vs) rs qs le h here (T.Vector n y) nu =
        let l : suc (total (map size vs)) ≤ suc d = le in
        ap (λ b. (int_eq (pos (length (asks vs))) (number nu n) && is_length (length (asks vs))) && b) (all_told vs (omega arith) y.0 nu rs qs h)
    form_told (W.Tuple vs) rs qs le h here (T.Tuple ys) nu =
        let l : suc (total (map size vs)) ≤ suc d = le in
        let ts = types_of (W.Tuple vs) rs qs ys in
        ap (each_belongs (asks vs) nu rs) (fronts (inner types (W.Tuple vs) rs) ts)
        ∙ each_told vs (omega arith) ts nu rs qs h
        ∙ sym (ap (each_belongs (asks vs) nu qs) (fronts (inner types (W.Tuple vs) qs) ts))
    form_told (W.Struct i vs) rs qs le h here (T.Named u indices ys) nu =
        let l : suc (total (map size vs)) ≤ suc d = le in
        struct_told (W.Struct i vs) i u vs (omega arith) indices (types_of (W.Struct i vs) rs qs ys) nu rs qs h
    form_told (W.Union i k v) rs qs le h here (T.Named u indices ys) nu =
        let l : suc (size v) ≤ suc d = le in
        union_told (W.Union i k v) i k u v (omega arith) indices (types_of (W.Union i k v) rs qs ys) nu rs qs h
    form_told W.Unit rs qs le h here y nu = refl
    form_told (W.Integer z) rs qs le h here y nu = refl
    form_told (W.Truth b) rs qs le h here y nu = refl
    form_told (W.Bit b) rs qs le h here y nu = refl
    form_told (W.Bits bits) rs qs le h here y nu = refl
    form_told (W.String text) rs qs le h here y nu = refl
    form_told (W.Member i k) rs qs le h here y nu = refl
    form_told (W.List vs) rs qs le h here y nu = refl
    form_told (W.Vector vs) rs qs le h here y nu = refl
    form_told (W.Tuple vs) rs qs le h here y nu = refl
    form_told (W.Struct i vs) rs qs le h here y nu = refl
    form_told (W.Union i k v) rs qs le h here y nu = refl

    typ_told : (w : Value-F Value) (rs qs : Closeds) → form_size (sizes w) ≤ suc d → Same d rs qs → Here w rs qs
        → (y : Typ-F (SuchTyp w rs qs)) → Such w rs qs (roll-Typ (typ_form w rs qs y))
    unfolding Such
    typ_told w rs qs le h here y nu =
        ap (λ f. f nu) (para-roll-Typ Inner (form_belongs types (questions types w) rs (answers_to types (questions types w) rs)) (typ_form w rs qs y))
        ∙ form_told w rs qs le h here y nu
        ∙ sym (ap (λ f. f nu)
        (para-roll-Typ Inner (form_belongs types (questions types w) qs (answers_to types (questions types w) qs)) (typ_form w rs qs y)))

    inner_told : (w : Value-F Value) (rs qs : Closeds) → form_size (sizes w) ≤ suc d → Same d rs qs → Here w rs qs → (t : Typ) → Such w rs qs t
    inner_told w rs qs le h here = ind-Typ (Such w rs qs) (λ e y is. subst (λ d. Such w rs qs (roll-Typ d)) is (typ_told w rs qs le h here y))

  pub some_size : (x : Value-F ℕ) → form_size x ≤ 0 → ⊥
  some_size (W.Vector ns) le = let l : suc (total ns) ≤ 0 = le in omega arith
  some_size (W.List ns) le = let l : suc (total ns) ≤ 0 = le in omega arith
  some_size (W.Tuple ns) le = let l : suc (total ns) ≤ 0 = le in omega arith
  some_size (W.Struct i ns) le = let l : suc (total ns) ≤ 0 = le in omega arith
  some_size (W.Union i k n) le = let l : suc n ≤ 0 = le in omega arith
  some_size x le = let l : 1 ≤ 0 = le in omega arith

  of_size : (d : ℕ) → Told d
  unfolding Such
  of_size zero v le t nu rs qs h = absurd (some_size (sizes (out-Value v)) (subst (λ n. n ≤ 0) (size_is v) le))
  of_size (suc d) v le t nu rs qs h =
      belongs_out types v (reading t nu rs)
      ∙ inner_told d (of_size d) (out-Value v) rs qs (subst (λ n. n ≤ suc d) (size_is v) le) (less_same d rs qs h) (λ i. h i v le) t nu
      ∙ sym (belongs_out types v (reading t nu qs))

  -- ---- Type variables that stand for the same

  abbrev pub AllSame : Closeds → Closeds → Type 0
  AllSame rs qs = (i : ℕ) (w : Value) → answer types w rs i ≡ answer types w qs i

  pub belongs_alike : (v : Value) (t : Typ) (nu : Assignment) (rs qs : Closeds) → AllSame rs qs
      → belongs types v (reading t nu rs) ≡ belongs types v (reading t nu qs)
  belongs_alike v t nu rs qs h = of_size (size v) v (omega arith) t nu rs qs (λ i w le. h i w)

  each_alike : (vs : List Value) (ts : List Typ) (nu : Assignment) (rs qs : Closeds) → AllSame rs qs
      → each_belongs (asks vs) nu rs ts ≡ each_belongs (asks vs) nu qs ts
  each_alike [] [] nu rs qs h = refl
  each_alike [] (t ∷ ts) nu rs qs h = refl
  each_alike (v ∷ vs) [] nu rs qs h = refl
  each_alike (v ∷ vs) (t ∷ ts) nu rs qs h = λ j. belongs_alike v t nu rs qs h j && each_alike vs ts nu rs qs h j

  pub fields_alike : (vs : List Value) (fs : Option (List Field)) (nu : Assignment) (rs qs : Closeds) → AllSame rs qs
      → fields_belong (asks vs) nu rs fs ≡ fields_belong (asks vs) nu qs fs
  fields_alike vs None nu rs qs h = refl
  fields_alike vs (Some fs) nu rs qs h = each_alike vs (field_types fs) nu rs qs h

  pub payload_alike : (v : Value) (o : Option Typ) (nu : Assignment) (rs qs : Closeds) → AllSame rs qs
      → payload_belongs (belongs types v) nu rs o ≡ payload_belongs (belongs types v) nu qs o
  payload_alike v None nu rs qs h = refl
  payload_alike v (Some t) nu rs qs h = belongs_alike v t nu rs qs h

  -- ---- variables of their own in the place of types

  shifted : (mu : Assignment) (all : Closeds) (k : ℕ) (rs : List Closed)
      → ((i : ℕ) (w : Value) → answer types w all (k + i) ≡ answer types w (closeds rs) i)
      → (i : ℕ) (w : Value) → answer types w (read_each mu all (type_variables k rs)) i ≡ answer types w (closeds rs) i
  shifted mu all k [] h i w = refl
  shifted mu all k (r ∷ rs) h zero w =
      sym (belongs_out types w (reading (U.Variable k) mu all)) ∙ variable_belongs types w k mu all
      ∙ subst (λ n. answer types w all n ≡ answer types w (closeds (r ∷ rs)) 0) (omega arith) (h 0 w)
  shifted mu all k (r ∷ rs) h (suc i) w =
      shifted mu all (suc k) rs (λ j u. subst (λ n. answer types u all n ≡ answer types u (closeds rs) j) (omega arith) (h (suc j) u)) i w

  pub variables_same : (mu : Assignment) (rs : List Closed) → AllSame (read_each mu (closeds rs) (type_variables 0 rs)) (closeds rs)
  variables_same mu rs i w =
      shifted mu (closeds rs) 0 rs (λ j u. subst (λ n. answer types u (closeds rs) n ≡ answer types u (closeds rs) j) (omega arith) refl) i w
