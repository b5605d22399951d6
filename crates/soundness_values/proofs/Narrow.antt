-- A type that names the first Type variables alone is the same whatever others stand for.
use Rattle.std.proofs.Common.{◌≡◌, ℕ, zero, suc, nat_eq, nat_lt, pos, Bool, true, false, ◌&&◌, List, [], ◌∷◌, map, length, Option, Some, None}
use Rattle.std.proofs.Common.{◌<◌, arith, refl, sym, ap, ◌∙◌, subst}
use Rattle.std.specs.List.{list_all}
use Rattle.std.specs.Ordering.{int_eq}
use Rattle.std.proofs.lemmas.Bool.{and_parts, ltb-true}
use Rattle.sail_types.specs.Belongs.{Asked, Reading as Closed, Readings as Closeds, reading, assigned, under, read_each}
use Rattle.sail_types.specs.Belongs.{each_belongs, all_belong, fields_belong, payload_belongs, inner_types, given_belongs, belongs}
use Rattle.sail_types.specs.Limits.{is_length}
use Rattle.sail_types.specs.Named.{fields, payload}
use Rattle.sail_types.specs.Numbers.{Assignment, number, true_in}
use Rattle.sail_types.specs.Places.{Given, an_int, a_bool}
use Rattle.sail_types.specs.Places as Of
use Rattle.sail_types.specs.declared.numbers.Con.{Con}
use Rattle.sail_types.specs.declared.numbers.Index.{Index}
use Rattle.sail_types.specs.declared.table.Types.{Types}
use Rattle.sail_types.specs.declared.types.Typ.{Typ, Typ-F, roll-Typ}
use Rattle.sail_types.specs.declared.types.Typ.TheFolds.{fold-roll-Typ, ind-Typ, map-Typ}
use Rattle.sail_types.specs.declared.types.Typ.TheOpen as T
use Rattle.sail_types.specs.declared.values.Value.{Value, Value-F, out-Value, roll-Value}
use Rattle.sail_types.specs.declared.values.Value.TheFolds.{map-Value}
use Rattle.sail_types.specs.declared.values.Value.TheOpen as V
use Rattle.value_laws.specs.Belonging.{closeds, types_or_own}
use Rattle.value_laws.proofs.Alike.{AllSame, asks, fields_alike, payload_alike}
use Rattle.value_laws.proofs.Basics.{fronts, no}
use Rattle.value_laws.proofs.Values.{answer, questions, inner, form_asked, belongs_out, belongs_form, inner_is}
use Rattle.soundness_values.specs.Narrow.{form_narrow, is_narrow}

pub narrow_as : (count : ℕ) (x : Typ-F Typ) (t : Typ) → roll-Typ x ≡ t → is_narrow count t ≡ form_narrow count (map-Typ Typ Bool (is_narrow count) x)
narrow_as count x t e = ap (is_narrow count) (sym e) ∙ fold-roll-Typ Bool (form_narrow count) x

module _ (types : Types) (count : ℕ) where
  -- the same of the first so many
  abbrev pub FirstSame : Closeds → Closeds → Type 0
  FirstSame rs qs = (i : ℕ) (w : Value) → nat_lt i count ≡ true → answer types w rs i ≡ answer types w qs i

  Same : Typ → Type 0
  Same t = (nu : Assignment) (rs qs : Closeds) (v : Value) → is_narrow count t ≡ true → FirstSame rs qs
      → belongs types v (reading t nu rs) ≡ belongs types v (reading t nu qs)

  abbrev SuchTyp : Type 0
  SuchTyp = (t : Typ) × Same t

  abbrev types_in : List SuchTyp → List Typ
  types_in ys = map (λ (y : SuchTyp). y.0) ys

  abbrev typ_form : Typ-F SuchTyp → Typ-F Typ
  typ_form y = map-Typ SuchTyp Typ (λ p. p.0) y

  module _ (nu : Assignment) (rs qs : Closeds) (same : FirstSame rs qs) where
    abbrev Narrow : Typ-F SuchTyp → Type 0
    Narrow y = form_narrow count (map-Typ Typ Bool (is_narrow count) (typ_form y)) ≡ true

    abbrev AllNarrow : List SuchTyp → Type 0
    AllNarrow ys = list_all (λ b. b) (map (is_narrow count) (types_in ys)) ≡ true

    all_same : (y : SuchTyp) (vs : List Value) → is_narrow count y.0 ≡ true
        → all_belong (asks types vs) (reading y.0 nu rs) ≡ all_belong (asks types vs) (reading y.0 nu qs)
    unfolding Same
    all_same y [] k = refl
    all_same y (v ∷ vs) k = λ j. y.1 nu rs qs v k same j && all_same y vs k j

    each_same : (ys : List SuchTyp) (vs : List Value) → AllNarrow ys
        → each_belongs (asks types vs) nu rs (types_in ys) ≡ each_belongs (asks types vs) nu qs (types_in ys)
    unfolding Same
    each_same [] [] k = refl
    each_same [] (v ∷ vs) k = refl
    each_same (y ∷ ys) [] k = refl
    each_same (y ∷ ys) (v ∷ vs) k =
        let b = and_parts (is_narrow count y.0) (list_all (λ c. c) (map (is_narrow count) (types_in ys))) k in
        λ j. y.1 nu rs qs v b.0 same j && each_same ys vs b.1 j

    answers_same : (ys : List SuchTyp) → AllNarrow ys → AllSame types (read_each nu rs (types_in ys)) (read_each nu qs (types_in ys))
    unfolding Same
    answers_same [] k i w = refl
    answers_same (y ∷ ys) k zero w =
        let b = and_parts (is_narrow count y.0) (list_all (λ c. c) (map (is_narrow count) (types_in ys))) k in
        sym (belongs_out types w (reading y.0 nu rs)) ∙ y.1 nu rs qs w b.0 same ∙ belongs_out types w (reading y.0 nu qs)
    answers_same (y ∷ ys) k (suc i) w =
        let b = and_parts (is_narrow count y.0) (list_all (λ c. c) (map (is_narrow count) (types_in ys))) k in answers_same ys b.1 i w

    struct_same : (w : Value-F Value) (i u : ℕ) (vs : List Value) (is : List Index) (ys : List SuchTyp) → AllNarrow ys
        → (nat_eq i u && fields_belong (asks types vs) (assigned nu is) (read_each nu rs (inner_types (map (λ t. (t, inner types w rs t)) (types_in ys))))
        (fields types i))
        ≡ (nat_eq i u && fields_belong (asks types vs) (assigned nu is) (read_each nu qs (inner_types (map (λ t. (t, inner types w qs t)) (types_in ys))))
        (fields types i))
    struct_same w i u vs is ys k =
        let of : Closeds → Bool = λ ps. nat_eq i u && fields_belong (asks types vs) (assigned nu is) ps (fields types i) in
        ap (λ us. of (read_each nu rs us)) (fronts (inner types w rs) (types_in ys))
        ∙ ap (λ b. nat_eq i u && b)
        (fields_alike types vs (fields types i) (assigned nu is) (read_each nu rs (types_in ys)) (read_each nu qs (types_in ys)) (answers_same ys k))
        ∙ sym (ap (λ us. of (read_each nu qs us)) (fronts (inner types w qs) (types_in ys)))

    union_same : (w : Value-F Value) (i c u : ℕ) (v : Value) (is : List Index) (ys : List SuchTyp) → AllNarrow ys
        → (nat_eq i u && payload_belongs (belongs types v) (assigned nu is) (read_each nu rs (inner_types (map (λ t. (t, inner types w rs t)) (types_in ys))))
        (payload types i c))
        ≡ (nat_eq i u && payload_belongs (belongs types v) (assigned nu is) (read_each nu qs (inner_types (map (λ t. (t, inner types w qs t)) (types_in ys))))
        (payload types i c))
    union_same w i c u v is ys k =
        let of : Closeds → Bool = λ ps. nat_eq i u && payload_belongs (belongs types v) (assigned nu is) ps (payload types i c) in
        ap (λ us. of (read_each nu rs us)) (fronts (inner types w rs) (types_in ys))
        ∙ ap (λ b. nat_eq i u && b)
        (payload_alike types v (payload types i c) (assigned nu is) (read_each nu rs (types_in ys)) (read_each nu qs (types_in ys)) (answers_same ys k))
        ∙ sym (ap (λ us. of (read_each nu qs us)) (fronts (inner types w qs) (types_in ys)))

    -- a type that is no variable and binds none
    abbrev is_plain : Typ-F SuchTyp → Bool
    is_plain (T.Exists name c y) = false
    is_plain (T.Variable i) = false
    is_plain y = true

    form_same : (y : Typ-F SuchTyp) (w : Value-F Value) → is_plain y ≡ true → Narrow y
        → form_asked types w (typ_form y) nu rs ≡ form_asked types w (typ_form y) nu qs
    form_same (T.Variable i) w b k = no b
    form_same (T.Exists name c y) w b k = no b
    form_same (T.List y) (V.List vs) b k = all_same y vs k
    form_same (T.Vector l y) (V.Vector vs) b k =
        λ j. (int_eq (pos (length (asks types vs))) (number nu l) && is_length (length (asks types vs))) && all_same y vs k j
    form_same (T.Tuple ys) (V.Tuple vs) b k =
        ap (each_belongs (asks types vs) nu rs) (fronts (inner types (V.Tuple vs) rs) (types_in ys))
        ∙ each_same ys vs k
        ∙ sym (ap (each_belongs (asks types vs) nu qs) (fronts (inner types (V.Tuple vs) qs) (types_in ys)))
    form_same (T.Named u is ys) (V.Struct i vs) b k = struct_same (V.Struct i vs) i u vs is ys k
    form_same (T.Named u is ys) (V.Union i c v) b k = union_same (V.Union i c v) i c u v is ys k
    form_same y V.Unit b k = refl
    form_same y (V.Integer z) b k = refl
    form_same y (V.Truth d) b k = refl
    form_same y (V.Bit d) b k = refl
    form_same y (V.Bits bits) b k = refl
    form_same y (V.String text) b k = refl
    form_same y (V.Member i c) b k = refl
    form_same y (V.List vs) b k = refl
    form_same y (V.Vector vs) b k = refl
    form_same y (V.Tuple vs) b k = refl
    form_same y (V.Struct i vs) b k = refl
    form_same y (V.Union i c v) b k = refl

  exists_same : (nu : Assignment) (rs qs : Closeds) → FirstSame rs qs → (y : SuchTyp) (c : Con) (v : Value) (given : Option Given)
      → is_narrow count y.0 ≡ true
      → given_belongs given nu c (inner types (out-Value v) rs y.0) ≡ given_belongs given nu c (inner types (out-Value v) qs y.0)
  unfolding Same
  exists_same nu rs qs same y c v (Some (an_int z)) k =
      ap (λ b. true_in (under z nu) c && b)
      (inner_is types v y.0 (under z nu) rs ∙ y.1 (under z nu) rs qs v k same ∙ sym (inner_is types v y.0 (under z nu) qs))
  exists_same nu rs qs same y c v (Some (a_bool b)) k = refl
  exists_same nu rs qs same y c v None k = refl

  same_step : (y : Typ-F SuchTyp) → Same (roll-Typ (typ_form y))
  unfolding Same
  same_step (T.Exists name c y) nu rs qs v k same =
      let x : Typ-F Typ = T.Exists name c y.0 in
      belongs_form types v x (roll-Typ x) nu rs refl
      ∙ exists_same nu rs qs same y c v
      (Of.placed y.0 0 (roll-Value (map-Value (Value × Asked) Value (λ p. p.0) (questions types (out-Value v)))))
      (sym (narrow_as count x (roll-Typ x) refl) ∙ k)
      ∙ sym (belongs_form types v x (roll-Typ x) nu qs refl)
  same_step (T.Variable i) nu rs qs v k same =
      let x : Typ-F Typ = T.Variable i in
      belongs_form types v x (roll-Typ x) nu rs refl ∙ same i v (sym (narrow_as count x (roll-Typ x) refl) ∙ k)
      ∙ sym (belongs_form types v x (roll-Typ x) nu qs refl)
  same_step y nu rs qs v k same =
      let x = typ_form y in
      belongs_form types v x (roll-Typ x) nu rs refl ∙ form_same nu rs qs same y (out-Value v) refl (sym (narrow_as count x (roll-Typ x) refl) ∙ k)
      ∙ sym (belongs_form types v x (roll-Typ x) nu qs refl)

  each_typ_same : (t : Typ) → Same t
  each_typ_same = ind-Typ Same (λ e y is. subst (λ d. Same (roll-Typ d)) is (same_step y))

  pub narrow_same : (t : Typ) (nu : Assignment) (rs qs : Closeds) (v : Value) → is_narrow count t ≡ true → FirstSame rs qs
      → belongs types v (reading t nu rs) ≡ belongs types v (reading t nu qs)
  unfolding Same
  narrow_same t nu rs qs v k same = each_typ_same t nu rs qs v k same

-- ---- the Type variables behind these

own_same : (types : Types) (rs own : List Closed) (i : ℕ) (w : Value) → i < length rs
    → answer types w (closeds (types_or_own rs own)) i ≡ answer types w (closeds rs) i
own_same types [] own i w l = absurd (omega (arith, l))
own_same types (r ∷ rs) [] i w l = refl
own_same types (r ∷ rs) (o ∷ own) zero w l = refl
own_same types (r ∷ rs) (o ∷ own) (suc i) w l = own_same types rs own i w (omega (arith, l))

-- a type that names those that stand for something is the same where the others are a function's
pub own_behind : (types : Types) (rs own : List Closed) (t : Typ) (nu : Assignment) (v : Value) → is_narrow (length rs) t ≡ true
    → belongs types v (reading t nu (closeds (types_or_own rs own))) ≡ belongs types v (reading t nu (closeds rs))
own_behind types rs own t nu v h =
    narrow_same types (length rs) t nu (closeds (types_or_own rs own)) (closeds rs) v h (λ i w l.
    own_same types rs own i w (ltb-true i (length rs) l))
