-- A type that names no variable is the same whatever its variables stand for, and has no place of one.
use Rattle.std.proofs.Common.{◌≡◌, ℕ, zero, suc, ◌≤◌, ◌<◌, nat_eq, pos, Bool, true, false, ◌&&◌, List, [], ◌∷◌, map, length}
use Rattle.std.proofs.Common.{Option, Some, None, int_le, refl, sym, ap, ◌∙◌, subst, arith}
use Rattle.std.specs.Bool.{beq}
use Rattle.std.specs.List.{list_all}
use Rattle.std.specs.Ordering.{int_eq}
use Rattle.std.proofs.lemmas.Bool.{and_parts}
use Rattle.sail_types.specs.Belongs.{Readings as Closeds, reading, assigned, under, read_each, Asked}
use Rattle.sail_types.specs.Belongs.{each_belongs, all_belong, fields_belong, payload_belongs, inner_types, given_belongs, belongs}
use Rattle.sail_types.specs.Limits.{is_length, is_small, is_width}
use Rattle.sail_types.specs.Named.{fields, payload}
use Rattle.sail_types.specs.Numbers.{Assignment}
use Rattle.sail_types.specs.Places.{Given, an_int, a_bool, first, form_is, is_variable, only}
use Rattle.sail_types.specs.Places as Of
use Rattle.sail_types.specs.declared.numbers.Con.{Con, out-Con}
use Rattle.sail_types.specs.declared.numbers.Index.{Index}
use Rattle.sail_types.specs.declared.table.Types.{Types}
use Rattle.sail_types.specs.declared.types.Typ.{Typ, Typ-F, roll-Typ}
use Rattle.sail_types.specs.declared.types.Typ.TheFolds.{fold-roll-Typ, ind-Typ, map-Typ}
use Rattle.sail_types.specs.declared.types.Typ.TheOpen as T
use Rattle.sail_types.specs.declared.values.Value.{Value, Value-F, out-Value, roll-Value}
use Rattle.sail_types.specs.declared.values.Value.TheFolds.{map-Value}
use Rattle.sail_types.specs.declared.values.Value.TheOpen as V
use Rattle.value_indices.specs.declared.indices.Indices.{Indices}
use Rattle.value_fits.specs.Fitting as In
use Rattle.wide_types.specs.Widening.{is_below, is_con_below}
use Rattle.call_arguments.specs.Callees.{index_under, is_numberless_under, is_typeless, numberless_form, typeless_form}
use Rattle.value_laws.proofs.Alike.{AllSame, asks, fields_alike, payload_alike}
use Rattle.value_laws.proofs.Basics.{fronts, no}
use Rattle.value_laws.proofs.Values.{questions, inner, form_asked, belongs_out, belongs_form, inner_is}
use Rattle.fitting_laws.proofs.Holes.{none}
use Rattle.call_fits.specs.Calls.{Kinds, among_as, form_as, placed_as}
use Rattle.call_fits.proofs.Below.{SameBelow, assigned_same, number_below, truth_below, truth_less, under_same, variable_less}
use Rattle.call_fits.proofs.Placed.{as_form, index_kind, kind_there, placed_kind}

numberless_as : (x : Typ-F Typ) (t : Typ) (m : ℕ) → roll-Typ x ≡ t
    → is_numberless_under t m ≡ numberless_form (map-Typ Typ (ℕ → Bool) is_numberless_under x) m
numberless_as x t m e = ap (λ u. is_numberless_under u m) (sym e) ∙ ap (λ p. p m) (fold-roll-Typ (ℕ → Bool) numberless_form x)

typeless_as : (x : Typ-F Typ) (t : Typ) → roll-Typ x ≡ t → is_typeless t ≡ typeless_form (map-Typ Typ Bool is_typeless x)
typeless_as x t e = ap is_typeless (sym e) ∙ fold-roll-Typ Bool typeless_form x

module _ (types : Types) where
  Same : Typ → Type 0
  Same t = (m : ℕ) (mu nu : Assignment) (rs qs : Closeds) (v : Value) → is_numberless_under t m ≡ true → is_typeless t ≡ true → SameBelow m mu nu
      → belongs types v (reading t mu rs) ≡ belongs types v (reading t nu qs)

  abbrev SuchTyp : Type 0
  SuchTyp = (t : Typ) × Same t

  abbrev types_in : List SuchTyp → List Typ
  types_in ys = map (λ (y : SuchTyp). y.0) ys

  abbrev typ_form : Typ-F SuchTyp → Typ-F Typ
  typ_form y = map-Typ SuchTyp Typ (λ p. p.0) y

  module _ (m : ℕ) (mu nu : Assignment) (rs qs : Closeds) (same : SameBelow m mu nu) where
    abbrev Numberless : Typ-F SuchTyp → Type 0
    Numberless y = numberless_form (map-Typ Typ (ℕ → Bool) is_numberless_under (typ_form y)) m ≡ true

    abbrev Typeless : Typ-F SuchTyp → Type 0
    Typeless y = typeless_form (map-Typ Typ Bool is_typeless (typ_form y)) ≡ true

    abbrev AllNumberless : List SuchTyp → Type 0
    AllNumberless ys = list_all (λ (f : ℕ → Bool). f m) (map is_numberless_under (types_in ys)) ≡ true

    abbrev AllTypeless : List SuchTyp → Type 0
    AllTypeless ys = list_all (λ b. b) (map is_typeless (types_in ys)) ≡ true

    all_same : (y : SuchTyp) (vs : List Value) → is_numberless_under y.0 m ≡ true → is_typeless y.0 ≡ true
        → all_belong (asks types vs) (reading y.0 mu rs) ≡ all_belong (asks types vs) (reading y.0 nu qs)
    unfolding Same
    all_same y [] h k = refl
    all_same y (v ∷ vs) h k = λ j. y.1 m mu nu rs qs v h k same j && all_same y vs h k j

    each_same : (ys : List SuchTyp) (vs : List Value) → AllNumberless ys → AllTypeless ys
        → each_belongs (asks types vs) mu rs (types_in ys) ≡ each_belongs (asks types vs) nu qs (types_in ys)
    unfolding Same
    each_same [] [] h k = refl
    each_same [] (v ∷ vs) h k = refl
    each_same (y ∷ ys) [] h k = refl
    each_same (y ∷ ys) (v ∷ vs) h k =
        let a = and_parts (is_numberless_under y.0 m) (list_all (λ (f : ℕ → Bool). f m) (map is_numberless_under (types_in ys))) h in
        let b = and_parts (is_typeless y.0) (list_all (λ c. c) (map is_typeless (types_in ys))) k in
        λ j. y.1 m mu nu rs qs v a.0 b.0 same j && each_same ys vs a.1 b.1 j

    answers_same : (ys : List SuchTyp) → AllNumberless ys → AllTypeless ys
        → AllSame types (read_each mu rs (types_in ys)) (read_each nu qs (types_in ys))
    unfolding Same
    answers_same [] h k i w = refl
    answers_same (y ∷ ys) h k zero w =
        let a = and_parts (is_numberless_under y.0 m) (list_all (λ (f : ℕ → Bool). f m) (map is_numberless_under (types_in ys))) h in
        let b = and_parts (is_typeless y.0) (list_all (λ c. c) (map is_typeless (types_in ys))) k in
        sym (belongs_out types w (reading y.0 mu rs)) ∙ y.1 m mu nu rs qs w a.0 b.0 same ∙ belongs_out types w (reading y.0 nu qs)
    answers_same (y ∷ ys) h k (suc i) w =
        let a = and_parts (is_numberless_under y.0 m) (list_all (λ (f : ℕ → Bool). f m) (map is_numberless_under (types_in ys))) h in
        let b = and_parts (is_typeless y.0) (list_all (λ c. c) (map is_typeless (types_in ys))) k in
        answers_same ys a.1 b.1 i w

    struct_same : (w : Value-F Value) (i u : ℕ) (vs : List Value) (is : List Index) (ys : List SuchTyp) → list_all (index_under m) is ≡ true → AllNumberless ys
        → AllTypeless ys
        → (nat_eq i u && fields_belong (asks types vs) (assigned mu is) (read_each mu rs (inner_types (map (λ t. (t, inner types w rs t)) (types_in ys))))
        (fields types i))
        ≡ (nat_eq i u && fields_belong (asks types vs) (assigned nu is) (read_each nu qs (inner_types (map (λ t. (t, inner types w qs t)) (types_in ys))))
        (fields types i))
    struct_same w i u vs is ys l h k =
        let of : Assignment → Closeds → Bool = λ a ps. nat_eq i u && fields_belong (asks types vs) a ps (fields types i) in
        ap (λ us. of (assigned mu is) (read_each mu rs us)) (fronts (inner types w rs) (types_in ys))
        ∙ ap (λ b. nat_eq i u && b)
        (fields_alike types vs (fields types i) (assigned mu is) (read_each mu rs (types_in ys)) (read_each nu qs (types_in ys)) (answers_same ys h k))
        ∙ ap (λ a. of a (read_each nu qs (types_in ys))) (assigned_same m mu nu same is l)
        ∙ sym (ap (λ us. of (assigned nu is) (read_each nu qs us)) (fronts (inner types w qs) (types_in ys)))

    union_same : (w : Value-F Value) (i c u : ℕ) (v : Value) (is : List Index) (ys : List SuchTyp) → list_all (index_under m) is ≡ true → AllNumberless ys
        → AllTypeless ys
        → (nat_eq i u && payload_belongs (belongs types v) (assigned mu is) (read_each mu rs (inner_types (map (λ t. (t, inner types w rs t)) (types_in ys))))
        (payload types i c))
        ≡ (nat_eq i u && payload_belongs (belongs types v) (assigned nu is) (read_each nu qs (inner_types (map (λ t. (t, inner types w qs t)) (types_in ys))))
        (payload types i c))
    union_same w i c u v is ys l h k =
        let of : Assignment → Closeds → Bool = λ a ps. nat_eq i u && payload_belongs (belongs types v) a ps (payload types i c) in
        ap (λ us. of (assigned mu is) (read_each mu rs us)) (fronts (inner types w rs) (types_in ys))
        ∙ ap (λ b. nat_eq i u && b)
        (payload_alike types v (payload types i c) (assigned mu is) (read_each mu rs (types_in ys)) (read_each nu qs (types_in ys)) (answers_same ys h k))
        ∙ ap (λ a. of a (read_each nu qs (types_in ys))) (assigned_same m mu nu same is l)
        ∙ sym (ap (λ us. of (assigned nu is) (read_each nu qs us)) (fronts (inner types w qs) (types_in ys)))

    -- a type that binds no variable
    abbrev binds_none : Typ-F SuchTyp → Bool
    binds_none (T.Exists name c y) = false
    binds_none y = true

    form_same : (y : Typ-F SuchTyp) (w : Value-F Value) → binds_none y ≡ true → Numberless y → Typeless y
        → form_asked types w (typ_form y) mu rs ≡ form_asked types w (typ_form y) nu qs
    form_same (T.Variable i) w b h k = no k
    form_same (T.Exists name c y) w b h k = no b
    form_same (T.Truth c) (V.Truth d) b h k = ap (beq d) (truth_below m mu nu same c h)
    form_same (T.Bits t) (V.Bits bits) b h k = ap (λ z. int_eq (pos (length bits)) z && is_width (length bits)) (number_below m mu nu same t h)
    form_same (T.Int t) (V.Integer z) b h k = ap (λ x. int_eq z x && is_small z) (number_below m mu nu same t h)
    form_same (T.Range t u) (V.Integer z) b h k =
        let p = and_parts (is_below m t) (is_below m u) h in
        λ j. (int_le (number_below m mu nu same t p.0 j) z && int_le z (number_below m mu nu same u p.1 j)) && is_small z
    form_same (T.List y) (V.List vs) b h k = all_same y vs h k
    form_same (T.Vector l y) (V.Vector vs) b h k =
        let p = and_parts (is_below m l) (is_numberless_under y.0 m) h in
        λ j. (int_eq (pos (length (asks types vs))) (number_below m mu nu same l p.0 j) && is_length (length (asks types vs))) && all_same y vs p.1 k j
    form_same (T.Tuple ys) (V.Tuple vs) b h k =
        ap (each_belongs (asks types vs) mu rs) (fronts (inner types (V.Tuple vs) rs) (types_in ys))
        ∙ each_same ys vs h k
        ∙ sym (ap (each_belongs (asks types vs) nu qs) (fronts (inner types (V.Tuple vs) qs) (types_in ys)))
    form_same (T.Named u is ys) (V.Struct i vs) b h k =
        let p = and_parts (list_all (index_under m) is) (list_all (λ (f : ℕ → Bool). f m) (map is_numberless_under (types_in ys))) h in
        struct_same (V.Struct i vs) i u vs is ys p.0 p.1 k
    form_same (T.Named u is ys) (V.Union i c v) b h k =
        let p = and_parts (list_all (index_under m) is) (list_all (λ (f : ℕ → Bool). f m) (map is_numberless_under (types_in ys))) h in
        union_same (V.Union i c v) i c u v is ys p.0 p.1 k
    form_same y V.Unit b h k = refl
    form_same y (V.Integer z) b h k = refl
    form_same y (V.Truth d) b h k = refl
    form_same y (V.Bit d) b h k = refl
    form_same y (V.Bits bits) b h k = refl
    form_same y (V.String text) b h k = refl
    form_same y (V.Member i c) b h k = refl
    form_same y (V.List vs) b h k = refl
    form_same y (V.Vector vs) b h k = refl
    form_same y (V.Tuple vs) b h k = refl
    form_same y (V.Struct i vs) b h k = refl
    form_same y (V.Union i c v) b h k = refl

  exists_same : (m : ℕ) (mu nu : Assignment) (rs qs : Closeds) → SameBelow m mu nu → (y : SuchTyp) (c : Con) (v : Value) (given : Option Given)
      → is_con_below (suc m) c ≡ true → is_numberless_under y.0 (suc m) ≡ true → is_typeless y.0 ≡ true
      → given_belongs given mu c (inner types (out-Value v) rs y.0) ≡ given_belongs given nu c (inner types (out-Value v) qs y.0)
  unfolding Same
  exists_same m mu nu rs qs same y c v (Some (an_int z)) l h k =
      let inside = under_same m mu nu same z in
      let first_same = truth_below (suc m) (under z mu) (under z nu) inside c l in
      let rest = inner_is types v y.0 (under z mu) rs ∙ y.1 (suc m) (under z mu) (under z nu) rs qs v h k inside
      ∙ sym (inner_is types v y.0 (under z nu) qs) in
      λ j. first_same j && rest j
  exists_same m mu nu rs qs same y c v (Some (a_bool b)) l h k = refl
  exists_same m mu nu rs qs same y c v None l h k = refl

  same_step : (y : Typ-F SuchTyp) → Same (roll-Typ (typ_form y))
  unfolding Same
  same_step (T.Exists name c y) m mu nu rs qs v h k same =
      let x : Typ-F Typ = T.Exists name c y.0 in
      let p = and_parts (is_con_below (suc m) c) (is_numberless_under y.0 (suc m)) (sym (numberless_as x (roll-Typ x) m refl) ∙ h) in
      belongs_form types v x (roll-Typ x) mu rs refl
      ∙ exists_same m mu nu rs qs same y c v
      (Of.placed y.0 0 (roll-Value (map-Value (Value × Asked) Value (λ p. p.0) (questions types (out-Value v))))) p.0 p.1
      (sym (typeless_as x (roll-Typ x) refl) ∙ k)
      ∙ sym (belongs_form types v x (roll-Typ x) nu qs refl)
  same_step y m mu nu rs qs v h k same =
      let x = typ_form y in
      belongs_form types v x (roll-Typ x) mu rs refl
      ∙ form_same m mu nu rs qs same y (out-Value v) refl (sym (numberless_as x (roll-Typ x) m refl) ∙ h) (sym (typeless_as x (roll-Typ x) refl) ∙ k)
      ∙ sym (belongs_form types v x (roll-Typ x) nu qs refl)

  each_typ_same : (t : Typ) → Same t
  each_typ_same = ind-Typ Same (λ e y same_form. subst (λ d. Same (roll-Typ d)) same_form (same_step y))

  pub closed_same : (t : Typ) (mu nu : Assignment) (rs qs : Closeds) (v : Value) → is_numberless_under t 0 ≡ true → is_typeless t ≡ true
      → SameBelow 0 mu nu → belongs types v (reading t mu rs) ≡ belongs types v (reading t nu qs)
  unfolding Same
  closed_same t mu nu rs qs v h k same = each_typ_same t 0 mu nu rs qs v h k same

-- ---- no places

NoPlace : Typ → Type 0
NoPlace t = (m j : ℕ) → is_numberless_under t m ≡ true → m ≤ j → placed_as t j ≡ None

abbrev Free : Type 0
Free = (t : Typ) × NoPlace t

abbrev frees_in : List Free → List Typ
frees_in ys = map (λ (y : Free). y.0) ys

not_only : (b k : Bool) → (b ≡ true → ⊥) → only b k ≡ None
not_only true k h = absurd (h refl)
not_only false k h = refl

clash : (m j : ℕ) → j < m → m ≤ j → ⊥
clash m j l k = omega (arith, l, k)

both_none : (o p : Option Bool) → o ≡ None → p ≡ None → first o p ≡ None
both_none o p h k = (λ j. first (h j) (k j))

parts_free : (ys : List Free) (m j : ℕ) → list_all (λ (f : ℕ → Bool). f m) (map is_numberless_under (frees_in ys)) ≡ true → m ≤ j
    → among_as (map placed_as (frees_in ys)) j ≡ None
unfolding NoPlace
parts_free [] m j h l = refl
parts_free (y ∷ ys) m j h l =
    let a = and_parts (is_numberless_under y.0 m) (list_all (λ (f : ℕ → Bool). f m) (map is_numberless_under (frees_in ys))) h in
    both_none (placed_as y.0 j) (among_as (map placed_as (frees_in ys)) j) (y.1 m j a.0 l) (parts_free ys m j a.1 l)

form_free : (y : Typ-F Free) (m j : ℕ) → numberless_form (map-Typ Typ (ℕ → Bool) is_numberless_under (map-Typ Free Typ (λ p. p.0) y)) m ≡ true → m ≤ j
    → form_as (map-Typ Typ Kinds placed_as (map-Typ Free Typ (λ p. p.0) y)) j ≡ None
unfolding NoPlace
form_free (T.Int t) m j h l = not_only (is_variable j t) false (λ e. clash m j (variable_less m t j e h) l)
form_free (T.Bits t) m j h l = not_only (is_variable j t) false (λ e. clash m j (variable_less m t j e h) l)
form_free (T.Vector t y) m j h l =
    not_only (is_variable j t) false (λ e. clash m j (variable_less m t j e (and_parts (is_below m t) (is_numberless_under y.0 m) h).0) l)
form_free (T.Truth c) m j h l = not_only (form_is j (out-Con c)) true (λ e. clash m j (truth_less m c j e h) l)
form_free (T.Tuple ys) m j h l = parts_free ys m j h l
form_free (T.Exists name c y) m j h l =
    y.1 (suc m) (suc j) (and_parts (is_con_below (suc m) c) (is_numberless_under y.0 (suc m)) h).1 (omega (arith, l))
form_free y m j h l = refl

free_step : (y : Typ-F Free) → NoPlace (roll-Typ (map-Typ Free Typ (λ p. p.0) y))
unfolding NoPlace
free_step y m j h l =
    let x = map-Typ Free Typ (λ p. p.0) y in
    as_form x (roll-Typ x) j refl ∙ form_free y m j (sym (numberless_as x (roll-Typ x) m refl) ∙ h) l

no_place : (t : Typ) → NoPlace t
no_place = ind-Typ NoPlace (λ e y same_form. subst (λ d. NoPlace (roll-Typ d)) same_form (free_step y))

numberless_place : (t : Typ) → is_numberless_under t 0 ≡ true → (j : ℕ) → placed_as t j ≡ None
unfolding NoPlace
numberless_place t h j = no_place t 0 j h (omega arith)

-- so indices give no variable a number there, nor does a value
pub closed_unplaced : (t : Typ) → is_numberless_under t 0 ≡ true → (j : ℕ) (i : Indices) → In.placed t j i ≡ None
closed_unplaced t h j i = by (In.placed t j i) refl
  where
    by : (o : Option Index) → In.placed t j i ≡ o → o ≡ None
    by None e = refl
    by (Some x) e = let k = index_kind t j i x e in none (sym (numberless_place t h j) ∙ k.1)

pub closed_gives_none : (types : Types) (t : Typ) → is_numberless_under t 0 ≡ true → (j : ℕ) (v : Value) (mu : Assignment) (rs : Closeds)
    → belongs types v (reading t mu rs) ≡ true → Of.placed t j v ≡ None
closed_gives_none types t h j v mu rs b = by (Of.placed t j v) (placed_kind types t j v mu rs b ∙ numberless_place t h j)
  where
    by : (o : Option Given) → kind_there o ≡ None → o ≡ None
    by None e = refl
    by (Some (an_int z)) e = none (sym e)
    by (Some (a_bool b)) e = none (sym e)
