-- A type that names no number of a variable is the same whatever numbers stand for.
use Rattle.std.proofs.Common.{◌≡◌, ℕ, zero, suc, nat_eq, pos, Bool, true, false, ◌&&◌, List, [], ◌∷◌, map, length}
use Rattle.std.proofs.Common.{Option, Some, None, int_le, refl, sym, ap, ◌∙◌, subst}
use Rattle.std.specs.Bool.{beq}
use Rattle.std.specs.List.{list_all}
use Rattle.std.specs.Ordering.{int_eq}
use Rattle.std.proofs.lemmas.Bool.{and_parts}
use Rattle.sail_types.specs.Belongs.{Readings as Closeds, reading, assigned, under, read_each, Asked}
use Rattle.sail_types.specs.Belongs.{each_belongs, all_belong, fields_belong, payload_belongs, inner_types, given_belongs, belongs}
use Rattle.sail_types.specs.Limits.{is_length, is_small, is_width}
use Rattle.sail_types.specs.Named.{fields, payload}
use Rattle.sail_types.specs.Numbers.{Assignment}
use Rattle.sail_types.specs.Places.{Given, an_int, a_bool}
use Rattle.sail_types.specs.Places as Of
use Rattle.sail_types.specs.declared.numbers.Con.{Con}
use Rattle.sail_types.specs.declared.numbers.Index.{Index}
use Rattle.sail_types.specs.declared.table.Types.{Types}
use Rattle.sail_types.specs.declared.types.Typ.{Typ, Typ-F, roll-Typ}
use Rattle.sail_types.specs.declared.types.Typ.TheFolds.{fold-roll-Typ, ind-Typ, map-Typ}
use Rattle.sail_types.specs.declared.types.Typ.TheOpen as T
use Rattle.sail_types.specs.declared.values.Value.{Value, Value-F, out-Value, roll-Value}
use Rattle.sail_types.specs.declared.values.Value.TheFolds.{map-Value}
use Rattle.sail_types.specs.declared.values.Value.TheOpen as V
use Rattle.wide_types.specs.Widening.{is_below, is_con_below}
use Rattle.call_arguments.specs.Callees.{index_under, is_numberless_under, numberless_form}
use Rattle.value_laws.proofs.Alike.{AllSame, asks, fields_alike, payload_alike}
use Rattle.value_laws.proofs.Basics.{fronts, no}
use Rattle.value_laws.proofs.Values.{questions, inner, form_asked, belongs_out, belongs_form, inner_is}
use Rattle.call_fits.proofs.Below.{SameBelow, assigned_same, number_below, truth_below, under_same}

numberless_as : (x : Typ-F Typ) (t : Typ) (m : ℕ) → roll-Typ x ≡ t
    → is_numberless_under t m ≡ numberless_form (map-Typ Typ (ℕ → Bool) is_numberless_under x) m
numberless_as x t m e = ap (λ u. is_numberless_under u m) (sym e) ∙ ap (λ p. p m) (fold-roll-Typ (ℕ → Bool) numberless_form x)

module _ (types : Types) where
  Same : Typ → Type 0
  Same t = (m : ℕ) (mu nu : Assignment) (rs : Closeds) (v : Value) → is_numberless_under t m ≡ true → SameBelow m mu nu
      → belongs types v (reading t mu rs) ≡ belongs types v (reading t nu rs)

  abbrev SuchTyp : Type 0
  SuchTyp = (t : Typ) × Same t

  abbrev types_in : List SuchTyp → List Typ
  types_in ys = map (λ (y : SuchTyp). y.0) ys

  abbrev typ_form : Typ-F SuchTyp → Typ-F Typ
  typ_form y = map-Typ SuchTyp Typ (λ p. p.0) y

  module _ (m : ℕ) (mu nu : Assignment) (rs : Closeds) (same : SameBelow m mu nu) where
    abbrev Numberless : Typ-F SuchTyp → Type 0
    Numberless y = numberless_form (map-Typ Typ (ℕ → Bool) is_numberless_under (typ_form y)) m ≡ true

    abbrev AllNumberless : List SuchTyp → Type 0
    AllNumberless ys = list_all (λ (f : ℕ → Bool). f m) (map is_numberless_under (types_in ys)) ≡ true

    all_same : (y : SuchTyp) (vs : List Value) → is_numberless_under y.0 m ≡ true
        → all_belong (asks types vs) (reading y.0 mu rs) ≡ all_belong (asks types vs) (reading y.0 nu rs)
    unfolding Same
    all_same y [] h = refl
    all_same y (v ∷ vs) h = λ j. y.1 m mu nu rs v h same j && all_same y vs h j

    each_same : (ys : List SuchTyp) (vs : List Value) → AllNumberless ys
        → each_belongs (asks types vs) mu rs (types_in ys) ≡ each_belongs (asks types vs) nu rs (types_in ys)
    unfolding Same
    each_same [] [] h = refl
    each_same [] (v ∷ vs) h = refl
    each_same (y ∷ ys) [] h = refl
    each_same (y ∷ ys) (v ∷ vs) h =
        let a = and_parts (is_numberless_under y.0 m) (list_all (λ (f : ℕ → Bool). f m) (map is_numberless_under (types_in ys))) h in
        λ j. y.1 m mu nu rs v a.0 same j && each_same ys vs a.1 j

    answers_same : (ys : List SuchTyp) → AllNumberless ys
        → AllSame types (read_each mu rs (types_in ys)) (read_each nu rs (types_in ys))
    unfolding Same
    answers_same [] h i w = refl
    answers_same (y ∷ ys) h zero w =
        let a = and_parts (is_numberless_under y.0 m) (list_all (λ (f : ℕ → Bool). f m) (map is_numberless_under (types_in ys))) h in
        sym (belongs_out types w (reading y.0 mu rs)) ∙ y.1 m mu nu rs w a.0 same ∙ belongs_out types w (reading y.0 nu rs)
    answers_same (y ∷ ys) h (suc i) w =
        let a = and_parts (is_numberless_under y.0 m) (list_all (λ (f : ℕ → Bool). f m) (map is_numberless_under (types_in ys))) h in
        answers_same ys a.1 i w

    struct_same : (w : Value-F Value) (i u : ℕ) (vs : List Value) (is : List Index) (ys : List SuchTyp) → list_all (index_under m) is ≡ true → AllNumberless ys
        → (nat_eq i u && fields_belong (asks types vs) (assigned mu is) (read_each mu rs (inner_types (map (λ t. (t, inner types w rs t)) (types_in ys))))
        (fields types i))
        ≡ (nat_eq i u && fields_belong (asks types vs) (assigned nu is) (read_each nu rs (inner_types (map (λ t. (t, inner types w rs t)) (types_in ys))))
        (fields types i))
    struct_same w i u vs is ys l h =
        let of : Assignment → Closeds → Bool = λ a ps. nat_eq i u && fields_belong (asks types vs) a ps (fields types i) in
        ap (λ us. of (assigned mu is) (read_each mu rs us)) (fronts (inner types w rs) (types_in ys))
        ∙ ap (λ b. nat_eq i u && b)
        (fields_alike types vs (fields types i) (assigned mu is) (read_each mu rs (types_in ys)) (read_each nu rs (types_in ys)) (answers_same ys h))
        ∙ ap (λ a. of a (read_each nu rs (types_in ys))) (assigned_same m mu nu same is l)
        ∙ sym (ap (λ us. of (assigned nu is) (read_each nu rs us)) (fronts (inner types w rs) (types_in ys)))

    union_same : (w : Value-F Value) (i c u : ℕ) (v : Value) (is : List Index) (ys : List SuchTyp) → list_all (index_under m) is ≡ true → AllNumberless ys
        → (nat_eq i u && payload_belongs (belongs types v) (assigned mu is) (read_each mu rs (inner_types (map (λ t. (t, inner types w rs t)) (types_in ys))))
        (payload types i c))
        ≡ (nat_eq i u && payload_belongs (belongs types v) (assigned nu is) (read_each nu rs (inner_types (map (λ t. (t, inner types w rs t)) (types_in ys))))
        (payload types i c))
    union_same w i c u v is ys l h =
        let of : Assignment → Closeds → Bool = λ a ps. nat_eq i u && payload_belongs (belongs types v) a ps (payload types i c) in
        ap (λ us. of (assigned mu is) (read_each mu rs us)) (fronts (inner types w rs) (types_in ys))
        ∙ ap (λ b. nat_eq i u && b)
        (payload_alike types v (payload types i c) (assigned mu is) (read_each mu rs (types_in ys)) (read_each nu rs (types_in ys)) (answers_same ys h))
        ∙ ap (λ a. of a (read_each nu rs (types_in ys))) (assigned_same m mu nu same is l)
        ∙ sym (ap (λ us. of (assigned nu is) (read_each nu rs us)) (fronts (inner types w rs) (types_in ys)))

    -- a type that binds no variable
    abbrev binds_none : Typ-F SuchTyp → Bool
    binds_none (T.Exists name c y) = false
    binds_none y = true

    form_same : (y : Typ-F SuchTyp) (w : Value-F Value) → binds_none y ≡ true → Numberless y
        → form_asked types w (typ_form y) mu rs ≡ form_asked types w (typ_form y) nu rs
    form_same (T.Variable i) w b h = refl
    form_same (T.Exists name c y) w b h = no b
    form_same (T.Truth c) (V.Truth d) b h = ap (beq d) (truth_below m mu nu same c h)
    form_same (T.Bits t) (V.Bits bits) b h = ap (λ z. int_eq (pos (length bits)) z && is_width (length bits)) (number_below m mu nu same t h)
    form_same (T.Int t) (V.Integer z) b h = ap (λ x. int_eq z x && is_small z) (number_below m mu nu same t h)
    form_same (T.Range t u) (V.Integer z) b h =
        let p = and_parts (is_below m t) (is_below m u) h in
        λ j. (int_le (number_below m mu nu same t p.0 j) z && int_le z (number_below m mu nu same u p.1 j)) && is_small z
    form_same (T.List y) (V.List vs) b h = all_same y vs h
    form_same (T.Vector l y) (V.Vector vs) b h =
        let p = and_parts (is_below m l) (is_numberless_under y.0 m) h in
        λ j. (int_eq (pos (length (asks types vs))) (number_below m mu nu same l p.0 j) && is_length (length (asks types vs))) && all_same y vs p.1 j
    form_same (T.Tuple ys) (V.Tuple vs) b h =
        ap (each_belongs (asks types vs) mu rs) (fronts (inner types (V.Tuple vs) rs) (types_in ys))
        ∙ each_same ys vs h
        ∙ sym (ap (each_belongs (asks types vs) nu rs) (fronts (inner types (V.Tuple vs) rs) (types_in ys)))
    form_same (T.Named u is ys) (V.Struct i vs) b h =
        let p = and_parts (list_all (index_under m) is) (list_all (λ (f : ℕ → Bool). f m) (map is_numberless_under (types_in ys))) h in
        struct_same (V.Struct i vs) i u vs is ys p.0 p.1
    form_same (T.Named u is ys) (V.Union i c v) b h =
        let p = and_parts (list_all (index_under m) is) (list_all (λ (f : ℕ → Bool). f m) (map is_numberless_under (types_in ys))) h in
        union_same (V.Union i c v) i c u v is ys p.0 p.1
    form_same y V.Unit b h = refl
    form_same y (V.Integer z) b h = refl
    form_same y (V.Truth d) b h = refl
    form_same y (V.Bit d) b h = refl
    form_same y (V.Bits bits) b h = refl
    form_same y (V.String text) b h = refl
    form_same y (V.Member i c) b h = refl
    form_same y (V.List vs) b h = refl
    form_same y (V.Vector vs) b h = refl
    form_same y (V.Tuple vs) b h = refl
    form_same y (V.Struct i vs) b h = refl
    form_same y (V.Union i c v) b h = refl

  exists_same : (m : ℕ) (mu nu : Assignment) (rs : Closeds) → SameBelow m mu nu → (y : SuchTyp) (c : Con) (v : Value) (given : Option Given)
      → is_con_below (suc m) c ≡ true → is_numberless_under y.0 (suc m) ≡ true
      → given_belongs given mu c (inner types (out-Value v) rs y.0) ≡ given_belongs given nu c (inner types (out-Value v) rs y.0)
  unfolding Same
  exists_same m mu nu rs same y c v (Some (an_int z)) l h =
      let inside = under_same m mu nu same z in
      let first_same = truth_below (suc m) (under z mu) (under z nu) inside c l in
      let rest = inner_is types v y.0 (under z mu) rs ∙ y.1 (suc m) (under z mu) (under z nu) rs v h inside
      ∙ sym (inner_is types v y.0 (under z nu) rs) in
      λ j. first_same j && rest j
  exists_same m mu nu rs same y c v (Some (a_bool b)) l h = refl
  exists_same m mu nu rs same y c v None l h = refl

  same_step : (y : Typ-F SuchTyp) → Same (roll-Typ (typ_form y))
  unfolding Same
  same_step (T.Exists name c y) m mu nu rs v h same =
      let x : Typ-F Typ = T.Exists name c y.0 in
      let p = and_parts (is_con_below (suc m) c) (is_numberless_under y.0 (suc m)) (sym (numberless_as x (roll-Typ x) m refl) ∙ h) in
      belongs_form types v x (roll-Typ x) mu rs refl
      ∙ exists_same m mu nu rs same y c v
      (Of.placed y.0 0 (roll-Value (map-Value (Value × Asked) Value (λ p. p.0) (questions types (out-Value v))))) p.0 p.1
      ∙ sym (belongs_form types v x (roll-Typ x) nu rs refl)
  same_step y m mu nu rs v h same =
      let x = typ_form y in
      belongs_form types v x (roll-Typ x) mu rs refl
      ∙ form_same m mu nu rs same y (out-Value v) refl (sym (numberless_as x (roll-Typ x) m refl) ∙ h)
      ∙ sym (belongs_form types v x (roll-Typ x) nu rs refl)

  each_typ_same : (t : Typ) → Same t
  each_typ_same = ind-Typ Same (λ e y same_form. subst (λ d. Same (roll-Typ d)) same_form (same_step y))

  pub numberless_same : (t : Typ) (mu nu : Assignment) (rs : Closeds) (v : Value) → is_numberless_under t 0 ≡ true → SameBelow 0 mu nu
      → belongs types v (reading t mu rs) ≡ belongs types v (reading t nu rs)
  unfolding Same
  numberless_same t mu nu rs v h same = each_typ_same t 0 mu nu rs v h same
