-- Types to which more values belong: where their Type variables stand for such, where they are widened, and what they are of indices.
use Rattle.std.proofs.Common.{◌≡◌, ℕ, zero, suc, nat_eq, ℤ, pos, int_le, Bool, true, ◌&&◌, List, [], ◌∷◌, map, length}
use Rattle.std.proofs.Common.{refl, sym, ap, ◌∙◌, subst}
use Rattle.std.specs.Ordering.{int_eq}
use Rattle.std.proofs.lemmas.Bool.{and_parts}
use Rattle.sail_types.proofs.Substituted.{number_constant}
use Rattle.sail_types.specs.Belongs.{Reading as Closed, Readings as Closeds, reading, assigned, read_each, each_belongs, all_belong}
use Rattle.sail_types.specs.Belongs.{fields_belong, payload_belongs}
use Rattle.sail_types.specs.Belongs.{inner_types, belongs}
use Rattle.sail_types.specs.Limits.{is_small, is_length}
use Rattle.sail_types.specs.Named.{fields, payload}
use Rattle.sail_types.specs.Numbers.{Assignment, number}
use Rattle.sail_types.specs.declared.numbers.Con.{Con}
use Rattle.sail_types.specs.declared.numbers.Index.{Index}
use Rattle.sail_types.specs.declared.numbers.Num.{Num}
use Rattle.sail_types.specs.declared.table.Types.{Types}
use Rattle.sail_types.specs.declared.types.Typ.{Typ, Typ-F, roll-Typ}
use Rattle.sail_types.specs.declared.types.Typ.TheFolds.{para-roll-Typ, map-Typ, ind-Typ}
use Rattle.sail_types.specs.declared.types.Typ.TheOpen as T
use Rattle.sail_types.specs.declared.types.Typ.TheVariants as U
use Rattle.sail_types.specs.declared.values.Value.{Value, Value-F, out-Value}
use Rattle.sail_types.specs.declared.values.Value.TheOpen as V
use Rattle.row_types.specs.Formulas.{least, most}
use Rattle.value_indices.specs.Opening.{least_num, largest_num}
use Rattle.value_laws.specs.Belonging.{closeds, type_variables}
use Rattle.value_laws.specs.Belonging.{types_or_own}
use Rattle.value_laws.proofs.Basics.{no, two, fronts}
use Rattle.value_laws.proofs.Numbers.{above_least, below_most}
use Rattle.value_laws.proofs.Values.{form_asked, inner, belongs_out, belongs_form}
use Rattle.value_laws.proofs.Alike.{asks}
use Rattle.wide_types.specs.Widening.{wide_form, wide_typ}
use Rattle.meeting_laws.proofs.Larger.{AllMore, belongs_more, fields_more, payload_more}

module _ (types : Types) where
  -- every value of the first is one of the second
  abbrev pub Wider : Closed → Closed → Type 0
  Wider c d = (v : Value) → belongs types v c ≡ true → belongs types v d ≡ true

  abbrev pub EachWider : List Closed → List Closed → Type 0
  EachWider [] [] = Unit {0}
  EachWider (c ∷ cs) (d ∷ ds) = Wider c d × EachWider cs ds
  EachWider cs ds = ⊥

  pub all_more : (cs ds : List Closed) → EachWider cs ds → AllMore types (closeds cs) (closeds ds)
  all_more [] [] h i w k = k
  all_more [] (d ∷ ds) h i w k = absurd h
  all_more (c ∷ cs) [] h i w k = absurd h
  all_more (c ∷ cs) (d ∷ ds) h zero w k = sym (belongs_out types w d) ∙ h.0 w (belongs_out types w c ∙ k)
  all_more (c ∷ cs) (d ∷ ds) h (suc i) w k = all_more cs ds h.1 i w k

  pub itself : (cs : List Closed) → EachWider cs cs
  itself [] = tt
  itself (c ∷ cs) = (λ v k. k, itself cs)

  -- before the types of the function at work
  pub own_wider : (cs ds es : List Closed) → EachWider cs ds → EachWider (types_or_own cs es) (types_or_own ds es)
  own_wider [] [] es h = itself es
  own_wider [] (d ∷ ds) es h = absurd h
  own_wider (c ∷ cs) [] es h = absurd h
  own_wider (c ∷ cs) (d ∷ ds) [] h = h
  own_wider (c ∷ cs) (d ∷ ds) (e ∷ es) h = (h.0, own_wider cs ds es h.1)

  -- of which its Type variables stand for these
  pub over_wider : (t : Typ) (nu : Assignment) (cs ds : List Closed) → EachWider cs ds → Wider (reading t nu (closeds cs)) (reading t nu (closeds ds))
  over_wider t nu cs ds h v k = belongs_more types v t nu (closeds cs) (closeds ds) (all_more cs ds h) k

  same_variables : (k : ℕ) (cs ds : List Closed) → EachWider cs ds → type_variables k cs ≡ type_variables k ds
  same_variables k [] [] h = refl
  same_variables k [] (d ∷ ds) h = absurd h
  same_variables k (c ∷ cs) [] h = absurd h
  same_variables k (c ∷ cs) (d ∷ ds) h = ap (λ ts. U.Variable k ∷ ts) (same_variables (suc k) cs ds h.1)

  pub tuple_wider : (nu : Assignment) (cs ds : List Closed) → EachWider cs ds
      → Wider (reading (U.Tuple (type_variables 0 cs)) nu (closeds cs)) (reading (U.Tuple (type_variables 0 ds)) nu (closeds ds))
  tuple_wider nu cs ds h v k =
      ap (λ ts. belongs types v (reading (U.Tuple ts) nu (closeds ds))) (sym (same_variables 0 cs ds h))
      ∙ over_wider (U.Tuple (type_variables 0 cs)) nu cs ds h v k

  pub named_wider : (u : ℕ) (is : List Index) (nu : Assignment) (cs ds : List Closed) → EachWider cs ds
      → Wider (reading (U.Named u is (type_variables 0 cs)) nu (closeds cs)) (reading (U.Named u is (type_variables 0 ds)) nu (closeds ds))
  named_wider u is nu cs ds h v k =
      ap (λ ts. belongs types v (reading (U.Named u is ts) nu (closeds ds))) (sym (same_variables 0 cs ds h))
      ∙ over_wider (U.Named u is (type_variables 0 cs)) nu cs ds h v k

  -- ---- widened types

  Widens : Typ → Type 0
  Widens t = (nu : Assignment) (rs : Closeds) → Wider (reading t nu rs) (reading (wide_typ t) nu rs)

  abbrev SuchTyp : Type 0
  SuchTyp = (t : Typ) × Widens t

  abbrev typ_form : Typ-F SuchTyp → Typ-F Typ
  typ_form y = map-Typ SuchTyp Typ (λ p. p.0) y

  abbrev types_in : List SuchTyp → List Typ
  types_in ys = map (λ (y : SuchTyp). y.0) ys

  wide_is : (x : Typ-F Typ) → wide_typ (roll-Typ x) ≡ wide_form (map-Typ Typ (Typ × Typ) (λ t. (t, wide_typ t)) x)
  unfolding wide_typ
  wide_is x = para-roll-Typ Typ wide_form x

  seconds : (ts : List Typ) → map (λ (part : Typ × Typ). part.1) (map (λ t. (t, wide_typ t)) ts) ≡ map wide_typ ts
  seconds [] = refl
  seconds (t ∷ ts) = ap (λ us. wide_typ t ∷ us) (seconds ts)

  pub bounded : (nu : Assignment) (z : ℤ) → is_small z ≡ true
      → ((int_le (number nu least_num) z && int_le z (number nu largest_num)) && is_small z) ≡ true
  bounded nu z small =
      two (int_le (number nu least_num) z && int_le z (number nu largest_num)) (is_small z)
      (two (int_le (number nu least_num) z) (int_le z (number nu largest_num))
      (ap (λ y. int_le y z) (number_constant nu least) ∙ above_least z small) (ap (int_le z) (number_constant nu most) ∙ below_most z small)) small

  int_widens : (t : Num) (w : Value-F Value) (nu : Assignment) (rs : Closeds) → form_asked types w (T.Int t) nu rs ≡ true
      → form_asked types w (T.Range least_num largest_num) nu rs ≡ true
  int_widens t (V.Integer z) nu rs h = bounded nu z (and_parts (int_eq z (number nu t)) (is_small z) h).1
  int_widens t w nu rs h = no h

  range_widens : (t u : Num) (w : Value-F Value) (nu : Assignment) (rs : Closeds) → form_asked types w (T.Range t u) nu rs ≡ true
      → form_asked types w (T.Range least_num largest_num) nu rs ≡ true
  range_widens t u (V.Integer z) nu rs h = bounded nu z (and_parts (int_le (number nu t) z && int_le z (number nu u)) (is_small z) h).1
  range_widens t u w nu rs h = no h

  truth_widens : (c : Con) (w : Value-F Value) (nu : Assignment) (rs : Closeds) → form_asked types w (T.Truth c) nu rs ≡ true
      → form_asked types w T.Bool nu rs ≡ true
  truth_widens c (V.Truth b) nu rs h = refl
  truth_widens c w nu rs h = no h

  -- items of a wider type
  pub items_wider : (vs : List Value) (c d : Closed) → Wider c d → all_belong (asks types vs) c ≡ true → all_belong (asks types vs) d ≡ true
  items_wider [] c d h k = k
  items_wider (v ∷ vs) c d h k =
      let l = and_parts (belongs types v c) (all_belong (asks types vs) c) k in
      two (belongs types v d) (all_belong (asks types vs) d) (h v l.0) (items_wider vs c d h l.1)

  list_widens : (t u : Typ) (nu : Assignment) (rs : Closeds) → Wider (reading t nu rs) (reading u nu rs) → (w : Value-F Value)
      → form_asked types w (T.List t) nu rs ≡ true → form_asked types w (T.List u) nu rs ≡ true
  list_widens t u nu rs h (V.List vs) k = items_wider vs (reading t nu rs) (reading u nu rs) h k
  list_widens t u nu rs h w k = no k

  vector_widens : (n : Num) (t u : Typ) (nu : Assignment) (rs : Closeds) → Wider (reading t nu rs) (reading u nu rs) → (w : Value-F Value)
      → form_asked types w (T.Vector n t) nu rs ≡ true → form_asked types w (T.Vector n u) nu rs ≡ true
  vector_widens n t u nu rs h (V.Vector vs) k =
      let fits : Bool = int_eq (pos (length (asks types vs))) (number nu n) && is_length (length (asks types vs)) in
      let l = and_parts fits (all_belong (asks types vs) (reading t nu rs)) k in
      two fits (all_belong (asks types vs) (reading u nu rs)) l.0 (items_wider vs (reading t nu rs) (reading u nu rs) h l.1)
  vector_widens n t u nu rs h w k = no k

  parts_widen : (ys : List SuchTyp) (nu : Assignment) (rs : Closeds) (vs : List Value) → each_belongs (asks types vs) nu rs (types_in ys) ≡ true
      → each_belongs (asks types vs) nu rs (map wide_typ (types_in ys)) ≡ true
  unfolding Widens
  parts_widen [] nu rs [] k = k
  parts_widen [] nu rs (v ∷ vs) k = k
  parts_widen (y ∷ ys) nu rs [] k = k
  parts_widen (y ∷ ys) nu rs (v ∷ vs) k =
      let l = and_parts (belongs types v (reading y.0 nu rs)) (each_belongs (asks types vs) nu rs (types_in ys)) k in
      two (belongs types v (reading (wide_typ y.0) nu rs)) (each_belongs (asks types vs) nu rs (map wide_typ (types_in ys))) (y.1 nu rs v l.0)
      (parts_widen ys nu rs vs l.1)

  tuple_widens : (ys : List SuchTyp) (nu : Assignment) (rs : Closeds) (w : Value-F Value) → form_asked types w (T.Tuple (types_in ys)) nu rs ≡ true
      → form_asked types w (T.Tuple (map wide_typ (types_in ys))) nu rs ≡ true
  tuple_widens ys nu rs (V.Tuple vs) k =
      let in_order : (ts : List Typ) → each_belongs (asks types vs) nu rs (inner_types (map (λ t. (t, inner types (V.Tuple vs) rs t)) ts))
      ≡ each_belongs (asks types vs) nu rs ts =
      λ ts. ap (each_belongs (asks types vs) nu rs) (fronts (inner types (V.Tuple vs) rs) ts) in
      in_order (map wide_typ (types_in ys)) ∙ parts_widen ys nu rs vs (sym (in_order (types_in ys)) ∙ k)
  tuple_widens ys nu rs w k = no k

  arguments_widen : (ys : List SuchTyp) (nu : Assignment) (rs : Closeds)
      → AllMore types (read_each nu rs (types_in ys)) (read_each nu rs (map wide_typ (types_in ys)))
  unfolding Widens
  arguments_widen [] nu rs i w k = k
  arguments_widen (y ∷ ys) nu rs zero w k =
      sym (belongs_out types w (reading (wide_typ y.0) nu rs)) ∙ y.1 nu rs w (belongs_out types w (reading y.0 nu rs) ∙ k)
  arguments_widen (y ∷ ys) nu rs (suc i) w k = arguments_widen ys nu rs i w k

  named_widens : (u : ℕ) (is : List Index) (ys : List SuchTyp) (nu : Assignment) (rs : Closeds) (w : Value-F Value)
      → form_asked types w (T.Named u is (types_in ys)) nu rs ≡ true → form_asked types w (T.Named u is (map wide_typ (types_in ys))) nu rs ≡ true
  named_widens u is ys nu rs (V.Member i k) h = h
  named_widens u is ys nu rs (V.Struct i vs) h =
      let ts = types_in ys in
      let us = map wide_typ (types_in ys) in
      let of : List Typ → Bool = λ ps. fields_belong (asks types vs) (assigned nu is) (read_each nu rs ps) (fields types i) in
      let in_order : (ps : List Typ) → (nat_eq i u && of (inner_types (map (λ t. (t, inner types (V.Struct i vs) rs t)) ps))) ≡ (nat_eq i u && of ps) =
      λ ps. ap (λ qs. nat_eq i u && of qs) (fronts (inner types (V.Struct i vs) rs) ps) in
      let k = and_parts (nat_eq i u) (of ts) (sym (in_order ts) ∙ h) in
      in_order us ∙ two (nat_eq i u) (of us) k.0
      (fields_more types vs (fields types i) (assigned nu is) (read_each nu rs ts) (read_each nu rs us) (arguments_widen ys nu rs) k.1)
  named_widens u is ys nu rs (V.Union i j v) h =
      let ts = types_in ys in
      let us = map wide_typ (types_in ys) in
      let of : List Typ → Bool = λ ps. payload_belongs (belongs types v) (assigned nu is) (read_each nu rs ps) (payload types i j) in
      let in_order : (ps : List Typ) → (nat_eq i u && of (inner_types (map (λ t. (t, inner types (V.Union i j v) rs t)) ps))) ≡ (nat_eq i u && of ps) =
      λ ps. ap (λ qs. nat_eq i u && of qs) (fronts (inner types (V.Union i j v) rs) ps) in
      let k = and_parts (nat_eq i u) (of ts) (sym (in_order ts) ∙ h) in
      in_order us ∙ two (nat_eq i u) (of us) k.0
      (payload_more types v (payload types i j) (assigned nu is) (read_each nu rs ts) (read_each nu rs us) (arguments_widen ys nu rs) k.1)
  named_widens u is ys nu rs w h = no h

  -- of a type of one form, a type of another
  as_form : (x z : Typ-F Typ) (t u : Typ) (nu : Assignment) (rs : Closeds) (v : Value) → roll-Typ x ≡ t → roll-Typ z ≡ u
      → (form_asked types (out-Value v) x nu rs ≡ true → form_asked types (out-Value v) z nu rs ≡ true)
      → belongs types v (reading t nu rs) ≡ true → belongs types v (reading u nu rs) ≡ true
  as_form x z t u nu rs v e f h k = belongs_form types v z u nu rs f ∙ h (sym (belongs_form types v x t nu rs e) ∙ k)

  -- what is widened as it stands
  as_it_is : (t u : Typ) (nu : Assignment) (rs : Closeds) (v : Value) → t ≡ u → belongs types v (reading t nu rs) ≡ true
      → belongs types v (reading u nu rs) ≡ true
  as_it_is t u nu rs v e k = ap (λ s. belongs types v (reading s nu rs)) (sym e) ∙ k

  form_widens : (y : Typ-F SuchTyp) → Widens (roll-Typ (typ_form y))
  unfolding Widens
  form_widens (T.Int t) nu rs v k =
      as_form (T.Int t) (T.Range least_num largest_num) (roll-Typ (T.Int t)) (wide_typ (roll-Typ (T.Int t))) nu rs v refl
      (U.rolls-Range least_num largest_num ∙ sym (wide_is (T.Int t))) (int_widens t (out-Value v) nu rs) k
  form_widens (T.Range t u) nu rs v k =
      as_form (T.Range t u) (T.Range least_num largest_num) (roll-Typ (T.Range t u)) (wide_typ (roll-Typ (T.Range t u))) nu rs v refl
      (U.rolls-Range least_num largest_num ∙ sym (wide_is (T.Range t u))) (range_widens t u (out-Value v) nu rs) k
  form_widens (T.Truth c) nu rs v k =
      as_form (T.Truth c) T.Bool (roll-Typ (T.Truth c)) (wide_typ (roll-Typ (T.Truth c))) nu rs v refl
      (U.rolls-Bool ∙ sym (wide_is (T.Truth c))) (truth_widens c (out-Value v) nu rs) k
  form_widens (T.Exists name c y) nu rs v k =
      as_it_is (roll-Typ (T.Exists name c y.0)) (wide_typ (roll-Typ (T.Exists name c y.0))) nu rs v
      (U.rolls-Exists name c y.0 ∙ sym (wide_is (T.Exists name c y.0))) k
  form_widens (T.List y) nu rs v k =
      as_form (T.List y.0) (T.List (wide_typ y.0)) (roll-Typ (T.List y.0)) (wide_typ (roll-Typ (T.List y.0))) nu rs v refl (sym (wide_is (T.List y.0)))
      (list_widens y.0 (wide_typ y.0) nu rs (y.1 nu rs) (out-Value v)) k
  form_widens (T.Vector n y) nu rs v k =
      as_form (T.Vector n y.0) (T.Vector n (wide_typ y.0)) (roll-Typ (T.Vector n y.0)) (wide_typ (roll-Typ (T.Vector n y.0))) nu rs v refl
      (sym (wide_is (T.Vector n y.0))) (vector_widens n y.0 (wide_typ y.0) nu rs (y.1 nu rs) (out-Value v)) k
  form_widens (T.Tuple ys) nu rs v k =
      let ts = types_in ys in
      as_form (T.Tuple ts) (T.Tuple (map wide_typ ts)) (roll-Typ (T.Tuple ts)) (wide_typ (roll-Typ (T.Tuple ts))) nu rs v refl
      (ap (λ us. roll-Typ (T.Tuple us)) (sym (seconds ts)) ∙ sym (wide_is (T.Tuple ts))) (tuple_widens ys nu rs (out-Value v)) k
  form_widens (T.Named u is ys) nu rs v k =
      let ts = types_in ys in
      as_form (T.Named u is ts) (T.Named u is (map wide_typ ts)) (roll-Typ (T.Named u is ts)) (wide_typ (roll-Typ (T.Named u is ts))) nu rs v refl
      (ap (λ us. roll-Typ (T.Named u is us)) (sym (seconds ts)) ∙ sym (wide_is (T.Named u is ts))) (named_widens u is ys nu rs (out-Value v)) k
  form_widens T.Unit nu rs v k = as_it_is (roll-Typ T.Unit) (wide_typ (roll-Typ T.Unit)) nu rs v (sym (wide_is T.Unit)) k
  form_widens T.Bool nu rs v k = as_it_is (roll-Typ T.Bool) (wide_typ (roll-Typ T.Bool)) nu rs v (sym (wide_is T.Bool)) k
  form_widens T.Bit nu rs v k = as_it_is (roll-Typ T.Bit) (wide_typ (roll-Typ T.Bit)) nu rs v (sym (wide_is T.Bit)) k
  form_widens (T.Bits t) nu rs v k = as_it_is (roll-Typ (T.Bits t)) (wide_typ (roll-Typ (T.Bits t))) nu rs v (sym (wide_is (T.Bits t))) k
  form_widens T.String nu rs v k = as_it_is (roll-Typ T.String) (wide_typ (roll-Typ T.String)) nu rs v (sym (wide_is T.String)) k
  form_widens (T.Variable i) nu rs v k = as_it_is (roll-Typ (T.Variable i)) (wide_typ (roll-Typ (T.Variable i))) nu rs v (sym (wide_is (T.Variable i))) k

  typ_widens : (t : Typ) → Widens t
  typ_widens = ind-Typ Widens (λ e y is. subst (λ d. Widens (roll-Typ d)) is (form_widens y))

  -- a value of a type is of the widened type
  pub wide_typ_wider : (t : Typ) (nu : Assignment) (rs : Closeds) → Wider (reading t nu rs) (reading (wide_typ t) nu rs)
  unfolding Widens
  wide_typ_wider t nu rs = typ_widens t nu rs
