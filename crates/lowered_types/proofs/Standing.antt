-- Values that have the sizes of a type that has a number belong to the type of this number.
use Rattle.std.proofs.Common.{◌≡◌, ◌∙◌, ℕ, zero, suc, ◌<◌, ℤ, pos, Bool, true, false, List, [], ◌∷◌, length, map, Option, Some, None, refl}
use Rattle.std.proofs.Common.{sym, ap, subst, arith, eqb-true, eq-eqb, if◌then◌else◌}
use Rattle.std.specs.Prelude.{◌&&◌, ◌||◌, nat_eq, nat_lt, slice_get}
use Rattle.std.specs.List.{list_all}
use Rattle.std.specs.Ordering.{int_eq}
use Rattle.std.proofs.lemmas.List.{length-map}
use Rattle.std.proofs.lemmas.Bool.{and_parts}
use Rattle.std.proofs.lemmas.Bool.Decides.{nat_tests, Decides-int_eq}
use Rattle.sail_types.specs.Named.{fields, form_constructors, form_fields, form_members, in_form, members, payload, typ_of}
use Rattle.sail_types.specs.declared.table.Definition.{Definition}
use Rattle.sail_types.specs.declared.table.Field.{Field}
use Rattle.sail_types.specs.declared.table.Form.{Form}
use Rattle.sail_types.specs.declared.table.Form.TheVariants as F
use Rattle.sail_types.specs.declared.table.Types.{Types}
use Rattle.sail_types.specs.declared.values.Value.{Value, Value-F, roll-Value}
use Rattle.sail_types.specs.declared.values.Value.TheFolds.{fold-roll-Value, map-Value, ind-Value}
use Rattle.sail_types.specs.declared.values.Value.TheOpen as E
use Rattle.size_values.specs.declared.sized.Sized.{Sized, Sized-F, out-Sized}
use Rattle.size_values.specs.declared.sized.Sized.TheOpen as Z
use Rattle.size_values.specs.declared.sized.Sized.TheVariants as S
use Rattle.size_values.specs.declared.sized.Sized.TheViews.{out-roll-Sized}
use Rattle.size_values.specs.Sized.{sized_at, sized_eq, typ_sized}
use Rattle.jib.specs.declared.types.ValueType.{ValueType}
use Rattle.jib.specs.declared.types.ValueType.TheVariants as T
use Rattle.jib.specs.Values.{Asked, each_has, form_has, has, is_of, payload_has}
use Rattle.checked_meaning.specs.Fits.{Fits, all_fit, each_fits, fields_fit, fields_under, fits_step, form_fits, has_sizes}
use Rattle.checked_meaning.specs.Items.{constant_of, component_typ, item_typ, payload_of, payload_typ}
use Rattle.exact_sizes.proofs.Equal.{sized_same}
use Rattle.lowered_types.specs.Table.{TypesStand, all_known, form_never, form_parts, form_value, is_known, named_parts, named_value, natural, type_in}
use Rattle.lowered_types.specs.Laws.{PartsKnown, PartsOf, TypesHave, field_types, is_named, types_under}

no : {A : Type 0} → false ≡ true → A
no h = cc

none_is : {A X : Type 0} (x : A) → None ≡ Some x → X
none_is x e = cc

some_same : {A : Type 0} (x y : A) → Some x ≡ Some y → x ≡ y
some_same x y e = cc

lt_true : (a b : ℕ) → nat_lt a b ≡ true → a < b
lt_true a b h = grind (arith, nat_tests)

none_below : {X : Type 0} (k : ℕ) → nat_lt k 0 ≡ true → X
none_below k h = absurd (nothing (lt_true k 0 h))
  where
    nothing : k < 0 → ⊥
    nothing lt = omega (arith, lt)

both : (a b : Bool) → a ≡ true → b ≡ true → (a && b) ≡ true
both true b h k = k
both false b h k = no h

-- ---- a type that is known stands in the list at its number

pub found : (ss : List Sized) (t : Sized) → type_in ss t < length ss → slice_get ss (type_in ss t) ≡ Some t
found [] t lt = absurd (nothing lt)
  where
    nothing : 0 < 0 → ⊥
    nothing lt = omega (arith, lt)
found (s ∷ ss) t lt = by (sized_eq s t) refl (λ l. found ss t l)
  where
    step : (b : Bool) → sized_eq s t ≡ b → type_in (s ∷ ss) t ≡ (if b then 0 else suc (type_in ss t))
    step b e = ap (λ c. if c then 0 else suc (type_in ss t)) e

    by : (b : Bool) → sized_eq s t ≡ b → (type_in ss t < length ss → slice_get ss (type_in ss t) ≡ Some t)
        → slice_get (s ∷ ss) (type_in (s ∷ ss) t) ≡ Some t
    by true e rest = ap (slice_get (s ∷ ss)) (step true e) ∙ ap Some (sized_same s t e)
    by false e rest = ap (slice_get (s ∷ ss)) (step false e) ∙ rest (omega (arith, lt, step false e))

-- what is known and isn't of what doesn't exist
pub known_lt : (ss : List Sized) (t : Sized) → is_known ss t ≡ true → form_never (out-Sized t) ≡ false → type_in ss t < length ss
known_lt ss t k n = lt_true (type_in ss t) (length ss) (sym (ap (λ b. b || nat_lt (type_in ss t) (length ss)) n) ∙ k)

-- ---- parts

never_known : (ss : List Sized) → is_known ss S.Never ≡ true
never_known ss = ap (λ (z : Sized-F Sized). form_never z || nat_lt (type_in ss S.Never) (length ss)) (ap out-Sized (sym S.rolls-Never) ∙ out-roll-Sized Z.Never)

known_at : (ss ts : List Sized) (i : ℕ) → all_known ss ts ≡ true → is_known ss (sized_at ts i) ≡ true
known_at ss [] i h = never_known ss
known_at ss (t ∷ ts) zero h = (and_parts (is_known ss t) (all_known ss ts) h).0
known_at ss (t ∷ ts) (suc i) h = known_at ss ts i (and_parts (is_known ss t) (all_known ss ts) h).1

-- that of a field or a payload
known_field : (types : Types) (ss : List Sized) (zs : List (Option ℤ)) (qs : List Sized) (fs : List Field) (c : ℕ)
    → all_known ss (fields_under types zs qs fs) ≡ true → is_known ss (payload_of types zs qs (typ_of (slice_get fs c))) ≡ true
known_field types ss zs qs [] c h = never_known ss
known_field types ss zs qs (f ∷ fs) zero h =
    (and_parts (is_known ss (typ_sized types qs f.typ (map constant_of zs))) (all_known ss (fields_under types zs qs fs)) h).0
known_field types ss zs qs (f ∷ fs) (suc c) h =
    known_field types ss zs qs fs c (and_parts (is_known ss (typ_sized types qs f.typ (map constant_of zs))) (all_known ss (fields_under types zs qs fs)) h).1

module _ (types : Types) (ss : List Sized) (vts : List ValueType) (stand : TypesStand types ss vts) where
  -- the parts of a known type are known
  pub parts : (t : Sized) → is_known ss t ≡ true → all_known ss (form_parts types (out-Sized t)) ≡ true
  parts t k = by (form_never (out-Sized t)) refl
    where
      none : (z : Sized-F Sized) → form_never z ≡ true → all_known ss (form_parts types z) ≡ true
      none Z.Never h = refl
      none Z.Unit h = no h
      none Z.Bool h = no h
      none Z.Bit h = no h
      none (Z.Bits n) h = no h
      none Z.Int h = no h
      none Z.String h = no h
      none (Z.List s) h = no h
      none (Z.Vector n s) h = no h
      none (Z.Tuple qs) h = no h
      none (Z.Named u zs qs) h = no h

      by : (b : Bool) → form_never (out-Sized t) ≡ b → all_known ss (form_parts types (out-Sized t)) ≡ true
      by true n = none (out-Sized t) n
      by false n = stand.inside (type_in ss t) t (found ss t (known_lt ss t k n))

  tuple_part : (z : Sized-F Sized) (i : ℕ) → all_known ss (form_parts types z) ≡ true → is_known ss (component_typ i z) ≡ true
  tuple_part (Z.Tuple qs) i h = known_at ss qs i h
  tuple_part z i h = never_known ss

  item_part : (z : Sized-F Sized) → all_known ss (form_parts types z) ≡ true → is_known ss (item_typ z) ≡ true
  item_part (Z.List s) h = (and_parts (is_known ss s) true h).0
  item_part (Z.Vector n s) h = (and_parts (is_known ss s) true h).0
  item_part z h = never_known ss

  union_part : (u c : ℕ) (z : Sized-F Sized) → is_named u z ≡ true → all_known ss (form_parts types z) ≡ true
      → is_known ss (payload_typ types u c z) ≡ true
  union_part u c (Z.Named v zs qs) n h =
      subst (λ w. is_known ss (payload_of types zs qs (payload types w c)) ≡ true) (sym (eqb-true u v n)) (at (slice_get types.definitions v) h)
    where
      of_form : (f : Form) → all_known ss (named_parts types zs qs f) ≡ true
          → is_known ss (payload_of types zs qs (typ_of (slice_get (form_constructors f) c))) ≡ true
      of_form (F.Struct fs) h = never_known ss
      of_form (F.Union fs) h = known_field types ss zs qs fs c h
      of_form (F.Enum ms) h = never_known ss

      at : (o : Option Definition) → all_known ss (in_form [] (named_parts types zs qs) o) ≡ true
          → is_known ss (payload_of types zs qs (typ_of (slice_get (in_form [] form_constructors o) c))) ≡ true
      at None h = never_known ss
      at (Some d) h = of_form d.form h
  union_part u c z n h = no n

  struct_part : (z : Sized-F Sized) → all_known ss (form_parts types z) ≡ true → all_known ss (field_types types z) ≡ true
  struct_part (Z.Named v zs qs) h = at (slice_get types.definitions v) h
    where
      of_form : (f : Form) → all_known ss (named_parts types zs qs f) ≡ true → all_known ss (types_under types zs qs (form_fields f)) ≡ true
      of_form (F.Struct fs) h = h
      of_form (F.Union fs) h = refl
      of_form (F.Enum ms) h = refl

      at : (o : Option Definition) → all_known ss (in_form [] (named_parts types zs qs) o) ≡ true
          → all_known ss (types_under types zs qs (in_form None form_fields o)) ≡ true
      at None h = refl
      at (Some d) h = of_form d.form h
  struct_part z h = refl

  all_parts : PartsOf types ss
  all_parts = record {
    of_tuple = λ i t k. tuple_part (out-Sized t) i (parts t k);
    of_items = λ t k. item_part (out-Sized t) (parts t k);
    of_fields = λ t k. struct_part (out-Sized t) (parts t k);
    of_union = λ u c t n k. union_part u c (out-Sized t) n (parts t k);
  }

  -- ---- values

  abbrev number : Sized → ℕ
  number = type_in ss

  Told : Value → Type 0
  Told v = (t : Sized) → has_sizes types v t ≡ true → is_known ss t ≡ true → has vts v (number t) ≡ true

  abbrev Such : Type 0
  Such = (v : Value) × Told v

  abbrev values : List Such → List Value
  values ys = map (λ y. y.0) ys

  abbrev sizes : List Such → List Fits
  sizes ys = map (has_sizes types) (values ys)

  abbrev asks : List Such → List Asked
  asks ys = map (has vts) (values ys)

  each_told : (ys : List Such) (ts : List Sized) → each_fits (sizes ys) ts ≡ true → all_known ss ts ≡ true → each_has (asks ys) (map number ts) ≡ true
  unfolding Told
  each_told [] [] h k = refl
  each_told [] (t ∷ ts) h k = no h
  each_told (y ∷ ys) [] h k = no h
  each_told (y ∷ ys) (t ∷ ts) h k =
      let p = and_parts (has_sizes types y.0 t) (each_fits (sizes ys) ts) h in
      let q = and_parts (is_known ss t) (all_known ss ts) k in
      both (has vts y.0 (number t)) (each_has (asks ys) (map number ts)) (y.1 t p.0 q.0) (each_told ys ts p.1 q.1)

  all_told : (ys : List Such) (t : Sized) → all_fit (sizes ys) t ≡ true → is_known ss t ≡ true → list_all (λ (v : Asked). v (number t)) (asks ys) ≡ true
  unfolding Told
  all_told [] t h k = refl
  all_told (y ∷ ys) t h k =
      let p = and_parts (has_sizes types y.0 t) (all_fit (sizes ys) t) h in
      both (has vts y.0 (number t)) (list_all (λ (v : Asked). v (number t)) (asks ys)) (y.1 t p.0 k) (all_told ys t p.1 k)

  -- a width or a length is that of the type
  width_told : (m : ℕ) (n : ℤ) → int_eq (pos m) n ≡ true → nat_eq m (natural n) ≡ true
  width_told m n h = subst (λ z. nat_eq m (natural z) ≡ true) ((Decides-int_eq (pos m) n).0 h) (eq-eqb m m refl)

  as_many : (ys : List Such) → length (asks ys) ≡ length (sizes ys)
  as_many ys = length-map (values ys) (has vts) ∙ sym (length-map (values ys) (has_sizes types))

  abbrev values_in : Value-F Such → Value-F Value
  values_in y = map-Value Such Value (λ s. s.0) y

  -- members, structs and unions, by the definition of the type
  member_told : (u w k : ℕ) (zs : List (Option ℤ)) (qs : List Sized) (o : Option Definition) → nat_eq u w ≡ true
      → nat_lt k (length (in_form [] form_members o)) ≡ true
      → form_has (E.Member u k) (in_form T.Unit (named_value types number w zs qs) o) ≡ true
  member_told u w k zs qs None n h = none_below k h
  member_told u w k zs qs (Some d) n h = of_form d.form h
    where
      of_form : (f : Form) → nat_lt k (length (form_members f)) ≡ true → form_has (E.Member u k) (named_value types number w zs qs f) ≡ true
      of_form (F.Struct fs) h = none_below k h
      of_form (F.Union fs) h = none_below k h
      of_form (F.Enum ms) h = both (nat_eq u w) (nat_lt k (length ms)) n h

  struct_told : (u w : ℕ) (ys : List Such) (zs : List (Option ℤ)) (qs : List Sized) (o : Option Definition) → nat_eq u w ≡ true
      → fields_fit types zs qs (sizes ys) (in_form None form_fields o) ≡ true → all_known ss (in_form [] (named_parts types zs qs) o) ≡ true
      → form_has (E.Struct u (asks ys)) (in_form T.Unit (named_value types number w zs qs) o) ≡ true
  struct_told u w ys zs qs None n h k = no h
  struct_told u w ys zs qs (Some d) n h k = of_form d.form h k
    where
      of_form : (f : Form) → fields_fit types zs qs (sizes ys) (form_fields f) ≡ true → all_known ss (named_parts types zs qs f) ≡ true
          → form_has (E.Struct u (asks ys)) (named_value types number w zs qs f) ≡ true
      of_form (F.Struct fs) h k =
          both (nat_eq u w) (each_has (asks ys) (map number (fields_under types zs qs fs))) n (each_told ys (fields_under types zs qs fs) h k)
      of_form (F.Union fs) h k = no h
      of_form (F.Enum ms) h k = no h

  -- there is a payload, since nothing has the sizes of what doesn't exist
  payload_told : (y : Such) (zs : List (Option ℤ)) (qs : List Sized) (fs : List Field) (c : ℕ)
      → has_sizes types y.0 (payload_of types zs qs (typ_of (slice_get fs c))) ≡ true → all_known ss (fields_under types zs qs fs) ≡ true
      → payload_has (has vts y.0) (slice_get (map number (fields_under types zs qs fs)) c) ≡ true
  unfolding Told
  payload_told y zs qs [] c h k = no (sym (nothing_has y.0) ∙ h)
    where
      nothing : (x : Value-F Fits) → form_fits types x Z.Never ≡ false
      nothing E.Unit = refl
      nothing (E.Integer z) = refl
      nothing (E.Truth b) = refl
      nothing (E.Bit b) = refl
      nothing (E.Bits bits) = refl
      nothing (E.String text) = refl
      nothing (E.Tuple fs) = refl
      nothing (E.List fs) = refl
      nothing (E.Vector fs) = refl
      nothing (E.Member u k) = refl
      nothing (E.Struct u fs) = refl
      nothing (E.Union u c f) = refl

      nothing_has : (v : Value) → has_sizes types v S.Never ≡ false
      nothing_has = ind-Value (λ v. has_sizes types v S.Never ≡ false)
          (λ e y is. subst (λ d. has_sizes types (roll-Value d) S.Never ≡ false) is
          (ap (λ (f : Fits). f S.Never) (fold-roll-Value Fits (fits_step types)
          (map-Value ((v : Value) × (has_sizes types v S.Never ≡ false)) Value (λ s. s.0) y))
          ∙ ap (form_fits types (map-Value Value Fits (has_sizes types) (map-Value ((v : Value) × (has_sizes types v S.Never ≡ false)) Value (λ s. s.0) y)))
          (ap out-Sized (sym S.rolls-Never) ∙ out-roll-Sized Z.Never)
          ∙ nothing (map-Value Value Fits (has_sizes types) (map-Value ((v : Value) × (has_sizes types v S.Never ≡ false)) Value (λ s. s.0) y))))
  payload_told y zs qs (f ∷ fs) zero h k =
      let t : Sized = typ_sized types qs f.typ (map constant_of zs) in
      y.1 t h (and_parts (is_known ss t) (all_known ss (fields_under types zs qs fs)) k).0
  payload_told y zs qs (f ∷ fs) (suc c) h k =
      let t : Sized = typ_sized types qs f.typ (map constant_of zs) in
      payload_told y zs qs fs c h (and_parts (is_known ss t) (all_known ss (fields_under types zs qs fs)) k).1

  union_told : (u w c : ℕ) (y : Such) (zs : List (Option ℤ)) (qs : List Sized) (o : Option Definition) → nat_eq u w ≡ true
      → has_sizes types y.0 (payload_of types zs qs (typ_of (slice_get (in_form [] form_constructors o) c))) ≡ true
      → all_known ss (in_form [] (named_parts types zs qs) o) ≡ true
      → form_has (E.Union u c (has vts y.0)) (in_form T.Unit (named_value types number w zs qs) o) ≡ true
  union_told u w c y zs qs None n h k = no (bare_none h)
    where
      bare_none : has_sizes types y.0 S.Never ≡ true → false ≡ true
      bare_none h = payload_told y zs qs [] c h refl
  union_told u w c y zs qs (Some d) n h k = of_form d.form h k
    where
      of_form : (f : Form) → has_sizes types y.0 (payload_of types zs qs (typ_of (slice_get (form_constructors f) c))) ≡ true
          → all_known ss (named_parts types zs qs f) ≡ true → form_has (E.Union u c (has vts y.0)) (named_value types number w zs qs f) ≡ true
      of_form (F.Struct fs) h k = no (payload_told y zs qs [] c h refl)
      of_form (F.Union fs) h k =
          both (nat_eq u w) (payload_has (has vts y.0) (slice_get (map number (fields_under types zs qs fs)) c)) n (payload_told y zs qs fs c h k)
      of_form (F.Enum ms) h k = no (payload_told y zs qs [] c h refl)

  abbrev fit_of : Value-F Such → Value-F Fits
  fit_of y = map-Value Value Fits (has_sizes types) (values_in y)

  abbrev ask_of : Value-F Such → Value-F Asked
  ask_of y = map-Value Value Asked (has vts) (values_in y)

  formed : (y : Value-F Such) (z : Sized-F Sized) → form_fits types (fit_of y) z ≡ true → all_known ss (form_parts types z) ≡ true
      → form_has (ask_of y) (form_value types number z) ≡ true
  formed E.Unit Z.Unit h k = refl
  formed (E.Integer i) Z.Int h k = h
  formed (E.Truth b) Z.Bool h k = refl
  formed (E.Bit b) Z.Bit h k = refl
  formed (E.Bits bits) (Z.Bits n) h k = width_told (length bits) n h
  formed (E.String text) Z.String h k = refl
  formed (E.Tuple ys) (Z.Tuple qs) h k = each_told ys qs h k
  formed (E.List ys) (Z.List s) h k = all_told ys s h (and_parts (is_known ss s) true k).0
  formed (E.Vector ys) (Z.Vector n s) h k =
      let p = and_parts (int_eq (pos (length (sizes ys))) n) (all_fit (sizes ys) s) h in
      both (nat_eq (length (asks ys)) (natural n)) (list_all (λ (v : Asked). v (number s)) (asks ys))
      (ap (λ m. nat_eq m (natural n)) (as_many ys) ∙ width_told (length (sizes ys)) n p.0) (all_told ys s p.1 (and_parts (is_known ss s) true k).0)
  formed (E.Member u i) (Z.Named w zs qs) h k =
      let p = and_parts (nat_eq u w) (nat_lt i (length (members types u))) h in
      member_told u w i zs qs (slice_get types.definitions w) p.0
      (subst (λ x. nat_lt i (length (members types x)) ≡ true) (eqb-true u w p.0) p.1)
  formed (E.Struct u ys) (Z.Named w zs qs) h k =
      let p = and_parts (nat_eq u w) (fields_fit types zs qs (sizes ys) (fields types u)) h in
      struct_told u w ys zs qs (slice_get types.definitions w) p.0
      (subst (λ x. fields_fit types zs qs (sizes ys) (fields types x) ≡ true) (eqb-true u w p.0) p.1) k
  formed (E.Union u c y) (Z.Named w zs qs) h k =
      let p = and_parts (nat_eq u w) (has_sizes types y.0 (payload_of types zs qs (payload types u c))) h in
      union_told u w c y zs qs (slice_get types.definitions w) p.0
      (subst (λ x. has_sizes types y.0 (payload_of types zs qs (payload types x c)) ≡ true) (eqb-true u w p.0) p.1) k
  formed E.Unit z h k = no h
  formed (E.Integer i) z h k = no h
  formed (E.Truth b) z h k = no h
  formed (E.Bit b) z h k = no h
  formed (E.Bits bits) z h k = no h
  formed (E.String text) z h k = no h
  formed (E.Tuple ys) z h k = no h
  formed (E.List ys) z h k = no h
  formed (E.Vector ys) z h k = no h
  formed (E.Member u i) z h k = no h
  formed (E.Struct u ys) z h k = no h
  formed (E.Union u c y) z h k = no h

  not_never : (x : Value-F Fits) (z : Sized-F Sized) → form_fits types x z ≡ true → form_never z ≡ false
  not_never x Z.Never h = no (sym (nothing x) ∙ h)
    where
      nothing : (x : Value-F Fits) → form_fits types x Z.Never ≡ false
      nothing E.Unit = refl
      nothing (E.Integer z) = refl
      nothing (E.Truth b) = refl
      nothing (E.Bit b) = refl
      nothing (E.Bits bits) = refl
      nothing (E.String text) = refl
      nothing (E.Tuple fs) = refl
      nothing (E.List fs) = refl
      nothing (E.Vector fs) = refl
      nothing (E.Member u k) = refl
      nothing (E.Struct u fs) = refl
      nothing (E.Union u c f) = refl
  not_never x Z.Unit h = refl
  not_never x Z.Bool h = refl
  not_never x Z.Bit h = refl
  not_never x (Z.Bits n) h = refl
  not_never x Z.Int h = refl
  not_never x Z.String h = refl
  not_never x (Z.List s) h = refl
  not_never x (Z.Vector n s) h = refl
  not_never x (Z.Tuple qs) h = refl
  not_never x (Z.Named u zs qs) h = refl

  rolled : (y : Value-F Such) → Told (roll-Value (values_in y))
  unfolding Told
  rolled y t h k =
      let x : Value-F Value = values_in y in
      let fits : form_fits types (fit_of y) (out-Sized t) ≡ true = sym (ap (λ (f : Fits). f t) (fold-roll-Value Fits (fits_step types) x)) ∙ h in
      let lt : type_in ss t < length ss = known_lt ss t k (not_never (fit_of y) (out-Sized t) fits) in
      let there : slice_get vts (number t) ≡ Some (form_value types number (out-Sized t)) = stand.each (number t) t (found ss t lt) in
      ap (λ (f : Asked). f (number t)) (fold-roll-Value Asked (λ v n. is_of v (slice_get vts n)) x)
      ∙ ap (is_of (ask_of y)) there ∙ formed y (out-Sized t) fits (parts t k)

  all_values : (v : Value) → Told v
  all_values = ind-Value Told (λ e y is. subst (λ d. Told (roll-Value d)) is (rolled y))

  told : (v : Value) (t : Sized) → has_sizes types v t ≡ true → is_known ss t ≡ true → has vts v (number t) ≡ true
  unfolding Told
  told v t h k = all_values v t h k

pub types_have : TypesHave
types_have types ss vts stand v t h k = told types ss vts stand v t h k

pub parts_known : PartsKnown
parts_known types ss vts stand = all_parts types ss vts stand
