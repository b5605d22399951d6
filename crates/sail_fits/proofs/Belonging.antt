-- A value that belongs to a type has the type's shape: an induction on the value, inside it one on what the type's variables
-- stand for, and inside that one on the type.
use Rattle.std.proofs.Common.{◌≡◌, ℕ, zero, suc, List, [], ◌∷◌, map, ap, sym, ◌∙◌, refl, subst, true, false}
use Rattle.std.proofs.Common.{slice_index_or, Option, Some, None, nat_eq}
use Rattle.std.proofs.lemmas.Bool.{and_parts}
use Rattle.std.specs.List.{list_all}
use Rattle.sail_types.specs.Belongs.{Reading, Readings, reading, no_readings, more_readings, assigned, read_each, Asked as Question, Inner}
use Rattle.sail_types.specs.Belongs.{each_belongs, all_belong, fields_belong, payload_belongs, inner_types, given_belongs, form_belongs}
use Rattle.sail_types.specs.Belongs.{form_belongs_to, answers_to, belongs, under}
use Rattle.sail_types.specs.Named.{fields, field_types, payload}
use Rattle.sail_types.specs.Numbers.{Assignment, true_in}
use Rattle.sail_types.specs.Places.{Given, an_int, a_bool}
use Rattle.sail_types.specs.Shapes.{at, each_fits, fields_fit, payload_fits, fits, form_fits, form_shape, put, put_form, shape, shapes_under}
use Rattle.sail_types.specs.Shapes.{Asked as Test}
use Rattle.sail_types.specs.declared.numbers.Con.{Con}
use Rattle.sail_types.specs.declared.shapes.Shape.{Shape, Shape-F, out-Shape, roll-Shape}
use Rattle.sail_types.specs.declared.shapes.Shape.TheFolds.{fold-roll-Shape, map-Shape}
use Rattle.sail_types.specs.declared.shapes.Shape.TheOpen as S
use Rattle.sail_types.specs.declared.shapes.Shape.TheVariants as V
use Rattle.sail_types.specs.declared.shapes.Shape.TheViews.{out-roll-Shape}
use Rattle.sail_types.specs.declared.table.Field.{Field}
use Rattle.sail_types.specs.declared.table.Types.{Types}
use Rattle.sail_types.specs.declared.types.Typ.{Typ, Typ-F, roll-Typ}
use Rattle.sail_types.specs.declared.types.Typ.TheFolds.{fold-roll-Typ, para-Typ, para-roll-Typ, map-Typ, ind-Typ}
use Rattle.sail_types.specs.declared.types.Typ.TheOpen as T
use Rattle.sail_types.specs.declared.values.Value.{Value, Value-F, roll-Value}
use Rattle.sail_types.specs.declared.values.Value.TheFolds.{fold-roll-Value, para-roll-Value, map-Value, ind-Value}
use Rattle.sail_types.specs.declared.values.Value.TheOpen as W
use Rattle.sail_fits.proofs.Basics.{no, two, fronts}
use Rattle.sail_fits.specs.laws.ReadShapes.{read_shape, read_shapes}

twice : {A B C : Type 0} (f : B → C) (g : A → B) (xs : List A) → map f (map g xs) ≡ map (λ x. f (g x)) xs
twice f g [] = refl
twice f g (x ∷ xs) = ap (λ ys. f (g x) ∷ ys) (twice f g xs)

-- ---- the shape of a type, opened

opens_at : (c : ℕ → Shape) (s : Shape) (f : Shape-F Shape) → roll-Shape f ≡ s → out-Shape (put c s) ≡ out-Shape (put_form c (map-Shape Shape Shape (put c) f))
opens_at c s f e = ap (λ x. out-Shape (put c x)) (sym e) ∙ ap out-Shape (fold-roll-Shape Shape (put_form c) f)

abbrev opened : (ℕ → Shape) → Typ-F Shape → Shape-F Shape
opened c T.Unit = S.Unit
opened c T.Bool = S.Bool
opened c (T.Truth k) = S.Bool
opened c T.Bit = S.Bit
opened c (T.Bits t) = S.Bits
opened c (T.Int t) = S.Int
opened c (T.Range t u) = S.Int
opened c T.String = S.String
opened c (T.List s) = S.List (put c s)
opened c (T.Vector t s) = S.Vector (put c s)
opened c (T.Tuple ss) = S.Tuple (map (put c) ss)
opened c (T.Named i indices ss) = S.Named i (map (put c) ss)
opened c (T.Variable i) = out-Shape (c i)
opened c (T.Exists name k s) = out-Shape (put c s)

opens : (c : ℕ → Shape) (x : Typ-F Shape) → out-Shape (put c (form_shape x)) ≡ opened c x
opens c T.Unit = opens_at c V.Unit S.Unit V.rolls-Unit ∙ out-roll-Shape S.Unit
opens c T.Bool = opens_at c V.Bool S.Bool V.rolls-Bool ∙ out-roll-Shape S.Bool
opens c (T.Truth k) = opens_at c V.Bool S.Bool V.rolls-Bool ∙ out-roll-Shape S.Bool
opens c T.Bit = opens_at c V.Bit S.Bit V.rolls-Bit ∙ out-roll-Shape S.Bit
opens c (T.Bits t) = opens_at c V.Bits S.Bits V.rolls-Bits ∙ out-roll-Shape S.Bits
opens c (T.Int t) = opens_at c V.Int S.Int V.rolls-Int ∙ out-roll-Shape S.Int
opens c (T.Range t u) = opens_at c V.Int S.Int V.rolls-Int ∙ out-roll-Shape S.Int
opens c T.String = opens_at c V.String S.String V.rolls-String ∙ out-roll-Shape S.String
opens c (T.List s) = opens_at c (V.List s) (S.List s) (V.rolls-List s) ∙ out-roll-Shape (S.List (put c s))
opens c (T.Vector t s) = opens_at c (V.Vector s) (S.Vector s) (V.rolls-Vector s) ∙ out-roll-Shape (S.Vector (put c s))
opens c (T.Tuple ss) = opens_at c (V.Tuple ss) (S.Tuple ss) (V.rolls-Tuple ss) ∙ out-roll-Shape (S.Tuple (map (put c) ss))
opens c (T.Named i indices ss) = opens_at c (V.Named i ss) (S.Named i ss) (V.rolls-Named i ss) ∙ out-roll-Shape (S.Named i (map (put c) ss))
opens c (T.Variable i) = opens_at c (V.Variable i) (S.Variable i) (V.rolls-Variable i)
opens c (T.Exists name k s) = refl

module _ (types : Types) where
  abbrev Told : Value → Type 0
  Told v = (r : Reading) → belongs types v r ≡ true → fits types v (read_shape r) ≡ true

  abbrev Such : Type 0
  Such = (v : Value) × Told v

  abbrev bare : List Such → List Value
  bare ps = map (λ (p : Such). p.0) ps

  abbrev asked : List Value → List (Value × Question)
  asked vs = map (λ v. (v, belongs types v)) vs

  -- ---- parts

  each_told : (ps : List Such) (nu : Assignment) (rs : Readings) (ts : List Typ) → each_belongs (asked (bare ps)) nu rs ts ≡ true
      → each_fits (map (fits types) (bare ps)) (shapes_under (read_shapes rs) ts) ≡ true
  each_told [] nu rs [] h = refl
  each_told [] nu rs (t ∷ ts) h = no h
  each_told (p ∷ ps) nu rs [] h = no h
  each_told (p ∷ ps) nu rs (t ∷ ts) h =
      let k = and_parts (belongs types p.0 (reading t nu rs)) (each_belongs (asked (bare ps)) nu rs ts) h in
      two (fits types p.0 (put (at (read_shapes rs)) (shape t))) (each_fits (map (fits types) (bare ps)) (shapes_under (read_shapes rs) ts))
      (p.1 (reading t nu rs) k.0) (each_told ps nu rs ts k.1)

  all_told : (ps : List Such) (r : Reading) → all_belong (asked (bare ps)) r ≡ true
      → list_all (λ (f : Test). f (read_shape r)) (map (fits types) (bare ps)) ≡ true
  all_told [] r h = refl
  all_told (p ∷ ps) r h =
      let k = and_parts (belongs types p.0 r) (all_belong (asked (bare ps)) r) h in
      two (fits types p.0 (read_shape r)) (list_all (λ (f : Test). f (read_shape r)) (map (fits types) (bare ps)))
      (p.1 r k.0) (all_told ps r k.1)

  read_are : (nu : Assignment) (rs : Readings) (ts : List Typ) → read_shapes (read_each nu rs ts) ≡ shapes_under (read_shapes rs) ts
  read_are nu rs [] = refl
  read_are nu rs (t ∷ ts) = ap (λ ss. put (at (read_shapes rs)) (shape t) ∷ ss) (read_are nu rs ts)

  fields_told : (ps : List Such) (nu : Assignment) (rs : Readings) (fs : Option (List Field)) → fields_belong (asked (bare ps)) nu rs fs ≡ true
      → fields_fit (map (fits types) (bare ps)) (read_shapes rs) fs ≡ true
  fields_told ps nu rs None h = no h
  fields_told ps nu rs (Some fs) h = each_told ps nu rs (field_types fs) h

  payload_told : (p : Such) (nu : Assignment) (rs : Readings) (t : Option Typ) → payload_belongs (belongs types p.0) nu rs t ≡ true
      → payload_fits (fits types p.0) (read_shapes rs) t ≡ true
  payload_told p nu rs None h = no h
  payload_told p nu rs (Some t) h = p.1 (reading t nu rs) h

  given_told : (given : Option Given) (nu : Assignment) (k : Con) (t : Inner) → given_belongs given nu k t ≡ true → (mu : Assignment) × (t mu ≡ true)
  given_told None nu k t h = no h
  given_told (Some (a_bool b)) nu k t h = no h
  given_told (Some (an_int z)) nu k t h = (under z nu, (and_parts (true_in (under z nu) k) (t (under z nu)) h).1)

  -- ---- a value whose parts are told of

  abbrev form : Value-F Such → Value-F Value
  form y = map-Value Such Value (λ p. p.0) y

  abbrev questions : Value-F Such → Value-F (Value × Question)
  questions y = map-Value Value (Value × Question) (λ v. (v, belongs types v)) (form y)

  abbrev tests : Value-F Such → Value-F Test
  tests y = map-Value Value Test (fits types) (form y)

  abbrev inner : Value-F Such → Readings → Typ → Inner
  inner y rs = para-Typ Inner (form_belongs types (questions y) rs (answers_to types (questions y) rs))

  -- what the type's variables stand for is told of
  abbrev Covers : Value-F Such → Readings → Type 0
  Covers y rs = (i : ℕ) → slice_index_or (answers_to types (questions y) rs) i false ≡ true
      → form_fits types (tests y) (out-Shape (at (read_shapes rs) i)) ≡ true

  abbrev Shaped : Value-F Such → Readings → Typ → Type 0
  Shaped y rs t = (nu : Assignment) → inner y rs t nu ≡ true → form_fits types (tests y) (out-Shape (put (at (read_shapes rs)) (shape t))) ≡ true

  abbrev Shapely : Value-F Such → Readings → Type 0
  Shapely y rs = (t : Typ) × Shaped y rs t

  abbrev typ_form : (y : Value-F Such) (rs : Readings) → Typ-F (Shapely y rs) → Typ-F Typ
  typ_form y rs z = map-Typ (Shapely y rs) Typ (λ p. p.0) z

  abbrev types_of : (y : Value-F Such) (rs : Readings) → List (Shapely y rs) → List Typ
  types_of y rs zs = map (λ (p : Shapely y rs). p.0) zs

  abbrev inners : Value-F Such → Readings → List Typ → List (Typ × Inner)
  inners y rs ts = map (λ t. (t, inner y rs t)) ts

  under_is : (rs : Readings) (ts : List Typ) → shapes_under (read_shapes rs) ts ≡ map (put (at (read_shapes rs))) (map shape ts)
  under_is rs ts = sym (twice (put (at (read_shapes rs))) shape ts)

  named_is : (nu : Assignment) (rs : Readings) (ts : List Typ) → read_shapes (read_each nu rs ts) ≡ map (put (at (read_shapes rs))) (map shape ts)
  named_is nu rs ts = read_are nu rs ts ∙ under_is rs ts

  struct_told : (y : Value-F Such) (rs : Readings) (ps : List Such) (nu mu : Assignment) (ts : List Typ) (fs : Option (List Field))
      → fields_belong (asked (bare ps)) mu (read_each nu rs (inner_types (inners y rs ts))) fs ≡ true
      → fields_fit (map (fits types) (bare ps)) (map (put (at (read_shapes rs))) (map shape ts)) fs ≡ true
  struct_told y rs ps nu mu ts fs h =
      subst (λ ss. fields_fit (map (fits types) (bare ps)) ss fs ≡ true) (named_is nu rs ts)
      (fields_told ps mu (read_each nu rs ts) fs
      (subst (λ us. fields_belong (asked (bare ps)) mu (read_each nu rs us) fs ≡ true) (fronts (inner y rs) ts) h))

  union_told : (y : Value-F Such) (rs : Readings) (p : Such) (nu mu : Assignment) (ts : List Typ) (t : Option Typ)
      → payload_belongs (belongs types p.0) mu (read_each nu rs (inner_types (inners y rs ts))) t ≡ true
      → payload_fits (fits types p.0) (map (put (at (read_shapes rs))) (map shape ts)) t ≡ true
  union_told y rs p nu mu ts t h =
      subst (λ ss. payload_fits (fits types p.0) ss t ≡ true) (named_is nu rs ts)
      (payload_told p mu (read_each nu rs ts) t
      (subst (λ us. payload_belongs (belongs types p.0) mu (read_each nu rs us) t ≡ true) (fronts (inner y rs) ts) h))

  tuple_told : (y : Value-F Such) (rs : Readings) (ps : List Such) (nu : Assignment) (ts : List Typ)
      → each_belongs (asked (bare ps)) nu rs (inner_types (inners y rs ts)) ≡ true
      → each_fits (map (fits types) (bare ps)) (map (put (at (read_shapes rs))) (map shape ts)) ≡ true
  tuple_told y rs ps nu ts h =
      subst (λ ss. each_fits (map (fits types) (bare ps)) ss ≡ true) (under_is rs ts)
      (each_told ps nu rs ts (subst (λ us. each_belongs (asked (bare ps)) nu rs us ≡ true) (fronts (inner y rs) ts) h))

  form_told : (y : Value-F Such) (rs : Readings) → Covers y rs → (z : Typ-F (Shapely y rs)) (nu : Assignment)
      → form_belongs types (questions y) rs (answers_to types (questions y) rs) (map-Typ Typ (Typ × Inner) (λ t. (t, inner y rs t)) (typ_form y rs z)) nu ≡ true
      → form_fits types (tests y) (opened (at (read_shapes rs)) (map-Typ Typ Shape shape (typ_form y rs z))) ≡ true
  form_told y rs covers (T.Variable i) nu h = covers i h
  form_told y rs covers (T.Exists name k z) nu h = let m = given_told _ nu k (inner y rs z.0) h in z.1 m.0 m.1
  form_told W.Unit rs covers T.Unit nu h = refl
  form_told (W.Truth b) rs covers T.Bool nu h = refl
  form_told (W.Truth b) rs covers (T.Truth k) nu h = refl
  form_told (W.Bit b) rs covers T.Bit nu h = refl
  form_told (W.Bits bits) rs covers (T.Bits t) nu h = refl
  form_told (W.Integer n) rs covers (T.Int t) nu h = refl
  form_told (W.Integer n) rs covers (T.Range t u) nu h = refl
  form_told (W.String text) rs covers T.String nu h = refl
  form_told (W.List ps) rs covers (T.List z) nu h = all_told ps (reading z.0 nu rs) h
  form_told (W.Vector ps) rs covers (T.Vector n z) nu h = all_told ps (reading z.0 nu rs) (and_parts _ _ h).1
  form_told (W.Tuple ps) rs covers (T.Tuple zs) nu h = tuple_told (W.Tuple ps) rs ps nu (types_of (W.Tuple ps) rs zs) h
  form_told (W.Member i k) rs covers (T.Named j indices zs) nu h = h
  form_told (W.Struct i ps) rs covers (T.Named j indices zs) nu h =
      let k = and_parts (nat_eq i j) _ h in
      two (nat_eq i j) _ k.0
      (struct_told (W.Struct i ps) rs ps nu (assigned nu indices) (types_of (W.Struct i ps) rs zs) (fields types i) k.1)
  form_told (W.Union i n p) rs covers (T.Named j indices zs) nu h =
      let k = and_parts (nat_eq i j) _ h in
      two (nat_eq i j) _ k.0
      (union_told (W.Union i n p) rs p nu (assigned nu indices) (types_of (W.Union i n p) rs zs) (payload types i n) k.1)
  form_told y rs covers z nu h = no h

  typ_told : (y : Value-F Such) (rs : Readings) → Covers y rs → (z : Typ-F (Shapely y rs)) → Shaped y rs (roll-Typ (typ_form y rs z))
  typ_told y rs covers z nu h =
      let x = typ_form y rs z in
      ap (λ s. form_fits types (tests y) (out-Shape (put (at (read_shapes rs)) s))) (fold-roll-Typ Shape form_shape x)
      ∙ ap (form_fits types (tests y)) (opens (at (read_shapes rs)) (map-Typ Typ Shape shape x))
      ∙ form_told y rs covers z nu
      (sym (ap (λ f. f nu) (para-roll-Typ Inner (form_belongs types (questions y) rs (answers_to types (questions y) rs)) x)) ∙ h)

  shaped : (y : Value-F Such) (rs : Readings) → Covers y rs → (t : Typ) → Shaped y rs t
  shaped y rs covers = ind-Typ (Shaped y rs) (λ e z is. subst (λ d. Shaped y rs (roll-Typ d)) is (typ_told y rs covers z))

  mutual
    of_reading : (y : Value-F Such) (r : Reading) → form_belongs_to types (questions y) r ≡ true → form_fits types (tests y) (out-Shape (read_shape r)) ≡ true
    of_reading y (reading t nu rs) h = shaped y rs (of_readings y rs) t nu h

    of_readings : (y : Value-F Such) (rs : Readings) → Covers y rs
    of_readings y no_readings i h = no h
    of_readings y (more_readings r rs) zero h = of_reading y r h
    of_readings y (more_readings r rs) (suc i) h = of_readings y rs i h

  rolled : (y : Value-F Such) → Told (roll-Value (form y))
  rolled y r h =
      ap (λ f. f (read_shape r)) (fold-roll-Value Test (λ v s. form_fits types v (out-Shape s)) (form y))
      ∙ of_reading y r (sym (ap (λ f. f r) (para-roll-Value Question (form_belongs_to types) (form y))) ∙ h)

  pub belonging_fits : (v : Value) → Told v
  belonging_fits = ind-Value Told (λ e y is. subst (λ d. Told (roll-Value d)) is (rolled y))
