-- What has a shape with its variables filled has the shape itself, since a variable fits all: an induction on the value.
use Rattle.std.proofs.Common.{◌≡◌, ℕ, zero, suc, List, [], ◌∷◌, map, ap, sym, ◌∙◌, refl, subst, true, Option, Some, None, nat_eq}
use Rattle.std.proofs.lemmas.Bool.{and_parts}
use Rattle.std.specs.List.{list_all}
use Rattle.sail_types.specs.Named.{fields, field_types, payload}
use Rattle.sail_types.specs.Shapes.{at, each_fits, fields_fit, payload_fits, fits, form_fits, put, put_form, shape, shapes_under}
use Rattle.sail_types.specs.Shapes.{Asked as Test}
use Rattle.sail_types.specs.declared.shapes.Shape.{Shape, Shape-F, out-Shape, roll-Shape}
use Rattle.sail_types.specs.declared.shapes.Shape.TheFolds.{fold-roll-Shape, map-Shape, ind-Shape}
use Rattle.sail_types.specs.declared.shapes.Shape.TheOpen as S
use Rattle.sail_types.specs.declared.shapes.Shape.TheVariants as V
use Rattle.sail_types.specs.declared.shapes.Shape.TheViews.{out-roll-Shape, roll-out-Shape}
use Rattle.sail_types.specs.declared.table.Field.{Field}
use Rattle.sail_types.specs.declared.table.Types.{Types}
use Rattle.sail_types.specs.declared.types.Typ.{Typ}
use Rattle.sail_types.specs.declared.values.Value.{Value, Value-F, roll-Value}
use Rattle.sail_types.specs.declared.values.Value.TheFolds.{fold-roll-Value, map-Value, ind-Value}
use Rattle.sail_types.specs.declared.values.Value.TheOpen as W
use Rattle.sail_fits.proofs.Basics.{no, two}

-- ---- filling twice

put_hole : (c : ℕ → Shape) → put c V.Hole ≡ V.Hole
put_hole c = ap (put c) (sym V.rolls-Hole) ∙ fold-roll-Shape Shape (put_form c) S.Hole ∙ V.rolls-Hole

at_put : (c : ℕ → Shape) (ss : List Shape) (i : ℕ) → at (map (put c) ss) i ≡ put c (at ss i)
at_put c [] i = sym (put_hole c)
at_put c (s ∷ ss) zero = refl
at_put c (s ∷ ss) (suc i) = at_put c ss i

module _ (c : ℕ → Shape) (ss : List Shape) where
  abbrev Twice : Shape → Type 0
  Twice s = put (at (map (put c) ss)) s ≡ put c (put (at ss) s)

  abbrev SuchShape : Type 0
  SuchShape = (s : Shape) × Twice s

  abbrev shapes_of : List SuchShape → List Shape
  shapes_of ys = map (λ (p : SuchShape). p.0) ys

  first : (f : Shape-F Shape) → put (at (map (put c) ss)) (roll-Shape f) ≡ put_form (at (map (put c) ss)) (map-Shape Shape Shape (put (at (map (put c) ss))) f)
  first f = fold-roll-Shape Shape (put_form (at (map (put c) ss))) f

  second : (f : Shape-F Shape) → put c (put (at ss) (roll-Shape f)) ≡ put c (put_form (at ss) (map-Shape Shape Shape (put (at ss)) f))
  second f = ap (put c) (fold-roll-Shape Shape (put_form (at ss)) f)

  third : (g : Shape-F Shape) → put c (roll-Shape g) ≡ put_form c (map-Shape Shape Shape (put c) g)
  third g = fold-roll-Shape Shape (put_form c) g

  each_twice : (ys : List SuchShape) → map (put (at (map (put c) ss))) (shapes_of ys) ≡ map (put c) (map (put (at ss)) (shapes_of ys))
  each_twice [] = refl
  each_twice (y ∷ ys) = λ i. y.1 i ∷ each_twice ys i

  form_twice : (y : Shape-F SuchShape) → Twice (roll-Shape (map-Shape SuchShape Shape (λ p. p.0) y))
  form_twice S.Unit = first S.Unit ∙ sym (second S.Unit ∙ third S.Unit)
  form_twice S.Bool = first S.Bool ∙ sym (second S.Bool ∙ third S.Bool)
  form_twice S.Bit = first S.Bit ∙ sym (second S.Bit ∙ third S.Bit)
  form_twice S.Bits = first S.Bits ∙ sym (second S.Bits ∙ third S.Bits)
  form_twice S.Int = first S.Int ∙ sym (second S.Int ∙ third S.Int)
  form_twice S.String = first S.String ∙ sym (second S.String ∙ third S.String)
  form_twice (S.List y) =
      first (S.List y.0) ∙ ap (λ s. roll-Shape (S.List s)) y.1 ∙ sym (second (S.List y.0) ∙ third (S.List (put (at ss) y.0)))
  form_twice (S.Vector y) =
      first (S.Vector y.0) ∙ ap (λ s. roll-Shape (S.Vector s)) y.1 ∙ sym (second (S.Vector y.0) ∙ third (S.Vector (put (at ss) y.0)))
  form_twice (S.Tuple ys) =
      first (S.Tuple (shapes_of ys)) ∙ ap (λ s. roll-Shape (S.Tuple s)) (each_twice ys)
      ∙ sym (second (S.Tuple (shapes_of ys)) ∙ third (S.Tuple (map (put (at ss)) (shapes_of ys))))
  form_twice (S.Named i ys) =
      first (S.Named i (shapes_of ys)) ∙ ap (λ s. roll-Shape (S.Named i s)) (each_twice ys)
      ∙ sym (second (S.Named i (shapes_of ys)) ∙ third (S.Named i (map (put (at ss)) (shapes_of ys))))
  form_twice (S.Variable i) = first (S.Variable i) ∙ at_put c ss i ∙ sym (second (S.Variable i))
  form_twice S.Hole = first S.Hole ∙ sym (second S.Hole ∙ third S.Hole)
  form_twice S.Never = first S.Never ∙ sym (second S.Never ∙ third S.Never)

  twice : (s : Shape) → Twice s
  twice = ind-Shape Twice (λ e y is. subst (λ d. Twice (roll-Shape d)) is (form_twice y))

  under_twice : (ts : List Typ) → shapes_under (map (put c) ss) ts ≡ map (put c) (shapes_under ss ts)
  under_twice [] = refl
  under_twice (t ∷ ts) = λ i. twice (shape t) i ∷ under_twice ts i

-- ---- the outermost form

abbrev opened : (ℕ → Shape) → Shape-F Shape → Shape-F Shape
opened c (S.List s) = S.List (put c s)
opened c (S.Vector s) = S.Vector (put c s)
opened c (S.Tuple ss) = S.Tuple (map (put c) ss)
opened c (S.Named i ss) = S.Named i (map (put c) ss)
opened c (S.Variable i) = out-Shape (c i)
opened c x = x

opens : (c : ℕ → Shape) (x : Shape-F Shape) → out-Shape (put_form c (map-Shape Shape Shape (put c) x)) ≡ opened c x
opens c (S.List s) = out-roll-Shape (S.List (put c s))
opens c (S.Vector s) = out-roll-Shape (S.Vector (put c s))
opens c (S.Tuple ss) = out-roll-Shape (S.Tuple (map (put c) ss))
opens c (S.Named i ss) = out-roll-Shape (S.Named i (map (put c) ss))
opens c (S.Variable i) = refl
opens c S.Unit = out-roll-Shape S.Unit
opens c S.Bool = out-roll-Shape S.Bool
opens c S.Bit = out-roll-Shape S.Bit
opens c S.Bits = out-roll-Shape S.Bits
opens c S.Int = out-roll-Shape S.Int
opens c S.String = out-roll-Shape S.String
opens c S.Hole = out-roll-Shape S.Hole
opens c S.Never = out-roll-Shape S.Never

out_put : (c : ℕ → Shape) (s : Shape) → out-Shape (put c s) ≡ opened c (out-Shape s)
out_put c s =
    ap (λ t. out-Shape (put c t)) (sym (roll-out-Shape s)) ∙ ap out-Shape (fold-roll-Shape Shape (put_form c) (out-Shape s)) ∙ opens c (out-Shape s)

-- ---- values

module _ (types : Types) where
  abbrev Told : Value → Type 0
  Told v = (c : ℕ → Shape) (s : Shape) → fits types v (put c s) ≡ true → fits types v s ≡ true

  abbrev Such : Type 0
  Such = (v : Value) × Told v

  abbrev tests_of : List Such → List Test
  tests_of ps = map (fits types) (map (λ (p : Such). p.0) ps)

  each_told : (ps : List Such) (c : ℕ → Shape) (ss : List Shape) → each_fits (tests_of ps) (map (put c) ss) ≡ true → each_fits (tests_of ps) ss ≡ true
  each_told [] c [] h = refl
  each_told [] c (s ∷ ss) h = no h
  each_told (p ∷ ps) c [] h = no h
  each_told (p ∷ ps) c (s ∷ ss) h =
      let k = and_parts (fits types p.0 (put c s)) (each_fits (tests_of ps) (map (put c) ss)) h in
      two (fits types p.0 s) (each_fits (tests_of ps) ss) (p.1 c s k.0) (each_told ps c ss k.1)

  all_told : (ps : List Such) (c : ℕ → Shape) (s : Shape) → list_all (λ (f : Test). f (put c s)) (tests_of ps) ≡ true
      → list_all (λ (f : Test). f s) (tests_of ps) ≡ true
  all_told [] c s h = refl
  all_told (p ∷ ps) c s h =
      let k = and_parts (fits types p.0 (put c s)) (list_all (λ (f : Test). f (put c s)) (tests_of ps)) h in
      two (fits types p.0 s) (list_all (λ (f : Test). f s) (tests_of ps)) (p.1 c s k.0) (all_told ps c s k.1)

  fields_told : (ps : List Such) (c : ℕ → Shape) (ss : List Shape) (fs : Option (List Field)) → fields_fit (tests_of ps) (map (put c) ss) fs ≡ true
      → fields_fit (tests_of ps) ss fs ≡ true
  fields_told ps c ss None h = no h
  fields_told ps c ss (Some fs) h =
      each_told ps c (shapes_under ss (field_types fs)) (subst (λ us. each_fits (tests_of ps) us ≡ true) (under_twice c ss (field_types fs)) h)

  payload_told : (p : Such) (c : ℕ → Shape) (ss : List Shape) (t : Option Typ) → payload_fits (fits types p.0) (map (put c) ss) t ≡ true
      → payload_fits (fits types p.0) ss t ≡ true
  payload_told p c ss None h = no h
  payload_told p c ss (Some t) h = p.1 c (put (at ss) (shape t)) (subst (λ s. fits types p.0 s ≡ true) (twice c ss (shape t)) h)

  abbrev form : Value-F Such → Value-F Value
  form y = map-Value Such Value (λ p. p.0) y

  abbrev tests : Value-F Such → Value-F Test
  tests y = map-Value Value Test (fits types) (form y)

  form_told : (y : Value-F Such) (c : ℕ → Shape) (x : Shape-F Shape) → form_fits types (tests y) (opened c x) ≡ true → form_fits types (tests y) x ≡ true
  form_told y c (S.Variable i) h = refl
  form_told W.Unit c S.Unit h = refl
  form_told (W.Integer n) c S.Int h = refl
  form_told (W.Truth b) c S.Bool h = refl
  form_told (W.Bit b) c S.Bit h = refl
  form_told (W.Bits bits) c S.Bits h = refl
  form_told (W.String text) c S.String h = refl
  form_told (W.Member i k) c (S.Named j ss) h = h
  form_told (W.Tuple ps) c (S.Tuple ss) h = each_told ps c ss h
  form_told (W.Struct i ps) c (S.Named j ss) h =
      let k = and_parts (nat_eq i j) (fields_fit (tests_of ps) (map (put c) ss) (fields types i)) h in
      two (nat_eq i j) (fields_fit (tests_of ps) ss (fields types i)) k.0 (fields_told ps c ss (fields types i) k.1)
  form_told (W.Union i n p) c (S.Named j ss) h =
      let k = and_parts (nat_eq i j) (payload_fits (fits types p.0) (map (put c) ss) (payload types i n)) h in
      two (nat_eq i j) (payload_fits (fits types p.0) ss (payload types i n)) k.0 (payload_told p c ss (payload types i n) k.1)
  form_told (W.List ps) c (S.List s) h = all_told ps c s h
  form_told (W.Vector ps) c (S.Vector s) h = all_told ps c s h
  form_told y c x h = no h

  rolled : (y : Value-F Such) → Told (roll-Value (form y))
  rolled y c s h =
      let opening = λ (t : Shape). ap (λ f. f t) (fold-roll-Value Test (λ v r. form_fits types v (out-Shape r)) (form y)) in
      opening s ∙ form_told y c (out-Shape s) (sym (opening (put c s) ∙ ap (form_fits types (tests y)) (out_put c s)) ∙ h)

  pub filled_fits : (v : Value) → Told v
  filled_fits = ind-Value Told (λ e y is. subst (λ d. Told (roll-Value d)) is (rolled y))
