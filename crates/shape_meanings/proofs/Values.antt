-- Values and the order of shapes: a value of a shape is one of the shape with its open parts filled, and shapes of one value may share values.
use Rattle.std.proofs.Common.{◌≡◌, ℕ, List, [], ◌∷◌, map, ap, sym, ◌∙◌, refl, subst, true, Option, Some, None, nat_eq}
use Rattle.std.proofs.lemmas.Bool.{and_parts}
use Rattle.std.specs.List.{list_all}
use Rattle.sail_types.specs.Named.{fields, field_types, payload}
use Rattle.sail_types.specs.Shapes.{at, each_fits, fields_fit, payload_fits, fits, form_fits, put, put_form, shape, shapes_under}
use Rattle.sail_types.specs.Shapes.{Asked as Test}
use Rattle.sail_types.specs.declared.shapes.Shape.{Shape, Shape-F, out-Shape}
use Rattle.sail_types.specs.declared.shapes.Shape.TheFolds.{map-Shape}
use Rattle.sail_types.specs.declared.shapes.Shape.TheOpen as S
use Rattle.sail_types.specs.declared.shapes.Shape.TheViews.{out-roll-Shape, roll-out-Shape}
use Rattle.sail_types.specs.declared.table.Field.{Field}
use Rattle.sail_types.specs.declared.table.Types.{Types}
use Rattle.sail_types.specs.declared.types.Typ.{Typ}
use Rattle.sail_types.specs.declared.values.Value.{Value, Value-F, roll-Value}
use Rattle.sail_types.specs.declared.values.Value.TheFolds.{fold-roll-Value, map-Value, ind-Value}
use Rattle.sail_types.specs.declared.values.Value.TheOpen as W
use Rattle.shape_joins.specs.Filling.{fills, fill_form, fill_all}
use Rattle.shape_joins.proofs.Order.{no, two, equal, tests, at_forms}
use Rattle.shape_meanings.proofs.Orders.{at_below, put_more, put_args, puts}

-- ---- the outermost form of a shape with its variables' shapes in their place

abbrev pub opened_at : (ℕ → Shape) → Shape-F Shape → Shape-F Shape
opened_at c (S.List s) = S.List (put c s)
opened_at c (S.Vector s) = S.Vector (put c s)
opened_at c (S.Tuple ss) = S.Tuple (map (put c) ss)
opened_at c (S.Named i ss) = S.Named i (map (put c) ss)
opened_at c (S.Variable i) = out-Shape (c i)
opened_at c x = x

opens_at : (c : ℕ → Shape) (x : Shape-F Shape) → out-Shape (put_form c (map-Shape Shape Shape (put c) x)) ≡ opened_at c x
opens_at c (S.List s) = out-roll-Shape (S.List (put c s))
opens_at c (S.Vector s) = out-roll-Shape (S.Vector (put c s))
opens_at c (S.Tuple ss) = out-roll-Shape (S.Tuple (map (put c) ss))
opens_at c (S.Named i ss) = out-roll-Shape (S.Named i (map (put c) ss))
opens_at c (S.Variable i) = refl
opens_at c S.Unit = out-roll-Shape S.Unit
opens_at c S.Bool = out-roll-Shape S.Bool
opens_at c S.Bit = out-roll-Shape S.Bit
opens_at c S.Bits = out-roll-Shape S.Bits
opens_at c S.Int = out-roll-Shape S.Int
opens_at c S.String = out-roll-Shape S.String
opens_at c S.Hole = out-roll-Shape S.Hole
opens_at c S.Never = out-roll-Shape S.Never

pub out_put : (c : ℕ → Shape) (s : Shape) → out-Shape (put c s) ≡ opened_at c (out-Shape s)
out_put c s = ap (λ t. out-Shape (put c t)) (sym (roll-out-Shape s)) ∙ ap out-Shape (puts c (out-Shape s)) ∙ opens_at c (out-Shape s)

-- what fits is, at forms
pub fits_form : (types : Types) (x : Value-F Value) (s : Shape)
    → fits types (roll-Value x) s ≡ form_fits types (map-Value Value Test (fits types) x) (out-Shape s)
fits_form types x s = ap (λ f. f s) (fold-roll-Value Test (λ v r. form_fits types v (out-Shape r)) x)

-- ---- wider shapes

module _ (types : Types) where
  abbrev Widens : Value → Type 0
  Widens v = (c : ℕ → Shape) (s t : Shape) → fills s t ≡ true → fits types v (put c s) ≡ true → fits types v (put c t) ≡ true

  abbrev Such : Type 0
  Such = (v : Value) × Widens v

  abbrev tests_of : List Such → List Test
  tests_of ps = map (fits types) (map (λ (p : Such). p.0) ps)

  each_widens : (ps : List Such) (c : ℕ → Shape) (ss ts : List Shape) → fill_all ss ts ≡ true → each_fits (tests_of ps) (map (put c) ss) ≡ true
      → each_fits (tests_of ps) (map (put c) ts) ≡ true
  each_widens [] c [] [] h k = refl
  each_widens [] c [] (t ∷ ts) h k = no h
  each_widens [] c (s ∷ ss) ts h k = no k
  each_widens (p ∷ ps) c [] ts h k = no k
  each_widens (p ∷ ps) c (s ∷ ss) [] h k = no h
  each_widens (p ∷ ps) c (s ∷ ss) (t ∷ ts) h k =
      let h2 = and_parts (fills s t) (fill_all ss ts) h in
      let k2 = and_parts (fits types p.0 (put c s)) (each_fits (tests_of ps) (map (put c) ss)) k in
      two (fits types p.0 (put c t)) (each_fits (tests_of ps) (map (put c) ts)) (p.1 c s t h2.0 k2.0) (each_widens ps c ss ts h2.1 k2.1)

  all_widen : (ps : List Such) (c : ℕ → Shape) (s t : Shape) → fills s t ≡ true → list_all (λ (f : Test). f (put c s)) (tests_of ps) ≡ true
      → list_all (λ (f : Test). f (put c t)) (tests_of ps) ≡ true
  all_widen [] c s t h k = refl
  all_widen (p ∷ ps) c s t h k =
      let k2 = and_parts (fits types p.0 (put c s)) (list_all (λ (f : Test). f (put c s)) (tests_of ps)) k in
      two (fits types p.0 (put c t)) (list_all (λ (f : Test). f (put c t)) (tests_of ps)) (p.1 c s t h k2.0) (all_widen ps c s t h k2.1)

  -- shapes of types over arguments
  under_args : (ts : List Typ) (c : ℕ → Shape) (ss : List Shape) → shapes_under (map (put c) ss) ts ≡ map (put c) (shapes_under ss ts)
  under_args [] c ss = refl
  under_args (t ∷ ts) c ss = λ i. put_args (shape t) c ss i ∷ under_args ts c ss i

  under_more : (ts : List Typ) (ss us : List Shape) → fill_all ss us ≡ true → fill_all (shapes_under ss ts) (shapes_under us ts) ≡ true
  under_more [] ss us h = refl
  under_more (t ∷ ts) ss us h =
      two (fills (put (at ss) (shape t)) (put (at us) (shape t))) (fill_all (shapes_under ss ts) (shapes_under us ts))
      (put_more (shape t) (at ss) (at us) (at_below ss us h)) (under_more ts ss us h)

  fields_widen : (ps : List Such) (c : ℕ → Shape) (ss us : List Shape) (fs : Option (List Field)) → fill_all ss us ≡ true
      → fields_fit (tests_of ps) (map (put c) ss) fs ≡ true → fields_fit (tests_of ps) (map (put c) us) fs ≡ true
  fields_widen ps c ss us None h k = no k
  fields_widen ps c ss us (Some fs) h k =
      subst (λ xs. each_fits (tests_of ps) xs ≡ true) (sym (under_args (field_types fs) c us))
      (each_widens ps c (shapes_under ss (field_types fs)) (shapes_under us (field_types fs)) (under_more (field_types fs) ss us h)
      (subst (λ xs. each_fits (tests_of ps) xs ≡ true) (under_args (field_types fs) c ss) k))

  payload_widens : (p : Such) (c : ℕ → Shape) (ss us : List Shape) (t : Option Typ) → fill_all ss us ≡ true
      → payload_fits (fits types p.0) (map (put c) ss) t ≡ true → payload_fits (fits types p.0) (map (put c) us) t ≡ true
  payload_widens p c ss us None h k = no k
  payload_widens p c ss us (Some t) h k =
      subst (λ x. fits types p.0 x ≡ true) (sym (put_args (shape t) c us))
      (p.1 c (put (at ss) (shape t)) (put (at us) (shape t)) (put_more (shape t) (at ss) (at us) (at_below ss us h))
      (subst (λ x. fits types p.0 x ≡ true) (put_args (shape t) c ss) k))

  abbrev form : Value-F Such → Value-F Value
  form y = map-Value Such Value (λ p. p.0) y

  abbrev asked : Value-F Such → Value-F Test
  asked y = map-Value Value Test (fits types) (form y)

  form_widens : (y : Value-F Such) (c : ℕ → Shape) (x z : Shape-F Shape) → fill_form (tests x) z ≡ true
      → form_fits types (asked y) (opened_at c x) ≡ true → form_fits types (asked y) (opened_at c z) ≡ true
  form_widens y c (S.Variable i) (S.Variable j) h k = subst (λ l. form_fits types (asked y) (out-Shape (c l)) ≡ true) (equal i j h) k
  form_widens y c S.Hole z h k = no k
  form_widens y c S.Never z h k = no k
  form_widens y c S.Unit S.Unit h k = k
  form_widens y c S.Bool S.Bool h k = k
  form_widens y c S.Bit S.Bit h k = k
  form_widens y c S.Bits S.Bits h k = k
  form_widens y c S.Int S.Int h k = k
  form_widens y c S.String S.String h k = k
  form_widens (W.Member i n) c (S.Named j ss) (S.Named l us) h k =
      subst (λ m. form_fits types (W.Member i n) (S.Named m []) ≡ true) (equal j l (and_parts (nat_eq j l) (fill_all ss us) h).0) k
  form_widens (W.Tuple ps) c (S.Tuple ss) (S.Tuple us) h k = each_widens ps c ss us h k
  form_widens (W.Struct i ps) c (S.Named j ss) (S.Named l us) h k =
      let h2 = and_parts (nat_eq j l) (fill_all ss us) h in
      let k2 = and_parts (nat_eq i j) (fields_fit (tests_of ps) (map (put c) ss) (fields types i)) k in
      two (nat_eq i l) (fields_fit (tests_of ps) (map (put c) us) (fields types i)) (subst (λ m. nat_eq i m ≡ true) (equal j l h2.0) k2.0)
      (fields_widen ps c ss us (fields types i) h2.1 k2.1)
  form_widens (W.Union i n p) c (S.Named j ss) (S.Named l us) h k =
      let h2 = and_parts (nat_eq j l) (fill_all ss us) h in
      let k2 = and_parts (nat_eq i j) (payload_fits (fits types p.0) (map (put c) ss) (payload types i n)) k in
      two (nat_eq i l) (payload_fits (fits types p.0) (map (put c) us) (payload types i n)) (subst (λ m. nat_eq i m ≡ true) (equal j l h2.0) k2.0)
      (payload_widens p c ss us (payload types i n) h2.1 k2.1)
  form_widens (W.List ps) c (S.List s) (S.List t) h k = all_widen ps c s t h k
  form_widens (W.Vector ps) c (S.Vector s) (S.Vector t) h k = all_widen ps c s t h k
  form_widens y c (S.Variable i) z h k = no h
  form_widens y c S.Unit z h k = no h
  form_widens y c S.Bool z h k = no h
  form_widens y c S.Bit z h k = no h
  form_widens y c S.Bits z h k = no h
  form_widens y c S.Int z h k = no h
  form_widens y c S.String z h k = no h
  form_widens (W.Member i n) c (S.Named j ss) z h k = no h
  form_widens (W.Tuple ps) c (S.Tuple ss) z h k = no h
  form_widens (W.Struct i ps) c (S.Named j ss) z h k = no h
  form_widens (W.Union i n p) c (S.Named j ss) z h k = no h
  form_widens (W.List ps) c (S.List s) z h k = no h
  form_widens (W.Vector ps) c (S.Vector s) z h k = no h
  form_widens y c x z h k = no k

  rolled_widens : (y : Value-F Such) → Widens (roll-Value (form y))
  rolled_widens y c s t h k =
      fits_form types (form y) (put c t) ∙ ap (form_fits types (asked y)) (out_put c t)
      ∙ form_widens y c (out-Shape s) (out-Shape t) (sym (at_forms s t) ∙ h)
      (sym (fits_form types (form y) (put c s) ∙ ap (form_fits types (asked y)) (out_put c s)) ∙ k)

  pub widens : (v : Value) → Widens v
  widens = ind-Value Widens (λ e y is. subst (λ d. Widens (roll-Value d)) is (rolled_widens y))

-- several values at once
pub all_widened : (types : Types) (vs : List Value) (c : ℕ → Shape) (ss ts : List Shape) → fill_all ss ts ≡ true
    → each_fits (map (fits types) vs) (map (put c) ss) ≡ true → each_fits (map (fits types) vs) (map (put c) ts) ≡ true
all_widened types [] c [] [] h k = refl
all_widened types [] c [] (t ∷ ts) h k = no h
all_widened types [] c (s ∷ ss) ts h k = no k
all_widened types (v ∷ vs) c [] ts h k = no k
all_widened types (v ∷ vs) c (s ∷ ss) [] h k = no h
all_widened types (v ∷ vs) c (s ∷ ss) (t ∷ ts) h k =
    let h2 = and_parts (fills s t) (fill_all ss ts) h in
    let k2 = and_parts (fits types v (put c s)) (each_fits (map (fits types) vs) (map (put c) ss)) k in
    two (fits types v (put c t)) (each_fits (map (fits types) vs) (map (put c) ts)) (widens types v c s t h2.0 k2.0) (all_widened types vs c ss ts h2.1 k2.1)
