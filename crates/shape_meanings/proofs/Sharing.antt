-- A value of a shape has it where its variables fit all, and shapes of one value may share values: inductions on the value.
use Rattle.std.proofs.Common.{◌≡◌, ℕ, List, [], ◌∷◌, map, ap, sym, ◌∙◌, refl, subst, Bool, true, Option, Some, None, nat_eq, nat_lt, length}
use Rattle.std.proofs.lemmas.Bool.{and_parts}
use Rattle.std.specs.List.{list_all}
use Rattle.sail_types.specs.Named.{fields, field_types, members, payload}
use Rattle.sail_types.specs.Shapes.{at, each_fits, fields_fit, payload_fits, fits, form_fits, put, shape, shapes_under, shares, form_shares}
use Rattle.sail_types.specs.Shapes.{each_shares}
use Rattle.sail_types.specs.Shapes.{Asked as Test}
use Rattle.sail_types.specs.declared.shapes.Shape.{Shape, Shape-F, out-Shape, roll-Shape}
use Rattle.sail_types.specs.declared.shapes.Shape.TheFolds.{fold-roll-Shape, map-Shape}
use Rattle.sail_types.specs.declared.shapes.Shape.TheOpen as S
use Rattle.sail_types.specs.declared.table.Field.{Field}
use Rattle.sail_types.specs.declared.table.Types.{Types}
use Rattle.sail_types.specs.declared.types.Typ.{Typ}
use Rattle.sail_types.specs.declared.values.Value.{Value, Value-F, roll-Value}
use Rattle.sail_types.specs.declared.values.Value.TheFolds.{map-Value, ind-Value}
use Rattle.sail_types.specs.declared.values.Value.TheOpen as W
use Rattle.shape_joins.proofs.Order.{no, two, equal, rolled}
use Rattle.shape_meanings.proofs.Orders.{put_args}
use Rattle.shape_meanings.proofs.Values.{opened_at, out_put, fits_form}

-- ---- variables that fit all

module _ (types : Types) where
  abbrev Told : Value → Type 0
  Told v = (c : ℕ → Shape) (s : Shape) → fits types v (put c s) ≡ true → fits types v s ≡ true

  abbrev Such : Type 0
  Such = (v : Value) × Told v

  abbrev tests_of : List Such → List Test
  tests_of ps = map (fits types) (map (λ (p : Such). p.0) ps)

  each_told : (ps : List Such) (c : ℕ → Shape) (ss : List Shape) → each_fits (tests_of ps) (map (put c) ss) ≡ true → each_fits (tests_of ps) ss ≡ true
  each_told [] c [] h = refl
  each_told [] c (s ∷ ss) h = no h
  each_told (p ∷ ps) c [] h = no h
  each_told (p ∷ ps) c (s ∷ ss) h =
      let k = and_parts (fits types p.0 (put c s)) (each_fits (tests_of ps) (map (put c) ss)) h in
      two (fits types p.0 s) (each_fits (tests_of ps) ss) (p.1 c s k.0) (each_told ps c ss k.1)

  all_told : (ps : List Such) (c : ℕ → Shape) (s : Shape) → list_all (λ (f : Test). f (put c s)) (tests_of ps) ≡ true
      → list_all (λ (f : Test). f s) (tests_of ps) ≡ true
  all_told [] c s h = refl
  all_told (p ∷ ps) c s h =
      let k = and_parts (fits types p.0 (put c s)) (list_all (λ (f : Test). f (put c s)) (tests_of ps)) h in
      two (fits types p.0 s) (list_all (λ (f : Test). f s) (tests_of ps)) (p.1 c s k.0) (all_told ps c s k.1)

  under_args : (ts : List Typ) (c : ℕ → Shape) (ss : List Shape) → shapes_under (map (put c) ss) ts ≡ map (put c) (shapes_under ss ts)
  under_args [] c ss = refl
  under_args (t ∷ ts) c ss = λ i. put_args (shape t) c ss i ∷ under_args ts c ss i

  fields_told : (ps : List Such) (c : ℕ → Shape) (ss : List Shape) (fs : Option (List Field)) → fields_fit (tests_of ps) (map (put c) ss) fs ≡ true
      → fields_fit (tests_of ps) ss fs ≡ true
  fields_told ps c ss None h = no h
  fields_told ps c ss (Some fs) h =
      each_told ps c (shapes_under ss (field_types fs)) (subst (λ us. each_fits (tests_of ps) us ≡ true) (under_args (field_types fs) c ss) h)

  payload_told : (p : Such) (c : ℕ → Shape) (ss : List Shape) (t : Option Typ) → payload_fits (fits types p.0) (map (put c) ss) t ≡ true
      → payload_fits (fits types p.0) ss t ≡ true
  payload_told p c ss None h = no h
  payload_told p c ss (Some t) h = p.1 c (put (at ss) (shape t)) (subst (λ s. fits types p.0 s ≡ true) (put_args (shape t) c ss) h)

  abbrev form : Value-F Such → Value-F Value
  form y = map-Value Such Value (λ p. p.0) y

  abbrev asked : Value-F Such → Value-F Test
  asked y = map-Value Value Test (fits types) (form y)

  form_told : (y : Value-F Such) (c : ℕ → Shape) (x : Shape-F Shape) → form_fits types (asked y) (opened_at c x) ≡ true → form_fits types (asked y) x ≡ true
  form_told y c (S.Variable i) h = refl
  form_told W.Unit c S.Unit h = refl
  form_told (W.Integer n) c S.Int h = refl
  form_told (W.Truth b) c S.Bool h = refl
  form_told (W.Bit b) c S.Bit h = refl
  form_told (W.Bits bits) c S.Bits h = refl
  form_told (W.String text) c S.String h = refl
  form_told (W.Member i k) c (S.Named j ss) h = h
  form_told (W.Tuple ps) c (S.Tuple ss) h = each_told ps c ss h
  form_told (W.Struct i ps) c (S.Named j ss) h =
      let k = and_parts (nat_eq i j) (fields_fit (tests_of ps) (map (put c) ss) (fields types i)) h in
      two (nat_eq i j) (fields_fit (tests_of ps) ss (fields types i)) k.0 (fields_told ps c ss (fields types i) k.1)
  form_told (W.Union i n p) c (S.Named j ss) h =
      let k = and_parts (nat_eq i j) (payload_fits (fits types p.0) (map (put c) ss) (payload types i n)) h in
      two (nat_eq i j) (payload_fits (fits types p.0) ss (payload types i n)) k.0 (payload_told p c ss (payload types i n) k.1)
  form_told (W.List ps) c (S.List s) h = all_told ps c s h
  form_told (W.Vector ps) c (S.Vector s) h = all_told ps c s h
  form_told y c x h = no h

  rolled_told : (y : Value-F Such) → Told (roll-Value (form y))
  rolled_told y c s h =
      fits_form types (form y) s ∙ form_told y c (out-Shape s) (sym (fits_form types (form y) (put c s) ∙ ap (form_fits types (asked y)) (out_put c s)) ∙ h)

  -- what fits with something in the place of variables fits without
  pub loosened : (v : Value) → Told v
  loosened = ind-Value Told (λ e y is. subst (λ d. Told (roll-Value d)) is (rolled_told y))

pub all_loosened : (types : Types) (vs : List Value) (c : ℕ → Shape) (ss : List Shape) → each_fits (map (fits types) vs) (map (put c) ss) ≡ true
    → each_fits (map (fits types) vs) ss ≡ true
all_loosened types [] c [] h = refl
all_loosened types [] c (s ∷ ss) h = no h
all_loosened types (v ∷ vs) c [] h = no h
all_loosened types (v ∷ vs) c (s ∷ ss) h =
    let k = and_parts (fits types v (put c s)) (each_fits (map (fits types) vs) (map (put c) ss)) h in
    two (fits types v s) (each_fits (map (fits types) vs) ss) (loosened types v c s k.0) (all_loosened types vs c ss k.1)

-- ---- shapes of one value

abbrev shared : Shape-F Shape → Shape-F (Shape → Bool)
shared x = map-Shape Shape (Shape → Bool) shares x

shares_form : (x : Shape-F Shape) (t : Shape) → shares (roll-Shape x) t ≡ form_shares (shared x) (out-Shape t)
shares_form x t = ap (λ f. f t) (fold-roll-Shape (Shape → Bool) (λ f s. form_shares f (out-Shape s)) x)

pub shares_at : (s t : Shape) → shares s t ≡ form_shares (shared (out-Shape s)) (out-Shape t)
shares_at s t = ap (λ u. shares u t) (rolled s) ∙ shares_form (out-Shape s) t

same_left : (i j k : ℕ) → nat_eq i j ≡ true → nat_eq i k ≡ true → nat_eq j k ≡ true
same_left i j k a b = subst (λ m. nat_eq m k ≡ true) (equal i j a) b

module _ (types : Types) where
  abbrev Shared : Value → Type 0
  Shared v = (s t : Shape) → fits types v s ≡ true → fits types v t ≡ true → shares s t ≡ true

  abbrev Such2 : Type 0
  Such2 = (v : Value) × Shared v

  abbrev tests_of2 : List Such2 → List Test
  tests_of2 ps = map (fits types) (map (λ (p : Such2). p.0) ps)

  each_shared : (ps : List Such2) (ss ts : List Shape) → each_fits (tests_of2 ps) ss ≡ true → each_fits (tests_of2 ps) ts ≡ true
      → each_shares (map shares ss) ts ≡ true
  each_shared [] [] [] a b = refl
  each_shared [] [] (t ∷ ts) a b = no b
  each_shared [] (s ∷ ss) ts a b = no a
  each_shared (p ∷ ps) [] ts a b = no a
  each_shared (p ∷ ps) (s ∷ ss) [] a b = no b
  each_shared (p ∷ ps) (s ∷ ss) (t ∷ ts) a b =
      let a2 = and_parts (fits types p.0 s) (each_fits (tests_of2 ps) ss) a in
      let b2 = and_parts (fits types p.0 t) (each_fits (tests_of2 ps) ts) b in
      two (shares s t) (each_shares (map shares ss) ts) (p.1 s t a2.0 b2.0) (each_shared ps ss ts a2.1 b2.1)

  abbrev form2 : Value-F Such2 → Value-F Value
  form2 y = map-Value Such2 Value (λ p. p.0) y

  abbrev asked2 : Value-F Such2 → Value-F Test
  asked2 y = map-Value Value Test (fits types) (form2 y)

  form_shared : (y : Value-F Such2) (x z : Shape-F Shape) → form_fits types (asked2 y) x ≡ true → form_fits types (asked2 y) z ≡ true
      → form_shares (shared x) z ≡ true
  form_shared y (S.Variable i) z a b = refl
  form_shared y S.Unit (S.Variable j) a b = refl
  form_shared y S.Bool (S.Variable j) a b = refl
  form_shared y S.Bit (S.Variable j) a b = refl
  form_shared y S.Bits (S.Variable j) a b = refl
  form_shared y S.Int (S.Variable j) a b = refl
  form_shared y S.String (S.Variable j) a b = refl
  form_shared y (S.List s) (S.Variable j) a b = refl
  form_shared y (S.Vector s) (S.Variable j) a b = refl
  form_shared y (S.Tuple ss) (S.Variable j) a b = refl
  form_shared y (S.Named i ss) (S.Variable j) a b = refl
  form_shared y S.Hole (S.Variable j) a b = refl
  form_shared y S.Never (S.Variable j) a b = refl
  form_shared W.Unit S.Unit S.Unit a b = refl
  form_shared (W.Integer n) S.Int S.Int a b = refl
  form_shared (W.Truth v) S.Bool S.Bool a b = refl
  form_shared (W.Bit v) S.Bit S.Bit a b = refl
  form_shared (W.Bits v) S.Bits S.Bits a b = refl
  form_shared (W.String v) S.String S.String a b = refl
  form_shared (W.Tuple ps) (S.Tuple ss) (S.Tuple ts) a b = each_shared ps ss ts a b
  form_shared (W.List ps) (S.List s) (S.List t) a b = refl
  form_shared (W.Vector ps) (S.Vector s) (S.Vector t) a b = refl
  form_shared (W.Member i k) (S.Named j ss) (S.Named l ts) a b =
      same_left i j l (and_parts (nat_eq i j) (nat_lt k (length (members types i))) a).0
      (and_parts (nat_eq i l) (nat_lt k (length (members types i))) b).0
  form_shared (W.Struct i ps) (S.Named j ss) (S.Named l ts) a b =
      same_left i j l (and_parts (nat_eq i j) (fields_fit (tests_of2 ps) ss (fields types i)) a).0
      (and_parts (nat_eq i l) (fields_fit (tests_of2 ps) ts (fields types i)) b).0
  form_shared (W.Union i n p) (S.Named j ss) (S.Named l ts) a b =
      same_left i j l (and_parts (nat_eq i j) (payload_fits (fits types p.0) ss (payload types i n)) a).0
      (and_parts (nat_eq i l) (payload_fits (fits types p.0) ts (payload types i n)) b).0
  form_shared W.Unit S.Unit z a b = no b
  form_shared (W.Integer n) S.Int z a b = no b
  form_shared (W.Truth v) S.Bool z a b = no b
  form_shared (W.Bit v) S.Bit z a b = no b
  form_shared (W.Bits v) S.Bits z a b = no b
  form_shared (W.String v) S.String z a b = no b
  form_shared (W.Tuple ps) (S.Tuple ss) z a b = no b
  form_shared (W.List ps) (S.List s) z a b = no b
  form_shared (W.Vector ps) (S.Vector s) z a b = no b
  form_shared (W.Member i k) (S.Named j ss) z a b = no b
  form_shared (W.Struct i ps) (S.Named j ss) z a b = no b
  form_shared (W.Union i n p) (S.Named j ss) z a b = no b
  form_shared y x z a b = no a

  rolled_shared : (y : Value-F Such2) → Shared (roll-Value (form2 y))
  rolled_shared y s t a b =
      shares_at s t
      ∙ form_shared y (out-Shape s) (out-Shape t) (sym (fits_form types (form2 y) s) ∙ a) (sym (fits_form types (form2 y) t) ∙ b)

  -- shapes that one value has may share values
  pub share : (v : Value) → Shared v
  share = ind-Value Shared (λ e y is. subst (λ d. Shared (roll-Value d)) is (rolled_shared y))

pub all_share : (types : Types) (vs : List Value) (ss ts : List Shape) → each_fits (map (fits types) vs) ss ≡ true → each_fits (map (fits types) vs) ts ≡ true
    → each_shares (map shares ss) ts ≡ true
all_share types [] [] [] a b = refl
all_share types [] [] (t ∷ ts) a b = no b
all_share types [] (s ∷ ss) ts a b = no a
all_share types (v ∷ vs) [] ts a b = no a
all_share types (v ∷ vs) (s ∷ ss) [] a b = no b
all_share types (v ∷ vs) (s ∷ ss) (t ∷ ts) a b =
    let a2 = and_parts (fits types v s) (each_fits (map (fits types) vs) ss) a in
    let b2 = and_parts (fits types v t) (each_fits (map (fits types) vs) ts) b in
    two (shares s t) (each_shares (map shares ss) ts) (share types v s t a2.0 b2.0) (all_share types vs ss ts a2.1 b2.1)
