-- Values of which the shape goes beyond what is known of a parameter's variables: for some choice of what these stand for they have the parameter's shape.
use Rattle.std.proofs.Common.{◌≡◌, ℕ, zero, suc, List, [], ◌∷◌, map, ap, sym, ◌∙◌, refl, subst, Bool, true, false, ◌&&◌, Option, Some, None, nat_eq}
use Rattle.std.proofs.Common.{if◌then◌else◌}
use Rattle.std.proofs.lemmas.Bool.{and_parts}
use Rattle.std.specs.List.{list_all}
use Rattle.sail_types.specs.Named.{fields, field_types, payload}
use Rattle.sail_types.specs.Shapes.{at, each_fits, fields_fit, payload_fits, fits, form_fits, put, put_form, shape, shapes_under}
use Rattle.sail_types.specs.Shapes.{Asked as Test}
use Rattle.sail_types.specs.declared.shapes.Shape.{Shape, Shape-F, fold-Shape, out-Shape, roll-Shape}
use Rattle.sail_types.specs.declared.shapes.Shape.TheFolds.{fold-roll-Shape, map-Shape, ind-Shape}
use Rattle.sail_types.specs.declared.shapes.Shape.TheOpen as S
use Rattle.sail_types.specs.declared.shapes.Shape.TheVariants as V
use Rattle.sail_types.specs.declared.shapes.Shape.TheViews.{out-roll-Shape}
use Rattle.sail_types.specs.declared.table.Field.{Field}
use Rattle.sail_types.specs.declared.table.Types.{Types}
use Rattle.sail_types.specs.declared.types.Typ.{Typ}
use Rattle.sail_types.specs.declared.values.Value.{Value, Value-F, roll-Value}
use Rattle.sail_types.specs.declared.values.Value.TheFolds.{map-Value, ind-Value}
use Rattle.sail_types.specs.declared.values.Value.TheOpen as W
use Rattle.shape_joins.specs.Filling.{fills, fill_form, fill_all}
use Rattle.shape_joins.proofs.Order.{no, two, equal, same_nat, rolled, tests, at_forms}
use Rattle.shape_meanings.specs.Whole.{Choice, below, below_form, all_below}
use Rattle.shape_meanings.proofs.Orders.{belows, exact, put_args, puts}
use Rattle.shape_meanings.proofs.Values.{opened_at, out_put, fits_form}

-- ---- shapes that meet: alike, but that for a variable there stands what fills what is known of it

abbrev Meets : Type 0
Meets = Shape → Bool

abbrev each_meets : List Meets → List Shape → Bool
each_meets [] [] = true
each_meets (f ∷ fs) (s ∷ ss) = f s && each_meets fs ss
each_meets fs ss = false

abbrev meet_form : (ℕ → Shape) → Shape-F Meets → Shape → Shape-F Shape → Bool
meet_form e (S.Variable i) t form = fills (e i) t
meet_form e S.Unit t S.Unit = true
meet_form e S.Bool t S.Bool = true
meet_form e S.Bit t S.Bit = true
meet_form e S.Bits t S.Bits = true
meet_form e S.Int t S.Int = true
meet_form e S.String t S.String = true
meet_form e (S.List f) t (S.List s) = f s
meet_form e (S.Vector f) t (S.Vector s) = f s
meet_form e (S.Tuple fs) t (S.Tuple ss) = each_meets fs ss
meet_form e (S.Named i fs) t (S.Named j ss) = nat_eq i j && each_meets fs ss
meet_form e S.Hole t S.Hole = true
meet_form e S.Never t S.Never = true
meet_form e f t form = false

abbrev pub meets : (ℕ → Shape) → Shape → Meets
meets e = fold-Shape Meets (λ f t. meet_form e f t (out-Shape t))

abbrev meet_all : (ℕ → Shape) → List Shape → List Shape → Bool
meet_all e ps ts = each_meets (map (meets e) ps) ts

abbrev meeting : (ℕ → Shape) → Shape-F Shape → Shape-F Meets
meeting e x = map-Shape Shape Meets (meets e) x

meets_at : (e : ℕ → Shape) (x : Shape-F Shape) (t : Shape) → meets e (roll-Shape x) t ≡ meet_form e (meeting e x) t (out-Shape t)
meets_at e x t = ap (λ f. f t) (fold-roll-Shape Meets (λ f t. meet_form e f t (out-Shape t)) x)

-- what fills a shape that leaves nothing open but for its variables meets it
abbrev Met : Shape → Type 0
Met p = (e : ℕ → Shape) (m : ℕ) (t : Shape) → below m p ≡ true → fills (put e p) t ≡ true → meets e p t ≡ true

module _ where
  abbrev Such : Type 0
  Such = (s : Shape) × Met s

  abbrev shapes_of : List Such → List Shape
  shapes_of ys = map (λ (p : Such). p.0) ys

  abbrev form : Shape-F Such → Shape-F Shape
  form y = map-Shape Such Shape (λ p. p.0) y

  each_met : (ys : List Such) (e : ℕ → Shape) (m : ℕ) (ts : List Shape) → all_below m (shapes_of ys) ≡ true
      → fill_all (map (put e) (shapes_of ys)) ts ≡ true → meet_all e (shapes_of ys) ts ≡ true
  each_met [] e m [] b h = refl
  each_met [] e m (t ∷ ts) b h = no h
  each_met (y ∷ ys) e m [] b h = no h
  each_met (y ∷ ys) e m (t ∷ ts) b h =
      let b2 = and_parts (below m y.0) (all_below m (shapes_of ys)) b in
      let h2 = and_parts (fills (put e y.0) t) (fill_all (map (put e) (shapes_of ys)) ts) h in
      two (meets e y.0 t) (meet_all e (shapes_of ys) ts) (y.1 e m t b2.0 h2.0) (each_met ys e m ts b2.1 h2.1)

  form_met : (y : Shape-F Such) (e : ℕ → Shape) (m : ℕ) (t : Shape) (z : Shape-F Shape)
      → out-Shape t ≡ z → below_form m (map-Shape Shape Bool (below m) (form y)) ≡ true → fill_form (tests (opened_at e (form y))) z ≡ true
      → meet_form e (meeting e (form y)) t z ≡ true
  form_met (S.Variable i) e m t z is b h = at_forms (e i) t ∙ ap (fill_form (tests (out-Shape (e i)))) is ∙ h
  form_met S.Unit e m t S.Unit is b h = refl
  form_met S.Bool e m t S.Bool is b h = refl
  form_met S.Bit e m t S.Bit is b h = refl
  form_met S.Bits e m t S.Bits is b h = refl
  form_met S.Int e m t S.Int is b h = refl
  form_met S.String e m t S.String is b h = refl
  form_met (S.List y) e m t (S.List s) is b h = y.1 e m s b h
  form_met (S.Vector y) e m t (S.Vector s) is b h = y.1 e m s b h
  form_met (S.Tuple ys) e m t (S.Tuple ss) is b h = each_met ys e m ss b h
  form_met (S.Named i ys) e m t (S.Named j ss) is b h =
      let h2 = and_parts (nat_eq i j) (fill_all (map (put e) (shapes_of ys)) ss) h in
      two (nat_eq i j) (meet_all e (shapes_of ys) ss) h2.0 (each_met ys e m ss b h2.1)
  form_met S.Hole e m t z is b h = no b
  form_met S.Never e m t z is b h = no b
  form_met y e m t z is b h = no h

  rolled_met : (y : Shape-F Such) → Met (roll-Shape (form y))
  rolled_met y e m t b h =
      meets_at e (form y) t
      ∙ form_met y e m t (out-Shape t) refl (sym (belows m (form y)) ∙ b)
      (ap (λ x. fill_form (tests x) (out-Shape t)) (sym (out_put e (roll-Shape (form y)) ∙ ap (opened_at e) (out-roll-Shape (form y))))
      ∙ sym (at_forms (put e (roll-Shape (form y))) t) ∙ h)

  pub met : (p : Shape) → Met p
  met = ind-Shape Met (λ e y is. subst (λ d. Met (roll-Shape d)) is (rolled_met y))

-- shapes over arguments that meet
abbrev MetUnder : Shape → Type 0
MetUnder x = (e a b : ℕ → Shape) → ((i : ℕ) → meets e (a i) (b i) ≡ true) → meets e (put a x) (put b x) ≡ true

-- at forms
both_meet : (e : ℕ → Shape) (x z : Shape-F Shape) (s t : Shape) → s ≡ roll-Shape x → t ≡ roll-Shape z
    → meet_form e (meeting e x) (roll-Shape z) z ≡ true → meets e s t ≡ true
both_meet e x z s t is_s is_t h =
    (λ j. meets e (is_s j) (is_t j)) ∙ meets_at e x (roll-Shape z) ∙ ap (meet_form e (meeting e x) (roll-Shape z)) (out-roll-Shape z) ∙ h

module _ where
  abbrev Such2 : Type 0
  Such2 = (s : Shape) × MetUnder s

  abbrev shapes_of2 : List Such2 → List Shape
  shapes_of2 ys = map (λ (p : Such2). p.0) ys

  abbrev form2 : Shape-F Such2 → Shape-F Shape
  form2 y = map-Shape Such2 Shape (λ p. p.0) y

  each_under : (ys : List Such2) (e a b : ℕ → Shape) → ((i : ℕ) → meets e (a i) (b i) ≡ true)
      → meet_all e (map (put a) (shapes_of2 ys)) (map (put b) (shapes_of2 ys)) ≡ true
  each_under [] e a b h = refl
  each_under (y ∷ ys) e a b h =
      two (meets e (put a y.0) (put b y.0)) (meet_all e (map (put a) (shapes_of2 ys)) (map (put b) (shapes_of2 ys))) (y.1 e a b h) (each_under ys e a b h)

  form_under : (y : Shape-F Such2) → MetUnder (roll-Shape (form2 y))
  form_under (S.Variable i) e a b h = (λ j. meets e (puts a (S.Variable i) j) (puts b (S.Variable i) j)) ∙ h i
  form_under S.Unit e a b h = both_meet e S.Unit S.Unit _ _ (puts a S.Unit) (puts b S.Unit) refl
  form_under S.Bool e a b h = both_meet e S.Bool S.Bool _ _ (puts a S.Bool) (puts b S.Bool) refl
  form_under S.Bit e a b h = both_meet e S.Bit S.Bit _ _ (puts a S.Bit) (puts b S.Bit) refl
  form_under S.Bits e a b h = both_meet e S.Bits S.Bits _ _ (puts a S.Bits) (puts b S.Bits) refl
  form_under S.Int e a b h = both_meet e S.Int S.Int _ _ (puts a S.Int) (puts b S.Int) refl
  form_under S.String e a b h = both_meet e S.String S.String _ _ (puts a S.String) (puts b S.String) refl
  form_under S.Hole e a b h = both_meet e S.Hole S.Hole _ _ (puts a S.Hole) (puts b S.Hole) refl
  form_under S.Never e a b h = both_meet e S.Never S.Never _ _ (puts a S.Never) (puts b S.Never) refl
  form_under (S.List y) e a b h =
      both_meet e (S.List (put a y.0)) (S.List (put b y.0)) _ _ (puts a (S.List y.0)) (puts b (S.List y.0)) (y.1 e a b h)
  form_under (S.Vector y) e a b h =
      both_meet e (S.Vector (put a y.0)) (S.Vector (put b y.0)) _ _ (puts a (S.Vector y.0)) (puts b (S.Vector y.0)) (y.1 e a b h)
  form_under (S.Tuple ys) e a b h =
      both_meet e (S.Tuple (map (put a) (shapes_of2 ys))) (S.Tuple (map (put b) (shapes_of2 ys))) _ _ (puts a (S.Tuple (shapes_of2 ys)))
      (puts b (S.Tuple (shapes_of2 ys))) (each_under ys e a b h)
  form_under (S.Named i ys) e a b h =
      both_meet e (S.Named i (map (put a) (shapes_of2 ys))) (S.Named i (map (put b) (shapes_of2 ys))) _ _ (puts a (S.Named i (shapes_of2 ys)))
      (puts b (S.Named i (shapes_of2 ys)))
      (two (nat_eq i i) (meet_all e (map (put a) (shapes_of2 ys)) (map (put b) (shapes_of2 ys))) (same_nat i) (each_under ys e a b h))

  met_under : (x : Shape) → MetUnder x
  met_under = ind-Shape MetUnder (λ e y is. subst (λ d. MetUnder (roll-Shape d)) is (form_under y))

-- where there is none, both have a hole
at_meet : (e : ℕ → Shape) (ps ts : List Shape) → meet_all e ps ts ≡ true → (i : ℕ) → meets e (at ps i) (at ts i) ≡ true
at_meet e [] [] h i = both_meet e S.Hole S.Hole V.Hole V.Hole (sym V.rolls-Hole) (sym V.rolls-Hole) refl
at_meet e [] (t ∷ ts) h i = no h
at_meet e (p ∷ ps) [] h i = no h
at_meet e (p ∷ ps) (t ∷ ts) h zero = (and_parts (meets e p t) (meet_all e ps ts) h).0
at_meet e (p ∷ ps) (t ∷ ts) h (suc i) = at_meet e ps ts (and_parts (meets e p t) (meet_all e ps ts) h).1 i

-- ---- the choice: what is known of a variable, where it leaves nothing open, and else whatever there is

abbrev pub loose : ℕ → Choice → (ℕ → Shape) → Choice
loose n c e i = if below n (e i) then put c (e i) else V.Variable 0

-- a value of a shape that meets another one
module _ (types : Types) (n : ℕ) (c e : ℕ → Shape) where
  abbrev Loosens : Value → Type 0
  Loosens v = (p t : Shape) → meets e p t ≡ true → fits types v (put c t) ≡ true → fits types v (put (loose n c e) p) ≡ true

  abbrev SuchV : Type 0
  SuchV = (v : Value) × Loosens v

  abbrev tests_of : List SuchV → List Test
  tests_of ps = map (fits types) (map (λ (p : SuchV). p.0) ps)

  each_loosens : (vs : List SuchV) (ps ts : List Shape) → meet_all e ps ts ≡ true → each_fits (tests_of vs) (map (put c) ts) ≡ true
      → each_fits (tests_of vs) (map (put (loose n c e)) ps) ≡ true
  each_loosens [] [] [] h k = refl
  each_loosens [] [] (t ∷ ts) h k = no h
  each_loosens vs (p ∷ ps) [] h k = no h
  each_loosens [] (p ∷ ps) (t ∷ ts) h k = no k
  each_loosens (v ∷ vs) [] [] h k = no k
  each_loosens (v ∷ vs) [] (t ∷ ts) h k = no h
  each_loosens (v ∷ vs) (p ∷ ps) (t ∷ ts) h k =
      let h2 = and_parts (meets e p t) (meet_all e ps ts) h in
      let k2 = and_parts (fits types v.0 (put c t)) (each_fits (tests_of vs) (map (put c) ts)) k in
      two (fits types v.0 (put (loose n c e) p)) (each_fits (tests_of vs) (map (put (loose n c e)) ps)) (v.1 p t h2.0 k2.0)
      (each_loosens vs ps ts h2.1 k2.1)

  all_loosen : (vs : List SuchV) (p t : Shape) → meets e p t ≡ true → list_all (λ (f : Test). f (put c t)) (tests_of vs) ≡ true
      → list_all (λ (f : Test). f (put (loose n c e) p)) (tests_of vs) ≡ true
  all_loosen [] p t h k = refl
  all_loosen (v ∷ vs) p t h k =
      let k2 = and_parts (fits types v.0 (put c t)) (list_all (λ (f : Test). f (put c t)) (tests_of vs)) k in
      two (fits types v.0 (put (loose n c e) p)) (list_all (λ (f : Test). f (put (loose n c e) p)) (tests_of vs)) (v.1 p t h k2.0) (all_loosen vs p t h k2.1)

  under_args : (ts : List Typ) (d : ℕ → Shape) (ss : List Shape) → shapes_under (map (put d) ss) ts ≡ map (put d) (shapes_under ss ts)
  under_args [] d ss = refl
  under_args (t ∷ ts) d ss = λ i. put_args (shape t) d ss i ∷ under_args ts d ss i

  types_meet : (xs : List Typ) (ps ts : List Shape) → meet_all e ps ts ≡ true → meet_all e (shapes_under ps xs) (shapes_under ts xs) ≡ true
  types_meet [] ps ts h = refl
  types_meet (x ∷ xs) ps ts h =
      two (meets e (put (at ps) (shape x)) (put (at ts) (shape x))) (meet_all e (shapes_under ps xs) (shapes_under ts xs))
      (met_under (shape x) e (at ps) (at ts) (at_meet e ps ts h)) (types_meet xs ps ts h)

  fields_loosen : (vs : List SuchV) (ps ts : List Shape) (fs : Option (List Field)) → meet_all e ps ts ≡ true
      → fields_fit (tests_of vs) (map (put c) ts) fs ≡ true → fields_fit (tests_of vs) (map (put (loose n c e)) ps) fs ≡ true
  fields_loosen vs ps ts None h k = no k
  fields_loosen vs ps ts (Some fs) h k =
      subst (λ xs. each_fits (tests_of vs) xs ≡ true) (sym (under_args (field_types fs) (loose n c e) ps))
      (each_loosens vs (shapes_under ps (field_types fs)) (shapes_under ts (field_types fs)) (types_meet (field_types fs) ps ts h)
      (subst (λ xs. each_fits (tests_of vs) xs ≡ true) (under_args (field_types fs) c ts) k))

  payload_loosens : (v : SuchV) (ps ts : List Shape) (x : Option Typ) → meet_all e ps ts ≡ true
      → payload_fits (fits types v.0) (map (put c) ts) x ≡ true → payload_fits (fits types v.0) (map (put (loose n c e)) ps) x ≡ true
  payload_loosens v ps ts None h k = no k
  payload_loosens v ps ts (Some x) h k =
      subst (λ s. fits types v.0 s ≡ true) (sym (put_args (shape x) (loose n c e) ps))
      (v.1 (put (at ps) (shape x)) (put (at ts) (shape x)) (met_under (shape x) e (at ps) (at ts) (at_meet e ps ts h))
      (subst (λ s. fits types v.0 s ≡ true) (put_args (shape x) c ts) k))

  abbrev form_of : Value-F SuchV → Value-F Value
  form_of y = map-Value SuchV Value (λ p. p.0) y

  abbrev asked : Value-F SuchV → Value-F Test
  asked y = map-Value Value Test (fits types) (form_of y)

  -- a variable of which all is known stands for it, and another one for whatever there is
  variable_loosens : (y : Value-F SuchV) (i : ℕ) (t : Shape) (b : Bool) → below n (e i) ≡ b → fills (e i) t ≡ true
      → form_fits types (asked y) (opened_at c (out-Shape t)) ≡ true
      → form_fits types (asked y) (out-Shape (if b then put c (e i) else V.Variable 0)) ≡ true
  variable_loosens y i t true is h k =
      ap (form_fits types (asked y)) (out_put c (e i) ∙ ap (λ s. opened_at c (out-Shape s)) (sym (exact (e i) t n h is))) ∙ k
  variable_loosens y i t false is h k =
      ap (form_fits types (asked y)) (ap out-Shape (sym (V.rolls-Variable 0)) ∙ out-roll-Shape (S.Variable 0))

  form_loosens : (y : Value-F SuchV) (x : Shape-F Shape) (t : Shape) (z : Shape-F Shape) → out-Shape t ≡ z → meet_form e (meeting e x) t z ≡ true
      → form_fits types (asked y) (opened_at c z) ≡ true → form_fits types (asked y) (opened_at (loose n c e) x) ≡ true
  form_loosens y (S.Variable i) t z is h k =
      variable_loosens y i t (below n (e i)) refl h (ap (λ x. form_fits types (asked y) (opened_at c x)) is ∙ k)
  form_loosens y S.Unit t S.Unit is h k = k
  form_loosens y S.Bool t S.Bool is h k = k
  form_loosens y S.Bit t S.Bit is h k = k
  form_loosens y S.Bits t S.Bits is h k = k
  form_loosens y S.Int t S.Int is h k = k
  form_loosens y S.String t S.String is h k = k
  form_loosens (W.Member i m) (S.Named j ps) t (S.Named l ts) is h k =
      subst (λ a. form_fits types (W.Member i m) (S.Named a []) ≡ true) (sym (equal j l (and_parts (nat_eq j l) (meet_all e ps ts) h).0)) k
  form_loosens (W.Tuple vs) (S.Tuple ps) t (S.Tuple ts) is h k = each_loosens vs ps ts h k
  form_loosens (W.Struct i vs) (S.Named j ps) t (S.Named l ts) is h k =
      let h2 = and_parts (nat_eq j l) (meet_all e ps ts) h in
      let k2 = and_parts (nat_eq i l) (fields_fit (tests_of vs) (map (put c) ts) (fields types i)) k in
      two (nat_eq i j) (fields_fit (tests_of vs) (map (put (loose n c e)) ps) (fields types i))
      (subst (λ a. nat_eq i a ≡ true) (sym (equal j l h2.0)) k2.0) (fields_loosen vs ps ts (fields types i) h2.1 k2.1)
  form_loosens (W.Union i m v) (S.Named j ps) t (S.Named l ts) is h k =
      let h2 = and_parts (nat_eq j l) (meet_all e ps ts) h in
      let k2 = and_parts (nat_eq i l) (payload_fits (fits types v.0) (map (put c) ts) (payload types i m)) k in
      two (nat_eq i j) (payload_fits (fits types v.0) (map (put (loose n c e)) ps) (payload types i m))
      (subst (λ a. nat_eq i a ≡ true) (sym (equal j l h2.0)) k2.0) (payload_loosens v ps ts (payload types i m) h2.1 k2.1)
  form_loosens (W.List vs) (S.List p) t (S.List s) is h k = all_loosen vs p s h k
  form_loosens (W.Vector vs) (S.Vector p) t (S.Vector s) is h k = all_loosen vs p s h k
  form_loosens y S.Unit t z is h k = no h
  form_loosens y S.Bool t z is h k = no h
  form_loosens y S.Bit t z is h k = no h
  form_loosens y S.Bits t z is h k = no h
  form_loosens y S.Int t z is h k = no h
  form_loosens y S.String t z is h k = no h
  form_loosens y S.Hole t S.Hole is h k = no k
  form_loosens y S.Hole t z is h k = no h
  form_loosens y S.Never t S.Never is h k = no k
  form_loosens y S.Never t z is h k = no h
  form_loosens y (S.List p) t (S.List s) is h k = no k
  form_loosens y (S.List p) t z is h k = no h
  form_loosens y (S.Vector p) t (S.Vector s) is h k = no k
  form_loosens y (S.Vector p) t z is h k = no h
  form_loosens y (S.Tuple ps) t (S.Tuple ts) is h k = no k
  form_loosens y (S.Tuple ps) t z is h k = no h
  form_loosens y (S.Named j ps) t (S.Named l ts) is h k = no k
  form_loosens y (S.Named j ps) t z is h k = no h

  rolled_loosens : (y : Value-F SuchV) → Loosens (roll-Value (form_of y))
  rolled_loosens y p t h k =
      fits_form types (form_of y) (put (loose n c e) p) ∙ ap (form_fits types (asked y)) (out_put (loose n c e) p)
      ∙ form_loosens y (out-Shape p) t (out-Shape t) refl
      (sym (meets_at e (out-Shape p) t) ∙ ap (λ s. meets e s t) (sym (rolled p)) ∙ h)
      (sym (fits_form types (form_of y) (put c t) ∙ ap (form_fits types (asked y)) (out_put c t)) ∙ k)

  pub loosens : (v : Value) → Loosens v
  loosens = ind-Value Loosens (λ f y is. subst (λ d. Loosens (roll-Value d)) is (rolled_loosens y))

-- ---- where what is known leaves nothing open in a shape, this choice makes it what was known

abbrev Told : Shape → Type 0
Told s = (n : ℕ) (c e : ℕ → Shape) → below n (put e s) ≡ true → put (loose n c e) s ≡ put (λ i. put c (e i)) s

module _ where
  abbrev Such3 : Type 0
  Such3 = (s : Shape) × Told s

  abbrev shapes_of3 : List Such3 → List Shape
  shapes_of3 ys = map (λ (p : Such3). p.0) ys

  abbrev form3 : Shape-F Such3 → Shape-F Shape
  form3 y = map-Shape Such3 Shape (λ p. p.0) y

  each_told : (ys : List Such3) (n : ℕ) (c e : ℕ → Shape) → all_below n (map (put e) (shapes_of3 ys)) ≡ true
      → map (put (loose n c e)) (shapes_of3 ys) ≡ map (put (λ i. put c (e i))) (shapes_of3 ys)
  each_told [] n c e b = refl
  each_told (y ∷ ys) n c e b =
      let b2 = and_parts (below n (put e y.0)) (all_below n (map (put e) (shapes_of3 ys))) b in
      λ i. y.1 n c e b2.0 i ∷ each_told ys n c e b2.1 i

  form_told : (y : Shape-F Such3) (n : ℕ) (c e : ℕ → Shape) → below n (put_form e (map-Shape Shape Shape (put e) (form3 y))) ≡ true
      → put_form (loose n c e) (map-Shape Shape Shape (put (loose n c e)) (form3 y))
      ≡ put_form (λ i. put c (e i)) (map-Shape Shape Shape (put (λ i. put c (e i))) (form3 y))
  form_told (S.List y) n c e b = ap (λ s. roll-Shape (S.List s)) (y.1 n c e (sym (belows n (S.List (put e y.0))) ∙ b))
  form_told (S.Vector y) n c e b = ap (λ s. roll-Shape (S.Vector s)) (y.1 n c e (sym (belows n (S.Vector (put e y.0))) ∙ b))
  form_told (S.Tuple ys) n c e b =
      ap (λ s. roll-Shape (S.Tuple s)) (each_told ys n c e (sym (belows n (S.Tuple (map (put e) (shapes_of3 ys)))) ∙ b))
  form_told (S.Named i ys) n c e b =
      ap (λ s. roll-Shape (S.Named i s)) (each_told ys n c e (sym (belows n (S.Named i (map (put e) (shapes_of3 ys)))) ∙ b))
  form_told (S.Variable i) n c e b = ap (λ t. if t then put c (e i) else V.Variable 0) b
  form_told S.Unit n c e b = refl
  form_told S.Bool n c e b = refl
  form_told S.Bit n c e b = refl
  form_told S.Bits n c e b = refl
  form_told S.Int n c e b = refl
  form_told S.String n c e b = refl
  form_told S.Hole n c e b = refl
  form_told S.Never n c e b = refl

  rolled_told : (y : Shape-F Such3) → Told (roll-Shape (form3 y))
  rolled_told y n c e b =
      puts (loose n c e) (form3 y) ∙ form_told y n c e (sym (ap (below n) (puts e (form3 y))) ∙ b) ∙ sym (puts (λ i. put c (e i)) (form3 y))

  pub loose_told : (s : Shape) → Told s
  loose_told = ind-Shape Told (λ e y is. subst (λ d. Told (roll-Shape d)) is (rolled_told y))
