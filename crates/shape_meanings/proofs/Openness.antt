-- A shape that leaves nothing open for a later value is settled: it has no hole and no part that never ends, or no value has it.
use Rattle.std.proofs.Common.{◌≡◌, ℕ, suc, ◌+◌, List, [], ◌∷◌, map, ap, sym, ◌∙◌, refl, subst, Bool, true, false, ◌&&◌, ◌||◌, inl, inr}
use Rattle.std.proofs.Common.{nat_lt, arith}
use Rattle.std.proofs.lemmas.Bool.{and_parts}
use Rattle.std.specs.Prelude.{nat_le}
use Rattle.sail_types.specs.Shapes.{fits, each_fits, form_fits, put, Asked}
use Rattle.sail_types.specs.declared.shapes.Shape.{Shape, Shape-F, fold-Shape, out-Shape, roll-Shape}
use Rattle.sail_types.specs.declared.shapes.Shape.TheFolds.{fold-roll-Shape, map-Shape, ind-Shape}
use Rattle.sail_types.specs.declared.shapes.Shape.TheOpen as S
use Rattle.sail_types.specs.declared.shapes.Shape.TheViews.{out-roll-Shape}
use Rattle.sail_types.specs.declared.table.Types.{Types}
use Rattle.sail_types.specs.declared.values.Value.{Value, Value-F, out-Value}
use Rattle.sail_types.specs.declared.values.Value.TheFolds.{map-Value}
use Rattle.shape_joins.specs.Joins.{any_of}
use Rattle.shape_joins.proofs.Order.{no, two, rolled}
use Rattle.shape_rules.specs.Calls.{has_never, never_form}
use Rattle.shape_rules.specs.Targets.{Openness, openness_form, any_never, any_open, leaves_open}
use Rattle.shape_meanings.specs.Whole.{Choice, IsSettled, below, below_form, all_below}
use Rattle.shape_meanings.proofs.Values.{opened_at, out_put}
use Rattle.shape_meanings.proofs.Matching.{form_given, leaf_below}
use Rattle.shape_meanings.proofs.Opening.{form_tuple}

true_false : {A : Type 0} → true ≡ false → A
true_false h = no (sym h)

not_true : (b : Bool) → (b ≡ true → ⊥) → b ≡ false
not_true true f = absurd (f refl)
not_true false f = refl

neither : (a b : Bool) → (a || b) ≡ false → (a ≡ false) × (b ≡ false)
neither true b h = true_false h
neither false b h = (refl, h)

-- ---- more variables

abbrev Grows : Shape → Type 0
Grows s = (n m : ℕ) → nat_le n m ≡ true → below n s ≡ true → below m s ≡ true

module _ where
  abbrev Such : Type 0
  Such = (s : Shape) × Grows s

  abbrev shapes_of : List Such → List Shape
  shapes_of ys = map (λ (p : Such). p.0) ys

  abbrev form : Shape-F Such → Shape-F Shape
  form y = map-Shape Such Shape (λ p. p.0) y

  each_grows : (ys : List Such) (n m : ℕ) → nat_le n m ≡ true → all_below n (shapes_of ys) ≡ true → all_below m (shapes_of ys) ≡ true
  each_grows [] n m l h = refl
  each_grows (y ∷ ys) n m l h =
      let k = and_parts (below n y.0) (all_below n (shapes_of ys)) h in
      two (below m y.0) (all_below m (shapes_of ys)) (y.1 n m l k.0) (each_grows ys n m l k.1)

  less : (i n m : ℕ) → nat_le n m ≡ true → nat_lt i n ≡ true → nat_lt i m ≡ true
  less i n m l h = grind (arith, l, h)

  form_grows : (y : Shape-F Such) (n m : ℕ) → nat_le n m ≡ true → below_form n (map-Shape Shape Bool (below n) (form y)) ≡ true
      → below_form m (map-Shape Shape Bool (below m) (form y)) ≡ true
  form_grows (S.List y) n m l h = y.1 n m l h
  form_grows (S.Vector y) n m l h = y.1 n m l h
  form_grows (S.Tuple ys) n m l h = each_grows ys n m l h
  form_grows (S.Named i ys) n m l h = each_grows ys n m l h
  form_grows (S.Variable i) n m l h = less i n m l h
  form_grows S.Hole n m l h = no h
  form_grows S.Never n m l h = no h
  form_grows y n m l h = refl

  rolled_grows : (y : Shape-F Such) → Grows (roll-Shape (form y))
  rolled_grows y n m l h =
      fold-roll-Shape Bool (below_form m) (form y) ∙ form_grows y n m l (sym (fold-roll-Shape Bool (below_form n) (form y)) ∙ h)

  grows : (s : Shape) → Grows s
  grows = ind-Shape Grows (λ e y is. subst (λ d. Grows (roll-Shape d)) is (rolled_grows y))

all_grow : (ss : List Shape) (n m : ℕ) → nat_le n m ≡ true → all_below n ss ≡ true → all_below m ss ≡ true
all_grow [] n m l h = refl
all_grow (s ∷ ss) n m l h =
    let k = and_parts (below n s) (all_below n ss) h in
    two (below m s) (all_below m ss) (grows s n m l k.0) (all_grow ss n m l k.1)

left_less : (n m : ℕ) → nat_le n (n + m) ≡ true
left_less n m = grind arith

right_less : (n m : ℕ) → nat_le m (n + m) ≡ true
right_less n m = grind arith

-- ---- forms

abbrev pub is_tuple_form : Shape-F Shape → Bool
is_tuple_form (S.Tuple ss) = true
is_tuple_form y = false

abbrev pub is_never_form : Shape-F Shape → Bool
is_never_form S.Never = true
is_never_form y = false

-- ---- what is left open

abbrev open_of : Shape → Openness
open_of = fold-Shape Openness openness_form

module _ (types : Types) where
  -- a shape without an open part, and one that no value has
  abbrev Bounded : Shape → Type 0
  Bounded s = (n : ℕ) × (below n s ≡ true)

  abbrev NoValue : Shape → Type 0
  NoValue s = (c : Choice) (v : Value) → fits types v (put c s) ≡ false

  abbrev Settles : Bool → Shape → Type 0
  Settles never s = (never ≡ false → Bounded s) × (never ≡ true → NoValue s)

  abbrev Told : Shape → Type 0
  Told s = (open_of s).open_inside ≡ false → Settles (open_of s).never s

  abbrev SuchT : Type 0
  SuchT = (s : Shape) × Told s

  abbrev shapes_told : List SuchT → List Shape
  shapes_told ys = map (λ (p : SuchT). p.0) ys

  abbrev form_of : Shape-F SuchT → Shape-F Shape
  form_of y = map-Shape SuchT Shape (λ p. p.0) y

  abbrev AllSettle : Bool → List Shape → Type 0
  AllSettle never ss =
      (never ≡ false → (n : ℕ) × (all_below n ss ≡ true))
      × (never ≡ true → (c : Choice) (vs : List Value) → each_fits (map (fits types) vs) (map (put c) ss) ≡ false)

  first_never : (b : Bool) (s : Shape) (ss : List Shape) (rest : Bool) → Settles b s → AllSettle rest ss
      → ((b || rest) ≡ false → (n : ℕ) × (all_below n (s ∷ ss) ≡ true))
      × ((b || rest) ≡ true → (c : Choice) (vs : List Value) → each_fits (map (fits types) vs) (map (put c) (s ∷ ss)) ≡ false)
  first_never true s ss rest one others = (
    λ h. true_false h,
    λ h c vs. no_first c vs,
  )
    where
      no_first : (c : Choice) (vs : List Value) → each_fits (map (fits types) vs) (map (put c) (s ∷ ss)) ≡ false
      no_first c [] = refl
      no_first c (v ∷ vs) = ap (λ b. b && each_fits (map (fits types) vs) (map (put c) ss)) (one.1 refl c v)
  first_never false s ss rest one others = (
    λ h. both_bounded (one.0 refl) (others.0 h),
    λ h c vs. no_other c vs (others.1 h),
  )
    where
      both_bounded : Bounded s → (n : ℕ) × (all_below n ss ≡ true) → (n : ℕ) × (all_below n (s ∷ ss) ≡ true)
      both_bounded a b = (
        a.0 + b.0,
        two (below (a.0 + b.0) s) (all_below (a.0 + b.0) ss) (grows s a.0 (a.0 + b.0) (left_less a.0 b.0) a.1)
            (all_grow ss b.0 (a.0 + b.0) (right_less a.0 b.0) b.1),
      )

      no_other : (c : Choice) (vs : List Value)
          → ((c : Choice) (vs : List Value) → each_fits (map (fits types) vs) (map (put c) ss) ≡ false)
          → each_fits (map (fits types) vs) (map (put c) (s ∷ ss)) ≡ false
      no_other c [] f = refl
      no_other c (v ∷ vs) f = ap (λ b. fits types v (put c s) && b) (f c vs) ∙ nothing (fits types v (put c s))
        where
          nothing : (b : Bool) → (b && false) ≡ false
          nothing true = refl
          nothing false = refl

  each_settles : (ys : List SuchT) → any_open (map open_of (shapes_told ys)) ≡ false → AllSettle (any_never (map open_of (shapes_told ys))) (shapes_told ys)
  each_settles [] h = (λ e. (0, refl), λ e. no e)
  each_settles (y ∷ ys) h =
      let k = neither (open_of y.0).open_inside (any_open (map open_of (shapes_told ys))) h in
      first_never (open_of y.0).never y.0 (shapes_told ys) (any_never (map open_of (shapes_told ys))) (y.1 k.0) (each_settles ys k.1)

  -- a shape of a form that isn't open
  bounded_leaf : (x : Shape-F Shape) (n : ℕ) → below_form n (map-Shape Shape Bool (below n) x) ≡ true → Settles false (roll-Shape x)
  bounded_leaf x n h = (λ e. (n, leaf_below n x (roll-Shape x) refl h), λ e. no e)

  no_tuple : (ss : List Shape) → ((c : Choice) (vs : List Value) → each_fits (map (fits types) vs) (map (put c) ss) ≡ false) → NoValue (roll-Shape (S.Tuple ss))
  no_tuple ss f c v = not_true (fits types v (put c (roll-Shape (S.Tuple ss)))) (λ h.
      let g = form_tuple types (out-Value v) (map (put c) ss) (form_given types c (roll-Shape (S.Tuple ss)) (S.Tuple (map (put c) ss)) v
      (out_put c (roll-Shape (S.Tuple ss)) ∙ ap (opened_at c) (out-roll-Shape (S.Tuple ss))) h) in
      false_is (sym (f c g.0) ∙ g.2))
    where
      false_is : false ≡ true → ⊥
      false_is h = cc

  no_never_form : (x : Value-F Value) → form_fits types (map-Value Value Asked (fits types) x) S.Never ≡ false
  no_never_form x = refl

  no_never : NoValue (roll-Shape S.Never)
  no_never c v = not_true (fits types v (put c (roll-Shape S.Never))) (λ h.
      false_is (sym (no_never_form (out-Value v)) ∙ form_given types c (roll-Shape S.Never) S.Never v
      (out_put c (roll-Shape S.Never) ∙ ap (opened_at c) (out-roll-Shape S.Never)) h))
    where
      false_is : false ≡ true → ⊥
      false_is h = cc

  next_below : (i : ℕ) → nat_lt i (suc i) ≡ true
  next_below i = grind arith

  form_told : (y : Shape-F SuchT) → (openness_form (map-Shape Shape Openness open_of (form_of y))).open_inside ≡ false
      → Settles (openness_form (map-Shape Shape Openness open_of (form_of y))).never (roll-Shape (form_of y))
  form_told (S.List y) h =
      let k = neither (open_of y.0).never (open_of y.0).open_inside h in
      let b = (y.1 k.1).0 k.0 in
      bounded_leaf (S.List y.0) b.0 b.1
  form_told (S.Vector y) h =
      let k = neither (open_of y.0).never (open_of y.0).open_inside h in
      let b = (y.1 k.1).0 k.0 in
      bounded_leaf (S.Vector y.0) b.0 b.1
  form_told (S.Tuple ys) h =
      let r = each_settles ys h in (
        λ e. let b = r.0 e in (b.0, leaf_below b.0 (S.Tuple (shapes_told ys)) (roll-Shape (S.Tuple (shapes_told ys))) refl b.1),
        λ e. no_tuple (shapes_told ys) (r.1 e),
      )
  form_told (S.Named i ys) h =
      let k = neither (any_never (map open_of (shapes_told ys))) (any_open (map open_of (shapes_told ys))) h in
      let b = (each_settles ys k.1).0 k.0 in
      bounded_leaf (S.Named i (shapes_told ys)) b.0 b.1
  form_told (S.Variable i) h = bounded_leaf (S.Variable i) (suc i) (next_below i)
  form_told S.Unit h = bounded_leaf S.Unit 0 refl
  form_told S.Bool h = bounded_leaf S.Bool 0 refl
  form_told S.Bit h = bounded_leaf S.Bit 0 refl
  form_told S.Bits h = bounded_leaf S.Bits 0 refl
  form_told S.Int h = bounded_leaf S.Int 0 refl
  form_told S.String h = bounded_leaf S.String 0 refl
  form_told S.Hole h = true_false h
  form_told S.Never h = (λ e. true_false e, λ e. no_never)

  rolled_told : (y : Shape-F SuchT) → Told (roll-Shape (form_of y))
  rolled_told y =
      subst (λ (o : Openness). o.open_inside ≡ false → Settles o.never (roll-Shape (form_of y))) (sym (fold-roll-Shape Openness openness_form (form_of y)))
      (form_told y)

  told : (s : Shape) → Told s
  told = ind-Shape Told (λ e y is. subst (λ d. Told (roll-Shape d)) is (rolled_told y))

  -- what a `var` begins with, where nothing of it is left open
  pub settles : (s : Shape) → leaves_open s ≡ false → IsSettled types s
  settles s h = by_never (open_of s).never (told s h)
    where
      by_never : (b : Bool) → Settles b s → IsSettled types s
      by_never true p = inr (p.1 refl)
      by_never false p = inl (p.0 refl)

  -- a shape that leaves nothing open has no value, or is one without an open part
  pub bounded : (s : Shape) → leaves_open s ≡ false → (open_of s).never ≡ false → (n : ℕ) × (below n s ≡ true)
  bounded s h k = (told s h).0 k

-- ---- no part is unknown

abbrev Seen : Shape → Type 0
Seen s = has_never s ≡ false → (open_of s).never ≡ false

module _ where
  abbrev SuchN : Type 0
  SuchN = (s : Shape) × Seen s

  abbrev shapes_seen : List SuchN → List Shape
  shapes_seen ys = map (λ (p : SuchN). p.0) ys

  abbrev form_seen : Shape-F SuchN → Shape-F Shape
  form_seen y = map-Shape SuchN Shape (λ p. p.0) y

  either_false : (a b : Bool) → a ≡ false → b ≡ false → (a || b) ≡ false
  either_false false b h k = k
  either_false true b h k = true_false h

  each_seen : (ys : List SuchN) → any_of (map has_never (shapes_seen ys)) ≡ false → any_never (map open_of (shapes_seen ys)) ≡ false
  each_seen [] h = refl
  each_seen (y ∷ ys) h =
      let k = neither (has_never y.0) (any_of (map has_never (shapes_seen ys))) h in
      either_false (open_of y.0).never (any_never (map open_of (shapes_seen ys))) (y.1 k.0) (each_seen ys k.1)

  form_is_seen : (y : Shape-F SuchN) → never_form (map-Shape Shape Bool has_never (form_seen y)) ≡ false
      → (openness_form (map-Shape Shape Openness open_of (form_seen y))).never ≡ false
  form_is_seen (S.Tuple ys) h = each_seen ys h
  form_is_seen S.Never h = true_false h
  form_is_seen y h = refl

  rolled_seen : (y : Shape-F SuchN) → Seen (roll-Shape (form_seen y))
  rolled_seen y h =
      ap (λ (o : Openness). o.never) (fold-roll-Shape Openness openness_form (form_seen y))
      ∙ form_is_seen y (sym (fold-roll-Shape Bool never_form (form_seen y)) ∙ h)

  seen : (s : Shape) → Seen s
  seen = ind-Shape Seen (λ e y is. subst (λ d. Seen (roll-Shape d)) is (rolled_seen y))

-- a shape that is known in each part
pub known_below : (types : Types) (s : Shape) → leaves_open s ≡ false → has_never s ≡ false → (n : ℕ) × (below n s ≡ true)
known_below types s h k = bounded types s h (seen s k)

-- a shape that leaves nothing open, and is no tuple, and may have values
never_of : (y : Shape-F Shape) → is_tuple_form y ≡ false → is_never_form y ≡ false → (openness_form (map-Shape Shape Openness open_of y)).never ≡ false
never_of (S.Tuple ss) h k = true_false h
never_of S.Never h k = true_false k
never_of y h k = refl

pub form_below : (types : Types) (s : Shape) (y : Shape-F Shape) → out-Shape s ≡ y → leaves_open s ≡ false → is_tuple_form y ≡ false
    → is_never_form y ≡ false → (n : ℕ) × (below n s ≡ true)
form_below types s y is h tuple never =
    bounded types s h (ap (λ (o : Openness). o.never)
    (ap open_of (rolled s) ∙ fold-roll-Shape Openness openness_form (out-Shape s) ∙ ap (λ x. openness_form (map-Shape Shape Openness open_of x)) is)
    ∙ never_of y tuple never)
