-- What is learnt from an argument keeps what was known, and makes the parameter the argument's shape: an induction on the parameter.
use Rattle.std.proofs.Common.{◌≡◌, ℕ, zero, suc, List, [], ◌∷◌, map, length, ap, sym, ◌∙◌, refl, subst, true, Option, Some, None, arith}
use Rattle.std.proofs.Common.{nat_eq, nat_lt, slice_set}
use Rattle.std.proofs.lemmas.Bool.{and_parts}
use Rattle.sail_types.specs.Shapes.{at, put, put_form}
use Rattle.sail_types.specs.declared.shapes.Shape.{Shape, Shape-F, out-Shape, roll-Shape}
use Rattle.sail_types.specs.declared.shapes.Shape.TheFolds.{fold-roll-Shape, map-Shape, ind-Shape}
use Rattle.sail_types.specs.declared.shapes.Shape.TheOpen as S
use Rattle.shape_joins.specs.Joins.{join}
use Rattle.shape_joins.specs.Learning.{Learns, learn, learn_form, learn_all, also, also_as, then_learn}
use Rattle.shape_joins.specs.Filling.{fills, fill_all}
use Rattle.shape_joins.specs.Order.{LearningFills}
use Rattle.shape_joins.proofs.Order.{no, two, same_nat, equal, opens, rolled, fills_itself, fills_twice}
use Rattle.shape_joins.proofs.JoinsLeast.{some_same, none, by_if, joins_are_above}

-- ---- lists

all_itself : (ss : List Shape) → fill_all ss ss ≡ true
all_itself [] = refl
all_itself (s ∷ ss) = two (fills s s) (fill_all ss ss) (fills_itself s) (all_itself ss)

all_twice : (ss ts us : List Shape) → fill_all ss ts ≡ true → fill_all ts us ≡ true → fill_all ss us ≡ true
all_twice [] [] us a b = b
all_twice [] (t ∷ ts) us a b = no a
all_twice (s ∷ ss) [] us a b = no a
all_twice (s ∷ ss) (t ∷ ts) [] a b = no b
all_twice (s ∷ ss) (t ∷ ts) (u ∷ us) a b =
    let a2 = and_parts (fills s t) (fill_all ss ts) a in
    let b2 = and_parts (fills t u) (fill_all ts us) b in
    two (fills s u) (fill_all ss us) (fills_twice s t u a2.0 b2.0) (all_twice ss ts us a2.1 b2.1)

-- what is known of each variable is below what is known of it there
abbrev Below : (ℕ → Shape) → (ℕ → Shape) → Type 0
Below c e = (i : ℕ) → fills (c i) (e i) ≡ true

at_below : (ss ts : List Shape) → fill_all ss ts ≡ true → Below (at ss) (at ts)
at_below [] [] h i = fills_itself (at [] i)
at_below [] (t ∷ ts) h i = no h
at_below (s ∷ ss) [] h i = no h
at_below (s ∷ ss) (t ∷ ts) h zero = (and_parts (fills s t) (fill_all ss ts) h).0
at_below (s ∷ ss) (t ∷ ts) h (suc i) = at_below ss ts (and_parts (fills s t) (fill_all ss ts) h).1 i

nothing_below : (i : ℕ) → nat_lt i 0 ≡ true → ⊥
nothing_below i h = grind (arith, h)

one_less : (i n : ℕ) → nat_lt (suc i) (suc n) ≡ true → nat_lt i n ≡ true
one_less i n h = grind (arith, h)

set_above : (known : List Shape) (i : ℕ) (t : Shape) → nat_lt i (length known) ≡ true → fills (at known i) t ≡ true
    → (fill_all known (slice_set known i t) ≡ true) × (at (slice_set known i t) i ≡ t)
set_above [] i t h f = absurd (nothing_below i h)
set_above (k ∷ ks) zero t h f = (two (fills k t) (fill_all ks ks) f (all_itself ks), refl)
set_above (k ∷ ks) (suc i) t h f =
    let r = set_above ks i t (one_less i (length ks) h) f in
    (two (fills k k) (fill_all ks (slice_set ks i t)) (fills_itself k) r.0, r.1)

-- ---- shapes with more known of their variables

abbrev Monotone : Shape → Type 0
Monotone p = (c e : ℕ → Shape) → Below c e → fills (put c p) (put e p) ≡ true

-- what a form is with its variables' shapes in their place
puts : (c : ℕ → Shape) (x : Shape-F Shape) → put c (roll-Shape x) ≡ put_form c (map-Shape Shape Shape (put c) x)
puts c x = fold-roll-Shape Shape (put_form c) x

module _ where
  abbrev Such : Type 0
  Such = (s : Shape) × Monotone s

  abbrev shapes_of : List Such → List Shape
  shapes_of ys = map (λ (p : Such). p.0) ys

  abbrev form : Shape-F Such → Shape-F Shape
  form y = map-Shape Such Shape (λ p. p.0) y

  each_more : (ys : List Such) (c e : ℕ → Shape) → Below c e → fill_all (map (put c) (shapes_of ys)) (map (put e) (shapes_of ys)) ≡ true
  each_more [] c e b = refl
  each_more (y ∷ ys) c e b =
      two (fills (put c y.0) (put e y.0)) (fill_all (map (put c) (shapes_of ys)) (map (put e) (shapes_of ys))) (y.1 c e b) (each_more ys c e b)

  form_more : (y : Shape-F Such) (c e : ℕ → Shape) → Below c e
      → fills (put_form c (map-Shape Shape Shape (put c) (form y))) (put_form e (map-Shape Shape Shape (put e) (form y))) ≡ true
  form_more S.Unit c e b = opens S.Unit S.Unit
  form_more S.Bool c e b = opens S.Bool S.Bool
  form_more S.Bit c e b = opens S.Bit S.Bit
  form_more S.Bits c e b = opens S.Bits S.Bits
  form_more S.Int c e b = opens S.Int S.Int
  form_more S.String c e b = opens S.String S.String
  form_more (S.List y) c e b = opens (S.List (put c y.0)) (S.List (put e y.0)) ∙ y.1 c e b
  form_more (S.Vector y) c e b = opens (S.Vector (put c y.0)) (S.Vector (put e y.0)) ∙ y.1 c e b
  form_more (S.Tuple ys) c e b = opens (S.Tuple (map (put c) (shapes_of ys))) (S.Tuple (map (put e) (shapes_of ys))) ∙ each_more ys c e b
  form_more (S.Named i ys) c e b =
      opens (S.Named i (map (put c) (shapes_of ys))) (S.Named i (map (put e) (shapes_of ys)))
      ∙ two (nat_eq i i) (fill_all (map (put c) (shapes_of ys)) (map (put e) (shapes_of ys))) (same_nat i) (each_more ys c e b)
  form_more (S.Variable i) c e b = b i
  form_more S.Hole c e b = opens S.Hole S.Hole
  form_more S.Never c e b = opens S.Never S.Never

  rolled_more : (y : Shape-F Such) → Monotone (roll-Shape (form y))
  rolled_more y c e b =
      ap (λ s. fills s (put e (roll-Shape (form y)))) (puts c (form y))
      ∙ ap (fills (put_form c (map-Shape Shape Shape (put c) (form y)))) (puts e (form y))
      ∙ form_more y c e b

  put_more : (p : Shape) → Monotone p
  put_more = ind-Shape Monotone (λ e y is. subst (λ d. Monotone (roll-Shape d)) is (rolled_more y))

-- ---- learning

abbrev LearntFor : Shape → Shape → List Shape → List Shape → Type 0
LearntFor p s known later = (fill_all known later ≡ true) × (fills s (put (at later) p) ≡ true)

abbrev Learnt : Shape → Type 0
Learnt p = (s : Shape) (known later : List Shape) → learn p s known ≡ Some later → LearntFor p s known later

unchanged : (p s : Shape) (known later : List Shape) → fills s (put (at known) p) ≡ true → Some known ≡ Some later → LearntFor p s known later
unchanged p s known later h e = subst (LearntFor p s known) (some_same known later e) (all_itself known, h)

by_then : (o : Option (List Shape)) (next : List Shape → Option (List Shape)) (t : List Shape) → then_learn o next ≡ Some t
    → (m : List Shape) × (o ≡ Some m) × (next m ≡ Some t)
by_then None next t e = none e
by_then (Some m) next t e = (m, refl, e)

by_also : (known : List Shape) (i : ℕ) (o : Option Shape) (later : List Shape) → also_as known i o ≡ Some later
    → (t : Shape) × (o ≡ Some t) × (slice_set known i t ≡ later)
by_also known i None later e = none e
by_also known i (Some t) later e = (t, refl, some_same (slice_set known i t) later e)

also_fills : (known : List Shape) (i : ℕ) (s : Shape) (later : List Shape) → also known i s ≡ Some later
    → (fill_all known later ≡ true) × (fills s (at later i) ≡ true)
also_fills known i s later e =
    let o = by_if (nat_lt i (length known)) (also_as known i (join (at known i) s)) later e in
    let p = by_also known i (join (at known i) s) later o.1 in
    let q = joins_are_above (at known i) s p.0 p.1 in
    let r = set_above known i p.0 o.0 q.0 in
    subst (λ ts. (fill_all known ts ≡ true) × (fills s (at ts i) ≡ true)) p.2 (r.0, ap (fills s) r.1 ∙ q.1)

module _ where
  abbrev Such2 : Type 0
  Such2 = (s : Shape) × Learnt s

  abbrev shapes_of2 : List Such2 → List Shape
  shapes_of2 ys = map (λ (p : Such2). p.0) ys

  abbrev form2 : Shape-F Such2 → Shape-F Shape
  form2 y = map-Shape Such2 Shape (λ p. p.0) y

  each_learnt : (ys : List Such2) (ss known later : List Shape) → learn_all (map learn (shapes_of2 ys)) ss known ≡ Some later
      → (fill_all known later ≡ true) × (fill_all ss (map (put (at later)) (shapes_of2 ys)) ≡ true)
  each_learnt [] [] known later e =
      subst (λ ts. (fill_all known ts ≡ true) × (fill_all [] (map (put (at ts)) []) ≡ true)) (some_same known later e) (all_itself known, refl)
  each_learnt [] (s ∷ ss) known later e = none e
  each_learnt (y ∷ ys) [] known later e = none e
  each_learnt (y ∷ ys) (s ∷ ss) known later e =
      let o = by_then (learn y.0 s known) (learn_all (map learn (shapes_of2 ys)) ss) later e in
      let a = y.1 s known o.0 o.1 in
      let b = each_learnt ys ss o.0 later o.2 in (
        all_twice known o.0 later a.0 b.0,
        two (fills s (put (at later) y.0)) (fill_all ss (map (put (at later)) (shapes_of2 ys)))
            (fills_twice s (put (at o.0) y.0) (put (at later) y.0) a.1 (put_more y.0 (at o.0) (at later) (at_below o.0 later b.0))) b.1,
      )

  -- a shape of this form is below a parameter of that one, with what is known in place
  lands : (x p : Shape-F Shape) (known : List Shape) → fills (roll-Shape x) (put_form (at known) (map-Shape Shape Shape (put (at known)) p)) ≡ true
      → fills (roll-Shape x) (put (at known) (roll-Shape p)) ≡ true
  lands x p known h = ap (fills (roll-Shape x)) (puts (at known) p) ∙ h

  same : (p x : Shape-F Shape) (known later : List Shape) → fills (roll-Shape x) (put_form (at known) (map-Shape Shape Shape (put (at known)) p)) ≡ true
      → Some known ≡ Some later → LearntFor (roll-Shape p) (roll-Shape x) known later
  same p x known later h e = unchanged (roll-Shape p) (roll-Shape x) known later (lands x p known h) e

  form_learnt : (y : Shape-F Such2) (x : Shape-F Shape) (known later : List Shape)
      → learn_form (map-Shape Shape Learns learn (form2 y)) (roll-Shape x) x known ≡ Some later
      → LearntFor (roll-Shape (form2 y)) (roll-Shape x) known later
  form_learnt (S.Variable i) x known later e =
      let r = also_fills known i (roll-Shape x) later e in (r.0, lands x (S.Variable i) later r.1)
  form_learnt S.Unit S.Unit known later e = same S.Unit S.Unit known later (opens S.Unit S.Unit) e
  form_learnt S.Unit S.Hole known later e = same S.Unit S.Hole known later (opens S.Hole S.Unit) e
  form_learnt S.Unit S.Never known later e = same S.Unit S.Never known later (opens S.Never S.Unit) e
  form_learnt S.Bool S.Bool known later e = same S.Bool S.Bool known later (opens S.Bool S.Bool) e
  form_learnt S.Bool S.Hole known later e = same S.Bool S.Hole known later (opens S.Hole S.Bool) e
  form_learnt S.Bool S.Never known later e = same S.Bool S.Never known later (opens S.Never S.Bool) e
  form_learnt S.Bit S.Bit known later e = same S.Bit S.Bit known later (opens S.Bit S.Bit) e
  form_learnt S.Bit S.Hole known later e = same S.Bit S.Hole known later (opens S.Hole S.Bit) e
  form_learnt S.Bit S.Never known later e = same S.Bit S.Never known later (opens S.Never S.Bit) e
  form_learnt S.Bits S.Bits known later e = same S.Bits S.Bits known later (opens S.Bits S.Bits) e
  form_learnt S.Bits S.Hole known later e = same S.Bits S.Hole known later (opens S.Hole S.Bits) e
  form_learnt S.Bits S.Never known later e = same S.Bits S.Never known later (opens S.Never S.Bits) e
  form_learnt S.Int S.Int known later e = same S.Int S.Int known later (opens S.Int S.Int) e
  form_learnt S.Int S.Hole known later e = same S.Int S.Hole known later (opens S.Hole S.Int) e
  form_learnt S.Int S.Never known later e = same S.Int S.Never known later (opens S.Never S.Int) e
  form_learnt S.String S.String known later e = same S.String S.String known later (opens S.String S.String) e
  form_learnt S.String S.Hole known later e = same S.String S.Hole known later (opens S.Hole S.String) e
  form_learnt S.String S.Never known later e = same S.String S.Never known later (opens S.Never S.String) e
  form_learnt (S.List y) (S.List s) known later e =
      let r = y.1 s known later e in (r.0, lands (S.List s) (S.List y.0) later (opens (S.List s) (S.List (put (at later) y.0)) ∙ r.1))
  form_learnt (S.List y) S.Hole known later e = same (S.List y.0) S.Hole known later (opens S.Hole (S.List (put (at known) y.0))) e
  form_learnt (S.List y) S.Never known later e = same (S.List y.0) S.Never known later (opens S.Never (S.List (put (at known) y.0))) e
  form_learnt (S.Vector y) (S.Vector s) known later e =
      let r = y.1 s known later e in (r.0, lands (S.Vector s) (S.Vector y.0) later (opens (S.Vector s) (S.Vector (put (at later) y.0)) ∙ r.1))
  form_learnt (S.Vector y) S.Hole known later e = same (S.Vector y.0) S.Hole known later (opens S.Hole (S.Vector (put (at known) y.0))) e
  form_learnt (S.Vector y) S.Never known later e = same (S.Vector y.0) S.Never known later (opens S.Never (S.Vector (put (at known) y.0))) e
  form_learnt (S.Tuple ys) (S.Tuple ss) known later e =
      let r = each_learnt ys ss known later e in
      (r.0, lands (S.Tuple ss) (S.Tuple (shapes_of2 ys)) later (opens (S.Tuple ss) (S.Tuple (map (put (at later)) (shapes_of2 ys))) ∙ r.1))
  form_learnt (S.Tuple ys) S.Hole known later e =
      same (S.Tuple (shapes_of2 ys)) S.Hole known later (opens S.Hole (S.Tuple (map (put (at known)) (shapes_of2 ys)))) e
  form_learnt (S.Tuple ys) S.Never known later e =
      same (S.Tuple (shapes_of2 ys)) S.Never known later (opens S.Never (S.Tuple (map (put (at known)) (shapes_of2 ys)))) e
  form_learnt (S.Named i ys) (S.Named j ss) known later e =
      let o = by_if (nat_eq i j) (learn_all (map learn (shapes_of2 ys)) ss known) later e in
      let r = each_learnt ys ss known later o.1 in (
        r.0,
        lands (S.Named j ss) (S.Named i (shapes_of2 ys)) later (opens (S.Named j ss) (S.Named i (map (put (at later)) (shapes_of2 ys)))
            ∙ two (nat_eq j i) (fill_all ss (map (put (at later)) (shapes_of2 ys))) (subst (λ k. nat_eq k i ≡ true) (equal i j o.0) (same_nat i)) r.1),
      )
  form_learnt (S.Named i ys) S.Hole known later e =
      same (S.Named i (shapes_of2 ys)) S.Hole known later (opens S.Hole (S.Named i (map (put (at known)) (shapes_of2 ys)))) e
  form_learnt (S.Named i ys) S.Never known later e =
      same (S.Named i (shapes_of2 ys)) S.Never known later (opens S.Never (S.Named i (map (put (at known)) (shapes_of2 ys)))) e
  form_learnt y x known later e = none e

  -- what learning from a form is
  learns : (x : Shape-F Shape) (s : Shape) (known : List Shape)
      → learn (roll-Shape x) s known ≡ learn_form (map-Shape Shape Learns learn x) s (out-Shape s) known
  learns x s known = ap (λ f. f s known) (fold-roll-Shape Learns (λ p u k. learn_form p u (out-Shape u) k) x)

  rolled_learnt : (y : Shape-F Such2) → Learnt (roll-Shape (form2 y))
  rolled_learnt y s known later e =
      subst (λ u. LearntFor (roll-Shape (form2 y)) u known later) (sym (rolled s))
      (form_learnt y (out-Shape s) known later
      (ap (λ u. learn_form (map-Shape Shape Learns learn (form2 y)) u (out-Shape s) known) (sym (rolled s)) ∙ sym (learns (form2 y) s known) ∙ e))

  pub learning_fills : LearningFills
  learning_fills = ind-Shape Learnt (λ e y is. subst (λ d. Learnt (roll-Shape d)) is (rolled_learnt y))
