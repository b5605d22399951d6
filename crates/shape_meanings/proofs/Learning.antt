-- Where some shapes in the place of a parameter's variables make it an argument's shape, its variables can be learnt from the argument, and
-- what is learnt is below those shapes: an induction on the parameter.
use Rattle.std.proofs.Common.{◌≡◌, ℕ, zero, suc, List, [], ◌∷◌, map, length, ap, sym, ◌∙◌, refl, subst, true, Option, Some, None}
use Rattle.std.proofs.Common.{Bool, nat_eq, nat_lt, slice_set, if◌then◌else◌}
use Rattle.std.proofs.lemmas.Bool.{and_parts}
use Rattle.sail_types.specs.Shapes.{at, put}
use Rattle.sail_types.specs.declared.shapes.Shape.{Shape, Shape-F, out-Shape, roll-Shape}
use Rattle.sail_types.specs.declared.shapes.Shape.TheFolds.{fold-roll-Shape, map-Shape, ind-Shape}
use Rattle.sail_types.specs.declared.shapes.Shape.TheOpen as S
use Rattle.sail_types.specs.declared.shapes.Shape.TheVariants as V
use Rattle.sail_types.specs.declared.shapes.Shape.TheViews.{out-roll-Shape}
use Rattle.shape_joins.specs.Joins.{join}
use Rattle.shape_joins.specs.Learning.{Learns, learn, learn_form, learn_all, also, also_as, then_learn, holes}
use Rattle.shape_joins.specs.Filling.{fills, fill_form, fill_all}
use Rattle.shape_joins.proofs.Order.{no, two, same_nat, equal, tests, at_forms, fills_twice}
use Rattle.shape_joins.proofs.JoinsLeast.{some_same, none, joins_are_least}
use Rattle.shape_joins.proofs.Learnt.{learning_fills}
use Rattle.shape_meanings.specs.Whole.{below, below_form, all_below}
use Rattle.shape_meanings.proofs.Orders.{Below, puts, all_itself, at_below, put_more}

-- so much is known, and it is below these shapes
pub record Known (n : ℕ) (e : ℕ → Shape) (known : List Shape) : Type 0 where
  pub count : length known ≡ n
  pub lower : Below (at known) e

abbrev pub CanLearn : ℕ → (ℕ → Shape) → (List Shape → Option (List Shape)) → Type 0
CanLearn n e teach = (known : List Shape) → Known n e known → (later : List Shape) × (teach known ≡ Some later) × Known n e later

-- ---- one variable

set_length : (known : List Shape) (i : ℕ) (t : Shape) → length (slice_set known i t) ≡ length known
set_length [] i t = refl
set_length (k ∷ ks) zero t = refl
set_length (k ∷ ks) (suc i) t = ap suc (set_length ks i t)

set_below : (known : List Shape) (i : ℕ) (t : Shape) (e : ℕ → Shape) → Below (at known) e → fills t (e i) ≡ true → Below (at (slice_set known i t)) e
set_below [] i t e b h j = b j
set_below (k ∷ ks) zero t e b h zero = h
set_below (k ∷ ks) zero t e b h (suc j) = b (suc j)
set_below (k ∷ ks) (suc i) t e b h zero = b zero
set_below (k ∷ ks) (suc i) t e b h (suc j) = set_below ks i t (λ m. e (suc m)) (λ m. b (suc m)) h j

also_can : (n i : ℕ) (s : Shape) (e : ℕ → Shape) → nat_lt i n ≡ true → fills s (e i) ≡ true → CanLearn n e (λ known. also known i s)
also_can n i s e lt h known k =
    let j = joins_are_least (at known i) s (e i) (k.lower i) h in (
      slice_set known i j.0,
      ap (λ b. if b then also_as known i (join (at known i) s) else None) (ap (nat_lt i) k.count ∙ lt) ∙ ap (also_as known i) j.1,
      record { count = set_length known i j.0 ∙ k.count; lower = set_below known i j.0 e k.lower j.2 },
    )

-- ---- parameters

abbrev Taught : Shape → Type 0
Taught p = (n : ℕ) (e : ℕ → Shape) (s : Shape) → below n p ≡ true → fills s (put e p) ≡ true → CanLearn n e (learn p s)

-- nothing is learnt
unchanged : (n : ℕ) (e : ℕ → Shape) → CanLearn n e Some
unchanged n e known k = (known, refl, k)

module _ where
  abbrev Such : Type 0
  Such = (s : Shape) × Taught s

  abbrev shapes_of : List Such → List Shape
  shapes_of ys = map (λ (p : Such). p.0) ys

  abbrev form : Shape-F Such → Shape-F Shape
  form y = map-Shape Such Shape (λ p. p.0) y

  each_taught : (ys : List Such) (n : ℕ) (e : ℕ → Shape) (ss : List Shape) → all_below n (shapes_of ys) ≡ true
      → fill_all ss (map (put e) (shapes_of ys)) ≡ true → CanLearn n e (learn_all (map learn (shapes_of ys)) ss)
  each_taught [] n e [] b h known k = (known, refl, k)
  each_taught [] n e (s ∷ ss) b h known k = no h
  each_taught (y ∷ ys) n e [] b h known k = no h
  each_taught (y ∷ ys) n e (s ∷ ss) b h known k =
      let b2 = and_parts (below n y.0) (all_below n (shapes_of ys)) b in
      let h2 = and_parts (fills s (put e y.0)) (fill_all ss (map (put e) (shapes_of ys))) h in
      let first = y.1 n e s b2.0 h2.0 known k in
      let rest = each_taught ys n e ss b2.1 h2.1 first.0 first.2 in
      (rest.0, ap (λ o. then_learn o (learn_all (map learn (shapes_of ys)) ss)) first.1 ∙ rest.1, rest.2)

  abbrev learns_of : Shape-F Such → Shape-F Learns
  learns_of y = map-Shape Shape Learns learn (form y)

  -- what is put in the place of variables, at a form that is none
  abbrev placed : (ℕ → Shape) → Shape-F Shape → Shape-F Shape
  placed e (S.List s) = S.List (put e s)
  placed e (S.Vector s) = S.Vector (put e s)
  placed e (S.Tuple ss) = S.Tuple (map (put e) ss)
  placed e (S.Named i ss) = S.Named i (map (put e) ss)
  placed e (S.Variable i) = out-Shape (e i)
  placed e x = x

  placed_is : (e : ℕ → Shape) (x : Shape-F Shape) → out-Shape (put e (roll-Shape x)) ≡ placed e x
  placed_is e S.Unit = ap out-Shape (puts e S.Unit) ∙ out-roll-Shape S.Unit
  placed_is e S.Bool = ap out-Shape (puts e S.Bool) ∙ out-roll-Shape S.Bool
  placed_is e S.Bit = ap out-Shape (puts e S.Bit) ∙ out-roll-Shape S.Bit
  placed_is e S.Bits = ap out-Shape (puts e S.Bits) ∙ out-roll-Shape S.Bits
  placed_is e S.Int = ap out-Shape (puts e S.Int) ∙ out-roll-Shape S.Int
  placed_is e S.String = ap out-Shape (puts e S.String) ∙ out-roll-Shape S.String
  placed_is e (S.List s) = ap out-Shape (puts e (S.List s)) ∙ out-roll-Shape (S.List (put e s))
  placed_is e (S.Vector s) = ap out-Shape (puts e (S.Vector s)) ∙ out-roll-Shape (S.Vector (put e s))
  placed_is e (S.Tuple ss) = ap out-Shape (puts e (S.Tuple ss)) ∙ out-roll-Shape (S.Tuple (map (put e) ss))
  placed_is e (S.Named i ss) = ap out-Shape (puts e (S.Named i ss)) ∙ out-roll-Shape (S.Named i (map (put e) ss))
  placed_is e (S.Variable i) = ap out-Shape (puts e (S.Variable i))
  placed_is e S.Hole = ap out-Shape (puts e S.Hole) ∙ out-roll-Shape S.Hole
  placed_is e S.Never = ap out-Shape (puts e S.Never) ∙ out-roll-Shape S.Never

  form_taught : (y : Shape-F Such) (n : ℕ) (e : ℕ → Shape) (s : Shape) (z : Shape-F Shape) → below_form n (map-Shape Shape Bool (below n) (form y)) ≡ true
      → fill_form (tests z) (placed e (form y)) ≡ true → ((i : ℕ) → form y ≡ S.Variable i → fills s (e i) ≡ true)
      → CanLearn n e (learn_form (learns_of y) s z)
  form_taught (S.Variable i) n e s z b h v = also_can n i s e b (v i refl)
  form_taught S.Unit n e s S.Unit b h v = unchanged n e
  form_taught S.Unit n e s S.Hole b h v = unchanged n e
  form_taught S.Unit n e s S.Never b h v = unchanged n e
  form_taught S.Bool n e s S.Bool b h v = unchanged n e
  form_taught S.Bool n e s S.Hole b h v = unchanged n e
  form_taught S.Bool n e s S.Never b h v = unchanged n e
  form_taught S.Bit n e s S.Bit b h v = unchanged n e
  form_taught S.Bit n e s S.Hole b h v = unchanged n e
  form_taught S.Bit n e s S.Never b h v = unchanged n e
  form_taught S.Bits n e s S.Bits b h v = unchanged n e
  form_taught S.Bits n e s S.Hole b h v = unchanged n e
  form_taught S.Bits n e s S.Never b h v = unchanged n e
  form_taught S.Int n e s S.Int b h v = unchanged n e
  form_taught S.Int n e s S.Hole b h v = unchanged n e
  form_taught S.Int n e s S.Never b h v = unchanged n e
  form_taught S.String n e s S.String b h v = unchanged n e
  form_taught S.String n e s S.Hole b h v = unchanged n e
  form_taught S.String n e s S.Never b h v = unchanged n e
  form_taught (S.List y) n e s (S.List u) b h v = y.1 n e u b h
  form_taught (S.List y) n e s S.Hole b h v = unchanged n e
  form_taught (S.List y) n e s S.Never b h v = unchanged n e
  form_taught (S.Vector y) n e s (S.Vector u) b h v = y.1 n e u b h
  form_taught (S.Vector y) n e s S.Hole b h v = unchanged n e
  form_taught (S.Vector y) n e s S.Never b h v = unchanged n e
  form_taught (S.Tuple ys) n e s (S.Tuple us) b h v = each_taught ys n e us b h
  form_taught (S.Tuple ys) n e s S.Hole b h v = unchanged n e
  form_taught (S.Tuple ys) n e s S.Never b h v = unchanged n e
  form_taught (S.Named i ys) n e s (S.Named j us) b h v = λ known k.
      let h2 = and_parts (nat_eq j i) (fill_all us (map (put e) (shapes_of ys))) h in
      let r = each_taught ys n e us b h2.1 known k in (
        r.0,
        ap (λ t. if t then learn_all (map learn (shapes_of ys)) us known else None) (subst (λ m. nat_eq m j ≡ true) (equal j i h2.0) (same_nat j)) ∙ r.1,
        r.2,
      )
  form_taught (S.Named i ys) n e s S.Hole b h v = unchanged n e
  form_taught (S.Named i ys) n e s S.Never b h v = unchanged n e
  form_taught S.Hole n e s z b h v = no b
  form_taught S.Never n e s z b h v = no b
  form_taught y n e s z b h v = no h

  -- what learning from a form is
  learns : (x : Shape-F Shape) (s : Shape) (known : List Shape)
      → learn (roll-Shape x) s known ≡ learn_form (map-Shape Shape Learns learn x) s (out-Shape s) known
  learns x s known = ap (λ f. f s known) (fold-roll-Shape Learns (λ p u k. learn_form p u (out-Shape u) k) x)

  rolled_taught : (y : Shape-F Such) → Taught (roll-Shape (form y))
  rolled_taught y n e s b h known k =
      let r = form_taught y n e s (out-Shape s) (sym (fold-roll-Shape Bool (below_form n) (form y)) ∙ b)
      (ap (fill_form (tests (out-Shape s))) (sym (placed_is e (form y))) ∙ sym (at_forms s (put e (roll-Shape (form y)))) ∙ h)
      (λ i is. subst (λ u. fills s u ≡ true) (ap (λ x. put e (roll-Shape x)) is ∙ puts e (S.Variable i)) h) known k in
      (r.0, learns (form y) s known ∙ r.1, r.2)

  pub taught : (p : Shape) → Taught p
  taught = ind-Shape Taught (λ e y is. subst (λ d. Taught (roll-Shape d)) is (rolled_taught y))

pub all_taught : (ps : List Shape) (n : ℕ) (e : ℕ → Shape) (ss : List Shape) → all_below n ps ≡ true → fill_all ss (map (put e) ps) ≡ true
    → CanLearn n e (learn_all (map learn ps) ss)
all_taught [] n e [] b h known k = (known, refl, k)
all_taught [] n e (s ∷ ss) b h known k = no h
all_taught (p ∷ ps) n e [] b h known k = no h
all_taught (p ∷ ps) n e (s ∷ ss) b h known k =
    let b2 = and_parts (below n p) (all_below n ps) b in
    let h2 = and_parts (fills s (put e p)) (fill_all ss (map (put e) ps)) h in
    let first = taught p n e s b2.0 h2.0 known k in
    let rest = all_taught ps n e ss b2.1 h2.1 first.0 first.2 in
    (rest.0, ap (λ o. then_learn o (learn_all (map learn ps) ss)) first.1 ∙ rest.1, rest.2)

-- ---- holes are below all but what never ends

pub at_holes : (n i : ℕ) → at (holes n) i ≡ V.Hole
at_holes zero i = refl
at_holes (suc n) zero = refl
at_holes (suc n) (suc i) = at_holes n i

holes_count : (n : ℕ) → length (holes n) ≡ n
holes_count zero = refl
holes_count (suc n) = ap suc (holes_count n)

pub holes_known : (n : ℕ) (e : ℕ → Shape) → ((i : ℕ) → fills V.Hole (e i) ≡ true) → Known n e (holes n)
holes_known n e b = record { count = holes_count n; lower = λ i. ap (λ s. fills s (e i)) (at_holes n i) ∙ b i }

-- ---- what is learnt fills

pub all_twice : (ss ts us : List Shape) → fill_all ss ts ≡ true → fill_all ts us ≡ true → fill_all ss us ≡ true
all_twice [] [] us a b = b
all_twice [] (t ∷ ts) us a b = no a
all_twice (s ∷ ss) [] us a b = no a
all_twice (s ∷ ss) (t ∷ ts) [] a b = no b
all_twice (s ∷ ss) (t ∷ ts) (u ∷ us) a b =
    let a2 = and_parts (fills s t) (fill_all ss ts) a in
    let b2 = and_parts (fills t u) (fill_all ts us) b in
    two (fills s u) (fill_all ss us) (fills_twice s t u a2.0 b2.0) (all_twice ss ts us a2.1 b2.1)

by_then : (o : Option (List Shape)) (next : List Shape → Option (List Shape)) (t : List Shape) → then_learn o next ≡ Some t
    → (m : List Shape) × (o ≡ Some m) × (next m ≡ Some t)
by_then None next t e = none e
by_then (Some m) next t e = (m, refl, e)

pub learnt_all : (ps ss known later : List Shape) → learn_all (map learn ps) ss known ≡ Some later
    → (fill_all known later ≡ true) × (fill_all ss (map (put (at later)) ps) ≡ true)
learnt_all [] [] known later e = subst (λ ts. (fill_all known ts ≡ true) × (fill_all [] [] ≡ true)) (some_same known later e) (all_itself known, refl)
learnt_all [] (s ∷ ss) known later e = none e
learnt_all (p ∷ ps) [] known later e = none e
learnt_all (p ∷ ps) (s ∷ ss) known later e =
    let o = by_then (learn p s known) (learn_all (map learn ps) ss) later e in
    let a = learning_fills p s known o.0 o.1 in
    let b = learnt_all ps ss o.0 later o.2 in (
      all_twice known o.0 later a.0 b.0,
      two (fills s (put (at later) p)) (fill_all ss (map (put (at later)) ps))
          (fills_twice s (put (at o.0) p) (put (at later) p) a.1 (put_more p (at o.0) (at later) (at_below o.0 later b.0))) b.1,
    )

pub learns_what_there_is : (params : List Shape) (count : ℕ) (ss : List Shape) (e : ℕ → Shape) → all_below count params ≡ true
    → fill_all ss (map (put e) params) ≡ true → ((i : ℕ) → fills V.Hole (e i) ≡ true)
    → (known : List Shape) × (learn_all (map learn params) ss (holes count) ≡ Some known)
learns_what_there_is params count ss e b h above =
    let r = all_taught params count e ss b h (holes count) (holes_known count e above) in
    (r.0, r.1)
