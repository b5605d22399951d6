-- Shapes with more known of their variables, shapes put into shapes, and shapes that leave nothing open.
use Rattle.std.proofs.Common.{◌≡◌, ℕ, zero, suc, List, [], ◌∷◌, map, ap, sym, ◌∙◌, refl, subst, Bool, true, nat_eq, nat_lt}
use Rattle.std.proofs.lemmas.Bool.{and_parts}
use Rattle.sail_types.specs.Shapes.{at, put, put_form}
use Rattle.sail_types.specs.declared.shapes.Shape.{Shape, Shape-F, out-Shape, roll-Shape}
use Rattle.sail_types.specs.declared.shapes.Shape.TheFolds.{fold-roll-Shape, map-Shape, ind-Shape}
use Rattle.sail_types.specs.declared.shapes.Shape.TheOpen as S
use Rattle.sail_types.specs.declared.shapes.Shape.TheVariants as V
use Rattle.shape_joins.specs.Filling.{fills, fill_form, fill_all}
use Rattle.shape_joins.proofs.Order.{no, two, same_nat, equal, tests, opened, opens, rolled, fills_itself}
use Rattle.shape_meanings.specs.Whole.{below, below_form, all_below}

pub all_itself : (ss : List Shape) → fill_all ss ss ≡ true
all_itself [] = refl
all_itself (s ∷ ss) = two (fills s s) (fill_all ss ss) (fills_itself s) (all_itself ss)

-- ---- what a form is with its variables' shapes in their place

pub puts : (c : ℕ → Shape) (x : Shape-F Shape) → put c (roll-Shape x) ≡ put_form c (map-Shape Shape Shape (put c) x)
puts c x = fold-roll-Shape Shape (put_form c) x

pub put_hole : (c : ℕ → Shape) → put c V.Hole ≡ V.Hole
put_hole c = ap (put c) (sym V.rolls-Hole) ∙ puts c S.Hole ∙ V.rolls-Hole

pub at_put : (c : ℕ → Shape) (ss : List Shape) (i : ℕ) → at (map (put c) ss) i ≡ put c (at ss i)
at_put c [] i = sym (put_hole c)
at_put c (s ∷ ss) zero = refl
at_put c (s ∷ ss) (suc i) = at_put c ss i

-- ---- more known of variables

abbrev pub Below : (ℕ → Shape) → (ℕ → Shape) → Type 0
Below c e = (i : ℕ) → fills (c i) (e i) ≡ true

pub at_below : (ss ts : List Shape) → fill_all ss ts ≡ true → Below (at ss) (at ts)
at_below [] [] h i = fills_itself (at [] i)
at_below [] (t ∷ ts) h i = no h
at_below (s ∷ ss) [] h i = no h
at_below (s ∷ ss) (t ∷ ts) h zero = (and_parts (fills s t) (fill_all ss ts) h).0
at_below (s ∷ ss) (t ∷ ts) h (suc i) = at_below ss ts (and_parts (fills s t) (fill_all ss ts) h).1 i

abbrev Monotone : Shape → Type 0
Monotone p = (c e : ℕ → Shape) → Below c e → fills (put c p) (put e p) ≡ true

module _ where
  abbrev Such : Type 0
  Such = (s : Shape) × Monotone s

  abbrev shapes_of : List Such → List Shape
  shapes_of ys = map (λ (p : Such). p.0) ys

  abbrev form : Shape-F Such → Shape-F Shape
  form y = map-Shape Such Shape (λ p. p.0) y

  each_more : (ys : List Such) (c e : ℕ → Shape) → Below c e → fill_all (map (put c) (shapes_of ys)) (map (put e) (shapes_of ys)) ≡ true
  each_more [] c e b = refl
  each_more (y ∷ ys) c e b =
      two (fills (put c y.0) (put e y.0)) (fill_all (map (put c) (shapes_of ys)) (map (put e) (shapes_of ys))) (y.1 c e b) (each_more ys c e b)

  form_more : (y : Shape-F Such) (c e : ℕ → Shape) → Below c e
      → fills (put_form c (map-Shape Shape Shape (put c) (form y))) (put_form e (map-Shape Shape Shape (put e) (form y))) ≡ true
  form_more S.Unit c e b = opens S.Unit S.Unit
  form_more S.Bool c e b = opens S.Bool S.Bool
  form_more S.Bit c e b = opens S.Bit S.Bit
  form_more S.Bits c e b = opens S.Bits S.Bits
  form_more S.Int c e b = opens S.Int S.Int
  form_more S.String c e b = opens S.String S.String
  form_more (S.List y) c e b = opens (S.List (put c y.0)) (S.List (put e y.0)) ∙ y.1 c e b
  form_more (S.Vector y) c e b = opens (S.Vector (put c y.0)) (S.Vector (put e y.0)) ∙ y.1 c e b
  form_more (S.Tuple ys) c e b = opens (S.Tuple (map (put c) (shapes_of ys))) (S.Tuple (map (put e) (shapes_of ys))) ∙ each_more ys c e b
  form_more (S.Named i ys) c e b =
      opens (S.Named i (map (put c) (shapes_of ys))) (S.Named i (map (put e) (shapes_of ys)))
      ∙ two (nat_eq i i) (fill_all (map (put c) (shapes_of ys)) (map (put e) (shapes_of ys))) (same_nat i) (each_more ys c e b)
  form_more (S.Variable i) c e b = b i
  form_more S.Hole c e b = opens S.Hole S.Hole
  form_more S.Never c e b = opens S.Never S.Never

  rolled_more : (y : Shape-F Such) → Monotone (roll-Shape (form y))
  rolled_more y c e b =
      ap (λ s. fills s (put e (roll-Shape (form y)))) (puts c (form y))
      ∙ ap (fills (put_form c (map-Shape Shape Shape (put c) (form y)))) (puts e (form y))
      ∙ form_more y c e b

  -- the more is known of variables, the more is filled
  pub put_more : (p : Shape) → Monotone p
  put_more = ind-Shape Monotone (λ e y is. subst (λ d. Monotone (roll-Shape d)) is (rolled_more y))

-- ---- shapes put into shapes that are put in

abbrev Twice : Shape → Type 0
Twice s = (c e : ℕ → Shape) → put c (put e s) ≡ put (λ i. put c (e i)) s

module _ where
  abbrev Such2 : Type 0
  Such2 = (s : Shape) × Twice s

  abbrev shapes_of2 : List Such2 → List Shape
  shapes_of2 ys = map (λ (p : Such2). p.0) ys

  abbrev form2 : Shape-F Such2 → Shape-F Shape
  form2 y = map-Shape Such2 Shape (λ p. p.0) y

  each_twice : (ys : List Such2) (c e : ℕ → Shape) → map (put c) (map (put e) (shapes_of2 ys)) ≡ map (put (λ i. put c (e i))) (shapes_of2 ys)
  each_twice [] c e = refl
  each_twice (y ∷ ys) c e = λ i. y.1 c e i ∷ each_twice ys c e i

  -- from what both are at forms
  both_sides : (c e : ℕ → Shape) (x g : Shape-F Shape) → put_form e (map-Shape Shape Shape (put e) x) ≡ roll-Shape g
      → put_form c (map-Shape Shape Shape (put c) g) ≡ put_form (λ i. put c (e i)) (map-Shape Shape Shape (put (λ i. put c (e i))) x)
      → put c (put e (roll-Shape x)) ≡ put (λ i. put c (e i)) (roll-Shape x)
  both_sides c e x g h k = ap (put c) (puts e x ∙ h) ∙ puts c g ∙ k ∙ sym (puts (λ i. put c (e i)) x)

  form_twice : (y : Shape-F Such2) → Twice (roll-Shape (form2 y))
  form_twice S.Unit c e = both_sides c e S.Unit S.Unit refl refl
  form_twice S.Bool c e = both_sides c e S.Bool S.Bool refl refl
  form_twice S.Bit c e = both_sides c e S.Bit S.Bit refl refl
  form_twice S.Bits c e = both_sides c e S.Bits S.Bits refl refl
  form_twice S.Int c e = both_sides c e S.Int S.Int refl refl
  form_twice S.String c e = both_sides c e S.String S.String refl refl
  form_twice (S.List y) c e = both_sides c e (S.List y.0) (S.List (put e y.0)) refl (ap (λ s. roll-Shape (S.List s)) (y.1 c e))
  form_twice (S.Vector y) c e = both_sides c e (S.Vector y.0) (S.Vector (put e y.0)) refl (ap (λ s. roll-Shape (S.Vector s)) (y.1 c e))
  form_twice (S.Tuple ys) c e =
      both_sides c e (S.Tuple (shapes_of2 ys)) (S.Tuple (map (put e) (shapes_of2 ys))) refl (ap (λ s. roll-Shape (S.Tuple s)) (each_twice ys c e))
  form_twice (S.Named i ys) c e =
      both_sides c e (S.Named i (shapes_of2 ys)) (S.Named i (map (put e) (shapes_of2 ys))) refl (ap (λ s. roll-Shape (S.Named i s)) (each_twice ys c e))
  form_twice (S.Variable i) c e = ap (put c) (puts e (S.Variable i)) ∙ sym (puts (λ j. put c (e j)) (S.Variable i))
  form_twice S.Hole c e = both_sides c e S.Hole S.Hole refl refl
  form_twice S.Never c e = both_sides c e S.Never S.Never refl refl

  pub put_put : (s : Shape) → Twice s
  put_put = ind-Shape Twice (λ e y is. subst (λ d. Twice (roll-Shape d)) is (form_twice y))

pub all_put_put : (ss : List Shape) (c e : ℕ → Shape) → map (put c) (map (put e) ss) ≡ map (put (λ i. put c (e i))) ss
all_put_put [] c e = refl
all_put_put (s ∷ ss) c e = λ i. put_put s c e i ∷ all_put_put ss c e i

-- what is put into a type's arguments
pub put_args : (s : Shape) (c : ℕ → Shape) (ss : List Shape) → put (at (map (put c) ss)) s ≡ put c (put (at ss) s)
put_args s c ss = ap (λ e. put e s) (λ k i. at_put c ss i k) ∙ sym (put_put s c (at ss))

-- ---- shapes that leave nothing open

pub belows : (n : ℕ) (x : Shape-F Shape) → below n (roll-Shape x) ≡ below_form n (map-Shape Shape Bool (below n) x)
belows n x = fold-roll-Shape Bool (below_form n) x

abbrev Exact : Shape → Type 0
Exact s = (t : Shape) (n : ℕ) → fills s t ≡ true → below n s ≡ true → t ≡ s

module _ where
  abbrev Such3 : Type 0
  Such3 = (s : Shape) × Exact s

  abbrev shapes_of3 : List Such3 → List Shape
  shapes_of3 ys = map (λ (p : Such3). p.0) ys

  abbrev form3 : Shape-F Such3 → Shape-F Shape
  form3 y = map-Shape Such3 Shape (λ p. p.0) y

  each_exact : (ys : List Such3) (ts : List Shape) (n : ℕ) → fill_all (shapes_of3 ys) ts ≡ true → all_below n (shapes_of3 ys) ≡ true → ts ≡ shapes_of3 ys
  each_exact [] [] n h b = refl
  each_exact [] (t ∷ ts) n h b = no h
  each_exact (y ∷ ys) [] n h b = no h
  each_exact (y ∷ ys) (t ∷ ts) n h b =
      let h2 = and_parts (fills y.0 t) (fill_all (shapes_of3 ys) ts) h in
      let b2 = and_parts (below n y.0) (all_below n (shapes_of3 ys)) b in
      λ i. y.1 t n h2.0 b2.0 i ∷ each_exact ys ts n h2.1 b2.1 i

  form_exact : (y : Shape-F Such3) (z : Shape-F Shape) (n : ℕ) → fill_form (tests (form3 y)) z ≡ true
      → below_form n (map-Shape Shape Bool (below n) (form3 y)) ≡ true → z ≡ form3 y
  form_exact S.Unit S.Unit n h b = refl
  form_exact S.Bool S.Bool n h b = refl
  form_exact S.Bit S.Bit n h b = refl
  form_exact S.Bits S.Bits n h b = refl
  form_exact S.Int S.Int n h b = refl
  form_exact S.String S.String n h b = refl
  form_exact (S.List y) (S.List t) n h b = ap S.List (y.1 t n h b)
  form_exact (S.Vector y) (S.Vector t) n h b = ap S.Vector (y.1 t n h b)
  form_exact (S.Tuple ys) (S.Tuple ts) n h b = ap S.Tuple (each_exact ys ts n h b)
  form_exact (S.Named i ys) (S.Named j ts) n h b =
      let h2 = and_parts (nat_eq i j) (fill_all (shapes_of3 ys) ts) h in
      λ k. S.Named (sym (equal i j h2.0) k) (each_exact ys ts n h2.1 b k)
  form_exact (S.Variable i) (S.Variable j) n h b = ap S.Variable (sym (equal i j h))
  form_exact S.Hole z n h b = no b
  form_exact S.Never z n h b = no b
  form_exact y z n h b = no h

  rolled_exact : (y : Shape-F Such3) → Exact (roll-Shape (form3 y))
  rolled_exact y t n h b =
      rolled t ∙ ap roll-Shape (form_exact y (out-Shape t) n (sym (opened (form3 y) t) ∙ h) (sym (belows n (form3 y)) ∙ b))

  -- what fills a shape that leaves nothing open is the shape
  pub exact : (s : Shape) → Exact s
  exact = ind-Shape Exact (λ e y is. subst (λ d. Exact (roll-Shape d)) is (rolled_exact y))

abbrev Fixed : Shape → Type 0
Fixed s = (n : ℕ) (c e : ℕ → Shape) → ((i : ℕ) → nat_lt i n ≡ true → c i ≡ e i) → below n s ≡ true → put c s ≡ put e s

module _ where
  abbrev Such4 : Type 0
  Such4 = (s : Shape) × Fixed s

  abbrev shapes_of4 : List Such4 → List Shape
  shapes_of4 ys = map (λ (p : Such4). p.0) ys

  abbrev form4 : Shape-F Such4 → Shape-F Shape
  form4 y = map-Shape Such4 Shape (λ p. p.0) y

  each_fixed : (ys : List Such4) (n : ℕ) (c e : ℕ → Shape) → ((i : ℕ) → nat_lt i n ≡ true → c i ≡ e i) → all_below n (shapes_of4 ys) ≡ true
      → map (put c) (shapes_of4 ys) ≡ map (put e) (shapes_of4 ys)
  each_fixed [] n c e same b = refl
  each_fixed (y ∷ ys) n c e same b =
      let b2 = and_parts (below n y.0) (all_below n (shapes_of4 ys)) b in
      λ i. y.1 n c e same b2.0 i ∷ each_fixed ys n c e same b2.1 i

  form_fixed : (y : Shape-F Such4) (n : ℕ) (c e : ℕ → Shape) → ((i : ℕ) → nat_lt i n ≡ true → c i ≡ e i)
      → below_form n (map-Shape Shape Bool (below n) (form4 y)) ≡ true
      → put_form c (map-Shape Shape Shape (put c) (form4 y)) ≡ put_form e (map-Shape Shape Shape (put e) (form4 y))
  form_fixed (S.List y) n c e same b = ap (λ s. roll-Shape (S.List s)) (y.1 n c e same b)
  form_fixed (S.Vector y) n c e same b = ap (λ s. roll-Shape (S.Vector s)) (y.1 n c e same b)
  form_fixed (S.Tuple ys) n c e same b = ap (λ s. roll-Shape (S.Tuple s)) (each_fixed ys n c e same b)
  form_fixed (S.Named i ys) n c e same b = ap (λ s. roll-Shape (S.Named i s)) (each_fixed ys n c e same b)
  form_fixed (S.Variable i) n c e same b = same i b
  form_fixed S.Unit n c e same b = refl
  form_fixed S.Bool n c e same b = refl
  form_fixed S.Bit n c e same b = refl
  form_fixed S.Bits n c e same b = refl
  form_fixed S.Int n c e same b = refl
  form_fixed S.String n c e same b = refl
  form_fixed S.Hole n c e same b = refl
  form_fixed S.Never n c e same b = refl

  rolled_fixed : (y : Shape-F Such4) → Fixed (roll-Shape (form4 y))
  rolled_fixed y n c e same b = puts c (form4 y) ∙ form_fixed y n c e same (sym (belows n (form4 y)) ∙ b) ∙ sym (puts e (form4 y))

  -- what is put in the place of other variables than a shape's doesn't matter
  pub put_below : (s : Shape) → Fixed s
  put_below = ind-Shape Fixed (λ e y is. subst (λ d. Fixed (roll-Shape d)) is (rolled_fixed y))

-- ---- variables in their own place

abbrev Itself : Shape → Type 0
Itself s = put V.Variable s ≡ s

module _ where
  abbrev Such5 : Type 0
  Such5 = (s : Shape) × Itself s

  abbrev shapes_of5 : List Such5 → List Shape
  shapes_of5 ys = map (λ (p : Such5). p.0) ys

  abbrev form5 : Shape-F Such5 → Shape-F Shape
  form5 y = map-Shape Such5 Shape (λ p. p.0) y

  each_its_own : (ys : List Such5) → map (put V.Variable) (shapes_of5 ys) ≡ shapes_of5 ys
  each_its_own [] = refl
  each_its_own (y ∷ ys) = λ i. y.1 i ∷ each_its_own ys i

  form_its_own : (y : Shape-F Such5) → put_form V.Variable (map-Shape Shape Shape (put V.Variable) (form5 y)) ≡ roll-Shape (form5 y)
  form_its_own (S.List y) = ap (λ s. roll-Shape (S.List s)) y.1
  form_its_own (S.Vector y) = ap (λ s. roll-Shape (S.Vector s)) y.1
  form_its_own (S.Tuple ys) = ap (λ s. roll-Shape (S.Tuple s)) (each_its_own ys)
  form_its_own (S.Named i ys) = ap (λ s. roll-Shape (S.Named i s)) (each_its_own ys)
  form_its_own (S.Variable i) = sym (V.rolls-Variable i)
  form_its_own S.Unit = refl
  form_its_own S.Bool = refl
  form_its_own S.Bit = refl
  form_its_own S.Bits = refl
  form_its_own S.Int = refl
  form_its_own S.String = refl
  form_its_own S.Hole = refl
  form_its_own S.Never = refl

  pub put_variables : (s : Shape) → Itself s
  put_variables = ind-Shape Itself (λ e y is. subst (λ d. Itself (roll-Shape d)) is (puts V.Variable (form5 y) ∙ form_its_own y))
