-- `fills` is an order, and the join of two shapes is the least one above both: inductions on the first shape.
use Rattle.std.proofs.Common.{◌≡◌, ℕ, List, [], ◌∷◌, map, ap, sym, ◌∙◌, refl, subst, Bool, true, false, ◌&&◌, nat_eq, arith}
use Rattle.std.proofs.lemmas.Bool.{and_parts}
use Rattle.std.proofs.lemmas.Cmp.{nat_eq_equiv}
use Rattle.sail_types.specs.declared.shapes.Shape.{Shape, Shape-F, out-Shape, roll-Shape}
use Rattle.sail_types.specs.declared.shapes.Shape.TheFolds.{fold-roll-Shape, map-Shape, ind-Shape}
use Rattle.sail_types.specs.declared.shapes.Shape.TheOpen as S
use Rattle.sail_types.specs.declared.shapes.Shape.TheViews.{out-roll-Shape, roll-out-Shape}
use Rattle.shape_joins.specs.Filling.{fills, fill_form, each_fills}
use Rattle.shape_joins.specs.Order.{IsReflexive, IsTransitive}

-- ---- small facts

pub no : {A : Type 0} → false ≡ true → A
no h = absurd (cc)

pub two : (a b : Bool) → a ≡ true → b ≡ true → (a && b) ≡ true
two a b h k = ap (λ x. x && b) h ∙ k

pub same_nat : (i : ℕ) → nat_eq i i ≡ true
same_nat i = nat_eq_equiv.refl i

pub equal : (i j : ℕ) → nat_eq i j ≡ true → i ≡ j
equal i j h = grind (arith, h)

nat_trans : (i j k : ℕ) → nat_eq i j ≡ true → nat_eq j k ≡ true → nat_eq i k ≡ true
nat_trans i j k a b = subst (λ m. nat_eq i m ≡ true) (equal j k b) a

-- two numbers below one are equal
pub nat_both : (i j k : ℕ) → nat_eq i k ≡ true → nat_eq j k ≡ true → nat_eq i j ≡ true
nat_both i j k a b = subst (λ m. nat_eq i m ≡ true) (sym (equal j k b)) a

-- ---- what `fills` is at forms

abbrev pub Test : Type 0
Test = Shape → Bool

abbrev pub tests : Shape-F Shape → Shape-F Test
tests x = map-Shape Shape Test fills x

pub opened : (x : Shape-F Shape) (t : Shape) → fills (roll-Shape x) t ≡ fill_form (tests x) (out-Shape t)
opened x t = ap (λ f. f t) (fold-roll-Shape Test (λ f s. fill_form f (out-Shape s)) x)

pub opens : (x z : Shape-F Shape) → fills (roll-Shape x) (roll-Shape z) ≡ fill_form (tests x) z
opens x z = opened x (roll-Shape z) ∙ ap (fill_form (tests x)) (out-roll-Shape z)

-- every shape is rolled from its form
pub rolled : (s : Shape) → s ≡ roll-Shape (out-Shape s)
rolled s = sym (roll-out-Shape s)

pub at_forms : (s t : Shape) → fills s t ≡ fill_form (tests (out-Shape s)) (out-Shape t)
at_forms s t = ap (λ u. fills u t) (rolled s) ∙ opened (out-Shape s) t

-- ---- each shape is itself

abbrev Reflexive : Shape → Type 0
Reflexive s = fills s s ≡ true

module _ where
  abbrev Such : Type 0
  Such = (s : Shape) × Reflexive s

  abbrev shapes_of : List Such → List Shape
  shapes_of ys = map (λ (p : Such). p.0) ys

  abbrev form : Shape-F Such → Shape-F Shape
  form y = map-Shape Such Shape (λ p. p.0) y

  each_itself : (ys : List Such) → each_fills (map fills (shapes_of ys)) (shapes_of ys) ≡ true
  each_itself [] = refl
  each_itself (y ∷ ys) = two (fills y.0 y.0) (each_fills (map fills (shapes_of ys)) (shapes_of ys)) y.1 (each_itself ys)

  form_itself : (y : Shape-F Such) → fill_form (tests (form y)) (form y) ≡ true
  form_itself S.Unit = refl
  form_itself S.Bool = refl
  form_itself S.Bit = refl
  form_itself S.Bits = refl
  form_itself S.Int = refl
  form_itself S.String = refl
  form_itself (S.List y) = y.1
  form_itself (S.Vector y) = y.1
  form_itself (S.Tuple ys) = each_itself ys
  form_itself (S.Named i ys) = two (nat_eq i i) (each_fills (map fills (shapes_of ys)) (shapes_of ys)) (same_nat i) (each_itself ys)
  form_itself (S.Variable i) = same_nat i
  form_itself S.Hole = refl
  form_itself S.Never = refl

  pub fills_itself : IsReflexive
  fills_itself = ind-Shape Reflexive (λ e y is. subst (λ d. Reflexive (roll-Shape d)) is (opens (form y) (form y) ∙ form_itself y))

-- ---- filled twice

abbrev Transitive : Shape → Type 0
Transitive s = (t u : Shape) → fills s t ≡ true → fills t u ≡ true → fills s u ≡ true

module _ where
  abbrev Such2 : Type 0
  Such2 = (s : Shape) × Transitive s

  abbrev shapes_of2 : List Such2 → List Shape
  shapes_of2 ys = map (λ (p : Such2). p.0) ys

  abbrev form2 : Shape-F Such2 → Shape-F Shape
  form2 y = map-Shape Such2 Shape (λ p. p.0) y

  each_twice : (ys : List Such2) (ts us : List Shape) → each_fills (map fills (shapes_of2 ys)) ts ≡ true → each_fills (map fills ts) us ≡ true
      → each_fills (map fills (shapes_of2 ys)) us ≡ true
  each_twice [] [] us a b = b
  each_twice [] (t ∷ ts) us a b = no a
  each_twice (y ∷ ys) [] us a b = no a
  each_twice (y ∷ ys) (t ∷ ts) [] a b = no b
  each_twice (y ∷ ys) (t ∷ ts) (u ∷ us) a b =
      let a2 = and_parts (fills y.0 t) (each_fills (map fills (shapes_of2 ys)) ts) a in
      let b2 = and_parts (fills t u) (each_fills (map fills ts) us) b in
      two (fills y.0 u) (each_fills (map fills (shapes_of2 ys)) us) (y.1 t u a2.0 b2.0) (each_twice ys ts us a2.1 b2.1)

  form_twice : (y : Shape-F Such2) (x z : Shape-F Shape) → fill_form (tests (form2 y)) x ≡ true → fill_form (tests x) z ≡ true
      → fill_form (tests (form2 y)) z ≡ true
  form_twice S.Never x z a b = refl
  form_twice S.Hole S.Never z a b = no a
  form_twice S.Hole x S.Never a b = no b
  form_twice S.Hole x z a b = refl
  form_twice S.Unit S.Unit z a b = b
  form_twice S.Bool S.Bool z a b = b
  form_twice S.Bit S.Bit z a b = b
  form_twice S.Bits S.Bits z a b = b
  form_twice S.Int S.Int z a b = b
  form_twice S.String S.String z a b = b
  form_twice (S.List y) (S.List t) (S.List u) a b = y.1 t u a b
  form_twice (S.List y) (S.List t) z a b = no b
  form_twice (S.Vector y) (S.Vector t) (S.Vector u) a b = y.1 t u a b
  form_twice (S.Vector y) (S.Vector t) z a b = no b
  form_twice (S.Tuple ys) (S.Tuple ts) (S.Tuple us) a b = each_twice ys ts us a b
  form_twice (S.Tuple ys) (S.Tuple ts) z a b = no b
  form_twice (S.Named i ys) (S.Named j ts) (S.Named k us) a b =
      let a2 = and_parts (nat_eq i j) (each_fills (map fills (shapes_of2 ys)) ts) a in
      let b2 = and_parts (nat_eq j k) (each_fills (map fills ts) us) b in
      two (nat_eq i k) (each_fills (map fills (shapes_of2 ys)) us) (nat_trans i j k a2.0 b2.0) (each_twice ys ts us a2.1 b2.1)
  form_twice (S.Named i ys) (S.Named j ts) z a b = no b
  form_twice (S.Variable i) (S.Variable j) (S.Variable k) a b = nat_trans i j k a b
  form_twice (S.Variable i) (S.Variable j) z a b = no b
  form_twice y x z a b = no a

  rolled_twice : (y : Shape-F Such2) → Transitive (roll-Shape (form2 y))
  rolled_twice y t u a b =
      opened (form2 y) u
      ∙ form_twice y (out-Shape t) (out-Shape u) (sym (opened (form2 y) t) ∙ a) (sym (at_forms t u) ∙ b)

  pub fills_twice : IsTransitive
  fills_twice = ind-Shape Transitive (λ e y is. subst (λ d. Transitive (roll-Shape d)) is (rolled_twice y))
