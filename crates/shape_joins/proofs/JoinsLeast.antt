-- The join of two shapes is above both, and below all that are above both: inductions on the first shape.
use Rattle.std.proofs.Common.{◌≡◌, ℕ, List, [], ◌∷◌, map, ap, sym, ◌∙◌, refl, subst, Bool, true, false, ◌&&◌, Option, Some, None, nat_eq, if◌then◌else◌}
use Rattle.std.proofs.lemmas.Bool.{and_parts}
use Rattle.sail_types.specs.declared.shapes.Shape.{Shape, Shape-F, out-Shape, roll-Shape}
use Rattle.sail_types.specs.declared.shapes.Shape.TheFolds.{fold-roll-Shape, map-Shape, ind-Shape}
use Rattle.sail_types.specs.declared.shapes.Shape.TheOpen as S
use Rattle.sail_types.specs.declared.shapes.Shape.TheVariants as V
use Rattle.shape_joins.specs.Joins.{Joins, join, join_form, join_all, keep_all, more_of, list_of, vector_of, tuple_of, named_of}
use Rattle.shape_joins.specs.Filling.{fills, fill_form, each_fills}
use Rattle.shape_joins.specs.Order.{JoinsAreAbove, JoinsAreLeast}
use Rattle.shape_joins.proofs.Order.{no, two, same_nat, equal, nat_both, tests, opened, opens, rolled, at_forms, fills_itself}

-- ---- what is there where a part of a join is

pub some_same : {A : Type 0} (x y : A) → Some x ≡ Some y → x ≡ y
some_same x y e = cc

none_some : {A : Type 0} (x : A) → None ≡ Some x → ⊥
none_some x e = cc

pub none : {A B : Type 0} {x : A} → None ≡ Some x → B
none {x = x} e = absurd (none_some x e)

pub by_if : {A : Type 0} (b : Bool) (o : Option A) (t : A) → (if b then o else None) ≡ Some t → (b ≡ true) × (o ≡ Some t)
by_if true o t e = (refl, e)
by_if false o t e = none e

by_list : (o : Option Shape) (t : Shape) → list_of o ≡ Some t → (u : Shape) × (o ≡ Some u) × (roll-Shape (S.List u) ≡ t)
by_list None t e = none e
by_list (Some u) t e = (u, refl, V.rolls-List u ∙ some_same (V.List u) t e)

by_vector : (o : Option Shape) (t : Shape) → vector_of o ≡ Some t → (u : Shape) × (o ≡ Some u) × (roll-Shape (S.Vector u) ≡ t)
by_vector None t e = none e
by_vector (Some u) t e = (u, refl, V.rolls-Vector u ∙ some_same (V.Vector u) t e)

by_tuple : (o : Option (List Shape)) (t : Shape) → tuple_of o ≡ Some t → (us : List Shape) × (o ≡ Some us) × (roll-Shape (S.Tuple us) ≡ t)
by_tuple None t e = none e
by_tuple (Some us) t e = (us, refl, V.rolls-Tuple us ∙ some_same (V.Tuple us) t e)

by_named : (i : ℕ) (o : Option (List Shape)) (t : Shape) → named_of i o ≡ Some t → (us : List Shape) × (o ≡ Some us) × (roll-Shape (S.Named i us) ≡ t)
by_named i None t e = none e
by_named i (Some us) t e = (us, refl, V.rolls-Named i us ∙ some_same (V.Named i us) t e)

by_more : (a : Option Shape) (b : Option (List Shape)) (t : List Shape) → more_of a b ≡ Some t
    → (u : Shape) × (us : List Shape) × (a ≡ Some u) × (b ≡ Some us) × ((u ∷ us) ≡ t)
by_more None b t e = none e
by_more (Some u) None t e = none e
by_more (Some u) (Some us) t e = (u, us, refl, refl, some_same (u ∷ us) t e)

-- the same named type, in either order
same_name : (i : ℕ) (b : Bool) → b ≡ true → (nat_eq i i && b) ≡ true
same_name i b h = two (nat_eq i i) b (same_nat i) h

other_name : (i j : ℕ) (b : Bool) → nat_eq i j ≡ true → b ≡ true → (nat_eq j i && b) ≡ true
other_name i j b e h = two (nat_eq j i) b (subst (λ k. nat_eq k i ≡ true) (equal i j e) (same_nat i)) h

-- what a join of forms is
joined : (x : Shape-F Shape) (t : Shape) → join (roll-Shape x) t ≡ join_form (map-Shape Shape Joins join x) t (out-Shape t)
joined x t = ap (λ f. f t) (fold-roll-Shape Joins (λ shape u. join_form shape u (out-Shape u)) x)

-- ---- above both

abbrev Over : Shape → Shape → Shape → Type 0
Over s w t = (fills s t ≡ true) × (fills w t ≡ true)

abbrev Above : Shape → Type 0
Above s = (w t : Shape) → join s w ≡ Some t → Over s w t

-- the first shape itself is above the second one
itself : (s w u t : Shape) → s ≡ u → Some u ≡ Some t → fills w s ≡ true → Over s w t
itself s w u t r e h = subst (Over s w) (r ∙ some_same u t e) (fills_itself s, h)

module _ where
  abbrev Such : Type 0
  Such = (s : Shape) × Above s

  abbrev shapes_of : List Such → List Shape
  shapes_of ys = map (λ (p : Such). p.0) ys

  abbrev form : Shape-F Such → Shape-F Shape
  form y = map-Shape Such Shape (λ p. p.0) y

  each_above : (ys : List Such) (ws ts : List Shape) → join_all (map join (shapes_of ys)) ws ≡ Some ts
      → (each_fills (map fills (shapes_of ys)) ts ≡ true) × (each_fills (map fills ws) ts ≡ true)
  each_above [] [] ts e = subst (λ us. (each_fills [] us ≡ true) × (each_fills [] us ≡ true)) (some_same [] ts e) (refl, refl)
  each_above [] (w ∷ ws) ts e = none e
  each_above (y ∷ ys) [] ts e = none e
  each_above (y ∷ ys) (w ∷ ws) ts e =
      let o = by_more (join y.0 w) (join_all (map join (shapes_of ys)) ws) ts e in
      let a = y.1 w o.0 o.2 in
      let b = each_above ys ws o.1 o.3 in
      subst (λ us. (each_fills (map fills (shapes_of (y ∷ ys))) us ≡ true) × (each_fills (map fills (w ∷ ws)) us ≡ true)) o.4
      (two (fills y.0 o.0) (each_fills (map fills (shapes_of ys)) o.1) a.0 b.0, two (fills w o.0) (each_fills (map fills ws) o.1) a.1 b.1)

  each_kept : (ys : List Such) (ts : List Shape) → keep_all (map join (shapes_of ys)) ≡ Some ts → each_fills (map fills (shapes_of ys)) ts ≡ true
  each_kept [] ts e = subst (λ us. each_fills [] us ≡ true) (some_same [] ts e) refl
  each_kept (y ∷ ys) ts e =
      let o = by_more (join y.0 V.Never) (keep_all (map join (shapes_of ys))) ts e in
      let a = y.1 V.Never o.0 o.2 in
      subst (λ us. each_fills (map fills (shapes_of (y ∷ ys))) us ≡ true) o.4
      (two (fills y.0 o.0) (each_fills (map fills (shapes_of ys)) o.1) a.0 (each_kept ys o.1 o.3))

  -- what is below a form
  below : (x z : Shape-F Shape) (t : Shape) → roll-Shape z ≡ t → fill_form (tests x) z ≡ true → fills (roll-Shape x) t ≡ true
  below x z t r h = subst (λ u. fills (roll-Shape x) u ≡ true) r (opens x z ∙ h)

  form_above : (y : Shape-F Such) (x : Shape-F Shape) (t : Shape) → join_form (map-Shape Shape Joins join (form y)) (roll-Shape x) x ≡ Some t
      → Over (roll-Shape (form y)) (roll-Shape x) t
  form_above S.Never x t e =
      subst (Over (roll-Shape S.Never) (roll-Shape x)) (some_same (roll-Shape x) t e) (opens S.Never x, fills_itself (roll-Shape x))
  form_above S.Hole S.Never t e = itself (roll-Shape S.Hole) (roll-Shape S.Never) V.Hole t V.rolls-Hole e (opens S.Never S.Hole)
  form_above S.Hole x t e =
      subst (Over (roll-Shape S.Hole) (roll-Shape x)) (some_same (roll-Shape x) t e) (opens S.Hole x, fills_itself (roll-Shape x))
  form_above S.Unit S.Unit t e = itself (roll-Shape S.Unit) (roll-Shape S.Unit) V.Unit t V.rolls-Unit e (opens S.Unit S.Unit)
  form_above S.Unit S.Hole t e = itself (roll-Shape S.Unit) (roll-Shape S.Hole) V.Unit t V.rolls-Unit e (opens S.Hole S.Unit)
  form_above S.Unit S.Never t e = itself (roll-Shape S.Unit) (roll-Shape S.Never) V.Unit t V.rolls-Unit e (opens S.Never S.Unit)
  form_above S.Bool S.Bool t e = itself (roll-Shape S.Bool) (roll-Shape S.Bool) V.Bool t V.rolls-Bool e (opens S.Bool S.Bool)
  form_above S.Bool S.Hole t e = itself (roll-Shape S.Bool) (roll-Shape S.Hole) V.Bool t V.rolls-Bool e (opens S.Hole S.Bool)
  form_above S.Bool S.Never t e = itself (roll-Shape S.Bool) (roll-Shape S.Never) V.Bool t V.rolls-Bool e (opens S.Never S.Bool)
  form_above S.Bit S.Bit t e = itself (roll-Shape S.Bit) (roll-Shape S.Bit) V.Bit t V.rolls-Bit e (opens S.Bit S.Bit)
  form_above S.Bit S.Hole t e = itself (roll-Shape S.Bit) (roll-Shape S.Hole) V.Bit t V.rolls-Bit e (opens S.Hole S.Bit)
  form_above S.Bit S.Never t e = itself (roll-Shape S.Bit) (roll-Shape S.Never) V.Bit t V.rolls-Bit e (opens S.Never S.Bit)
  form_above S.Bits S.Bits t e = itself (roll-Shape S.Bits) (roll-Shape S.Bits) V.Bits t V.rolls-Bits e (opens S.Bits S.Bits)
  form_above S.Bits S.Hole t e = itself (roll-Shape S.Bits) (roll-Shape S.Hole) V.Bits t V.rolls-Bits e (opens S.Hole S.Bits)
  form_above S.Bits S.Never t e = itself (roll-Shape S.Bits) (roll-Shape S.Never) V.Bits t V.rolls-Bits e (opens S.Never S.Bits)
  form_above S.Int S.Int t e = itself (roll-Shape S.Int) (roll-Shape S.Int) V.Int t V.rolls-Int e (opens S.Int S.Int)
  form_above S.Int S.Hole t e = itself (roll-Shape S.Int) (roll-Shape S.Hole) V.Int t V.rolls-Int e (opens S.Hole S.Int)
  form_above S.Int S.Never t e = itself (roll-Shape S.Int) (roll-Shape S.Never) V.Int t V.rolls-Int e (opens S.Never S.Int)
  form_above S.String S.String t e = itself (roll-Shape S.String) (roll-Shape S.String) V.String t V.rolls-String e (opens S.String S.String)
  form_above S.String S.Hole t e = itself (roll-Shape S.String) (roll-Shape S.Hole) V.String t V.rolls-String e (opens S.Hole S.String)
  form_above S.String S.Never t e = itself (roll-Shape S.String) (roll-Shape S.Never) V.String t V.rolls-String e (opens S.Never S.String)
  form_above (S.List y) (S.List w) t e =
      let o = by_list (join y.0 w) t e in
      let a = y.1 w o.0 o.1 in
      (below (S.List y.0) (S.List o.0) t o.2 a.0, below (S.List w) (S.List o.0) t o.2 a.1)
  form_above (S.List y) S.Hole t e =
      let o = by_list (join y.0 V.Never) t e in
      (below (S.List y.0) (S.List o.0) t o.2 (y.1 V.Never o.0 o.1).0, below S.Hole (S.List o.0) t o.2 refl)
  form_above (S.List y) S.Never t e =
      let o = by_list (join y.0 V.Never) t e in
      (below (S.List y.0) (S.List o.0) t o.2 (y.1 V.Never o.0 o.1).0, below S.Never (S.List o.0) t o.2 refl)
  form_above (S.Vector y) (S.Vector w) t e =
      let o = by_vector (join y.0 w) t e in
      let a = y.1 w o.0 o.1 in
      (below (S.Vector y.0) (S.Vector o.0) t o.2 a.0, below (S.Vector w) (S.Vector o.0) t o.2 a.1)
  form_above (S.Vector y) S.Hole t e =
      let o = by_vector (join y.0 V.Never) t e in
      (below (S.Vector y.0) (S.Vector o.0) t o.2 (y.1 V.Never o.0 o.1).0, below S.Hole (S.Vector o.0) t o.2 refl)
  form_above (S.Vector y) S.Never t e =
      let o = by_vector (join y.0 V.Never) t e in
      (below (S.Vector y.0) (S.Vector o.0) t o.2 (y.1 V.Never o.0 o.1).0, below S.Never (S.Vector o.0) t o.2 refl)
  form_above (S.Tuple ys) (S.Tuple ws) t e =
      let o = by_tuple (join_all (map join (shapes_of ys)) ws) t e in
      let a = each_above ys ws o.0 o.1 in
      (below (S.Tuple (shapes_of ys)) (S.Tuple o.0) t o.2 a.0, below (S.Tuple ws) (S.Tuple o.0) t o.2 a.1)
  form_above (S.Tuple ys) S.Hole t e =
      let o = by_tuple (keep_all (map join (shapes_of ys))) t e in
      (below (S.Tuple (shapes_of ys)) (S.Tuple o.0) t o.2 (each_kept ys o.0 o.1), below S.Hole (S.Tuple o.0) t o.2 refl)
  form_above (S.Tuple ys) S.Never t e =
      let o = by_tuple (keep_all (map join (shapes_of ys))) t e in
      (below (S.Tuple (shapes_of ys)) (S.Tuple o.0) t o.2 (each_kept ys o.0 o.1), below S.Never (S.Tuple o.0) t o.2 refl)
  form_above (S.Named i ys) (S.Named j ws) t e =
      let p = by_if (nat_eq i j) (named_of i (join_all (map join (shapes_of ys)) ws)) t e in
      let o = by_named i (join_all (map join (shapes_of ys)) ws) t p.1 in
      let a = each_above ys ws o.0 o.1 in (
        below (S.Named i (shapes_of ys)) (S.Named i o.0) t o.2 (same_name i (each_fills (map fills (shapes_of ys)) o.0) a.0),
        below (S.Named j ws) (S.Named i o.0) t o.2 (other_name i j (each_fills (map fills ws) o.0) p.0 a.1),
      )
  form_above (S.Named i ys) S.Hole t e =
      let o = by_named i (keep_all (map join (shapes_of ys))) t e in (
        below (S.Named i (shapes_of ys)) (S.Named i o.0) t o.2 (same_name i (each_fills (map fills (shapes_of ys)) o.0) (each_kept ys o.0 o.1)),
        below S.Hole (S.Named i o.0) t o.2 refl,
      )
  form_above (S.Named i ys) S.Never t e =
      let o = by_named i (keep_all (map join (shapes_of ys))) t e in (
        below (S.Named i (shapes_of ys)) (S.Named i o.0) t o.2 (same_name i (each_fills (map fills (shapes_of ys)) o.0) (each_kept ys o.0 o.1)),
        below S.Never (S.Named i o.0) t o.2 refl,
      )
  form_above (S.Variable i) (S.Variable j) t e =
      let p = by_if (nat_eq i j) (Some (V.Variable i)) t e in
      itself (roll-Shape (S.Variable i)) (roll-Shape (S.Variable j)) (V.Variable i) t (V.rolls-Variable i) p.1
      (opens (S.Variable j) (S.Variable i) ∙ subst (λ k. nat_eq k i ≡ true) (equal i j p.0) (same_nat i))
  form_above (S.Variable i) S.Hole t e =
      itself (roll-Shape (S.Variable i)) (roll-Shape S.Hole) (V.Variable i) t (V.rolls-Variable i) e (opens S.Hole (S.Variable i))
  form_above (S.Variable i) S.Never t e =
      itself (roll-Shape (S.Variable i)) (roll-Shape S.Never) (V.Variable i) t (V.rolls-Variable i) e (opens S.Never (S.Variable i))
  form_above y x t e = none e

  rolled_above : (y : Shape-F Such) → Above (roll-Shape (form y))
  rolled_above y w t e =
      subst (λ u. Over (roll-Shape (form y)) u t) (sym (rolled w))
      (form_above y (out-Shape w) t
      (ap (λ u. join_form (map-Shape Shape Joins join (form y)) u (out-Shape w)) (sym (rolled w)) ∙ sym (joined (form y) w) ∙ e))

  pub joins_are_above : JoinsAreAbove
  joins_are_above = ind-Shape Above (λ e y is. subst (λ d. Above (roll-Shape d)) is (rolled_above y))

-- ---- below all that are above both

abbrev LeastFor : Shape → Shape → Shape → Type 0
LeastFor s w u = (t : Shape) × (join s w ≡ Some t) × (fills t u ≡ true)

abbrev Least : Shape → Type 0
Least s = (w u : Shape) → fills s u ≡ true → fills w u ≡ true → LeastFor s w u

-- what never ends normally is below all
never_below : (u : Shape) → fills V.Never u ≡ true
never_below u = ap (λ s. fills s u) (sym V.rolls-Never) ∙ opened S.Never u

module _ where
  abbrev Such3 : Type 0
  Such3 = (s : Shape) × Least s

  abbrev shapes_of3 : List Such3 → List Shape
  shapes_of3 ys = map (λ (p : Such3). p.0) ys

  abbrev form3 : Shape-F Such3 → Shape-F Shape
  form3 y = map-Shape Such3 Shape (λ p. p.0) y

  both_there : (a : Option Shape) (b : Option (List Shape)) (t : Shape) (ts : List Shape) → a ≡ Some t → b ≡ Some ts → more_of a b ≡ Some (t ∷ ts)
  both_there a b t ts e f = ap (λ o. more_of o b) e ∙ ap (more_of (Some t)) f

  each_least : (ys : List Such3) (ws us : List Shape) → each_fills (map fills (shapes_of3 ys)) us ≡ true → each_fills (map fills ws) us ≡ true
      → (ts : List Shape) × (join_all (map join (shapes_of3 ys)) ws ≡ Some ts) × (each_fills (map fills ts) us ≡ true)
  each_least [] [] us a b = ([], refl, a)
  each_least [] (w ∷ ws) [] a b = no b
  each_least [] (w ∷ ws) (u ∷ us) a b = no a
  each_least (y ∷ ys) [] [] a b = no a
  each_least (y ∷ ys) [] (u ∷ us) a b = no b
  each_least (y ∷ ys) (w ∷ ws) [] a b = no a
  each_least (y ∷ ys) (w ∷ ws) (u ∷ us) a b =
      let a2 = and_parts (fills y.0 u) (each_fills (map fills (shapes_of3 ys)) us) a in
      let b2 = and_parts (fills w u) (each_fills (map fills ws) us) b in
      let o = y.1 w u a2.0 b2.0 in
      let p = each_least ys ws us a2.1 b2.1 in (
        o.0 ∷ p.0,
        both_there (join y.0 w) (join_all (map join (shapes_of3 ys)) ws) o.0 p.0 o.1 p.1,
        two (fills o.0 u) (each_fills (map fills p.0) us) o.2 p.2,
      )

  each_kept_least : (ys : List Such3) (us : List Shape) → each_fills (map fills (shapes_of3 ys)) us ≡ true
      → (ts : List Shape) × (keep_all (map join (shapes_of3 ys)) ≡ Some ts) × (each_fills (map fills ts) us ≡ true)
  each_kept_least [] us a = ([], refl, a)
  each_kept_least (y ∷ ys) [] a = no a
  each_kept_least (y ∷ ys) (u ∷ us) a =
      let a2 = and_parts (fills y.0 u) (each_fills (map fills (shapes_of3 ys)) us) a in
      let o = y.1 V.Never u a2.0 (never_below u) in
      let p = each_kept_least ys us a2.1 in (
        o.0 ∷ p.0,
        both_there (join y.0 V.Never) (keep_all (map join (shapes_of3 ys))) o.0 p.0 o.1 p.1,
        two (fills o.0 u) (each_fills (map fills p.0) us) o.2 p.2,
      )

  -- a shape of this form is below
  under : (s : Shape) (x z : Shape-F Shape) → roll-Shape x ≡ s → fill_form (tests x) z ≡ true → fills s (roll-Shape z) ≡ true
  under s x z r h = subst (λ t. fills t (roll-Shape z) ≡ true) r (opens x z ∙ h)

  abbrev LeastForm : Shape-F Such3 → Shape-F Shape → Shape-F Shape → Type 0
  LeastForm y x z = (t : Shape) × (join_form (map-Shape Shape Joins join (form3 y)) (roll-Shape x) x ≡ Some t) × (fills t (roll-Shape z) ≡ true)

  form_least : (y : Shape-F Such3) (x z : Shape-F Shape) → fill_form (tests (form3 y)) z ≡ true → fill_form (tests x) z ≡ true → LeastForm y x z
  form_least S.Never x z a b = (roll-Shape x, refl, opens x z ∙ b)
  form_least S.Hole S.Never z a b = (V.Hole, refl, under V.Hole S.Hole z V.rolls-Hole a)
  form_least S.Hole x z a b = (roll-Shape x, refl, opens x z ∙ b)
  form_least S.Unit S.Unit z a b = (V.Unit, refl, under V.Unit S.Unit z V.rolls-Unit a)
  form_least S.Unit S.Hole z a b = (V.Unit, refl, under V.Unit S.Unit z V.rolls-Unit a)
  form_least S.Unit S.Never z a b = (V.Unit, refl, under V.Unit S.Unit z V.rolls-Unit a)
  form_least S.Unit x S.Unit a b = no b
  form_least S.Bool S.Bool z a b = (V.Bool, refl, under V.Bool S.Bool z V.rolls-Bool a)
  form_least S.Bool S.Hole z a b = (V.Bool, refl, under V.Bool S.Bool z V.rolls-Bool a)
  form_least S.Bool S.Never z a b = (V.Bool, refl, under V.Bool S.Bool z V.rolls-Bool a)
  form_least S.Bool x S.Bool a b = no b
  form_least S.Bit S.Bit z a b = (V.Bit, refl, under V.Bit S.Bit z V.rolls-Bit a)
  form_least S.Bit S.Hole z a b = (V.Bit, refl, under V.Bit S.Bit z V.rolls-Bit a)
  form_least S.Bit S.Never z a b = (V.Bit, refl, under V.Bit S.Bit z V.rolls-Bit a)
  form_least S.Bit x S.Bit a b = no b
  form_least S.Bits S.Bits z a b = (V.Bits, refl, under V.Bits S.Bits z V.rolls-Bits a)
  form_least S.Bits S.Hole z a b = (V.Bits, refl, under V.Bits S.Bits z V.rolls-Bits a)
  form_least S.Bits S.Never z a b = (V.Bits, refl, under V.Bits S.Bits z V.rolls-Bits a)
  form_least S.Bits x S.Bits a b = no b
  form_least S.Int S.Int z a b = (V.Int, refl, under V.Int S.Int z V.rolls-Int a)
  form_least S.Int S.Hole z a b = (V.Int, refl, under V.Int S.Int z V.rolls-Int a)
  form_least S.Int S.Never z a b = (V.Int, refl, under V.Int S.Int z V.rolls-Int a)
  form_least S.Int x S.Int a b = no b
  form_least S.String S.String z a b = (V.String, refl, under V.String S.String z V.rolls-String a)
  form_least S.String S.Hole z a b = (V.String, refl, under V.String S.String z V.rolls-String a)
  form_least S.String S.Never z a b = (V.String, refl, under V.String S.String z V.rolls-String a)
  form_least S.String x S.String a b = no b
  form_least (S.List y) (S.List w) (S.List u) a b =
      let o = y.1 w u a b in (V.List o.0, ap list_of o.1, under (V.List o.0) (S.List o.0) (S.List u) (V.rolls-List o.0) o.2)
  form_least (S.List y) S.Hole (S.List u) a b =
      let o = y.1 V.Never u a (never_below u) in (V.List o.0, ap list_of o.1, under (V.List o.0) (S.List o.0) (S.List u) (V.rolls-List o.0) o.2)
  form_least (S.List y) S.Never (S.List u) a b =
      let o = y.1 V.Never u a (never_below u) in (V.List o.0, ap list_of o.1, under (V.List o.0) (S.List o.0) (S.List u) (V.rolls-List o.0) o.2)
  form_least (S.List y) x (S.List u) a b = no b
  form_least (S.Vector y) (S.Vector w) (S.Vector u) a b =
      let o = y.1 w u a b in (V.Vector o.0, ap vector_of o.1, under (V.Vector o.0) (S.Vector o.0) (S.Vector u) (V.rolls-Vector o.0) o.2)
  form_least (S.Vector y) S.Hole (S.Vector u) a b =
      let o = y.1 V.Never u a (never_below u) in (V.Vector o.0, ap vector_of o.1, under (V.Vector o.0) (S.Vector o.0) (S.Vector u) (V.rolls-Vector o.0) o.2)
  form_least (S.Vector y) S.Never (S.Vector u) a b =
      let o = y.1 V.Never u a (never_below u) in (V.Vector o.0, ap vector_of o.1, under (V.Vector o.0) (S.Vector o.0) (S.Vector u) (V.rolls-Vector o.0) o.2)
  form_least (S.Vector y) x (S.Vector u) a b = no b
  form_least (S.Tuple ys) (S.Tuple ws) (S.Tuple us) a b =
      let o = each_least ys ws us a b in (V.Tuple o.0, ap tuple_of o.1, under (V.Tuple o.0) (S.Tuple o.0) (S.Tuple us) (V.rolls-Tuple o.0) o.2)
  form_least (S.Tuple ys) S.Hole (S.Tuple us) a b =
      let o = each_kept_least ys us a in (V.Tuple o.0, ap tuple_of o.1, under (V.Tuple o.0) (S.Tuple o.0) (S.Tuple us) (V.rolls-Tuple o.0) o.2)
  form_least (S.Tuple ys) S.Never (S.Tuple us) a b =
      let o = each_kept_least ys us a in (V.Tuple o.0, ap tuple_of o.1, under (V.Tuple o.0) (S.Tuple o.0) (S.Tuple us) (V.rolls-Tuple o.0) o.2)
  form_least (S.Tuple ys) x (S.Tuple us) a b = no b
  form_least (S.Named i ys) (S.Named j ws) (S.Named k us) a b =
      let a2 = and_parts (nat_eq i k) (each_fills (map fills (shapes_of3 ys)) us) a in
      let b2 = and_parts (nat_eq j k) (each_fills (map fills ws) us) b in
      let o = each_least ys ws us a2.1 b2.1 in (
        V.Named i o.0,
        ap (λ c. if c then named_of i (join_all (map join (shapes_of3 ys)) ws) else None) (nat_both i j k a2.0 b2.0) ∙ ap (named_of i) o.1,
        under (V.Named i o.0) (S.Named i o.0) (S.Named k us) (V.rolls-Named i o.0) (two (nat_eq i k) (each_fills (map fills o.0) us) a2.0 o.2),
      )
  form_least (S.Named i ys) S.Hole (S.Named k us) a b =
      let a2 = and_parts (nat_eq i k) (each_fills (map fills (shapes_of3 ys)) us) a in
      let o = each_kept_least ys us a2.1 in (
        V.Named i o.0,
        ap (named_of i) o.1,
        under (V.Named i o.0) (S.Named i o.0) (S.Named k us) (V.rolls-Named i o.0) (two (nat_eq i k) (each_fills (map fills o.0) us) a2.0 o.2),
      )
  form_least (S.Named i ys) S.Never (S.Named k us) a b =
      let a2 = and_parts (nat_eq i k) (each_fills (map fills (shapes_of3 ys)) us) a in
      let o = each_kept_least ys us a2.1 in (
        V.Named i o.0,
        ap (named_of i) o.1,
        under (V.Named i o.0) (S.Named i o.0) (S.Named k us) (V.rolls-Named i o.0) (two (nat_eq i k) (each_fills (map fills o.0) us) a2.0 o.2),
      )
  form_least (S.Named i ys) x (S.Named k us) a b = no b
  form_least (S.Variable i) (S.Variable j) (S.Variable k) a b = (
    V.Variable i,
    ap (λ c. if c then Some (V.Variable i) else None) (nat_both i j k a b),
    under (V.Variable i) (S.Variable i) (S.Variable k) (V.rolls-Variable i) a,
  )
  form_least (S.Variable i) S.Hole z a b = (V.Variable i, refl, under (V.Variable i) (S.Variable i) z (V.rolls-Variable i) a)
  form_least (S.Variable i) S.Never z a b = (V.Variable i, refl, under (V.Variable i) (S.Variable i) z (V.rolls-Variable i) a)
  form_least (S.Variable i) x (S.Variable k) a b = no b
  form_least y x z a b = no a

  rolled_least : (y : Shape-F Such3) → Least (roll-Shape (form3 y))
  rolled_least y w u a b =
      let o = form_least y (out-Shape w) (out-Shape u) (sym (opened (form3 y) u) ∙ a) (sym (at_forms w u) ∙ b) in (
        o.0,
        joined (form3 y) w ∙ ap (λ v. join_form (map-Shape Shape Joins join (form3 y)) v (out-Shape w)) (rolled w) ∙ o.1,
        ap (fills o.0) (rolled u) ∙ o.2,
      )

  pub joins_are_least : JoinsAreLeast
  joins_are_least = ind-Shape Least (λ e y is. subst (λ d. Least (roll-Shape d)) is (rolled_least y))
