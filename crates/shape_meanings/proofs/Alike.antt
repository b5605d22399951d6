-- Parameters that are alike but for the names of their variables become the same shapes, where what the variables stand for goes by their places.
use Rattle.std.proofs.Common.{◌≡◌, ℕ, zero, suc, List, [], ◌∷◌, ◌++◌, map, ap, sym, ◌∙◌, refl, subst, Bool, true, false, ◌||◌, nat_eq, if◌then◌else◌}
use Rattle.std.proofs.Common.{arith}
use Rattle.std.proofs.lemmas.Bool.{and_parts}
use Rattle.sail_types.specs.Shapes.{put, put_form}
use Rattle.sail_types.specs.declared.shapes.Shape.{Shape, Shape-F, out-Shape, roll-Shape}
use Rattle.sail_types.specs.declared.shapes.Shape.TheFolds.{fold-roll-Shape, map-Shape, ind-Shape}
use Rattle.sail_types.specs.declared.shapes.Shape.TheOpen as S
use Rattle.shape_joins.specs.Numbering.{variables, variables_form, variables_in, in_turn, first_place, alike, alike_form, each_alike, all_alike}
use Rattle.shape_joins.proofs.Order.{no, equal, rolled}
use Rattle.shape_meanings.proofs.Orders.{puts}

-- ---- places of variables

abbrev pub has : ℕ → List ℕ → Bool
has j [] = false
has j (k ∷ ks) = nat_eq k j || has j ks

abbrev pub item_at : List ℕ → ℕ → ℕ
item_at [] i = 0
item_at (j ∷ js) zero = j
item_at (j ∷ js) (suc i) = item_at js i

placed_if : (k j : ℕ) (ks : List ℕ) (b : Bool) → nat_eq k j ≡ b → (b || has j ks) ≡ true → (has j ks ≡ true → item_at ks (first_place ks j) ≡ j)
    → item_at (k ∷ ks) (if b then 0 else suc (first_place ks j)) ≡ j
placed_if k j ks true is h more = equal k j is
placed_if k j ks false is h more = more h

at_first_place : (js : List ℕ) (j : ℕ) → has j js ≡ true → item_at js (first_place js j) ≡ j
at_first_place [] j h = no h
at_first_place (k ∷ ks) j h = placed_if k j ks (nat_eq k j) refl h (at_first_place ks j)

or_right : (a b : Bool) → b ≡ true → (a || b) ≡ true
or_right true b h = refl
or_right false b h = h

has_left : (xs ys : List ℕ) (j : ℕ) → has j xs ≡ true → has j (xs ++ ys) ≡ true
has_left [] ys j h = no h
has_left (x ∷ xs) ys j h = by_or (nat_eq x j) (has j xs) (has j (xs ++ ys)) h (has_left xs ys j)
  where
    by_or : (a b c : Bool) → (a || b) ≡ true → (b ≡ true → c ≡ true) → (a || c) ≡ true
    by_or true b c h f = refl
    by_or false b c h f = f h

has_right : (xs ys : List ℕ) (j : ℕ) → has j ys ≡ true → has j (xs ++ ys) ≡ true
has_right [] ys j h = h
has_right (x ∷ xs) ys j h = or_right (nat_eq x j) (has j (xs ++ ys)) (has_right xs ys j h)

-- ---- shapes

-- what a variable stands for, by the place at which it comes first among these, and what those of the same places stand for
abbrev pub by_places : List ℕ → List ℕ → (ℕ → Shape) → ℕ → Shape
by_places is js e i = e (item_at js (first_place is i))

abbrev Among : List ℕ → List ℕ → Type 0
Among ks js = (j : ℕ) → has j ks ≡ true → has j js ≡ true

abbrev Renamed : Shape → Type 0
Renamed p = (q : Shape) (is js : List ℕ) (e : ℕ → Shape) → alike is js p q ≡ true → Among (variables q) js → put (by_places is js e) p ≡ put e q

module _ where
  abbrev Such : Type 0
  Such = (s : Shape) × Renamed s

  abbrev shapes_of : List Such → List Shape
  shapes_of ys = map (λ (p : Such). p.0) ys

  abbrev form : Shape-F Such → Shape-F Shape
  form y = map-Shape Such Shape (λ p. p.0) y

  each_renamed : (ys : List Such) (qs : List Shape) (is js : List ℕ) (e : ℕ → Shape) → each_alike (map (alike is js) (shapes_of ys)) qs ≡ true
      → Among (in_turn (map variables qs)) js → map (put (by_places is js e)) (shapes_of ys) ≡ map (put e) qs
  each_renamed [] [] is js e h m = refl
  each_renamed [] (q ∷ qs) is js e h m = no h
  each_renamed (y ∷ ys) [] is js e h m = no h
  each_renamed (y ∷ ys) (q ∷ qs) is js e h m =
      let h2 = and_parts (alike is js y.0 q) (each_alike (map (alike is js) (shapes_of ys)) qs) h in
      λ i. y.1 q is js e h2.0 (λ j k. m j (has_left (variables q) (in_turn (map variables qs)) j k)) i
      ∷ each_renamed ys qs is js e h2.1 (λ j k. m j (has_right (variables q) (in_turn (map variables qs)) j k)) i

  form_renamed : (y : Shape-F Such) (z : Shape-F Shape) (is js : List ℕ) (e : ℕ → Shape)
      → alike_form is js (map-Shape Shape (Shape → Bool) (alike is js) (form y)) z ≡ true
      → Among (variables_form (map-Shape Shape (List ℕ) variables z)) js
      → put_form (by_places is js e) (map-Shape Shape Shape (put (by_places is js e)) (form y)) ≡ put_form e (map-Shape Shape Shape (put e) z)
  form_renamed (S.Variable i) (S.Variable j) is js e h m =
      ap e (ap (item_at js) (equal (first_place is i) (first_place js j) h) ∙ at_first_place js j (m j (self j)))
    where
      self : (j : ℕ) → has j (j ∷ []) ≡ true
      self j = by_refl (nat_eq j j) (grind (arith))
        where
          by_refl : (b : Bool) → b ≡ true → (b || false) ≡ true
          by_refl b h = ap (λ x. x || false) h
  form_renamed S.Unit S.Unit is js e h m = refl
  form_renamed S.Bool S.Bool is js e h m = refl
  form_renamed S.Bit S.Bit is js e h m = refl
  form_renamed S.Bits S.Bits is js e h m = refl
  form_renamed S.Int S.Int is js e h m = refl
  form_renamed S.String S.String is js e h m = refl
  form_renamed (S.List y) (S.List q) is js e h m = ap (λ s. roll-Shape (S.List s)) (y.1 q is js e h m)
  form_renamed (S.Vector y) (S.Vector q) is js e h m = ap (λ s. roll-Shape (S.Vector s)) (y.1 q is js e h m)
  form_renamed (S.Tuple ys) (S.Tuple qs) is js e h m = ap (λ s. roll-Shape (S.Tuple s)) (each_renamed ys qs is js e h m)
  form_renamed (S.Named t ys) (S.Named u qs) is js e h m =
      let h2 = and_parts (nat_eq t u) (each_alike (map (alike is js) (shapes_of ys)) qs) h in
      λ k. roll-Shape (S.Named (equal t u h2.0 k) (each_renamed ys qs is js e h2.1 m k))
  form_renamed S.Hole S.Hole is js e h m = refl
  form_renamed S.Never S.Never is js e h m = refl
  form_renamed y z is js e h m = no h

  alike_is : (is js : List ℕ) (x : Shape-F Shape) (q : Shape)
      → alike is js (roll-Shape x) q ≡ alike_form is js (map-Shape Shape (Shape → Bool) (alike is js) x) (out-Shape q)
  alike_is is js x q = ap (λ f. f q) (fold-roll-Shape (Shape → Bool) (λ f s. alike_form is js f (out-Shape s)) x)

  variables_are : (z : Shape-F Shape) → variables (roll-Shape z) ≡ variables_form (map-Shape Shape (List ℕ) variables z)
  variables_are z = fold-roll-Shape (List ℕ) variables_form z

  rolled_renamed : (y : Shape-F Such) → Renamed (roll-Shape (form y))
  rolled_renamed y q is js e h m =
      puts (by_places is js e) (form y)
      ∙ form_renamed y (out-Shape q) is js e (sym (alike_is is js (form y) q) ∙ h)
      (subst (λ ks. Among ks js) (ap variables (rolled q) ∙ variables_are (out-Shape q)) m)
      ∙ sym (puts e (out-Shape q)) ∙ ap (put e) (sym (rolled q))

  renamed : (p : Shape) → Renamed p
  renamed = ind-Shape Renamed (λ e y is. subst (λ d. Renamed (roll-Shape d)) is (rolled_renamed y))

each_alike_puts : (ps qs : List Shape) (is js : List ℕ) (e : ℕ → Shape) → each_alike (map (alike is js) ps) qs ≡ true → Among (variables_in qs) js
    → map (put (by_places is js e)) ps ≡ map (put e) qs
each_alike_puts [] [] is js e h m = refl
each_alike_puts [] (q ∷ qs) is js e h m = no h
each_alike_puts (p ∷ ps) [] is js e h m = no h
each_alike_puts (p ∷ ps) (q ∷ qs) is js e h m =
    let h2 = and_parts (alike is js p q) (each_alike (map (alike is js) ps) qs) h in
    λ i. renamed p q is js e h2.0 (λ j k. m j (has_left (variables q) (variables_in qs) j k)) i
    ∷ each_alike_puts ps qs is js e h2.1 (λ j k. m j (has_right (variables q) (variables_in qs) j k)) i

-- lists of parameters that are alike become the same
pub alike_puts : (ps qs : List Shape) (e : ℕ → Shape) → all_alike ps qs ≡ true
    → map (put (by_places (variables_in ps) (variables_in qs) e)) ps ≡ map (put e) qs
alike_puts ps qs e h = each_alike_puts ps qs (variables_in ps) (variables_in qs) e h (λ j k. k)
