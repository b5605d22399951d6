-- Shapes whose named types have the arguments that they should have: what is joined, put in, and learnt of such is so.
use Rattle.std.proofs.Common.{◌≡◌, ℕ, zero, suc, List, [], ◌∷◌, map, length, ap, sym, ◌∙◌, refl, subst, Bool, true, false, Option, Some, None, nat_eq}
use Rattle.std.proofs.Common.{nat_lt, slice_set, if◌then◌else◌}
use Rattle.std.specs.Prelude.{replicate}
use Rattle.std.proofs.lemmas.Bool.{and_parts}
use Rattle.sail_base.specs.declared.place.Place.{Place}
use Rattle.sail_types.specs.Shapes.{at, put, put_form}
use Rattle.sail_types.specs.declared.shapes.Shape.{Shape, Shape-F, out-Shape, roll-Shape}
use Rattle.sail_types.specs.declared.shapes.Shape.TheFolds.{fold-roll-Shape, map-Shape, ind-Shape}
use Rattle.sail_types.specs.declared.shapes.Shape.TheOpen as S
use Rattle.sail_types.specs.declared.shapes.Shape.TheVariants as V
use Rattle.sail_types.specs.declared.table.Types.{Types}
use Rattle.sail_core.specs.declared.tree.Core.{Core}
use Rattle.shape_joins.specs.Joins.{Joins, join, join_form, join_all, keep_all, more_of, list_of, vector_of, tuple_of, named_of}
use Rattle.shape_joins.specs.Learning.{Learns, also_as, learn, learn_form, learn_all, then_learn, holes}
use Rattle.shape_joins.proofs.Order.{two, rolled}
use Rattle.shape_joins.proofs.JoinsLeast.{some_same, none}
use Rattle.shape_rules.specs.Findings.{settled, settled_as, given_on, joined_or}
use Rattle.shape_meanings.specs.Counted.{type_count, counted, counted_form, all_counted}
use Rattle.shape_meanings.proofs.Orders.{puts}

pub same_length : {A B : Type 0} (f : A → B) (xs : List A) → length (map f xs) ≡ length xs
same_length f [] = refl
same_length f (x ∷ xs) = ap suc (same_length f xs)

module _ (types : Types) where
  counted_at : (x : Shape-F Shape) → counted types (roll-Shape x) ≡ counted_form types (map-Shape Shape Bool (counted types) x)
  counted_at x = fold-roll-Shape Bool (counted_form types) x

  pub leaf_counted : (x : Shape-F Shape) (s : Shape) → roll-Shape x ≡ s → counted_form types (map-Shape Shape Bool (counted types) x) ≡ true
      → counted types s ≡ true
  leaf_counted x s is h = subst (λ t. counted types t ≡ true) is (counted_at x ∙ h)

  pub counted_out : (s : Shape) (y : Shape-F Shape) → out-Shape s ≡ y → counted types s ≡ true
      → counted_form types (map-Shape Shape Bool (counted types) y) ≡ true
  counted_out s y is h =
      ap (λ x. counted_form types (map-Shape Shape Bool (counted types) x)) (sym is) ∙ sym (ap (counted types) (rolled s) ∙ counted_at (out-Shape s)) ∙ h

  pub never_counted : counted types V.Never ≡ true
  never_counted = leaf_counted S.Never V.Never V.rolls-Never refl

  pub hole_counted : counted types V.Hole ≡ true
  hole_counted = leaf_counted S.Hole V.Hole V.rolls-Hole refl

  pub unit_counted : counted types V.Unit ≡ true
  unit_counted = leaf_counted S.Unit V.Unit V.rolls-Unit refl

  pub bool_counted : counted types V.Bool ≡ true
  bool_counted = leaf_counted S.Bool V.Bool V.rolls-Bool refl

  pub bit_counted : counted types V.Bit ≡ true
  bit_counted = leaf_counted S.Bit V.Bit V.rolls-Bit refl

  pub bits_counted : counted types V.Bits ≡ true
  bits_counted = leaf_counted S.Bits V.Bits V.rolls-Bits refl

  pub int_counted : counted types V.Int ≡ true
  int_counted = leaf_counted S.Int V.Int V.rolls-Int refl

  pub string_counted : counted types V.String ≡ true
  string_counted = leaf_counted S.String V.String V.rolls-String refl

  pub list_counted : (s : Shape) → counted types s ≡ true → counted types (V.List s) ≡ true
  list_counted s h = leaf_counted (S.List s) (V.List s) (V.rolls-List s) h

  pub vector_counted : (s : Shape) → counted types s ≡ true → counted types (V.Vector s) ≡ true
  vector_counted s h = leaf_counted (S.Vector s) (V.Vector s) (V.rolls-Vector s) h

  pub tuple_counted : (ss : List Shape) → all_counted types ss ≡ true → counted types (V.Tuple ss) ≡ true
  tuple_counted ss h = leaf_counted (S.Tuple ss) (V.Tuple ss) (V.rolls-Tuple ss) h

  pub variable_counted : (i : ℕ) → counted types (V.Variable i) ≡ true
  variable_counted i = leaf_counted (S.Variable i) (V.Variable i) (V.rolls-Variable i) refl

  -- a named type with as many arguments
  pub named_counted : (i : ℕ) (ss : List Shape) → nat_eq (length ss) (type_count types i) ≡ true → all_counted types ss ≡ true
      → counted types (V.Named i ss) ≡ true
  named_counted i ss n h =
      leaf_counted (S.Named i ss) (V.Named i ss) (V.rolls-Named i ss)
      (two (nat_eq (length (map (counted types) ss)) (type_count types i)) (all_counted types ss)
      (ap (λ m. nat_eq m (type_count types i)) (same_length (counted types) ss) ∙ n) h)

  pub named_parts : (s : Shape) (i : ℕ) (ss : List Shape) → out-Shape s ≡ S.Named i ss → counted types s ≡ true
      → (nat_eq (length ss) (type_count types i) ≡ true) × (all_counted types ss ≡ true)
  named_parts s i ss is h =
      let k = and_parts (nat_eq (length (map (counted types) ss)) (type_count types i)) (all_counted types ss) (counted_out s (S.Named i ss) is h) in
      (ap (λ m. nat_eq m (type_count types i)) (sym (same_length (counted types) ss)) ∙ k.0, k.1)

  -- ---- what both are

  more_some : (o : Option Shape) (p : Option (List Shape)) (us : List Shape) → more_of o p ≡ Some us
      → (u : Shape) × (rest : List Shape) × (o ≡ Some u) × (p ≡ Some rest) × (us ≡ (u ∷ rest))
  more_some None p us e = none e
  more_some (Some u) None us e = none e
  more_some (Some u) (Some rest) us e = (u, rest, refl, refl, sym (some_same (u ∷ rest) us e))

  abbrev Joined : Shape → Type 0
  Joined s = (t u : Shape) → counted types s ≡ true → counted types t ≡ true → join s t ≡ Some u → counted types u ≡ true

  abbrev Such : Type 0
  Such = (s : Shape) × Joined s

  abbrev shapes_of : List Such → List Shape
  shapes_of ys = map (λ (p : Such). p.0) ys

  abbrev form : Shape-F Such → Shape-F Shape
  form y = map-Shape Such Shape (λ p. p.0) y

  each_joined : (ys : List Such) (ts us : List Shape) → all_counted types (shapes_of ys) ≡ true → all_counted types ts ≡ true
      → join_all (map join (shapes_of ys)) ts ≡ Some us → (all_counted types us ≡ true) × (length us ≡ length (shapes_of ys))
  each_joined [] [] us h k e = subst (λ xs. (all_counted types xs ≡ true) × (length xs ≡ 0)) (some_same [] us e) (refl, refl)
  each_joined [] (t ∷ ts) us h k e = none e
  each_joined (y ∷ ys) [] us h k e = none e
  each_joined (y ∷ ys) (t ∷ ts) us h k e =
      let h2 = and_parts (counted types y.0) (all_counted types (shapes_of ys)) h in
      let k2 = and_parts (counted types t) (all_counted types ts) k in
      let m = more_some (join y.0 t) (join_all (map join (shapes_of ys)) ts) us e in
      let r = each_joined ys ts m.1 h2.1 k2.1 m.3 in
      subst (λ xs. (all_counted types xs ≡ true) × (length xs ≡ suc (length (shapes_of ys)))) (sym m.4)
      (two (counted types m.0) (all_counted types m.1) (y.1 t m.0 h2.0 k2.0 m.2) r.0, ap suc r.1)

  each_kept : (ys : List Such) (us : List Shape) → all_counted types (shapes_of ys) ≡ true
      → keep_all (map join (shapes_of ys)) ≡ Some us → (all_counted types us ≡ true) × (length us ≡ length (shapes_of ys))
  each_kept [] us h e = subst (λ xs. (all_counted types xs ≡ true) × (length xs ≡ 0)) (some_same [] us e) (refl, refl)
  each_kept (y ∷ ys) us h e =
      let h2 = and_parts (counted types y.0) (all_counted types (shapes_of ys)) h in
      let m = more_some (join y.0 V.Never) (keep_all (map join (shapes_of ys))) us e in
      let r = each_kept ys m.1 h2.1 m.3 in
      subst (λ xs. (all_counted types xs ≡ true) × (length xs ≡ suc (length (shapes_of ys)))) (sym m.4)
      (two (counted types m.0) (all_counted types m.1) (y.1 V.Never m.0 h2.0 never_counted m.2) r.0, ap suc r.1)

  is_some_of : (s u : Shape) → counted types s ≡ true → Some s ≡ Some u → counted types u ≡ true
  is_some_of s u h e = subst (λ t. counted types t ≡ true) (some_same s u e) h

  list_joined : (o : Option Shape) (u : Shape) → ((w : Shape) → o ≡ Some w → counted types w ≡ true) → list_of o ≡ Some u → counted types u ≡ true
  list_joined None u f e = none e
  list_joined (Some w) u f e = is_some_of (V.List w) u (list_counted w (f w refl)) e

  vector_joined : (o : Option Shape) (u : Shape) → ((w : Shape) → o ≡ Some w → counted types w ≡ true) → vector_of o ≡ Some u → counted types u ≡ true
  vector_joined None u f e = none e
  vector_joined (Some w) u f e = is_some_of (V.Vector w) u (vector_counted w (f w refl)) e

  tuple_joined : (o : Option (List Shape)) (u : Shape) → ((ws : List Shape) → o ≡ Some ws → all_counted types ws ≡ true) → tuple_of o ≡ Some u
      → counted types u ≡ true
  tuple_joined None u f e = none e
  tuple_joined (Some ws) u f e = is_some_of (V.Tuple ws) u (tuple_counted ws (f ws refl)) e

  named_joined : (i : ℕ) (ss : List Shape) (o : Option (List Shape)) (u : Shape)
      → nat_eq (length (map (counted types) ss)) (type_count types i) ≡ true
      → ((ws : List Shape) → o ≡ Some ws → (all_counted types ws ≡ true) × (length ws ≡ length ss))
      → named_of i o ≡ Some u → counted types u ≡ true
  named_joined i ss None u n f e = none e
  named_joined i ss (Some ws) u n f e =
      let r = f ws refl in
      is_some_of (V.Named i ws) u
      (named_counted i ws (ap (λ m. nat_eq m (type_count types i)) (r.1 ∙ sym (same_length (counted types) ss)) ∙ n) r.0) e

  same_named : (b : Bool) (o : Option Shape) (u : Shape) → (if b then o else None) ≡ Some u → (o ≡ Some u → counted types u ≡ true) → counted types u ≡ true
  same_named true o u e f = f e
  same_named false o u e f = none e

  form_joined : (y : Shape-F Such) (t : Shape) (z : Shape-F Shape) (u : Shape)
      → counted_form types (map-Shape Shape Bool (counted types) (form y)) ≡ true → counted types t ≡ true
      → counted_form types (map-Shape Shape Bool (counted types) z) ≡ true
      → join_form (map-Shape Shape Joins join (form y)) t z ≡ Some u → counted types u ≡ true
  form_joined S.Never t z u h k l e = is_some_of t u k e
  form_joined S.Hole t S.Never u h k l e = is_some_of V.Hole u hole_counted e
  form_joined S.Hole t z u h k l e = is_some_of t u k e
  form_joined S.Unit t S.Unit u h k l e = is_some_of V.Unit u unit_counted e
  form_joined S.Unit t S.Hole u h k l e = is_some_of V.Unit u unit_counted e
  form_joined S.Unit t S.Never u h k l e = is_some_of V.Unit u unit_counted e
  form_joined S.Bool t S.Bool u h k l e = is_some_of V.Bool u bool_counted e
  form_joined S.Bool t S.Hole u h k l e = is_some_of V.Bool u bool_counted e
  form_joined S.Bool t S.Never u h k l e = is_some_of V.Bool u bool_counted e
  form_joined S.Bit t S.Bit u h k l e = is_some_of V.Bit u bit_counted e
  form_joined S.Bit t S.Hole u h k l e = is_some_of V.Bit u bit_counted e
  form_joined S.Bit t S.Never u h k l e = is_some_of V.Bit u bit_counted e
  form_joined S.Bits t S.Bits u h k l e = is_some_of V.Bits u bits_counted e
  form_joined S.Bits t S.Hole u h k l e = is_some_of V.Bits u bits_counted e
  form_joined S.Bits t S.Never u h k l e = is_some_of V.Bits u bits_counted e
  form_joined S.Int t S.Int u h k l e = is_some_of V.Int u int_counted e
  form_joined S.Int t S.Hole u h k l e = is_some_of V.Int u int_counted e
  form_joined S.Int t S.Never u h k l e = is_some_of V.Int u int_counted e
  form_joined S.String t S.String u h k l e = is_some_of V.String u string_counted e
  form_joined S.String t S.Hole u h k l e = is_some_of V.String u string_counted e
  form_joined S.String t S.Never u h k l e = is_some_of V.String u string_counted e
  form_joined (S.List y) t (S.List s) u h k l e = list_joined (join y.0 s) u (λ w is. y.1 s w h l is) e
  form_joined (S.List y) t S.Hole u h k l e = list_joined (join y.0 V.Never) u (λ w is. y.1 V.Never w h never_counted is) e
  form_joined (S.List y) t S.Never u h k l e = list_joined (join y.0 V.Never) u (λ w is. y.1 V.Never w h never_counted is) e
  form_joined (S.Vector y) t (S.Vector s) u h k l e = vector_joined (join y.0 s) u (λ w is. y.1 s w h l is) e
  form_joined (S.Vector y) t S.Hole u h k l e = vector_joined (join y.0 V.Never) u (λ w is. y.1 V.Never w h never_counted is) e
  form_joined (S.Vector y) t S.Never u h k l e = vector_joined (join y.0 V.Never) u (λ w is. y.1 V.Never w h never_counted is) e
  form_joined (S.Tuple ys) t (S.Tuple ss) u h k l e =
      tuple_joined (join_all (map join (shapes_of ys)) ss) u (λ ws is. (each_joined ys ss ws h l is).0) e
  form_joined (S.Tuple ys) t S.Hole u h k l e = tuple_joined (keep_all (map join (shapes_of ys))) u (λ ws is. (each_kept ys ws h is).0) e
  form_joined (S.Tuple ys) t S.Never u h k l e = tuple_joined (keep_all (map join (shapes_of ys))) u (λ ws is. (each_kept ys ws h is).0) e
  form_joined (S.Named i ys) t (S.Named j ss) u h k l e =
      let h2 = and_parts (nat_eq (length (map (counted types) (shapes_of ys))) (type_count types i)) (all_counted types (shapes_of ys)) h in
      let l2 = and_parts (nat_eq (length (map (counted types) ss)) (type_count types j)) (all_counted types ss) l in
      same_named (nat_eq i j) (named_of i (join_all (map join (shapes_of ys)) ss)) u e
      (λ e2. named_joined i (shapes_of ys) (join_all (map join (shapes_of ys)) ss) u h2.0 (λ ws is. each_joined ys ss ws h2.1 l2.1 is) e2)
  form_joined (S.Named i ys) t S.Hole u h k l e =
      let h2 = and_parts (nat_eq (length (map (counted types) (shapes_of ys))) (type_count types i)) (all_counted types (shapes_of ys)) h in
      named_joined i (shapes_of ys) (keep_all (map join (shapes_of ys))) u h2.0 (λ ws is. each_kept ys ws h2.1 is) e
  form_joined (S.Named i ys) t S.Never u h k l e =
      let h2 = and_parts (nat_eq (length (map (counted types) (shapes_of ys))) (type_count types i)) (all_counted types (shapes_of ys)) h in
      named_joined i (shapes_of ys) (keep_all (map join (shapes_of ys))) u h2.0 (λ ws is. each_kept ys ws h2.1 is) e
  form_joined (S.Variable i) t (S.Variable j) u h k l e =
      same_named (nat_eq i j) (Some (V.Variable i)) u e (λ e2. is_some_of (V.Variable i) u (variable_counted i) e2)
  form_joined (S.Variable i) t S.Hole u h k l e = is_some_of (V.Variable i) u (variable_counted i) e
  form_joined (S.Variable i) t S.Never u h k l e = is_some_of (V.Variable i) u (variable_counted i) e
  form_joined y t z u h k l e = none e

  rolled_joined : (y : Shape-F Such) → Joined (roll-Shape (form y))
  rolled_joined y t u h k e =
      form_joined y t (out-Shape t) u (sym (counted_at (form y)) ∙ h) k (counted_out t (out-Shape t) refl k)
      (ap (λ f. f t) (sym (fold-roll-Shape Joins (λ shape t. join_form shape t (out-Shape t)) (form y))) ∙ e)

  pub join_counted : (s : Shape) → Joined s
  join_counted = ind-Shape Joined (λ e y is. subst (λ d. Joined (roll-Shape d)) is (rolled_joined y))

  pub given_counted : (want s : Shape) → counted types want ≡ true → counted types s ≡ true → counted types (given_on want s) ≡ true
  given_counted want s h k = by_option (join want s) refl
    where
      by_option : (o : Option Shape) → join want s ≡ o → counted types (joined_or want o) ≡ true
      by_option None is = h
      by_option (Some u) is = join_counted want s u h k is

  pub settled_counted : (place : Place) (want s : Shape) (core : Shape → Core) → counted types want ≡ true → counted types s ≡ true
      → counted types (settled place want s core).shape ≡ true
  settled_counted place want s core h k = by_option (join s want) refl
    where
      by_option : (o : Option Shape) → join s want ≡ o → counted types (settled_as place want s core o).shape ≡ true
      by_option None is = never_counted
      by_option (Some u) is = join_counted s want u k h is

  -- ---- what is put in

  pub at_counted : (ss : List Shape) (i : ℕ) → all_counted types ss ≡ true → counted types (at ss i) ≡ true
  at_counted [] i h = hole_counted
  at_counted (s ∷ ss) zero h = (and_parts (counted types s) (all_counted types ss) h).0
  at_counted (s ∷ ss) (suc i) h = at_counted ss i (and_parts (counted types s) (all_counted types ss) h).1

  abbrev Put : Shape → Type 0
  Put s = (e : ℕ → Shape) → ((i : ℕ) → counted types (e i) ≡ true) → counted types s ≡ true → counted types (put e s) ≡ true

  abbrev Such2 : Type 0
  Such2 = (s : Shape) × Put s

  abbrev shapes_of2 : List Such2 → List Shape
  shapes_of2 ys = map (λ (p : Such2). p.0) ys

  abbrev form2 : Shape-F Such2 → Shape-F Shape
  form2 y = map-Shape Such2 Shape (λ p. p.0) y

  each_put : (ys : List Such2) (e : ℕ → Shape) → ((i : ℕ) → counted types (e i) ≡ true) → all_counted types (shapes_of2 ys) ≡ true
      → all_counted types (map (put e) (shapes_of2 ys)) ≡ true
  each_put [] e f h = refl
  each_put (y ∷ ys) e f h =
      let k = and_parts (counted types y.0) (all_counted types (shapes_of2 ys)) h in
      two (counted types (put e y.0)) (all_counted types (map (put e) (shapes_of2 ys))) (y.1 e f k.0) (each_put ys e f k.1)

  form_put : (y : Shape-F Such2) (e : ℕ → Shape) → ((i : ℕ) → counted types (e i) ≡ true)
      → counted_form types (map-Shape Shape Bool (counted types) (form2 y)) ≡ true
      → counted types (put_form e (map-Shape Shape Shape (put e) (form2 y))) ≡ true
  form_put (S.List y) e f h = leaf_counted (S.List (put e y.0)) _ refl (y.1 e f h)
  form_put (S.Vector y) e f h = leaf_counted (S.Vector (put e y.0)) _ refl (y.1 e f h)
  form_put (S.Tuple ys) e f h = leaf_counted (S.Tuple (map (put e) (shapes_of2 ys))) _ refl (each_put ys e f h)
  form_put (S.Named i ys) e f h =
      let k = and_parts (nat_eq (length (map (counted types) (shapes_of2 ys))) (type_count types i)) (all_counted types (shapes_of2 ys)) h in
      leaf_counted (S.Named i (map (put e) (shapes_of2 ys))) _ refl
      (two (nat_eq (length (map (counted types) (map (put e) (shapes_of2 ys)))) (type_count types i)) (all_counted types (map (put e) (shapes_of2 ys)))
      (ap (λ m. nat_eq m (type_count types i)) (same_length (counted types) (map (put e) (shapes_of2 ys)) ∙ same_length (put e) (shapes_of2 ys)
      ∙ sym (same_length (counted types) (shapes_of2 ys))) ∙ k.0) (each_put ys e f k.1))
  form_put (S.Variable i) e f h = f i
  form_put S.Unit e f h = leaf_counted S.Unit _ refl refl
  form_put S.Bool e f h = leaf_counted S.Bool _ refl refl
  form_put S.Bit e f h = leaf_counted S.Bit _ refl refl
  form_put S.Bits e f h = leaf_counted S.Bits _ refl refl
  form_put S.Int e f h = leaf_counted S.Int _ refl refl
  form_put S.String e f h = leaf_counted S.String _ refl refl
  form_put S.Hole e f h = leaf_counted S.Hole _ refl refl
  form_put S.Never e f h = leaf_counted S.Never _ refl refl

  rolled_put : (y : Shape-F Such2) → Put (roll-Shape (form2 y))
  rolled_put y e f h = ap (counted types) (puts e (form2 y)) ∙ form_put y e f (sym (counted_at (form2 y)) ∙ h)

  pub put_counted : (s : Shape) → Put s
  put_counted = ind-Shape Put (λ e y is. subst (λ d. Put (roll-Shape d)) is (rolled_put y))

  pub put_at_counted : (ss : List Shape) (s : Shape) → all_counted types ss ≡ true → counted types s ≡ true → counted types (put (at ss) s) ≡ true
  put_at_counted ss s h k = put_counted s (at ss) (λ i. at_counted ss i h) k

  pub all_put_counted : (ps ss : List Shape) → all_counted types ss ≡ true → all_counted types ps ≡ true → all_counted types (map (put (at ss)) ps) ≡ true
  all_put_counted [] ss h k = refl
  all_put_counted (p ∷ ps) ss h k =
      let k2 = and_parts (counted types p) (all_counted types ps) k in
      two (counted types (put (at ss) p)) (all_counted types (map (put (at ss)) ps)) (put_at_counted ss p h k2.0) (all_put_counted ps ss h k2.1)

  pub same_counted : (n : ℕ) (s : Shape) → counted types s ≡ true → all_counted types (replicate n s) ≡ true
  same_counted zero s h = refl
  same_counted (suc n) s h = two (counted types s) (all_counted types (replicate n s)) h (same_counted n s h)

  pub same_many : (n : ℕ) (s : Shape) → length (replicate n s) ≡ n
  same_many zero s = refl
  same_many (suc n) s = ap suc (same_many n s)

  -- ---- what is learnt

  set_counted : (ss : List Shape) (i : ℕ) (s : Shape) → all_counted types ss ≡ true → counted types s ≡ true → all_counted types (slice_set ss i s) ≡ true
  set_counted [] i s h k = refl
  set_counted (t ∷ ss) zero s h k =
      two (counted types s) (all_counted types ss) k (and_parts (counted types t) (all_counted types ss) h).1
  set_counted (t ∷ ss) (suc i) s h k =
      let h2 = and_parts (counted types t) (all_counted types ss) h in
      two (counted types t) (all_counted types (slice_set ss i s)) h2.0 (set_counted ss i s h2.1 k)

  set_many : (ss : List Shape) (i : ℕ) (s : Shape) → length (slice_set ss i s) ≡ length ss
  set_many [] i s = refl
  set_many (t ∷ ss) zero s = refl
  set_many (t ∷ ss) (suc i) s = ap suc (set_many ss i s)

  -- as many as before, and counted
  abbrev pub Kept : List Shape → List Shape → Type 0
  Kept known later = (all_counted types later ≡ true) × (length later ≡ length known)

  abbrev Learnt : Shape → Type 0
  Learnt p = (s : Shape) (known later : List Shape) → counted types s ≡ true → all_counted types known ≡ true → learn p s known ≡ Some later
      → Kept known later

  abbrev Such3 : Type 0
  Such3 = (s : Shape) × Learnt s

  abbrev shapes_of3 : List Such3 → List Shape
  shapes_of3 ys = map (λ (p : Such3). p.0) ys

  abbrev form3 : Shape-F Such3 → Shape-F Shape
  form3 y = map-Shape Such3 Shape (λ p. p.0) y

  as_before : (known later : List Shape) → all_counted types known ≡ true → Some known ≡ Some later → Kept known later
  as_before known later h e = subst (Kept known) (some_same known later e) (h, refl)

  then_kept : (o : Option (List Shape)) (next : List Shape → Option (List Shape)) (known later : List Shape)
      → then_learn o next ≡ Some later → ((middle : List Shape) → o ≡ Some middle → Kept known middle)
      → ((middle : List Shape) → all_counted types middle ≡ true → next middle ≡ Some later → Kept middle later) → Kept known later
  then_kept None next known later e f g = none e
  then_kept (Some middle) next known later e f g =
      let a = f middle refl in
      let b = g middle a.0 e in
      (b.0, b.1 ∙ a.1)

  each_learnt : (ys : List Such3) (ss known later : List Shape) → all_counted types ss ≡ true → all_counted types known ≡ true
      → learn_all (map learn (shapes_of3 ys)) ss known ≡ Some later → Kept known later
  each_learnt [] [] known later h k e = as_before known later k e
  each_learnt [] (s ∷ ss) known later h k e = none e
  each_learnt (y ∷ ys) [] known later h k e = none e
  each_learnt (y ∷ ys) (s ∷ ss) known later h k e =
      let h2 = and_parts (counted types s) (all_counted types ss) h in
      then_kept (learn y.0 s known) (learn_all (map learn (shapes_of3 ys)) ss) known later e (λ middle is. y.1 s known middle h2.0 k is)
      (λ middle k2 is. each_learnt ys ss middle later h2.1 k2 is)

  also_kept : (known later : List Shape) (i : ℕ) (o : Option Shape) → ((t : Shape) → o ≡ Some t → counted types t ≡ true) → all_counted types known ≡ true
      → also_as known i o ≡ Some later → Kept known later
  also_kept known later i None f k e = none e
  also_kept known later i (Some t) f k e =
      subst (Kept known) (some_same (slice_set known i t) later e) (set_counted known i t k (f t refl), set_many known i t)

  also_counted : (b : Bool) (known later : List Shape) (i : ℕ) (s : Shape) → counted types s ≡ true → all_counted types known ≡ true
      → (if b then also_as known i (join (at known i) s) else None) ≡ Some later → Kept known later
  also_counted true known later i s h k e =
      also_kept known later i (join (at known i) s) (λ t is. join_counted (at known i) s t (at_counted known i k) h is) k e
  also_counted false known later i s h k e = none e

  same_learnt : (b : Bool) (o : Option (List Shape)) (known later : List Shape) → (if b then o else None) ≡ Some later
      → (o ≡ Some later → Kept known later) → Kept known later
  same_learnt true o known later e f = f e
  same_learnt false o known later e f = none e

  form_learnt : (y : Shape-F Such3) (s : Shape) (z : Shape-F Shape) (known later : List Shape) → counted types s ≡ true
      → counted_form types (map-Shape Shape Bool (counted types) z) ≡ true → all_counted types known ≡ true
      → learn_form (map-Shape Shape Learns learn (form3 y)) s z known ≡ Some later → Kept known later
  form_learnt (S.Variable i) s z known later h l k e = also_counted (nat_lt i (length known)) known later i s h k e
  form_learnt S.Unit s S.Unit known later h l k e = as_before known later k e
  form_learnt S.Unit s S.Hole known later h l k e = as_before known later k e
  form_learnt S.Unit s S.Never known later h l k e = as_before known later k e
  form_learnt S.Bool s S.Bool known later h l k e = as_before known later k e
  form_learnt S.Bool s S.Hole known later h l k e = as_before known later k e
  form_learnt S.Bool s S.Never known later h l k e = as_before known later k e
  form_learnt S.Bit s S.Bit known later h l k e = as_before known later k e
  form_learnt S.Bit s S.Hole known later h l k e = as_before known later k e
  form_learnt S.Bit s S.Never known later h l k e = as_before known later k e
  form_learnt S.Bits s S.Bits known later h l k e = as_before known later k e
  form_learnt S.Bits s S.Hole known later h l k e = as_before known later k e
  form_learnt S.Bits s S.Never known later h l k e = as_before known later k e
  form_learnt S.Int s S.Int known later h l k e = as_before known later k e
  form_learnt S.Int s S.Hole known later h l k e = as_before known later k e
  form_learnt S.Int s S.Never known later h l k e = as_before known later k e
  form_learnt S.String s S.String known later h l k e = as_before known later k e
  form_learnt S.String s S.Hole known later h l k e = as_before known later k e
  form_learnt S.String s S.Never known later h l k e = as_before known later k e
  form_learnt (S.List y) s (S.List u) known later h l k e = y.1 u known later l k e
  form_learnt (S.List y) s S.Hole known later h l k e = as_before known later k e
  form_learnt (S.List y) s S.Never known later h l k e = as_before known later k e
  form_learnt (S.Vector y) s (S.Vector u) known later h l k e = y.1 u known later l k e
  form_learnt (S.Vector y) s S.Hole known later h l k e = as_before known later k e
  form_learnt (S.Vector y) s S.Never known later h l k e = as_before known later k e
  form_learnt (S.Tuple ys) s (S.Tuple ss) known later h l k e = each_learnt ys ss known later l k e
  form_learnt (S.Tuple ys) s S.Hole known later h l k e = as_before known later k e
  form_learnt (S.Tuple ys) s S.Never known later h l k e = as_before known later k e
  form_learnt (S.Named i ys) s (S.Named j ss) known later h l k e =
      let l2 = and_parts (nat_eq (length (map (counted types) ss)) (type_count types j)) (all_counted types ss) l in
      same_learnt (nat_eq i j) (learn_all (map learn (shapes_of3 ys)) ss known) known later e (λ e2. each_learnt ys ss known later l2.1 k e2)
  form_learnt (S.Named i ys) s S.Hole known later h l k e = as_before known later k e
  form_learnt (S.Named i ys) s S.Never known later h l k e = as_before known later k e
  form_learnt y s z known later h l k e = none e

  rolled_learnt : (y : Shape-F Such3) → Learnt (roll-Shape (form3 y))
  rolled_learnt y s known later h k e =
      form_learnt y s (out-Shape s) known later h (counted_out s (out-Shape s) refl h) k
      (ap (λ f. f s known) (sym (fold-roll-Shape Learns (λ p s known. learn_form p s (out-Shape s) known) (form3 y))) ∙ e)

  pub learn_counted : (p : Shape) → Learnt p
  learn_counted = ind-Shape Learnt (λ e y is. subst (λ d. Learnt (roll-Shape d)) is (rolled_learnt y))

  pub learns_counted : (ps ss known later : List Shape) → all_counted types ss ≡ true → all_counted types known ≡ true
      → learn_all (map learn ps) ss known ≡ Some later → Kept known later
  learns_counted [] [] known later h k e = as_before known later k e
  learns_counted [] (s ∷ ss) known later h k e = none e
  learns_counted (p ∷ ps) [] known later h k e = none e
  learns_counted (p ∷ ps) (s ∷ ss) known later h k e =
      let h2 = and_parts (counted types s) (all_counted types ss) h in
      then_kept (learn p s known) (learn_all (map learn ps) ss) known later e (λ middle is. learn_counted p s known middle h2.0 k is)
      (λ middle k2 is. learns_counted ps ss middle later h2.1 k2 is)

  pub holes_counted : (n : ℕ) → all_counted types (holes n) ≡ true
  holes_counted n = same_counted n V.Hole hole_counted

  pub holes_many : (n : ℕ) → length (holes n) ≡ n
  holes_many n = same_many n V.Hole
