-- Types in which each Type variable is one of so many, and each named type has as many Type arguments as it has Type parameters: they stay so one
-- binder further in and under arguments in the place of their variables, and so are their shapes.
use Rattle.std.proofs.Common.{◌≡◌, ℕ, zero, suc, List, [], ◌∷◌, map, length, ap, sym, ◌∙◌, refl, subst, Bool, true, ◌&&◌}
use Rattle.std.specs.Prelude.{Option, Some, nat_eq, nat_lt, option_map}
use Rattle.std.proofs.lemmas.Bool.{and_parts}
use Rattle.sail_types.specs.Readings.{together, read_con, read_indices}
use Rattle.sail_types.specs.Shapes.{form_shape, shape}
use Rattle.sail_types.specs.Sums.{and_then, read}
use Rattle.sail_types.specs.declared.numbers.Con.{Con}
use Rattle.sail_types.specs.declared.numbers.Index.{Index}
use Rattle.sail_types.specs.declared.shapes.Shape.{Shape, Shape-F, roll-Shape}
use Rattle.sail_types.specs.declared.shapes.Shape.TheFolds.{fold-roll-Shape, map-Shape}
use Rattle.sail_types.specs.declared.shapes.Shape.TheOpen as S
use Rattle.sail_types.specs.declared.shapes.Shape.TheVariants as V
use Rattle.sail_types.specs.declared.table.Types.{Types}
use Rattle.sail_types.specs.declared.types.Typ.{Typ, Typ-F, fold-Typ, roll-Typ}
use Rattle.sail_types.specs.declared.types.Typ.TheFolds.{fold-roll-Typ, map-Typ, ind-Typ}
use Rattle.sail_types.specs.declared.types.Typ.TheOpen as T
use Rattle.sail_types.specs.declared.types.Typ.TheVariants as W
use Rattle.type_arguments.specs.Applied.{AtArguments, applied, applied_typ, form_applied, inside_indices, inside_types, typ_at}
use Rattle.type_arguments.specs.Moved.{AtDepth, moved_con, moved_indices, moved_num, moved_typ, moved_types, next, typ_form_moved}
use Rattle.type_arguments.specs.declared.normal.Normal.{Normal}
use Rattle.type_arguments.specs.declared.normal.Normal.TheVariants as N
use Rattle.type_arguments.proofs.Makings.{map_parts, more_parts, nothing_made, then_parts}
use Rattle.shape_joins.proofs.JoinsLeast.{some_same}
use Rattle.shape_joins.proofs.Order.{same_nat, two}
use Rattle.shape_meanings.specs.Counted.{all_counted, counted, counted_form, type_count}
use Rattle.shape_meanings.specs.Whole.{all_below, all_of, below, below_form}
use Rattle.shape_meanings.proofs.Counting.{same_length}

abbrev formed_form : Types → ℕ → Typ-F Bool → Bool
formed_form types count (T.List b) = b
formed_form types count (T.Vector n b) = b
formed_form types count (T.Tuple bs) = all_of bs
formed_form types count (T.Named i is bs) = nat_eq (length bs) (type_count types i) && all_of bs
formed_form types count (T.Variable i) = nat_lt i count
formed_form types count (T.Exists name c b) = b
formed_form types count form = true

abbrev pub formed : Types → ℕ → Typ → Bool
formed types count = fold-Typ Bool (formed_form types count)

abbrev pub all_formed : Types → ℕ → List Typ → Bool
all_formed types count ts = all_of (map (formed types count) ts)

-- what isn't a type has no Type variable
abbrev pub FormedNormal : Types → ℕ → Normal → Type 0
FormedNormal types count (N.Typ t) = formed types count t ≡ true
FormedNormal types count normal = Unit {0}

module _ (types : Types) (count : ℕ) where
  abbrev pub opened : Typ-F Typ → Bool
  opened x = formed_form types count (map-Typ Typ Bool (formed types count) x)

  pub formed_at : (x : Typ-F Typ) → formed types count (roll-Typ x) ≡ opened x
  formed_at x = fold-roll-Typ Bool (formed_form types count) x

  -- a type of this form
  pub made : (x : Typ-F Typ) (t : Typ) → roll-Typ x ≡ t → opened x ≡ true → formed types count t ≡ true
  made x t is h = subst (λ u. formed types count u ≡ true) is (formed_at x ∙ h)

  pub unit_formed : formed types count W.Unit ≡ true
  unit_formed = made T.Unit W.Unit W.rolls-Unit refl

  pub tuple_formed : (ts : List Typ) → all_formed types count ts ≡ true → formed types count (W.Tuple ts) ≡ true
  tuple_formed ts h = made (T.Tuple ts) (W.Tuple ts) (W.rolls-Tuple ts) h

  -- a named type with as many arguments
  pub named_formed : (i : ℕ) (is : List Index) (ts : List Typ) → length ts ≡ type_count types i → all_formed types count ts ≡ true
      → formed types count (W.Named i is ts) ≡ true
  named_formed i is ts n h =
      made (T.Named i is ts) (W.Named i is ts) (W.rolls-Named i is ts)
      (two (nat_eq (length (map (formed types count) ts)) (type_count types i)) (all_formed types count ts)
      (ap (λ m. nat_eq m (type_count types i)) (same_length (formed types count) ts ∙ n) ∙ same_nat (type_count types i)) h)

  -- an existential type
  pub exists_formed : (name : List ℕ) (c : Con) (t u : Typ) → W.Exists name c t ≡ u → formed types count t ≡ true → formed types count u ≡ true
  exists_formed name c t u same h = made (T.Exists name c t) u (W.rolls-Exists name c t ∙ same) h

  -- as many arguments as before
  again_named : (i : ℕ) (is : List Index) (before after : List Typ) (u : Typ) → W.Named i is after ≡ u → opened (T.Named i is before) ≡ true
      → all_formed types count after ≡ true → length after ≡ length before → formed types count u ≡ true
  again_named i is before after u same h all many =
      let own = and_parts (nat_eq (length (map (formed types count) before)) (type_count types i)) (all_formed types count before) h in
      made (T.Named i is after) u (W.rolls-Named i is after ∙ same)
      (two (nat_eq (length (map (formed types count) after)) (type_count types i)) (all_formed types count after)
      (ap (λ m. nat_eq m (type_count types i)) (same_length (formed types count) after ∙ many ∙ sym (same_length (formed types count) before))
      ∙ own.0) all)

  -- ---- one binder further in

  abbrev Kept : Typ → Type 0
  Kept t = (depth : ℕ) (u : Typ) → formed types count t ≡ true → moved_typ depth t ≡ Some u → formed types count u ≡ true

  abbrev SuchK : Type 0
  SuchK = (t : Typ) × Kept t

  abbrev kept_types : List SuchK → List Typ
  kept_types ys = map (λ (p : SuchK). p.0) ys

  abbrev kept_form : Typ-F SuchK → Typ-F Typ
  kept_form y = map-Typ SuchK Typ (λ p. p.0) y

  abbrev AllAs : List Typ → List Typ → Type 0
  AllAs us ts = (all_formed types count us ≡ true) × (length us ≡ length ts)

  each_kept : (ys : List SuchK) (depth : ℕ) (us : List Typ) → all_formed types count (kept_types ys) ≡ true
      → together (map (λ t. t depth) (map (fold-Typ AtDepth typ_form_moved) (kept_types ys))) ≡ Some us → AllAs us (kept_types ys)
  each_kept [] depth us h e = subst (λ (xs : List Typ). AllAs xs []) (nothing_made us e) (refl, refl)
  each_kept (y ∷ ys) depth us h e =
      let own = and_parts (formed types count y.0) (all_formed types count (kept_types ys)) h in
      let m = more_parts (moved_typ depth y.0) (together (map (λ t. t depth) (map (fold-Typ AtDepth typ_form_moved) (kept_types ys)))) us e in
      let rest = each_kept ys depth m.1 own.1 m.3 in
      subst (λ (xs : List Typ). AllAs xs (kept_types (y ∷ ys))) m.4
      (two (formed types count m.0) (all_formed types count m.1) (y.1 depth m.0 own.0 m.2) rest.0, ap suc rest.1)

  moved_form : (y : Typ-F SuchK) (depth : ℕ) (u : Typ) → opened (kept_form y) ≡ true
      → typ_form_moved (map-Typ Typ AtDepth (fold-Typ AtDepth typ_form_moved) (kept_form y)) depth ≡ Some u → formed types count u ≡ true
  moved_form T.Unit depth u h e = made T.Unit u (W.rolls-Unit ∙ some_same W.Unit u e) refl
  moved_form T.Bool depth u h e = made T.Bool u (W.rolls-Bool ∙ some_same W.Bool u e) refl
  moved_form (T.Truth c) depth u h e = let p = map_parts W.Truth (moved_con depth c) u e in made (T.Truth p.0) u (W.rolls-Truth p.0 ∙ p.2) refl
  moved_form T.Bit depth u h e = made T.Bit u (W.rolls-Bit ∙ some_same W.Bit u e) refl
  moved_form (T.Bits n) depth u h e = let p = map_parts W.Bits (moved_num depth n) u e in made (T.Bits p.0) u (W.rolls-Bits p.0 ∙ p.2) refl
  moved_form (T.Int n) depth u h e = let p = map_parts W.Int (moved_num depth n) u e in made (T.Int p.0) u (W.rolls-Int p.0 ∙ p.2) refl
  moved_form (T.Range low high) depth u h e =
      let p = then_parts (moved_num depth low) (λ m. option_map (W.Range m) (moved_num depth high)) u e in
      let q = map_parts (W.Range p.0) (moved_num depth high) u p.2 in
      made (T.Range p.0 q.0) u (W.rolls-Range p.0 q.0 ∙ q.2) refl
  moved_form T.String depth u h e = made T.String u (W.rolls-String ∙ some_same W.String u e) refl
  moved_form (T.List y) depth u h e =
      let p = map_parts W.List (moved_typ depth y.0) u e in made (T.List p.0) u (W.rolls-List p.0 ∙ p.2) (y.1 depth p.0 h p.1)
  moved_form (T.Vector n y) depth u h e =
      let p = then_parts (moved_num depth n) (λ m. option_map (W.Vector m) (moved_typ depth y.0)) u e in
      let q = map_parts (W.Vector p.0) (moved_typ depth y.0) u p.2 in
      made (T.Vector p.0 q.0) u (W.rolls-Vector p.0 q.0 ∙ q.2) (y.1 depth q.0 h q.1)
  moved_form (T.Tuple ys) depth u h e =
      let parts : Option (List Typ) = together (map (λ t. t depth) (map (fold-Typ AtDepth typ_form_moved) (kept_types ys))) in
      let p = map_parts W.Tuple parts u e in
      made (T.Tuple p.0) u (W.rolls-Tuple p.0 ∙ p.2) (each_kept ys depth p.0 h p.1).0
  moved_form (T.Named i is ys) depth u h e =
      let parts : Option (List Typ) = together (map (λ t. t depth) (map (fold-Typ AtDepth typ_form_moved) (kept_types ys))) in
      let p = then_parts (moved_indices depth is) (λ js. option_map (W.Named i js) parts) u e in
      let q = map_parts (W.Named i p.0) parts u p.2 in
      let all = each_kept ys depth q.0
      (and_parts (nat_eq (length (map (formed types count) (kept_types ys))) (type_count types i)) (all_formed types count (kept_types ys)) h).1 q.1 in
      again_named i p.0 (kept_types ys) q.0 u q.2 h all.0 all.1
  moved_form (T.Variable i) depth u h e = made (T.Variable i) u (W.rolls-Variable i ∙ some_same (W.Variable i) u e) h
  moved_form (T.Exists name c y) depth u h e =
      let p = then_parts (next depth) (λ d. and_then (moved_con d c) (λ k. option_map (W.Exists name k) (moved_typ d y.0))) u e in
      let q = then_parts (moved_con p.0 c) (λ k. option_map (W.Exists name k) (moved_typ p.0 y.0)) u p.2 in
      let r = map_parts (W.Exists name q.0) (moved_typ p.0 y.0) u q.2 in
      exists_formed name q.0 r.0 u r.2 (y.1 p.0 r.0 h r.1)

  moved_rolled : (y : Typ-F SuchK) → Kept (roll-Typ (kept_form y))
  moved_rolled y depth u h e =
      moved_form y depth u (sym (formed_at (kept_form y)) ∙ h)
      (sym (ap (λ f. f depth) (fold-roll-Typ AtDepth typ_form_moved (kept_form y))) ∙ e)

  moved_kept : (t : Typ) → Kept t
  moved_kept = ind-Typ Kept (λ e y is. subst (λ d. Kept (roll-Typ d)) is (moved_rolled y))

  moved_all : (depth : ℕ) (ts us : List Typ) → all_formed types count ts ≡ true → moved_types depth ts ≡ Some us → all_formed types count us ≡ true
  moved_all depth [] us h e = subst (λ (xs : List Typ). all_formed types count xs ≡ true) (nothing_made us e) refl
  moved_all depth (t ∷ ts) us h e =
      let own = and_parts (formed types count t) (all_formed types count ts) h in
      let m = more_parts (moved_typ depth t) (moved_types depth ts) us e in
      subst (λ (xs : List Typ). all_formed types count xs ≡ true) m.4
      (two (formed types count m.0) (all_formed types count m.1) (moved_kept t depth m.0 own.0 m.2) (moved_all depth ts m.1 own.1 m.3))

  -- ---- shapes

  abbrev Both : Shape → Type 0
  Both s = (below count s ≡ true) × (counted types s ≡ true)

  abbrev AllBoth : List Shape → Type 0
  AllBoth ss = (all_below count ss ≡ true) × (all_counted types ss ≡ true)

  abbrev Shaped : Typ → Type 0
  Shaped t = formed types count t ≡ true → Both (shape t)

  abbrev SuchS : Type 0
  SuchS = (t : Typ) × Shaped t

  abbrev shaped_types : List SuchS → List Typ
  shaped_types ys = map (λ (p : SuchS). p.0) ys

  abbrev shaped_form : Typ-F SuchS → Typ-F Typ
  shaped_form y = map-Typ SuchS Typ (λ p. p.0) y

  leaf : (x : Shape-F Shape) (s : Shape) → roll-Shape x ≡ s → below_form count (map-Shape Shape Bool (below count) x) ≡ true
      → counted_form types (map-Shape Shape Bool (counted types) x) ≡ true → Both s
  leaf x s is h k = subst Both is (fold-roll-Shape Bool (below_form count) x ∙ h, fold-roll-Shape Bool (counted_form types) x ∙ k)

  each_shaped : (ys : List SuchS) → all_formed types count (shaped_types ys) ≡ true → AllBoth (map shape (shaped_types ys))
  each_shaped [] h = (refl, refl)
  each_shaped (y ∷ ys) h =
      let own = and_parts (formed types count y.0) (all_formed types count (shaped_types ys)) h in
      let it = y.1 own.0 in
      let rest = each_shaped ys own.1 in (
        two (below count (shape y.0)) (all_below count (map shape (shaped_types ys))) it.0 rest.0,
        two (counted types (shape y.0)) (all_counted types (map shape (shaped_types ys))) it.1 rest.1,
      )

  form_shaped : (y : Typ-F SuchS) → opened (shaped_form y) ≡ true → Both (form_shape (map-Typ Typ Shape shape (shaped_form y)))
  form_shaped T.Unit h = leaf S.Unit V.Unit V.rolls-Unit refl refl
  form_shaped T.Bool h = leaf S.Bool V.Bool V.rolls-Bool refl refl
  form_shaped (T.Truth c) h = leaf S.Bool V.Bool V.rolls-Bool refl refl
  form_shaped T.Bit h = leaf S.Bit V.Bit V.rolls-Bit refl refl
  form_shaped (T.Bits n) h = leaf S.Bits V.Bits V.rolls-Bits refl refl
  form_shaped (T.Int n) h = leaf S.Int V.Int V.rolls-Int refl refl
  form_shaped (T.Range low high) h = leaf S.Int V.Int V.rolls-Int refl refl
  form_shaped T.String h = leaf S.String V.String V.rolls-String refl refl
  form_shaped (T.List y) h =
      let it = y.1 h in leaf (S.List (shape y.0)) (V.List (shape y.0)) (V.rolls-List (shape y.0)) it.0 it.1
  form_shaped (T.Vector n y) h =
      let it = y.1 h in leaf (S.Vector (shape y.0)) (V.Vector (shape y.0)) (V.rolls-Vector (shape y.0)) it.0 it.1
  form_shaped (T.Tuple ys) h =
      let ss : List Shape = map shape (shaped_types ys) in
      let all = each_shaped ys h in
      leaf (S.Tuple ss) (V.Tuple ss) (V.rolls-Tuple ss) all.0 all.1
  form_shaped (T.Named i is ys) h =
      let ts : List Typ = shaped_types ys in
      let ss : List Shape = map shape ts in
      let own = and_parts (nat_eq (length (map (formed types count) ts)) (type_count types i)) (all_formed types count ts) h in
      let all = each_shaped ys own.1 in
      leaf (S.Named i ss) (V.Named i ss) (V.rolls-Named i ss) all.0
      (two (nat_eq (length (map (counted types) ss)) (type_count types i)) (all_counted types ss)
      (ap (λ m. nat_eq m (type_count types i))
      (same_length (counted types) ss ∙ same_length shape ts ∙ sym (same_length (formed types count) ts)) ∙ own.0) all.1)
  form_shaped (T.Variable i) h = leaf (S.Variable i) (V.Variable i) (V.rolls-Variable i) h refl
  form_shaped (T.Exists name c y) h = y.1 h

  shaped_rolled : (y : Typ-F SuchS) → Shaped (roll-Typ (shaped_form y))
  shaped_rolled y h = subst Both (sym (fold-roll-Typ Shape form_shape (shaped_form y))) (form_shaped y (sym (formed_at (shaped_form y)) ∙ h))

  -- the shape of a type leaves nothing open, and each named type in it has its arguments
  pub typ_shaped : (t : Typ) → formed types count t ≡ true → (below count (shape t) ≡ true) × (counted types (shape t) ≡ true)
  typ_shaped = ind-Typ Shaped (λ e y is. subst (λ d. Shaped (roll-Typ d)) is (shaped_rolled y))

  pub types_shaped : (ts : List Typ) → all_formed types count ts ≡ true
      → (all_below count (map shape ts) ≡ true) × (all_counted types (map shape ts) ≡ true)
  types_shaped [] h = (refl, refl)
  types_shaped (t ∷ ts) h =
      let own = and_parts (formed types count t) (all_formed types count ts) h in
      let it = typ_shaped t own.0 in
      let rest = types_shaped ts own.1 in (
        two (below count (shape t)) (all_below count (map shape ts)) it.0 rest.0,
        two (counted types (shape t)) (all_counted types (map shape ts)) it.1 rest.1,
      )

-- ---- under arguments in the place of so many variables

module _ (types : Types) (inner count : ℕ) where
  place_formed : (ts : List Typ) (i : ℕ) → all_formed types count ts ≡ true → formed types count (typ_at ts i) ≡ true
  place_formed [] i h = unit_formed types count
  place_formed (t ∷ ts) zero h = (and_parts (formed types count t) (all_formed types count ts) h).0
  place_formed (t ∷ ts) (suc i) h = place_formed ts i (and_parts (formed types count t) (all_formed types count ts) h).1

  abbrev Put : Typ → Type 0
  Put t =
      (is : List Index) (ts : List Typ) (u : Typ) → formed types inner t ≡ true → all_formed types count ts ≡ true → applied_typ is ts t ≡ Some u
      → formed types count u ≡ true

  abbrev SuchP : Type 0
  SuchP = (t : Typ) × Put t

  abbrev put_types : List SuchP → List Typ
  put_types ys = map (λ (p : SuchP). p.0) ys

  abbrev put_form : Typ-F SuchP → Typ-F Typ
  put_form y = map-Typ SuchP Typ (λ p. p.0) y

  abbrev parts_at : List SuchP → List Index → List Typ → Option (List Typ)
  parts_at ys is ts = together (map (λ part. part is ts) (map (fold-Typ AtArguments form_applied) (put_types ys)))

  each_put : (ys : List SuchP) (is : List Index) (ts us : List Typ) → all_formed types inner (put_types ys) ≡ true → all_formed types count ts ≡ true
      → parts_at ys is ts ≡ Some us → (all_formed types count us ≡ true) × (length us ≡ length (put_types ys))
  each_put [] is ts us h all e =
      subst (λ (xs : List Typ). (all_formed types count xs ≡ true) × (length xs ≡ zero)) (nothing_made us e) (refl, refl)
  each_put (y ∷ ys) is ts us h all e =
      let own = and_parts (formed types inner y.0) (all_formed types inner (put_types ys)) h in
      let m = more_parts (applied_typ is ts y.0) (parts_at ys is ts) us e in
      let rest = each_put ys is ts m.1 own.1 all m.3 in
      subst (λ (xs : List Typ). (all_formed types count xs ≡ true) × (length xs ≡ suc (length (put_types ys)))) m.4
      (two (formed types count m.0) (all_formed types count m.1) (y.1 is ts m.0 own.0 all m.2) rest.0, ap suc rest.1)

  abbrev opened_in : Typ-F Typ → Bool
  opened_in x = formed_form types inner (map-Typ Typ Bool (formed types inner) x)

  named_again : (i : ℕ) (is js : List Index) (before after : List Typ) (u : Typ) → W.Named i js after ≡ u → opened_in (T.Named i is before) ≡ true
      → all_formed types count after ≡ true → length after ≡ length before → formed types count u ≡ true
  named_again i is js before after u same h all many =
      let own = and_parts (nat_eq (length (map (formed types inner) before)) (type_count types i)) (all_formed types inner before) h in
      made types count (T.Named i js after) u (W.rolls-Named i js after ∙ same)
      (two (nat_eq (length (map (formed types count) after)) (type_count types i)) (all_formed types count after)
      (ap (λ m. nat_eq m (type_count types i)) (same_length (formed types count) after ∙ many ∙ sym (same_length (formed types inner) before))
      ∙ own.0) all)

  put_opened : (y : Typ-F SuchP) (is : List Index) (ts : List Typ) (u : Typ) → opened_in (put_form y) ≡ true → all_formed types count ts ≡ true
      → form_applied (map-Typ Typ AtArguments (fold-Typ AtArguments form_applied) (put_form y)) is ts ≡ Some u → formed types count u ≡ true
  put_opened T.Unit is ts u h all e = made types count T.Unit u (W.rolls-Unit ∙ some_same W.Unit u e) refl
  put_opened T.Bool is ts u h all e = made types count T.Bool u (W.rolls-Bool ∙ some_same W.Bool u e) refl
  put_opened (T.Truth c) is ts u h all e =
      let p = map_parts W.Truth (read_con is c) u e in made types count (T.Truth p.0) u (W.rolls-Truth p.0 ∙ p.2) refl
  put_opened T.Bit is ts u h all e = made types count T.Bit u (W.rolls-Bit ∙ some_same W.Bit u e) refl
  put_opened (T.Bits n) is ts u h all e = let p = map_parts W.Bits (read is n) u e in made types count (T.Bits p.0) u (W.rolls-Bits p.0 ∙ p.2) refl
  put_opened (T.Int n) is ts u h all e = let p = map_parts W.Int (read is n) u e in made types count (T.Int p.0) u (W.rolls-Int p.0 ∙ p.2) refl
  put_opened (T.Range low high) is ts u h all e =
      let p = then_parts (read is low) (λ m. option_map (W.Range m) (read is high)) u e in
      let q = map_parts (W.Range p.0) (read is high) u p.2 in
      made types count (T.Range p.0 q.0) u (W.rolls-Range p.0 q.0 ∙ q.2) refl
  put_opened T.String is ts u h all e = made types count T.String u (W.rolls-String ∙ some_same W.String u e) refl
  put_opened (T.List y) is ts u h all e =
      let p = map_parts W.List (applied_typ is ts y.0) u e in
      made types count (T.List p.0) u (W.rolls-List p.0 ∙ p.2) (y.1 is ts p.0 h all p.1)
  put_opened (T.Vector n y) is ts u h all e =
      let p = then_parts (read is n) (λ m. option_map (W.Vector m) (applied_typ is ts y.0)) u e in
      let q = map_parts (W.Vector p.0) (applied_typ is ts y.0) u p.2 in
      made types count (T.Vector p.0 q.0) u (W.rolls-Vector p.0 q.0 ∙ q.2) (y.1 is ts q.0 h all q.1)
  put_opened (T.Tuple ys) is ts u h all e =
      let p = map_parts W.Tuple (parts_at ys is ts) u e in
      made types count (T.Tuple p.0) u (W.rolls-Tuple p.0 ∙ p.2) (each_put ys is ts p.0 h all p.1).0
  put_opened (T.Named i indices ys) is ts u h all e =
      let p = then_parts (read_indices is indices) (λ js. option_map (W.Named i js) (parts_at ys is ts)) u e in
      let q = map_parts (W.Named i p.0) (parts_at ys is ts) u p.2 in
      let own = and_parts (nat_eq (length (map (formed types inner) (put_types ys))) (type_count types i)) (all_formed types inner (put_types ys)) h in
      let each = each_put ys is ts q.0 own.1 all q.1 in
      named_again i indices p.0 (put_types ys) q.0 u q.2 h each.0 each.1
  put_opened (T.Variable i) is ts u h all e =
      subst (λ t. formed types count t ≡ true) (some_same (typ_at ts i) u e) (place_formed ts i all)
  put_opened (T.Exists name c y) is ts u h all e =
      let inside : List Index → List Typ → Option Typ = λ js us. and_then (read_con js c) (λ d. option_map (W.Exists name d) (applied_typ js us y.0)) in
      let p = then_parts (inside_indices is) (λ js. and_then (inside_types ts) (inside js)) u e in
      let q = then_parts (inside_types ts) (inside p.0) u p.2 in
      let r = then_parts (read_con p.0 c) (λ d. option_map (W.Exists name d) (applied_typ p.0 q.0 y.0)) u q.2 in
      let s = map_parts (W.Exists name r.0) (applied_typ p.0 q.0 y.0) u r.2 in
      exists_formed types count name r.0 s.0 u s.2 (y.1 p.0 q.0 s.0 h (moved_all types count 0 ts q.0 all q.1) s.1)

  put_rolled : (y : Typ-F SuchP) → Put (roll-Typ (put_form y))
  put_rolled y is ts u h all e =
      put_opened y is ts u (sym (fold-roll-Typ Bool (formed_form types inner) (put_form y)) ∙ h) all
      (sym (ap (λ f. f is ts) (fold-roll-Typ AtArguments form_applied (put_form y))) ∙ e)

  typ_put : (t : Typ) → Put t
  typ_put = ind-Typ Put (λ e y is. subst (λ d. Put (roll-Typ d)) is (put_rolled y))

  -- what a named type stands for at arguments
  pub normal_put : (n m : Normal) (is : List Index) (ts : List Typ) → FormedNormal types inner n → all_formed types count ts ≡ true
      → applied is ts n ≡ Some m → FormedNormal types count m
  normal_put (N.Number n) m is ts h all e = let p = map_parts N.Number (read is n) m e in subst (FormedNormal types count) p.2 tt
  normal_put (N.Constraint c) m is ts h all e = let p = map_parts N.Constraint (read_con is c) m e in subst (FormedNormal types count) p.2 tt
  normal_put (N.Typ t) m is ts h all e =
      let p = map_parts N.Typ (applied_typ is ts t) m e in subst (FormedNormal types count) p.2 (typ_put t is ts p.0 h all p.1)
