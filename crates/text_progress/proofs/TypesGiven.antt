-- Types stay given under given arguments in the place of their variables, whatever these are: one past the arguments is 0 or `unit`.
use Rattle.std.proofs.Common.{◌≡◌, ℕ, zero, suc, List, [], ◌∷◌, map, ap, sym, ◌∙◌, refl, subst, Bool, true}
use Rattle.std.specs.Prelude.{Option, Some, option_map}
use Rattle.std.proofs.lemmas.Bool.{and_parts}
use Rattle.sail_types.specs.Readings.{read_con, read_index, read_indices, together}
use Rattle.sail_types.specs.Sums.{and_then, read}
use Rattle.sail_types.specs.declared.numbers.Index.{Index}
use Rattle.sail_types.specs.declared.numbers.Index.TheVariants as I
use Rattle.sail_types.specs.declared.types.Typ.{Typ, Typ-F, fold-Typ, roll-Typ}
use Rattle.sail_types.specs.declared.types.Typ.TheFolds.{fold-roll-Typ, map-Typ, ind-Typ}
use Rattle.sail_types.specs.declared.types.Typ.TheOpen as T
use Rattle.sail_types.specs.declared.types.Typ.TheVariants as W
use Rattle.type_arguments.specs.Applied.{AtArguments, applied_typ, form_applied, inside_indices, inside_types, typ_at}
use Rattle.type_arguments.proofs.Makings.{map_parts, more_parts, nothing_made, then_parts}
use Rattle.sail_core.specs.Numbers.{Givens}
use Rattle.shape_joins.proofs.JoinsLeast.{some_same}
use Rattle.shape_joins.proofs.Order.{two}
use Rattle.text_progress.specs.GivenTypes.{all_typs_given, form_given, index_given, indices_given, typ_given}
use Rattle.text_progress.proofs.GivenNumbers.{read_given}

module _ (nu : Givens) where
  abbrev pub opened : Typ-F Typ → Bool
  opened x = form_given nu (map-Typ Typ Bool (typ_given nu) x)

  pub given_at : (x : Typ-F Typ) → typ_given nu (roll-Typ x) ≡ opened x
  given_at x = fold-roll-Typ Bool (form_given nu) x

  -- a type of this form
  pub made : (x : Typ-F Typ) (t : Typ) → roll-Typ x ≡ t → opened x ≡ true → typ_given nu t ≡ true
  made x t is h = subst (λ u. typ_given nu u ≡ true) is (given_at x ∙ h)

  -- and what its parts are
  pub of_form : (x : Typ-F Typ) (t : Typ) → roll-Typ x ≡ t → typ_given nu t ≡ true → opened x ≡ true
  of_form x t is h = sym (given_at x) ∙ ap (typ_given nu) is ∙ h

  -- ---- arguments

  read_kept : (is : List Index) (i j : Index) → indices_given nu is ≡ true → read_index is i ≡ Some j → index_given nu j ≡ true
  read_kept is (I.Number n) j h e =
      let k = map_parts I.Number (read is n) j e in subst (λ x. index_given nu x ≡ true) k.2 (read_given nu is n k.0 h k.1)
  read_kept is (I.Truth c) j h e = let k = map_parts I.Truth (read_con is c) j e in subst (λ x. index_given nu x ≡ true) k.2 refl

  pub read_all : (is xs js : List Index) → indices_given nu is ≡ true → read_indices is xs ≡ Some js → indices_given nu js ≡ true
  read_all is [] js h e = subst (λ ys. indices_given nu ys ≡ true) (nothing_made js e) refl
  read_all is (x ∷ xs) js h e =
      let m = more_parts (read_index is x) (read_indices is xs) js e in
      subst (λ ys. indices_given nu ys ≡ true) m.4
      (two (index_given nu m.0) (indices_given nu m.1) (read_kept is x m.0 h m.2) (read_all is xs m.1 h m.3))

  -- ---- types

  unit_given : typ_given nu W.Unit ≡ true
  unit_given = made T.Unit W.Unit W.rolls-Unit refl

  place_given : (ts : List Typ) (i : ℕ) → all_typs_given nu ts ≡ true → typ_given nu (typ_at ts i) ≡ true
  place_given [] i h = unit_given
  place_given (t ∷ ts) zero h = (and_parts (typ_given nu t) (all_typs_given nu ts) h).0
  place_given (t ∷ ts) (suc i) h = place_given ts i (and_parts (typ_given nu t) (all_typs_given nu ts) h).1

  abbrev Put : Typ → Type 0
  Put t =
      (is : List Index) (ts : List Typ) (u : Typ) → indices_given nu is ≡ true → all_typs_given nu ts ≡ true → applied_typ is ts t ≡ Some u
      → typ_given nu u ≡ true

  abbrev SuchP : Type 0
  SuchP = (t : Typ) × Put t

  abbrev put_types : List SuchP → List Typ
  put_types ys = map (λ (p : SuchP). p.0) ys

  abbrev put_form : Typ-F SuchP → Typ-F Typ
  put_form y = map-Typ SuchP Typ (λ p. p.0) y

  abbrev parts_at : List SuchP → List Index → List Typ → Option (List Typ)
  parts_at ys is ts = together (map (λ part. part is ts) (map (fold-Typ AtArguments form_applied) (put_types ys)))

  each_put : (ys : List SuchP) (is : List Index) (ts us : List Typ) → indices_given nu is ≡ true → all_typs_given nu ts ≡ true
      → parts_at ys is ts ≡ Some us → all_typs_given nu us ≡ true
  each_put [] is ts us h all e = subst (λ xs. all_typs_given nu xs ≡ true) (nothing_made us e) refl
  each_put (y ∷ ys) is ts us h all e =
      let m = more_parts (applied_typ is ts y.0) (parts_at ys is ts) us e in
      subst (λ xs. all_typs_given nu xs ≡ true) m.4
      (two (typ_given nu m.0) (all_typs_given nu m.1) (y.1 is ts m.0 h all m.2) (each_put ys is ts m.1 h all m.3))

  put_opened : (y : Typ-F SuchP) (is : List Index) (ts : List Typ) (u : Typ) → indices_given nu is ≡ true → all_typs_given nu ts ≡ true
      → form_applied (map-Typ Typ AtArguments (fold-Typ AtArguments form_applied) (put_form y)) is ts ≡ Some u → typ_given nu u ≡ true
  put_opened T.Unit is ts u h all e = made T.Unit u (W.rolls-Unit ∙ some_same W.Unit u e) refl
  put_opened T.Bool is ts u h all e = made T.Bool u (W.rolls-Bool ∙ some_same W.Bool u e) refl
  put_opened (T.Truth c) is ts u h all e = let p = map_parts W.Truth (read_con is c) u e in made (T.Truth p.0) u (W.rolls-Truth p.0 ∙ p.2) refl
  put_opened T.Bit is ts u h all e = made T.Bit u (W.rolls-Bit ∙ some_same W.Bit u e) refl
  put_opened (T.Bits n) is ts u h all e =
      let p = map_parts W.Bits (read is n) u e in made (T.Bits p.0) u (W.rolls-Bits p.0 ∙ p.2) (read_given nu is n p.0 h p.1)
  put_opened (T.Int n) is ts u h all e = let p = map_parts W.Int (read is n) u e in made (T.Int p.0) u (W.rolls-Int p.0 ∙ p.2) refl
  put_opened (T.Range low high) is ts u h all e =
      let p = then_parts (read is low) (λ m. option_map (W.Range m) (read is high)) u e in
      let q = map_parts (W.Range p.0) (read is high) u p.2 in
      made (T.Range p.0 q.0) u (W.rolls-Range p.0 q.0 ∙ q.2) refl
  put_opened T.String is ts u h all e = made T.String u (W.rolls-String ∙ some_same W.String u e) refl
  put_opened (T.List y) is ts u h all e =
      let p = map_parts W.List (applied_typ is ts y.0) u e in made (T.List p.0) u (W.rolls-List p.0 ∙ p.2) (y.1 is ts p.0 h all p.1)
  put_opened (T.Vector n y) is ts u h all e =
      let p = then_parts (read is n) (λ m. option_map (W.Vector m) (applied_typ is ts y.0)) u e in
      let q = map_parts (W.Vector p.0) (applied_typ is ts y.0) u p.2 in
      made (T.Vector p.0 q.0) u (W.rolls-Vector p.0 q.0 ∙ q.2) (y.1 is ts q.0 h all q.1)
  put_opened (T.Tuple ys) is ts u h all e =
      let p = map_parts W.Tuple (parts_at ys is ts) u e in
      made (T.Tuple p.0) u (W.rolls-Tuple p.0 ∙ p.2) (each_put ys is ts p.0 h all p.1)
  put_opened (T.Named i indices ys) is ts u h all e =
      let p = then_parts (read_indices is indices) (λ js. option_map (W.Named i js) (parts_at ys is ts)) u e in
      let q = map_parts (W.Named i p.0) (parts_at ys is ts) u p.2 in
      made (T.Named i p.0 q.0) u (W.rolls-Named i p.0 q.0 ∙ q.2)
      (two (indices_given nu p.0) (all_typs_given nu q.0) (read_all is indices p.0 h p.1) (each_put ys is ts q.0 h all q.1))
  put_opened (T.Variable i) is ts u h all e =
      subst (λ t. typ_given nu t ≡ true) (some_same (typ_at ts i) u e) (place_given ts i all)
  put_opened (T.Exists name c y) is ts u h all e =
      let p = then_parts (inside_indices is) (λ js. and_then (inside_types ts) (λ us. and_then (read_con js c)
      (λ d. option_map (W.Exists name d) (applied_typ js us y.0)))) u e in
      let q = then_parts (inside_types ts) (λ us. and_then (read_con p.0 c) (λ d. option_map (W.Exists name d) (applied_typ p.0 us y.0))) u p.2 in
      let r = then_parts (read_con p.0 c) (λ d. option_map (W.Exists name d) (applied_typ p.0 q.0 y.0)) u q.2 in
      let s = map_parts (W.Exists name r.0) (applied_typ p.0 q.0 y.0) u r.2 in
      made (T.Exists name r.0 s.0) u (W.rolls-Exists name r.0 s.0 ∙ s.2) refl

  put_rolled : (y : Typ-F SuchP) → Put (roll-Typ (put_form y))
  put_rolled y is ts u h all e =
      put_opened y is ts u h all (sym (ap (λ f. f is ts) (fold-roll-Typ AtArguments form_applied (put_form y))) ∙ e)

  pub applied_given : (t : Typ) → Put t
  applied_given = ind-Typ Put (λ e y is. subst (λ d. Put (roll-Typ d)) is (put_rolled y))
