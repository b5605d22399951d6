-- A type that is well formed under so many Type variables names no others.
use Rattle.std.proofs.Common.{◌≡◌, ℕ, List, [], ◌∷◌, map, length, sym, ◌∙◌, refl, subst, Bool, true, nat_eq}
use Rattle.std.specs.List.{list_all}
use Rattle.std.proofs.lemmas.Bool.{and_parts}
use Rattle.sail_types.specs.declared.table.Types.{Types}
use Rattle.sail_types.specs.declared.types.Typ.{Typ, Typ-F, roll-Typ}
use Rattle.sail_types.specs.declared.types.Typ.TheFolds.{fold-roll-Typ, ind-Typ, map-Typ}
use Rattle.sail_types.specs.declared.types.Typ.TheOpen as T
use Rattle.shape_joins.proofs.Order.{two}
use Rattle.shape_meanings.specs.Counted.{type_count}
use Rattle.known_texts.proofs.WellFormed.{all_formed, formed, formed_at, opened}
use Rattle.soundness_values.specs.Narrow.{form_narrow, is_narrow}

module _ (types : Types) (count : ℕ) where
  abbrev NarrowSo : Typ → Type 0
  NarrowSo t = formed types count t ≡ true → is_narrow count t ≡ true

  abbrev Such : Type 0
  Such = (t : Typ) × NarrowSo t

  abbrev bare : List Such → List Typ
  bare ys = map (λ (p : Such). p.0) ys

  abbrev bare_form : Typ-F Such → Typ-F Typ
  bare_form y = map-Typ Such Typ (λ p. p.0) y

  all_narrow : (ys : List Such) → all_formed types count (bare ys) ≡ true → list_all (λ b. b) (map (is_narrow count) (bare ys)) ≡ true
  all_narrow [] h = refl
  all_narrow (y ∷ ys) h =
      let own = and_parts (formed types count y.0) (all_formed types count (bare ys)) h in
      two (is_narrow count y.0) (list_all (λ b. b) (map (is_narrow count) (bare ys))) (y.1 own.0) (all_narrow ys own.1)

  form_so : (y : Typ-F Such) → opened types count (bare_form y) ≡ true → form_narrow count (map-Typ Typ Bool (is_narrow count) (bare_form y)) ≡ true
  form_so (T.Variable i) h = h
  form_so (T.List y) h = y.1 h
  form_so (T.Vector n y) h = y.1 h
  form_so (T.Tuple ys) h = all_narrow ys h
  form_so (T.Named i is ys) h =
      all_narrow ys (and_parts (nat_eq (length (map (formed types count) (bare ys))) (type_count types i)) (all_formed types count (bare ys)) h).1
  form_so (T.Exists name c y) h = y.1 h
  form_so y h = refl

  rolled : (y : Typ-F Such) → NarrowSo (roll-Typ (bare_form y))
  rolled y h = fold-roll-Typ Bool (form_narrow count) (bare_form y) ∙ form_so y (sym (formed_at types count (bare_form y)) ∙ h)

  pub narrow_so : (t : Typ) → NarrowSo t
  narrow_so = ind-Typ NarrowSo (λ e y is. subst (λ d. NarrowSo (roll-Typ d)) is (rolled y))
