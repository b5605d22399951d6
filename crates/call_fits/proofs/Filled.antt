-- A type with that of what never ends in the place of each hole: to it belong the same values, and it has no hole.
use Rattle.std.proofs.Common.{◌≡◌, Bool, false, List, [], ◌∷◌, map, refl, sym, ap, ◌∙◌, subst}
use Rattle.std.specs.List.{list_any}
use Rattle.std.proofs.lemmas.Bool.{or_from}
use Rattle.sail_types.specs.Belongs.{Reading as Closed}
use Rattle.sail_types.specs.Numbers.{Assignment}
use Rattle.sail_types.specs.declared.table.Types.{Types}
use Rattle.value_indices.specs.declared.indices.Indices.{Indices, roll-Indices}
use Rattle.value_indices.specs.declared.indices.Indices.TheFolds.{fold-roll-Indices, fold-roll-Reading, ind-Reading, map-Indices, map-Reading}
use Rattle.value_indices.specs.declared.indices.Indices.TheOpen as W
use Rattle.value_indices.specs.declared.indices.Indices.TheOpen.{Indices-F, Reading-F}
use Rattle.value_indices.specs.declared.indices.Indices.TheVariants as I
use Rattle.value_indices.specs.declared.indices.Reading.{Reading, roll-Reading}
use Rattle.value_indices.specs.declared.indices.Reading.TheVariants as R
use Rattle.call_arguments.specs.Holes.{has_hole, type_filled, type_holed, types_without_holes, value_filled, value_has_hole, value_holed, value_without_holes}
use Rattle.call_arguments.specs.Holes.{without_holes}
use Rattle.value_laws.specs.Belonging.{Meant, closed, closed_form, meant, meant_form}
use Rattle.value_laws.proofs.Values.{closed_is, closing, meanings, meant_is}
use Rattle.fitting_laws.proofs.Holes.{Full, hole_is, value_hole_is}

module _ (types : Types) (mu : Assignment) (own : List Closed) where
  SameValue : Indices → Type 0
  SameValue i = (meant types mu own (value_without_holes i) ≡ meant types mu own i) × (value_has_hole (value_without_holes i) ≡ false)

  SameType : Reading → Type 0
  SameType r = (closed types mu own (without_holes r) ≡ closed types mu own r) × (has_hole (without_holes r) ≡ false)

  abbrev SuchValue : Type 0
  SuchValue = (i : Indices) × SameValue i

  abbrev SuchType : Type 0
  SuchType = (r : Reading) × SameType r

  abbrev values_in : List SuchValue → List Indices
  values_in ys = map (λ (y : SuchValue). y.0) ys

  abbrev types_in : List SuchType → List Reading
  types_in ys = map (λ (y : SuchType). y.0) ys

  abbrev indices_of : Indices-F SuchValue SuchType → Indices-F Indices Reading
  indices_of y = map-Indices SuchValue SuchType Indices Reading (λ p. p.0) (λ p. p.0) y

  abbrev reading_of : Reading-F SuchValue SuchType → Reading-F Indices Reading
  reading_of y = map-Reading SuchValue SuchType Indices Reading (λ p. p.0) (λ p. p.0) y

  abbrev fill_value : Indices-F Indices Reading → Indices-F Indices Reading
  fill_value x = map-Indices Indices Reading Indices Reading value_without_holes without_holes x

  abbrev fill_type : Reading-F Indices Reading → Reading-F Indices Reading
  fill_type x = map-Reading Indices Reading Indices Reading value_without_holes without_holes x

  -- ---- lists

  values_same : (ys : List SuchValue)
      → map (meant types mu own) (map value_without_holes (values_in ys)) ≡ map (meant types mu own) (values_in ys)
  unfolding SameValue
  values_same [] = refl
  values_same (y ∷ ys) = λ j. y.1.0 j ∷ values_same ys j

  values_whole : (ys : List SuchValue) → list_any (λ b. b) (map value_has_hole (map value_without_holes (values_in ys))) ≡ false
  unfolding SameValue
  values_whole [] = refl
  values_whole (y ∷ ys) =
      or_from (value_has_hole (value_without_holes y.0)) (list_any (λ b. b) (map value_has_hole (map value_without_holes (values_in ys)))) y.1.1
      (values_whole ys)

  types_same : (ys : List SuchType) → map (closed types mu own) (map without_holes (types_in ys)) ≡ map (closed types mu own) (types_in ys)
  unfolding SameType
  types_same [] = refl
  types_same (y ∷ ys) = λ j. y.1.0 j ∷ types_same ys j

  types_whole : (ys : List SuchType) → Full (map without_holes (types_in ys))
  unfolding SameType
  types_whole [] = refl
  types_whole (y ∷ ys) =
      or_from (has_hole (without_holes y.0)) (list_any (λ b. b) (map has_hole (map without_holes (types_in ys)))) y.1.1 (types_whole ys)

  -- ---- values

  value_form_same : (y : Indices-F SuchValue SuchType) → meanings types mu own (fill_value (indices_of y)) ≡ meanings types mu own (indices_of y)
  unfolding SameType
  value_form_same (W.List r) = ap W.List r.1.0
  value_form_same (W.Vector t r) = ap (W.Vector t) r.1.0
  value_form_same (W.Tuple ys) = ap W.Tuple (values_same ys)
  value_form_same (W.Named u is ys) = ap (W.Named u is) (types_same ys)
  value_form_same y = refl

  value_form_whole : (y : Indices-F SuchValue SuchType)
      → value_holed (map-Indices Indices Reading Bool Bool value_has_hole has_hole (fill_value (indices_of y))) ≡ false
  unfolding SameType
  value_form_whole (W.List r) = r.1.1
  value_form_whole (W.Vector t r) = r.1.1
  value_form_whole (W.Tuple ys) = values_whole ys
  value_form_whole (W.Named u is ys) = types_whole ys
  value_form_whole y = refl

  value_step : (y : Indices-F SuchValue SuchType) → SameValue (roll-Indices (indices_of y))
  unfolding SameValue
  value_step y =
      let i = roll-Indices (indices_of y) in
      let made : value_without_holes i ≡ roll-Indices (fill_value (indices_of y)) =
      fold-roll-Indices Indices Reading value_filled type_filled (indices_of y) in (
        ap (meant types mu own) made
            ∙ meant_is types mu own (roll-Indices (fill_value (indices_of y))) (fill_value (indices_of y)) refl
            ∙ ap (meant_form types mu own) (value_form_same y)
            ∙ sym (meant_is types mu own i (indices_of y) refl),
        ap value_has_hole made
            ∙ value_hole_is (roll-Indices (fill_value (indices_of y))) (fill_value (indices_of y)) refl ∙ value_form_whole y,
      )

  -- ---- types

  filled_is : (x : Reading-F Indices Reading) → without_holes (roll-Reading x) ≡ type_filled (fill_type x)
  filled_is x = fold-roll-Reading Indices Reading value_filled type_filled x

  rolled_same : (y : Reading-F SuchValue SuchType) → closing types mu own (fill_type (reading_of y)) ≡ closing types mu own (reading_of y)
      → closed types mu own (roll-Reading (fill_type (reading_of y))) ≡ closed types mu own (roll-Reading (reading_of y))
  rolled_same y e =
      closed_is types mu own (roll-Reading (fill_type (reading_of y))) (fill_type (reading_of y)) refl
      ∙ ap (closed_form types mu own) e
      ∙ sym (closed_is types mu own (roll-Reading (reading_of y)) (reading_of y) refl)

  rolled_whole : (y : Reading-F SuchValue SuchType)
      → type_holed (map-Reading Indices Reading Bool Bool value_has_hole has_hole (fill_type (reading_of y))) ≡ false
      → has_hole (roll-Reading (fill_type (reading_of y))) ≡ false
  rolled_whole y h = hole_is (roll-Reading (fill_type (reading_of y))) (fill_type (reading_of y)) refl ∙ h

  type_step : (y : Reading-F SuchValue SuchType) → SameType (roll-Reading (reading_of y))
  unfolding SameType SameValue
  type_step (W.Of t is ys) = (
    ap (closed types mu own) (filled_is (W.Of t is (types_in ys))) ∙ rolled_same (W.Of t is ys) (ap (W.Of t is) (types_same ys)),
    ap has_hole (filled_is (W.Of t is (types_in ys))) ∙ rolled_whole (W.Of t is ys) (types_whole ys),
  )
  type_step (W.Widened y) = (
    ap (closed types mu own) (filled_is (W.Widened y.0)) ∙ rolled_same (W.Widened y) (ap W.Widened y.1.0),
    ap has_hole (filled_is (W.Widened y.0)) ∙ rolled_whole (W.Widened y) y.1.1,
  )
  type_step (W.Parts ys) = (
    ap (closed types mu own) (filled_is (W.Parts (types_in ys))) ∙ rolled_same (W.Parts ys) (ap W.Parts (types_same ys)),
    ap has_hole (filled_is (W.Parts (types_in ys))) ∙ rolled_whole (W.Parts ys) (types_whole ys),
  )
  type_step W.Hole = (
    ap (closed types mu own) (filled_is W.Hole)
        ∙ closed_is types mu own (R.Widened I.Never) (W.Widened I.Never) (R.rolls-Widened I.Never)
        ∙ ap (λ (m : Meant). m.wide) (meant_is types mu own I.Never W.Never I.rolls-Never)
        ∙ sym (closed_is types mu own (roll-Reading W.Hole) W.Hole refl),
    ap has_hole (filled_is W.Hole)
        ∙ hole_is (R.Widened I.Never) (W.Widened I.Never) (R.rolls-Widened I.Never)
        ∙ value_hole_is I.Never W.Never I.rolls-Never,
  )

  type_same : (r : Reading) → SameType r
  type_same = ind-Reading SameValue SameType (λ e y same_form. subst (λ d. SameValue (roll-Indices d)) same_form (value_step y))
      (λ e y same_form. subst (λ d. SameType (roll-Reading d)) same_form (type_step y))

  pub filled_same : (rs : List Reading) → map (closed types mu own) (types_without_holes rs) ≡ map (closed types mu own) rs
  unfolding SameType
  filled_same [] = refl
  filled_same (r ∷ rs) = λ j. (type_same r).0 j ∷ filled_same rs j

  pub filled_full : (rs : List Reading) → Full (types_without_holes rs)
  unfolding SameType
  filled_full [] = refl
  filled_full (r ∷ rs) =
      or_from (has_hole (without_holes r)) (list_any (λ b. b) (map has_hole (types_without_holes rs))) (type_same r).1 (filled_full rs)
