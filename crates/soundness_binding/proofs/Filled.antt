-- Types in which no hole is left mean what they did: nothing belongs to a hole, nor to what never ends.
use Rattle.std.proofs.Common.{◌≡◌, List, [], ◌∷◌, map, refl, sym, ap, ◌∙◌, subst}
use Rattle.sail_types.specs.Belongs.{Reading as Closed}
use Rattle.sail_types.specs.Numbers.{Assignment}
use Rattle.sail_types.specs.declared.table.Types.{Types}
use Rattle.value_indices.specs.declared.indices.Indices.{Indices, roll-Indices}
use Rattle.value_indices.specs.declared.indices.Indices.TheFolds.{fold-roll-Indices, fold-roll-Reading, map-Indices, map-Reading, ind-Reading}
use Rattle.value_indices.specs.declared.indices.Indices.TheOpen as W
use Rattle.value_indices.specs.declared.indices.Indices.TheOpen.{Indices-F, Reading-F}
use Rattle.value_indices.specs.declared.indices.Indices.TheVariants as I
use Rattle.value_indices.specs.declared.indices.Reading.{Reading, roll-Reading}
use Rattle.value_indices.specs.declared.indices.Reading.TheVariants as R
use Rattle.call_arguments.specs.Holes.{type_filled, value_filled, value_without_holes, without_holes}
use Rattle.value_laws.specs.Belonging.{meant_form, closed_form, meant, closed}
use Rattle.value_laws.proofs.Values.{meanings, meant_is, closed_is}

module _ (types : Types) (mu : Assignment) (own : List Closed) where
  SameValue : Indices → Type 0
  SameValue i = meant types mu own (value_without_holes i) ≡ meant types mu own i

  SameType : Reading → Type 0
  SameType r = closed types mu own (without_holes r) ≡ closed types mu own r

  abbrev SuchI : Type 0
  SuchI = (i : Indices) × SameValue i

  abbrev SuchR : Type 0
  SuchR = (r : Reading) × SameType r

  abbrev values_in : List SuchI → List Indices
  values_in ys = map (λ (y : SuchI). y.0) ys

  abbrev readings_in : List SuchR → List Reading
  readings_in ys = map (λ (y : SuchR). y.0) ys

  abbrev indices_of : Indices-F SuchI SuchR → Indices-F Indices Reading
  indices_of y = map-Indices SuchI SuchR Indices Reading (λ p. p.0) (λ p. p.0) y

  abbrev reading_of : Reading-F SuchI SuchR → Reading-F Indices Reading
  reading_of y = map-Reading SuchI SuchR Indices Reading (λ p. p.0) (λ p. p.0) y

  abbrev changed_form : Indices-F Indices Reading → Indices-F Indices Reading
  changed_form x = map-Indices Indices Reading Indices Reading value_without_holes without_holes x

  abbrev changed_type : Reading-F Indices Reading → Reading-F Indices Reading
  changed_type x = map-Reading Indices Reading Indices Reading value_without_holes without_holes x

  value_is : (x : Indices-F Indices Reading) → value_without_holes (roll-Indices x) ≡ roll-Indices (changed_form x)
  value_is x = fold-roll-Indices Indices Reading value_filled type_filled x

  type_is : (x : Reading-F Indices Reading) → without_holes (roll-Reading x) ≡ type_filled (changed_type x)
  type_is x = fold-roll-Reading Indices Reading value_filled type_filled x

  readings_same : (ys : List SuchR) → map (closed types mu own) (map without_holes (readings_in ys)) ≡ map (closed types mu own) (readings_in ys)
  unfolding SameType
  readings_same [] = refl
  readings_same (y ∷ ys) = λ j. y.1 j ∷ readings_same ys j

  values_same : (ys : List SuchI) → map (meant types mu own) (map value_without_holes (values_in ys)) ≡ map (meant types mu own) (values_in ys)
  unfolding SameValue
  values_same [] = refl
  values_same (y ∷ ys) = λ j. y.1 j ∷ values_same ys j

  form_same : (y : Indices-F SuchI SuchR) → meanings types mu own (changed_form (indices_of y)) ≡ meanings types mu own (indices_of y)
  unfolding SameType
  form_same (W.List r) = λ j. W.List (r.1 j)
  form_same (W.Vector t r) = λ j. W.Vector t (r.1 j)
  form_same (W.Tuple ys) = λ j. W.Tuple (values_same ys j)
  form_same (W.Named u is rs) = λ j. W.Named u is (readings_same rs j)
  form_same W.Never = refl
  form_same W.Unit = refl
  form_same (W.Truth c) = refl
  form_same W.Bit = refl
  form_same (W.Bits t) = refl
  form_same (W.Integer t) = refl
  form_same W.String = refl
  form_same (W.Variable i) = refl

  rolled_value : (y : Indices-F SuchI SuchR) → SameValue (roll-Indices (indices_of y))
  unfolding SameValue
  rolled_value y =
      let x = indices_of y in
      ap (meant types mu own) (value_is x) ∙ meant_is types mu own (roll-Indices (changed_form x)) (changed_form x) refl
      ∙ ap (meant_form types mu own) (form_same y) ∙ sym (meant_is types mu own (roll-Indices x) x refl)

  reading_same : (y : Reading-F SuchI SuchR)
      → closed types mu own (type_filled (changed_type (reading_of y))) ≡ closed types mu own (roll-Reading (reading_of y))
  unfolding SameValue
  reading_same (W.Of t is rs) =
      let qs = map without_holes (readings_in rs) in
      closed_is types mu own (roll-Reading (W.Of t is qs)) (W.Of t is qs) refl
      ∙ ap (λ cs. closed_form types mu own (W.Of t is cs)) (readings_same rs)
      ∙ sym (closed_is types mu own (roll-Reading (W.Of t is (readings_in rs))) (W.Of t is (readings_in rs)) refl)
  reading_same (W.Widened i) =
      let k = value_without_holes i.0 in
      closed_is types mu own (roll-Reading (W.Widened k)) (W.Widened k) refl
      ∙ ap (λ m. closed_form types mu own (W.Widened m)) i.1
      ∙ sym (closed_is types mu own (roll-Reading (W.Widened i.0)) (W.Widened i.0) refl)
  reading_same (W.Parts rs) =
      let qs = map without_holes (readings_in rs) in
      closed_is types mu own (roll-Reading (W.Parts qs)) (W.Parts qs) refl
      ∙ ap (λ cs. closed_form types mu own (W.Parts cs)) (readings_same rs)
      ∙ sym (closed_is types mu own (roll-Reading (W.Parts (readings_in rs))) (W.Parts (readings_in rs)) refl)
  reading_same W.Hole =
      closed_is types mu own (R.Widened I.Never) (W.Widened I.Never) (R.rolls-Widened I.Never)
      ∙ ap (λ m. m.wide) (meant_is types mu own I.Never W.Never I.rolls-Never)
      ∙ sym (closed_is types mu own (roll-Reading W.Hole) W.Hole refl)

  rolled_type : (y : Reading-F SuchI SuchR) → SameType (roll-Reading (reading_of y))
  unfolding SameType
  rolled_type y = ap (closed types mu own) (type_is (reading_of y)) ∙ reading_same y

  pub filled_is : (r : Reading) → closed types mu own (without_holes r) ≡ closed types mu own r
  unfolding SameType
  filled_is r = (ind-Reading SameValue SameType (λ e y is. subst (λ d. SameValue (roll-Indices d)) is (rolled_value y))
      (λ e y is. subst (λ d. SameType (roll-Reading d)) is (rolled_type y))) r
