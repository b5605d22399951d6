-- Where types are the same under other integers, so are their widened types.
use Rattle.std.proofs.Common.{◌≡◌, List, [], ◌∷◌, map, refl, sym, ap, ◌∙◌, subst}
use Rattle.sail_types.specs.Belongs.{Reading as Closed, reading}
use Rattle.sail_types.specs.Numbers.{Positive}
use Rattle.sail_types.specs.declared.table.Types.{Types}
use Rattle.sail_types.specs.declared.types.Typ.TheVariants as U
use Rattle.value_indices.specs.declared.indices.Indices.{Indices, roll-Indices}
use Rattle.value_indices.specs.declared.indices.Indices.TheFolds.{fold-roll-Indices, fold-roll-Reading, ind-Indices, ind-Reading, map-Indices, map-Reading}
use Rattle.value_indices.specs.declared.indices.Indices.TheOpen as W
use Rattle.value_indices.specs.declared.indices.Indices.TheOpen.{Indices-F, Reading-F}
use Rattle.value_indices.specs.declared.indices.Reading.{Reading, roll-Reading}
use Rattle.value_indices.specs.declared.indices.Reading.TheVariants as R
use Rattle.wide_types.specs.Widening.{wide_indices, wide_reading, wide_typ, wide_value, widened, widened_type}
use Rattle.value_laws.specs.Belonging.{Integers, Meant, standing, nowhere, closeds, index_there, meant, closed, tuple_of, type_variables, types_or_own, wides}
use Rattle.value_laws.proofs.Opening.{args_same, cons_same, item_steady, same_lists}
use Rattle.value_laws.proofs.Values.{closed_is, meant_is}
use Rattle.fitting_laws.proofs.Standing.{assignment_part, readings_part, typ_part, wide_at}

module _ (types : Types) (past : Positive) (own : List Closed) (g k : Integers) where
  abbrev pub wide_of_at : Integers → Indices → Closed
  wide_of_at h i = (meant types (standing past h) own i).wide

  abbrev pub type_at : Integers → Reading → Closed
  type_at h r = closed types (standing past h) own r

  abbrev types_at : Integers → List Reading → List Closed
  types_at h rs = map (type_at h) rs

  abbrev wides_at : Integers → List Indices → List Closed
  wides_at h is = wides (map (meant types (standing past h) own) is)

  ValueWidens : Indices → Type 0
  ValueWidens i = wide_of_at g i ≡ wide_of_at k i → wide_of_at g (wide_value i) ≡ wide_of_at k (wide_value i)

  TypeWidens : Reading → Type 0
  TypeWidens r = type_at g r ≡ type_at k r → type_at g (widened_type r) ≡ type_at k (widened_type r)

  abbrev SuchValue : Type 0
  SuchValue = (i : Indices) × ValueWidens i

  abbrev SuchType : Type 0
  SuchType = (r : Reading) × TypeWidens r

  abbrev values_in : List SuchValue → List Indices
  values_in ys = map (λ (y : SuchValue). y.0) ys

  abbrev types_in : List SuchType → List Reading
  types_in ys = map (λ (y : SuchType). y.0) ys

  abbrev indices_of : Indices-F SuchValue SuchType → Indices-F Indices Reading
  indices_of y = map-Indices SuchValue SuchType Indices Reading (λ p. p.0) (λ p. p.0) y

  abbrev reading_of : Reading-F SuchValue SuchType → Reading-F Indices Reading
  reading_of y = map-Reading SuchValue SuchType Indices Reading (λ p. p.0) (λ p. p.0) y

  -- types in front of those of the function
  first_types : (rs : List Reading) (os : List Closed) → types_or_own (types_at g rs) os ≡ types_or_own (types_at k rs) os → types_at g rs ≡ types_at k rs
  first_types [] os e = refl
  first_types (r ∷ rs) [] e = e
  first_types (r ∷ rs) (o ∷ os) e =
      let p = cons_same types past own (type_at g r) (type_at k r) (types_or_own (types_at g rs) os) (types_or_own (types_at k rs) os) e in
      λ j. p.0 j ∷ first_types rs os p.1 j

  types_widen : (ys : List SuchType) → types_at g (types_in ys) ≡ types_at k (types_in ys)
      → types_at g (map widened_type (types_in ys)) ≡ types_at k (map widened_type (types_in ys))
  unfolding TypeWidens
  types_widen [] e = refl
  types_widen (y ∷ ys) e =
      let p = cons_same types past own (type_at g y.0) (type_at k y.0) (types_at g (types_in ys)) (types_at k (types_in ys)) e in
      λ j. y.1 p.0 j ∷ types_widen ys p.1 j

  values_widen : (ys : List SuchValue) → wides_at g (values_in ys) ≡ wides_at k (values_in ys)
      → wides_at g (map wide_value (values_in ys)) ≡ wides_at k (map wide_value (values_in ys))
  unfolding ValueWidens
  values_widen [] e = refl
  values_widen (y ∷ ys) e =
      let p = cons_same types past own (wide_of_at g y.0) (wide_of_at k y.0) (wides_at g (values_in ys)) (wides_at k (values_in ys)) e in
      λ j. y.1 p.0 j ∷ values_widen ys p.1 j

  -- ---- values

  abbrev at : Integers → Indices-F Indices Reading → Closed
  at h x = wide_at types past own h x

  abbrev wide_form : Indices-F Indices Reading → Indices-F Indices Reading
  wide_form x = map-Indices Indices Reading Indices Reading wide_value widened_type x

  form_widens : (y : Indices-F SuchValue SuchType) → at g (indices_of y) ≡ at k (indices_of y) → at g (wide_form (indices_of y)) ≡ at k (wide_form (indices_of y))
  unfolding TypeWidens
  form_widens (W.List r) e =
      let d = r.1 (item_steady types past own g k r.0 (ap readings_part e)) in
      λ j. reading (U.List (U.Variable 0)) (nowhere (standing past g)) (closeds (d j ∷ []))
  form_widens (W.Vector t r) e =
      let d = r.1 (item_steady types past own g k r.0 (ap readings_part e)) in
      λ j. reading (typ_part (e j)) (nowhere (standing past g)) (closeds (d j ∷ []))
  form_widens (W.Tuple ys) e =
      let d = values_widen ys (same_lists types past own (wides_at g (values_in ys)) (wides_at k (values_in ys)) (ap readings_part e)) in
      λ j. tuple_of (standing past g) (d j)
  form_widens (W.Named u is ys) e =
      let cs = types_at g (types_in ys) in
      let ds = types_at k (types_in ys) in
      let d = types_widen ys (same_lists types past own cs ds (ap readings_part e)) in
      let args = args_same types past own u (map (index_there (standing past g)) is) (map (index_there (standing past k)) is) (type_variables 0 cs)
      (type_variables 0 ds) (ap typ_part e) in
      λ j. reading (U.Named u (args j) (type_variables 0 (d j))) (nowhere (standing past g)) (closeds (d j))
  form_widens W.Never e = e
  form_widens W.Unit e = e
  form_widens (W.Truth c) e = e
  form_widens W.Bit e = e
  form_widens (W.Bits t) e = e
  form_widens (W.Integer t) e = e
  form_widens W.String e = e
  form_widens (W.Variable i) e = e

  value_at : (h : Integers) (i : Indices) (x : Indices-F Indices Reading) → roll-Indices x ≡ i → wide_of_at h i ≡ at h x
  value_at h i x e = ap (λ (m : Meant). m.wide) (meant_is types (standing past h) own i x e)

  value_step : (y : Indices-F SuchValue SuchType) → ValueWidens (roll-Indices (indices_of y))
  unfolding ValueWidens
  value_step y e =
      let x = indices_of y in
      let made : wide_value (roll-Indices x) ≡ roll-Indices (wide_form x) = fold-roll-Indices Indices Reading wide_indices wide_reading x in
      ap (wide_of_at g) made
      ∙ value_at g (roll-Indices (wide_form x)) (wide_form x) refl
      ∙ form_widens y (sym (value_at g (roll-Indices x) x refl) ∙ e ∙ value_at k (roll-Indices x) x refl)
      ∙ sym (value_at k (roll-Indices (wide_form x)) (wide_form x) refl)
      ∙ sym (ap (wide_of_at k) made)

  -- ---- types

  made_type : (x : Reading-F Indices Reading)
      → widened_type (roll-Reading x) ≡ wide_reading (map-Reading Indices Reading Indices Reading wide_value widened_type x)
  made_type x = fold-roll-Reading Indices Reading wide_indices wide_reading x

  type_step : (y : Reading-F SuchValue SuchType) → TypeWidens (roll-Reading (reading_of y))
  unfolding TypeWidens ValueWidens
  type_step (W.Of t is ys) e =
      let x : Reading-F Indices Reading = W.Of t is (types_in ys) in
      let ws = map widened_type (types_in ys) in
      let p = sym (closed_is types (standing past g) own (roll-Reading x) x refl) ∙ e ∙ closed_is types (standing past k) own (roll-Reading x) x refl in
      let d = types_widen ys (first_types (types_in ys) own
      (same_lists types past own (types_or_own (types_at g (types_in ys)) own) (types_or_own (types_at k (types_in ys)) own) (ap readings_part p))) in
      ap (type_at g) (made_type x)
      ∙ closed_is types (standing past g) own (R.Of (wide_typ t) is ws) (W.Of (wide_typ t) is ws) (R.rolls-Of (wide_typ t) is ws)
      ∙ (λ j. reading (wide_typ t) (assignment_part (p j)) (closeds (types_or_own (d j) own)))
      ∙ sym (closed_is types (standing past k) own (R.Of (wide_typ t) is ws) (W.Of (wide_typ t) is ws) (R.rolls-Of (wide_typ t) is ws))
      ∙ sym (ap (type_at k) (made_type x))
  type_step (W.Widened y) e =
      let x : Reading-F Indices Reading = W.Widened y.0 in
      let z : Reading-F Indices Reading = W.Widened (wide_value y.0) in
      let p = sym (closed_is types (standing past g) own (roll-Reading x) x refl) ∙ e ∙ closed_is types (standing past k) own (roll-Reading x) x refl in
      ap (type_at g) (made_type x)
      ∙ closed_is types (standing past g) own (roll-Reading z) z refl ∙ y.1 p ∙ sym (closed_is types (standing past k) own (roll-Reading z) z refl)
      ∙ sym (ap (type_at k) (made_type x))
  type_step (W.Parts ys) e =
      let x : Reading-F Indices Reading = W.Parts (types_in ys) in
      let z : Reading-F Indices Reading = W.Parts (map widened_type (types_in ys)) in
      let p = sym (closed_is types (standing past g) own (roll-Reading x) x refl) ∙ e ∙ closed_is types (standing past k) own (roll-Reading x) x refl in
      let d = types_widen ys (same_lists types past own (types_at g (types_in ys)) (types_at k (types_in ys)) (ap readings_part p)) in
      ap (type_at g) (made_type x)
      ∙ closed_is types (standing past g) own (roll-Reading z) z refl
      ∙ (λ j. tuple_of (standing past g) (d j))
      ∙ sym (closed_is types (standing past k) own (roll-Reading z) z refl)
      ∙ sym (ap (type_at k) (made_type x))
  type_step W.Hole e = ap (type_at g) (made_type W.Hole) ∙ e ∙ sym (ap (type_at k) (made_type W.Hole))

  pub type_widens : (r : Reading) → type_at g r ≡ type_at k r → type_at g (widened_type r) ≡ type_at k (widened_type r)
  unfolding TypeWidens
  type_widens = ind-Reading ValueWidens TypeWidens (λ e y same_form. subst (λ d. ValueWidens (roll-Indices d)) same_form (value_step y))
      (λ e y same_form. subst (λ d. TypeWidens (roll-Reading d)) same_form (type_step y))

  value_widens : (i : Indices) → ValueWidens i
  value_widens = ind-Indices ValueWidens TypeWidens (λ e y same_form. subst (λ d. ValueWidens (roll-Indices d)) same_form (value_step y))
      (λ e y same_form. subst (λ d. TypeWidens (roll-Reading d)) same_form (type_step y))

  -- the widened type of a value
  pub widened_same : (i : Indices) → wide_of_at g i ≡ wide_of_at k i → type_at g (widened i) ≡ type_at k (widened i)
  unfolding ValueWidens
  widened_same i e =
      let w = wide_value i in
      closed_is types (standing past g) own (R.Widened w) (W.Widened w) (R.rolls-Widened w) ∙ value_widens i e
      ∙ sym (closed_is types (standing past k) own (R.Widened w) (W.Widened w) (R.rolls-Widened w))
