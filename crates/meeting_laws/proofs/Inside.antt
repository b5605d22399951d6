-- Where the types inside a value have more values, the value's widened type has more.
use Rattle.std.proofs.Common.{◌≡◌, List, [], ◌∷◌, map, refl, sym, ap, ◌∙◌, subst}
use Rattle.sail_types.specs.Belongs.{Reading as Closed, belongs}
use Rattle.sail_types.specs.Numbers.{Assignment, Positive}
use Rattle.sail_types.specs.declared.numbers.Index.{Index}
use Rattle.sail_types.specs.declared.table.Types.{Types}
use Rattle.sail_types.specs.declared.types.Typ.{Typ}
use Rattle.sail_types.specs.declared.types.Typ.TheVariants as U
use Rattle.value_indices.specs.declared.indices.Indices.{Indices, fold-Indices, roll-Indices}
use Rattle.value_indices.specs.declared.indices.Indices.TheFolds.{fold-roll-Indices, fold-roll-Reading, map-Indices, map-Reading, ind-Indices, ind-Reading}
use Rattle.value_indices.specs.declared.indices.Indices.TheOpen as W
use Rattle.value_indices.specs.declared.indices.Indices.TheOpen.{Indices-F, Reading-F}
use Rattle.value_indices.specs.declared.indices.Reading.{Reading, fold-Reading, roll-Reading}
use Rattle.value_indices.specs.declared.indices.Reading.TheVariants as R
use Rattle.value_laws.specs.Belonging.{Integers, standing, nowhere, index_there, Meant, wides, number_there, wide_of, meant, closed}
use Rattle.value_laws.proofs.Values.{meanings, meant_is, closed_is}
use Rattle.wide_types.specs.Widening.{wide_indices}
use Rattle.meeting_laws.proofs.Wider.{Wider, EachWider, named_wider, over_wider, tuple_wider}

module _ (types : Types) (past : Positive) (own : List Closed) (g : Integers) (change : Reading-F Indices Reading → Reading) where
  abbrev mu : Assignment
  mu = standing past g

  abbrev here : Assignment
  here = nowhere mu

  abbrev pub closing_all : List Reading → List Closed
  closing_all rs = map (closed types mu own) rs

  -- values and types, with each type inside changed
  abbrev value_changed : Indices → Indices
  value_changed = fold-Indices Indices Reading wide_indices change

  abbrev type_changed : Reading → Reading
  type_changed = fold-Reading Indices Reading wide_indices change

  -- types with variables are changed alone, to such as have more values
  module _ (widened : (i : Indices) → change (W.Widened i) ≡ roll-Reading (W.Widened i))
      (parts : (rs : List Reading) → change (W.Parts rs) ≡ roll-Reading (W.Parts rs)) (hole : change W.Hole ≡ roll-Reading W.Hole)
      (more : (t : Typ) (is : List Index) (rs qs : List Reading) → EachWider types (closing_all rs) (closing_all qs)
      → Wider types (closed types mu own (R.Of t is rs)) (closed types mu own (change (W.Of t is qs)))) where
    abbrev wide_now : Indices → Closed
    wide_now i = (meant types mu own i).wide

    MoreValue : Indices → Type 0
    MoreValue i = Wider types (wide_now i) (wide_now (value_changed i))

    MoreType : Reading → Type 0
    MoreType r = Wider types (closed types mu own r) (closed types mu own (type_changed r))

    abbrev SuchI : Type 0
    SuchI = (i : Indices) × MoreValue i

    abbrev SuchR : Type 0
    SuchR = (r : Reading) × MoreType r

    abbrev values_in : List SuchI → List Indices
    values_in ys = map (λ (y : SuchI). y.0) ys

    abbrev readings_in : List SuchR → List Reading
    readings_in ys = map (λ (y : SuchR). y.0) ys

    abbrev indices_of : Indices-F SuchI SuchR → Indices-F Indices Reading
    indices_of y = map-Indices SuchI SuchR Indices Reading (λ p. p.0) (λ p. p.0) y

    abbrev reading_of : Reading-F SuchI SuchR → Reading-F Indices Reading
    reading_of y = map-Reading SuchI SuchR Indices Reading (λ p. p.0) (λ p. p.0) y

    abbrev changed_form : Indices-F Indices Reading → Indices-F Indices Reading
    changed_form x = map-Indices Indices Reading Indices Reading value_changed type_changed x

    value_is : (x : Indices-F Indices Reading) → value_changed (roll-Indices x) ≡ roll-Indices (changed_form x)
    value_is x = fold-roll-Indices Indices Reading wide_indices change x

    type_is : (x : Reading-F Indices Reading)
        → type_changed (roll-Reading x) ≡ change (map-Reading Indices Reading Indices Reading value_changed type_changed x)
    type_is x = fold-roll-Reading Indices Reading wide_indices change x

    readings_more : (ys : List SuchR) → EachWider types (closing_all (readings_in ys)) (closing_all (map type_changed (readings_in ys)))
    unfolding MoreType
    readings_more [] = tt
    readings_more (y ∷ ys) = (y.1, readings_more ys)

    values_more : (ys : List SuchI)
        → EachWider types (wides (map (meant types mu own) (values_in ys))) (wides (map (meant types mu own) (map value_changed (values_in ys))))
    unfolding MoreValue
    values_more [] = tt
    values_more (y ∷ ys) = (y.1, values_more ys)

    form_wider : (y : Indices-F SuchI SuchR) → Wider types (wide_of types mu own (meanings types mu own (indices_of y)))
        (wide_of types mu own (meanings types mu own (changed_form (indices_of y))))
    unfolding MoreType
    form_wider (W.List r) v k =
        over_wider types (U.List (U.Variable 0)) here (closed types mu own r.0 ∷ []) (closed types mu own (type_changed r.0) ∷ []) (r.1, tt) v k
    form_wider (W.Vector t r) v k =
        over_wider types (U.Vector (number_there mu t) (U.Variable 0)) here (closed types mu own r.0 ∷ []) (closed types mu own (type_changed r.0) ∷ [])
        (r.1, tt) v k
    form_wider (W.Tuple ys) v k =
        tuple_wider types here (wides (map (meant types mu own) (values_in ys))) (wides (map (meant types mu own) (map value_changed (values_in ys))))
        (values_more ys) v k
    form_wider (W.Named u is rs) v k =
        named_wider types u (map (index_there mu) is) here (closing_all (readings_in rs)) (closing_all (map type_changed (readings_in rs)))
        (readings_more rs) v k
    form_wider W.Never v k = k
    form_wider W.Unit v k = k
    form_wider (W.Truth c) v k = k
    form_wider W.Bit v k = k
    form_wider (W.Bits t) v k = k
    form_wider (W.Integer t) v k = k
    form_wider W.String v k = k
    form_wider (W.Variable i) v k = k

    rolled_value : (y : Indices-F SuchI SuchR) → MoreValue (roll-Indices (indices_of y))
    unfolding MoreValue
    rolled_value y v k =
        let x = indices_of y in
        ap (belongs types v) (ap wide_now (value_is x) ∙ ap (λ m. m.wide) (meant_is types mu own (roll-Indices (changed_form x)) (changed_form x) refl))
        ∙ form_wider y v (sym (ap (λ (m : Meant). belongs types v m.wide) (meant_is types mu own (roll-Indices x) x refl)) ∙ k)

    reading_wider : (y : Reading-F SuchI SuchR) → Wider types (closed types mu own (roll-Reading (reading_of y)))
        (closed types mu own (change (map-Reading Indices Reading Indices Reading value_changed type_changed (reading_of y))))
    unfolding MoreValue
    reading_wider (W.Of t is rs) v k =
        more t is (readings_in rs) (map type_changed (readings_in rs)) (readings_more rs) v
        (ap (λ r. belongs types v (closed types mu own r)) (sym (R.rolls-Of t is (readings_in rs))) ∙ k)
    reading_wider (W.Widened i) v k =
        let j = value_changed i.0 in
        ap (belongs types v) (ap (closed types mu own) (widened j) ∙ closed_is types mu own (roll-Reading (W.Widened j)) (W.Widened j) refl)
        ∙ i.1 v (sym (ap (belongs types v) (closed_is types mu own (roll-Reading (W.Widened i.0)) (W.Widened i.0) refl)) ∙ k)
    reading_wider (W.Parts rs) v k =
        let ps = map type_changed (readings_in rs) in
        ap (belongs types v) (ap (closed types mu own) (parts ps) ∙ closed_is types mu own (roll-Reading (W.Parts ps)) (W.Parts ps) refl)
        ∙ tuple_wider types here (closing_all (readings_in rs)) (closing_all ps) (readings_more rs) v
        (sym (ap (belongs types v) (closed_is types mu own (roll-Reading (W.Parts (readings_in rs))) (W.Parts (readings_in rs)) refl)) ∙ k)
    reading_wider W.Hole v k = ap (λ r. belongs types v (closed types mu own r)) hole ∙ k

    rolled_type : (y : Reading-F SuchI SuchR) → MoreType (roll-Reading (reading_of y))
    unfolding MoreType
    rolled_type y v k = ap (λ r. belongs types v (closed types mu own r)) (type_is (reading_of y)) ∙ reading_wider y v k

    pub values_wider : (i : Indices) → Wider types (wide_now i) (wide_now (value_changed i))
    unfolding MoreValue
    values_wider i = (ind-Indices MoreValue MoreType (λ e y is. subst (λ d. MoreValue (roll-Indices d)) is (rolled_value y))
        (λ e y is. subst (λ d. MoreType (roll-Reading d)) is (rolled_type y))) i

    pub types_wider : (r : Reading) → Wider types (closed types mu own r) (closed types mu own (type_changed r))
    unfolding MoreType
    types_wider r = (ind-Reading MoreValue MoreType (λ e y is. subst (λ d. MoreValue (roll-Indices d)) is (rolled_value y))
        (λ e y is. subst (λ d. MoreType (roll-Reading d)) is (rolled_type y))) r
