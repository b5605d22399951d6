-- Form by form: a type that is the same for these integers where nothing stands for Type variables is so too where something does.
use Rattle.std.proofs.Common.{◌≡◌, ◌∙◌, ap, sym, refl, subst, List, [], ◌∷◌, map, slice_get, Option, Some, None}
use Rattle.sail_types.specs.Belongs.{Reading as Closed, Readings as Closeds, reading}
use Rattle.sail_types.specs.Numbers.{Assignment, Positive}
use Rattle.sail_types.specs.declared.table.Types.{Types}
use Rattle.sail_types.specs.declared.types.Typ.{Typ}
use Rattle.sail_types.specs.declared.types.Typ.TheVariants as U
use Rattle.value_indices.specs.declared.indices.Indices.{Indices, roll-Indices}
use Rattle.value_indices.specs.declared.indices.Indices.TheFolds.{map-Indices, map-Reading, ind-Reading}
use Rattle.value_indices.specs.declared.indices.Indices.TheOpen as W
use Rattle.value_indices.specs.declared.indices.Indices.TheOpen.{Indices-F, Reading-F}
use Rattle.value_indices.specs.declared.indices.Reading.{Reading, roll-Reading}
use Rattle.value_laws.specs.Belonging.{Integers, Meant, closed, closed_form, closeds, index_there, meant, nowhere, or_no_value, standing, tuple_of}
use Rattle.value_laws.specs.Belonging.{type_variables, types_or_own, wide_of, wides}
use Rattle.value_laws.proofs.Stood.{args_same, cons_same, same_lists}
use Rattle.value_laws.proofs.Values.{closed_is, closing, meanings, meant_is}
use Rattle.constant_laws.specs.Own.{OwnTypesMeanNoLess}
use Rattle.constant_laws.proofs.More.{more_of, more_values, none_behind}

abbrev typ_in : Closed → Typ
typ_in (reading t mu rs) = t

abbrev assignment_in : Closed → Assignment
assignment_in (reading t mu rs) = mu

abbrev behind_in : Closed → Closeds
behind_in (reading t mu rs) = rs

module _ (types : Types) (past : Positive) (own : List Closed) (f g : Integers) where
  abbrev one : Assignment
  one = standing past f

  abbrev other : Assignment
  other = standing past g

  abbrev here : Assignment
  here = nowhere one

  SameI : Indices → Type 0
  SameI i = (meant types one [] i).wide ≡ (meant types other [] i).wide → (meant types one own i).wide ≡ (meant types other own i).wide

  SameR : Reading → Type 0
  SameR r = closed types one [] r ≡ closed types other [] r → closed types one own r ≡ closed types other own r

  abbrev SuchI : Type 0
  SuchI = (i : Indices) × SameI i

  abbrev SuchR : Type 0
  SuchR = (r : Reading) × SameR r

  abbrev values_in : List SuchI → List Indices
  values_in ys = map (λ (y : SuchI). y.0) ys

  abbrev readings_in : List SuchR → List Reading
  readings_in ys = map (λ (y : SuchR). y.0) ys

  abbrev indices_of : Indices-F SuchI SuchR → Indices-F Indices Reading
  indices_of y = map-Indices SuchI SuchR Indices Reading (λ p. p.0) (λ p. p.0) y

  abbrev reading_of : Reading-F SuchI SuchR → Reading-F Indices Reading
  reading_of y = map-Reading SuchI SuchR Indices Reading (λ p. p.0) (λ p. p.0) y

  -- the types in a list, over nothing and over the function's
  abbrev before : Assignment → List SuchR → List Closed
  before mu ys = map (closed types mu []) (readings_in ys)

  abbrev behind : Assignment → List SuchR → List Closed
  behind mu ys = map (closed types mu own) (readings_in ys)

  abbrev wides_before : Assignment → List SuchI → List Closed
  wides_before mu ys = wides (map (meant types mu []) (values_in ys))

  abbrev wides_behind : Assignment → List SuchI → List Closed
  wides_behind mu ys = wides (map (meant types mu own) (values_in ys))

  each_type : (ys : List SuchR) → before one ys ≡ before other ys → behind one ys ≡ behind other ys
  unfolding SameR
  each_type [] e = refl
  each_type (y ∷ ys) e =
      let k = cons_same types past [] (closed types one [] y.0) (closed types other [] y.0) (before one ys) (before other ys) e in
      let first : closed types one own y.0 ≡ closed types other own y.0 = y.1 k.0 in
      let more : behind one ys ≡ behind other ys = each_type ys k.1 in
      λ j. first j ∷ more j

  each_wide : (ys : List SuchI) → wides_before one ys ≡ wides_before other ys → wides_behind one ys ≡ wides_behind other ys
  unfolding SameI
  each_wide [] e = refl
  each_wide (y ∷ ys) e =
      let k = cons_same types past [] (meant types one [] y.0).wide (meant types other [] y.0).wide (wides_before one ys) (wides_before other ys) e in
      let first : (meant types one own y.0).wide ≡ (meant types other own y.0).wide = y.1 k.0 in
      let more : wides_behind one ys ≡ wides_behind other ys = each_wide ys k.1 in
      λ j. first j ∷ more j

  none_same : (o : Option Closed) → or_no_value one o ≡ or_no_value other o
  none_same None = refl
  none_same (Some c) = refl

  item_of : (c d : Closed) → closeds (c ∷ []) ≡ closeds (d ∷ []) → c ≡ d
  item_of c d e = (cons_same types past [] c d [] [] (same_lists types past [] (c ∷ []) (d ∷ []) e)).0

  form_same : (y : Indices-F SuchI SuchR)
      → wide_of types one [] (meanings types one [] (indices_of y)) ≡ wide_of types other [] (meanings types other [] (indices_of y))
      → wide_of types one own (meanings types one own (indices_of y)) ≡ wide_of types other own (meanings types other own (indices_of y))
  unfolding SameR
  form_same W.Never e = refl
  form_same W.Unit e = refl
  form_same (W.Truth c) e = refl
  form_same W.Bit e = refl
  form_same (W.Bits t) e = e
  form_same (W.Integer t) e = refl
  form_same W.String e = refl
  form_same (W.List r) e =
      let q : closed types one own r.0 ≡ closed types other own r.0 = r.1 (item_of (closed types one [] r.0) (closed types other [] r.0) (ap behind_in e)) in
      λ j. reading (U.List (U.Variable 0)) here (closeds (q j ∷ []))
  form_same (W.Vector t r) e =
      let q : closed types one own r.0 ≡ closed types other own r.0 = r.1 (item_of (closed types one [] r.0) (closed types other [] r.0) (ap behind_in e)) in
      λ j. reading (typ_in (e j)) here (closeds (q j ∷ []))
  form_same (W.Tuple ys) e =
      let all : wides_behind one ys ≡ wides_behind other ys =
      each_wide ys (same_lists types past [] (wides_before one ys) (wides_before other ys) (ap behind_in e)) in
      λ j. tuple_of one (all j)
  form_same (W.Named u is rs) e =
      let all : behind one rs ≡ behind other rs = each_type rs (same_lists types past [] (before one rs) (before other rs) (ap behind_in e)) in
      let args : map (index_there one) is ≡ map (index_there other) is =
      args_same types past [] u (map (index_there one) is) (map (index_there other) is) (type_variables 0 (before one rs))
      (type_variables 0 (before other rs)) (ap typ_in e) in
      λ j. reading (U.Named u (args j) (type_variables 0 (all j))) here (closeds (all j))
  form_same (W.Variable i) e = none_same (slice_get own i)

  rolled_value : (y : Indices-F SuchI SuchR) → SameI (roll-Indices (indices_of y))
  unfolding SameI
  rolled_value y e =
      let x : Indices-F Indices Reading = indices_of y in
      let wide_is : (mu : Assignment) (cs : List Closed) → (meant types mu cs (roll-Indices x)).wide ≡ wide_of types mu cs (meanings types mu cs x) =
      λ mu cs. ap (λ (m : Meant). m.wide) (meant_is types mu cs (roll-Indices x) x refl) in
      wide_is one own ∙ form_same y (sym (wide_is one []) ∙ e ∙ wide_is other []) ∙ sym (wide_is other own)

  reading_same : (y : Reading-F SuchI SuchR)
      → closed_form types one [] (closing types one [] (reading_of y)) ≡ closed_form types other [] (closing types other [] (reading_of y))
      → closed_form types one own (closing types one own (reading_of y)) ≡ closed_form types other own (closing types other own (reading_of y))
  unfolding SameI
  reading_same (W.Of t is rs) e =
      let lists : types_or_own (before one rs) [] ≡ types_or_own (before other rs) [] =
      same_lists types past [] (types_or_own (before one rs) []) (types_or_own (before other rs) []) (ap behind_in e) in
      let all : behind one rs ≡ behind other rs = each_type rs (sym (none_behind (before one rs)) ∙ lists ∙ none_behind (before other rs)) in
      λ j. reading t (assignment_in (e j)) (closeds (types_or_own (all j) own))
  reading_same (W.Widened i) e = i.1 e
  reading_same (W.Parts rs) e =
      let all : behind one rs ≡ behind other rs = each_type rs (same_lists types past [] (before one rs) (before other rs) (ap behind_in e)) in
      λ j. tuple_of one (all j)
  reading_same W.Hole e = refl

  rolled_type : (y : Reading-F SuchI SuchR) → SameR (roll-Reading (reading_of y))
  unfolding SameR
  rolled_type y e =
      let x : Reading-F Indices Reading = reading_of y in
      let closed_as : (mu : Assignment) (cs : List Closed) → closed types mu cs (roll-Reading x) ≡ closed_form types mu cs (closing types mu cs x) =
      λ mu cs. closed_is types mu cs (roll-Reading x) x refl in
      closed_as one own ∙ reading_same y (sym (closed_as one []) ∙ e ∙ closed_as other []) ∙ sym (closed_as other own)

  alike : (r : Reading) → SameR r
  alike = ind-Reading SameI SameR (λ e y is. subst (λ d. SameI (roll-Indices d)) is (rolled_value y))
      (λ e y is. subst (λ d. SameR (roll-Reading d)) is (rolled_type y))

  still_same : (r : Reading) → closed types one [] r ≡ closed types other [] r → closed types one own r ≡ closed types other own r
  unfolding SameR
  still_same r e = alike r e

pub own_types_mean : OwnTypesMeanNoLess
own_types_mean types past own = record {
  indices = λ f i v k. more_values types past own f i v k;
  readings = λ f r v k. more_of types past own f r v k;
  alike = λ f g r e. still_same types past own f g r e;
}
