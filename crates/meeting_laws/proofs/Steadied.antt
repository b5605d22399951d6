-- The type that a value widens to hangs on the variables that it names alone.
use Rattle.std.proofs.Common.{◌≡◌, ℕ, ◌<◌, pos, Bool, true, List, [], ◌∷◌, map, slice_get, Option, Some, None, refl, sym, ap, ◌∙◌, subst}
use Rattle.std.specs.List.{list_all}
use Rattle.std.proofs.lemmas.Bool.{and_parts}
use Rattle.sail_types.specs.Belongs.{Reading as Closed, assigned, reading}
use Rattle.sail_types.specs.Numbers.{Assignment, Positive}
use Rattle.sail_types.specs.Sums.{constant}
use Rattle.sail_types.specs.declared.numbers.Con.TheVariants as C
use Rattle.sail_types.specs.declared.numbers.Index.{Index}
use Rattle.sail_types.specs.declared.numbers.Index.TheVariants as N
use Rattle.sail_types.specs.declared.table.Types.{Types}
use Rattle.sail_types.specs.declared.types.Typ.TheVariants as U
use Rattle.value_indices.specs.declared.indices.Indices.{Indices, roll-Indices}
use Rattle.value_indices.specs.declared.indices.Indices.TheFolds.{fold-roll-Indices, fold-roll-Reading, ind-Indices, ind-Reading, map-Indices, map-Reading}
use Rattle.value_indices.specs.declared.indices.Indices.TheOpen as W
use Rattle.value_indices.specs.declared.indices.Indices.TheOpen.{Indices-F, Reading-F}
use Rattle.value_indices.specs.declared.indices.Reading.{Reading, roll-Reading}
use Rattle.wide_types.specs.Widening.{is_below}
use Rattle.expression_forms.specs.Inside.{is_argument_below, is_type_below, is_value_below, type_form_below, value_form_below}
use Rattle.value_laws.specs.Belonging.{Integers, Meant, closed, closed_form, closeds, index_there, meant, or_no_value, plain, standing}
use Rattle.value_laws.specs.Belonging.{type_variables, types_or_own, wide_of, wides}
use Rattle.value_laws.proofs.Arguments.{assigned_there}
use Rattle.value_laws.proofs.Values.{closed_is, closing, meanings, meant_is}
use Rattle.meeting_laws.proofs.Below.{number_below, truth_below}

module _ (types : Types) (past : Positive) (own : List Closed) (m : ℕ) (f g : Integers) (same : (i : ℕ) → i < m → f i ≡ g i) where
  abbrev one : Assignment
  one = standing past f

  abbrev other : Assignment
  other = standing past g

  -- ---- arguments

  argument_there : (i : Index) → is_argument_below m i ≡ true → index_there one i ≡ index_there other i
  argument_there (N.Number t) h = ap (λ z. N.Number (constant z)) (number_below past m f g same t h)
  argument_there (N.Truth c) h = ap (λ b. N.Truth (C.Truth b)) (truth_below past m f g same c h)

  arguments_there : (is : List Index) → list_all (is_argument_below m) is ≡ true → map (index_there one) is ≡ map (index_there other) is
  arguments_there [] h = refl
  arguments_there (i ∷ is) h =
      let both = and_parts (is_argument_below m i) (list_all (is_argument_below m) is) h in
      λ j. argument_there i both.0 j ∷ arguments_there is both.1 j

  assigned_same : (is : List Index) → list_all (is_argument_below m) is ≡ true → assigned one is ≡ assigned other is
  assigned_same is h = sym (assigned_there past f is) ∙ ap (assigned (standing past (λ i. pos 0))) (arguments_there is h) ∙ assigned_there past g is

  own_same : (o : Option Closed) → or_no_value one o ≡ or_no_value other o
  own_same None = refl
  own_same (Some r) = refl

  -- ---- values and types

  abbrev SameWide : Indices → Type 0
  SameWide i = is_value_below m i ≡ true → (meant types one own i).wide ≡ (meant types other own i).wide

  abbrev SameType : Reading → Type 0
  SameType r = is_type_below m r ≡ true → closed types one own r ≡ closed types other own r

  abbrev Value : Type 0
  Value = (i : Indices) × SameWide i

  abbrev Typed : Type 0
  Typed = (r : Reading) × SameType r

  abbrev value_of : Indices-F Value Typed → Indices-F Indices Reading
  value_of y = map-Indices Value Typed Indices Reading (λ i. i.0) (λ r. r.0) y

  abbrev type_of : Reading-F Value Typed → Reading-F Indices Reading
  type_of y = map-Reading Value Typed Indices Reading (λ i. i.0) (λ r. r.0) y

  wides_same : (is : List Value) → list_all (λ b. b) (map (is_value_below m) (map (λ i. i.0) is)) ≡ true
      → wides (map (meant types one own) (map (λ i. i.0) is)) ≡ wides (map (meant types other own) (map (λ i. i.0) is))
  wides_same [] h = refl
  wides_same (i ∷ is) h =
      let both = and_parts (is_value_below m i.0) (list_all (λ b. b) (map (is_value_below m) (map (λ (x : Value). x.0) is))) h in
      λ j. i.1 both.0 j ∷ wides_same is both.1 j

  types_same : (rs : List Typed) → list_all (λ b. b) (map (is_type_below m) (map (λ r. r.0) rs)) ≡ true
      → map (closed types one own) (map (λ r. r.0) rs) ≡ map (closed types other own) (map (λ r. r.0) rs)
  types_same [] h = refl
  types_same (r ∷ rs) h =
      let both = and_parts (is_type_below m r.0) (list_all (λ b. b) (map (is_type_below m) (map (λ (x : Typed). x.0) rs))) h in
      λ j. r.1 both.0 j ∷ types_same rs both.1 j

  abbrev below : Indices-F Indices Reading → Bool
  below x = value_form_below m (map-Indices Indices Reading Bool Bool (is_value_below m) (is_type_below m) x)

  form_same : (y : Indices-F Value Typed) → below (value_of y) ≡ true
      → wide_of types one own (meanings types one own (value_of y)) ≡ wide_of types other own (meanings types other own (value_of y))
  form_same W.Never h = refl
  form_same W.Unit h = refl
  form_same (W.Truth c) h = refl
  form_same W.Bit h = refl
  form_same (W.Bits t) h = ap (λ z. plain one (U.Bits (constant z)) []) (number_below past m f g same t h)
  form_same (W.Integer t) h = refl
  form_same W.String h = refl
  form_same (W.List r) h = ap (λ c. plain one (U.List (U.Variable 0)) (c ∷ [])) (r.1 h)
  form_same (W.Vector n r) h =
      let both = and_parts (is_below m n) (is_type_below m r.0) h in
      λ j. plain one (U.Vector (constant (number_below past m f g same n both.0 j)) (U.Variable 0)) (r.1 both.1 j ∷ [])
  form_same (W.Tuple is) h = ap (λ cs. plain one (U.Tuple (type_variables 0 cs)) cs) (wides_same is h)
  form_same (W.Named u is rs) h =
      let both = and_parts (list_all (is_argument_below m) is) (list_all (λ b. b) (map (is_type_below m) (map (λ (r : Typed). r.0) rs))) h in
      λ j. plain one (U.Named u (arguments_there is both.0 j) (type_variables 0 (types_same rs both.1 j))) (types_same rs both.1 j)
  form_same (W.Variable i) h = own_same (slice_get own i)

  value_step : (y : Indices-F Value Typed) → SameWide (roll-Indices (value_of y))
  value_step y h =
      let x = value_of y in
      ap (λ (w : Meant). w.wide) (meant_is types one own (roll-Indices x) x refl)
      ∙ form_same y (sym (fold-roll-Indices Bool Bool (value_form_below m) (type_form_below m) x) ∙ h)
      ∙ sym (ap (λ (w : Meant). w.wide) (meant_is types other own (roll-Indices x) x refl))

  abbrev reading_below : Reading-F Indices Reading → Bool
  reading_below x = type_form_below m (map-Reading Indices Reading Bool Bool (is_value_below m) (is_type_below m) x)

  type_same : (y : Reading-F Value Typed) → reading_below (type_of y) ≡ true
      → closed_form types one own (closing types one own (type_of y)) ≡ closed_form types other own (closing types other own (type_of y))
  type_same (W.Of t is rs) h =
      let both = and_parts (list_all (is_argument_below m) is) (list_all (λ b. b) (map (is_type_below m) (map (λ (r : Typed). r.0) rs))) h in
      λ j. reading t (assigned_same is both.0 j) (closeds (types_or_own (types_same rs both.1 j) own))
  type_same (W.Widened i) h = i.1 h
  type_same (W.Parts rs) h = ap (λ cs. plain one (U.Tuple (type_variables 0 cs)) cs) (types_same rs h)
  type_same W.Hole h = refl

  type_step : (y : Reading-F Value Typed) → SameType (roll-Reading (type_of y))
  type_step y h =
      let x = type_of y in
      closed_is types one own (roll-Reading x) x refl
      ∙ type_same y (sym (fold-roll-Reading Bool Bool (value_form_below m) (type_form_below m) x) ∙ h)
      ∙ sym (closed_is types other own (roll-Reading x) x refl)

  pub wide_below : (i : Indices) → SameWide i
  wide_below = ind-Indices SameWide SameType (λ e y same_form. subst (λ d. SameWide (roll-Indices d)) same_form (value_step y))
      (λ e y same_form. subst (λ d. SameType (roll-Reading d)) same_form (type_step y))

  pub type_below : (r : Reading) → SameType r
  type_below = ind-Reading SameWide SameType (λ e y same_form. subst (λ d. SameWide (roll-Indices d)) same_form (value_step y))
      (λ e y same_form. subst (λ d. SameType (roll-Reading d)) same_form (type_step y))
