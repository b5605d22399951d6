-- A type in which no type is a hole has none.
use Rattle.std.proofs.Common.{◌≡◌, Bool, true, false, ◌||◌, List, [], ◌∷◌, map, refl, sym, ap, ◌∙◌, subst}
use Rattle.std.specs.List.{list_all, list_any}
use Rattle.std.proofs.lemmas.Bool.{and_parts}
use Rattle.value_indices.specs.declared.indices.Indices.{Indices, roll-Indices}
use Rattle.value_indices.specs.declared.indices.Indices.TheFolds.{fold-roll-Indices, fold-roll-Reading, ind-Indices, map-Indices, map-Reading}
use Rattle.value_indices.specs.declared.indices.Indices.TheOpen as W
use Rattle.value_indices.specs.declared.indices.Indices.TheOpen.{Indices-F, Reading-F}
use Rattle.value_indices.specs.declared.indices.Reading.{Reading, roll-Reading}
use Rattle.value_indices.specs.declared.indices.Reading.TheVariants as R
use Rattle.call_arguments.specs.Holes.{has_hole, type_holed, value_has_hole, value_holed}
use Rattle.expression_forms.specs.Inside.{is_type_whole, is_value_whole, type_form_whole, value_form_whole}
use Rattle.value_laws.proofs.Basics.{no}

abbrev NoHole : Indices → Type 0
NoHole i = is_value_whole i ≡ true → value_has_hole i ≡ false

abbrev NoHoles : Reading → Type 0
NoHoles r = is_type_whole r ≡ true → has_hole r ≡ false

abbrev Value : Type 0
Value = (i : Indices) × NoHole i

abbrev Typed : Type 0
Typed = (r : Reading) × NoHoles r

abbrev value_of : Indices-F Value Typed → Indices-F Indices Reading
value_of y = map-Indices Value Typed Indices Reading (λ i. i.0) (λ r. r.0) y

abbrev type_of : Reading-F Value Typed → Reading-F Indices Reading
type_of y = map-Reading Value Typed Indices Reading (λ i. i.0) (λ r. r.0) y

values_whole : (is : List Value) → list_all (λ b. b) (map is_value_whole (map (λ i. i.0) is)) ≡ true
    → list_any (λ b. b) (map value_has_hole (map (λ i. i.0) is)) ≡ false
values_whole [] h = refl
values_whole (i ∷ is) h =
    let both = and_parts (is_value_whole i.0) (list_all (λ b. b) (map is_value_whole (map (λ (x : Value). x.0) is))) h in
    (λ j. i.1 both.0 j || list_any (λ b. b) (map value_has_hole (map (λ (x : Value). x.0) is))) ∙ values_whole is both.1

types_whole : (rs : List Typed) → list_all (λ b. b) (map is_type_whole (map (λ r. r.0) rs)) ≡ true
    → list_any (λ b. b) (map has_hole (map (λ r. r.0) rs)) ≡ false
types_whole [] h = refl
types_whole (r ∷ rs) h =
    let both = and_parts (is_type_whole r.0) (list_all (λ b. b) (map is_type_whole (map (λ (x : Typed). x.0) rs))) h in
    (λ j. r.1 both.0 j || list_any (λ b. b) (map has_hole (map (λ (x : Typed). x.0) rs))) ∙ types_whole rs both.1

value_form : (y : Indices-F Value Typed) → value_form_whole (map-Indices Indices Reading Bool Bool is_value_whole is_type_whole (value_of y)) ≡ true
    → value_holed (map-Indices Indices Reading Bool Bool value_has_hole has_hole (value_of y)) ≡ false
value_form (W.List r) h = r.1 h
value_form (W.Vector n r) h = r.1 h
value_form (W.Tuple is) h = values_whole is h
value_form (W.Named u is rs) h = types_whole rs h
value_form W.Never h = refl
value_form W.Unit h = refl
value_form (W.Truth c) h = refl
value_form W.Bit h = refl
value_form (W.Bits t) h = refl
value_form (W.Integer t) h = refl
value_form W.String h = refl
value_form (W.Variable i) h = refl

type_form : (y : Reading-F Value Typed) → type_form_whole (map-Reading Indices Reading Bool Bool is_value_whole is_type_whole (type_of y)) ≡ true
    → type_holed (map-Reading Indices Reading Bool Bool value_has_hole has_hole (type_of y)) ≡ false
type_form (W.Of t is rs) h = types_whole rs h
type_form (W.Widened i) h = i.1 h
type_form (W.Parts rs) h = types_whole rs h
type_form W.Hole h = no h

value_step : (y : Indices-F Value Typed) → NoHole (roll-Indices (value_of y))
value_step y h = fold-roll-Indices Bool Bool value_holed type_holed (value_of y)
    ∙ value_form y (sym (fold-roll-Indices Bool Bool value_form_whole type_form_whole (value_of y)) ∙ h)

type_step : (y : Reading-F Value Typed) → NoHoles (roll-Reading (type_of y))
type_step y h = fold-roll-Reading Bool Bool value_holed type_holed (type_of y)
    ∙ type_form y (sym (fold-roll-Reading Bool Bool value_form_whole type_form_whole (type_of y)) ∙ h)

no_hole : (i : Indices) → NoHole i
no_hole = ind-Indices NoHole NoHoles (λ e y same_form. subst (λ d. NoHole (roll-Indices d)) same_form (value_step y))
    (λ e y same_form. subst (λ d. NoHoles (roll-Reading d)) same_form (type_step y))

-- nor has the type that it widens to
pub no_hole_widened : (i : Indices) → is_value_whole i ≡ true → has_hole (R.Widened i) ≡ false
no_hole_widened i h = ap has_hole (sym (R.rolls-Widened i)) ∙ fold-roll-Reading Bool Bool value_holed type_holed (W.Widened i) ∙ no_hole i h
