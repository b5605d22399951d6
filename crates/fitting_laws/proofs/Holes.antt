-- Types without holes.
use Rattle.std.proofs.Common.{◌≡◌, ℕ, zero, suc, Bool, false, List, [], ◌∷◌, map, slice_get, None, Some, refl, sym, ap, ◌∙◌, subst}
use Rattle.std.specs.List.{list_any}
use Rattle.std.proofs.lemmas.Bool.{or_from, or_parts}
use Rattle.sail_types.proofs.SumNumbers.{some_same}
use Rattle.sail_types.specs.declared.numbers.Index.{Index}
use Rattle.sail_types.specs.declared.types.Typ.{Typ}
use Rattle.value_indices.specs.declared.indices.Indices.{Indices, roll-Indices}
use Rattle.value_indices.specs.declared.indices.Indices.TheFolds.{fold-roll-Indices, fold-roll-Reading, map-Indices, map-Reading}
use Rattle.value_indices.specs.declared.indices.Indices.TheOpen as W
use Rattle.value_indices.specs.declared.indices.Indices.TheOpen.{Indices-F, Reading-F}
use Rattle.value_indices.specs.declared.indices.Reading.{Reading, roll-Reading}
use Rattle.value_indices.specs.declared.indices.Reading.TheVariants as R
use Rattle.value_fits.specs.Fitting.{each_under}
use Rattle.call_arguments.specs.Holes.{has_hole, type_holed, value_has_hole, value_holed}

pub none : {A B : Type 0} {x : A} → None ≡ Some x → B
none h = absurd (cc)

-- none of them has a hole
abbrev pub Full : List Reading → Type 0
Full rs = list_any (λ b. b) (map has_hole rs) ≡ false

pub hole_is : (r : Reading) (x : Reading-F Indices Reading) → roll-Reading x ≡ r
    → has_hole r ≡ type_holed (map-Reading Indices Reading Bool Bool value_has_hole has_hole x)
hole_is r x e = ap has_hole (sym e) ∙ fold-roll-Reading Bool Bool value_holed type_holed x

pub value_hole_is : (i : Indices) (x : Indices-F Indices Reading) → roll-Indices x ≡ i
    → value_has_hole i ≡ value_holed (map-Indices Indices Reading Bool Bool value_has_hole has_hole x)
value_hole_is i x e = ap value_has_hole (sym e) ∙ fold-roll-Indices Bool Bool value_holed type_holed x

pub first_full : (r : Reading) (rs : List Reading) → Full (r ∷ rs) → (has_hole r ≡ false) × Full rs
first_full r rs h = or_parts (has_hole r) (list_any (λ b. b) (map has_hole rs)) h

pub first_whole : (i : Indices) (is : List Indices) → list_any (λ b. b) (map value_has_hole (i ∷ is)) ≡ false
    → (value_has_hole i ≡ false) × (list_any (λ b. b) (map value_has_hole is) ≡ false)
first_whole i is h = or_parts (value_has_hole i) (list_any (λ b. b) (map value_has_hole is)) h

pub of_full : (t : Typ) (is : List Index) (rs : List Reading) → Full rs → has_hole (R.Of t is rs) ≡ false
of_full t is rs h = hole_is (R.Of t is rs) (W.Of t is rs) (R.rolls-Of t is rs) ∙ h

pub widened_full : (i : Indices) → value_has_hole i ≡ false → has_hole (R.Widened i) ≡ false
widened_full i h = hole_is (R.Widened i) (W.Widened i) (R.rolls-Widened i) ∙ h

pub each_full : (is : List Index) (rs : List Reading) (ts : List Typ) → Full rs → Full (each_under is rs ts)
each_full is rs [] h = refl
each_full is rs (t ∷ ts) h =
    or_from (has_hole (R.Of t is rs)) (list_any (λ b. b) (map has_hole (each_under is rs ts))) (of_full t is rs h) (each_full is rs ts h)

pub full_at : (rs : List Reading) (k : ℕ) (r : Reading) → slice_get rs k ≡ Some r → Full rs → has_hole r ≡ false
full_at [] k r e h = none e
full_at (q ∷ qs) zero r e h = subst (λ x. has_hole x ≡ false) (some_same q r e) (first_full q qs h).0
full_at (q ∷ qs) (suc k) r e h = full_at qs k r e (first_full q qs h).1
