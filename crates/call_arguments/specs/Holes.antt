-- Types with holes, of which nothing is known: that of the items of an empty list, and of the payload of `None()` (Sail language manual,
-- "Polymorphic functions").
use Rattle.std.specs.List.{list_any}
use Rattle.std.specs.Prelude.{Bool, List, None, Option, Some, false, if◌then◌else◌, map, true}
use Rattle.value_indices.specs.declared.indices.Indices.TheOpen as W
use Rattle.value_indices.specs.declared.indices.Indices.TheOpen.{Indices-F, Reading-F}
use Rattle.value_indices.specs.declared.indices.Indices.TheVariants as I
use Rattle.value_indices.specs.declared.indices.Indices.{Indices, fold-Indices, roll-Indices}
use Rattle.value_indices.specs.declared.indices.Reading.TheVariants as R
use Rattle.value_indices.specs.declared.indices.Reading.{Reading, fold-Reading, roll-Reading}

abbrev pub value_holed : Indices-F Bool Bool → Bool
value_holed (W.List b) = b
value_holed (W.Vector n b) = b
value_holed (W.Tuple bs) = list_any (λ b. b) bs
value_holed (W.Named u is bs) = list_any (λ b. b) bs
value_holed form = false

abbrev pub type_holed : Reading-F Bool Bool → Bool
type_holed (W.Of t is bs) = list_any (λ b. b) bs
type_holed (W.Widened b) = b
type_holed (W.Parts bs) = list_any (λ b. b) bs
type_holed W.Hole = true

-- whether a type has a hole inside, and whether the type of a value does
abbrev pub has_hole : Reading → Bool
has_hole = fold-Reading Bool Bool value_holed type_holed

abbrev pub value_has_hole : Indices → Bool
value_has_hole = fold-Indices Bool Bool value_holed type_holed

-- of what two places give the first, unless it has a hole inside and the second has none
abbrev pub fuller_if : Bool → Reading → Option Reading → Option Reading
fuller_if false r o = Some r
fuller_if true r None = Some r
fuller_if true r (Some q) = if has_hole q then Some r else Some q

abbrev pub fuller : Option Reading → Option Reading → Option Reading
fuller None o = o
fuller (Some r) o = fuller_if (has_hole r) r o

-- ---- what arguments owe: of a hole of what stands for a Type variable is only what never ends

abbrev pub value_filled : Indices-F Indices Reading → Indices
value_filled i = roll-Indices i

abbrev pub type_filled : Reading-F Indices Reading → Reading
type_filled W.Hole = R.Widened I.Never
type_filled r = roll-Reading r

-- the same type with that of what never ends in the place of each hole
abbrev pub without_holes : Reading → Reading
without_holes = fold-Reading Indices Reading value_filled type_filled

abbrev pub value_without_holes : Indices → Indices
value_without_holes = fold-Indices Indices Reading value_filled type_filled

abbrev pub types_without_holes : List Reading → List Reading
types_without_holes rs = map without_holes rs
