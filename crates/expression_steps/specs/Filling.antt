-- Holes in the type of a value that is there, which new values of its parts fill (Sail language manual, "Structs", "Vectors").
use Rattle.std.specs.List.{list_any}
use Rattle.std.specs.Prelude.{Bool, List, None, Option, Some, false, if◌then◌else◌, length, map, ℕ, [], ◌∷◌, ◌||◌}
use Rattle.sail_base.specs.declared.place.Place.{Place}
use Rattle.sail_types.specs.declared.numbers.Index.{Index}
use Rattle.sail_types.specs.declared.numbers.Num.{Num}
use Rattle.sail_types.specs.declared.types.Typ.{Typ}
use Rattle.sail_types.specs.declared.types.Typ.TheVariants as Y
use Rattle.value_indices.specs.Steps.{Walk, bind, give, next_variable}
use Rattle.value_indices.specs.declared.indices.Indices.{Indices, out-Indices}
use Rattle.value_indices.specs.declared.indices.Indices.TheOpen as W
use Rattle.value_indices.specs.declared.indices.Indices.TheOpen.{Indices-F}
use Rattle.value_indices.specs.declared.indices.Indices.TheVariants as I
use Rattle.value_indices.specs.declared.indices.Reading.{Reading}
use Rattle.value_indices.specs.declared.indices.Reading.TheVariants as R
use Rattle.value_fits.specs.Fitting.{fits, owe_fit}
use Rattle.wide_types.specs.Widening.{widened}
use Rattle.pattern_leaves.specs.Settings.{Around}
use Rattle.call_arguments.specs.Aims.{aimed}
use Rattle.call_arguments.specs.Callees.{types_from}
use Rattle.call_arguments.specs.Holes.{has_hole, types_without_holes, without_holes}
use Rattle.call_notes.specs.Noted.{node_ended}
use Rattle.call_arguments.specs.declared.aims.Aim.{Aim}
use Rattle.call_arguments.specs.declared.aims.Aim.TheVariants as Aims
use Rattle.expression_forms.specs.Ways.{fields_of, owe_part, update_operands}
use Rattle.expression_forms.specs.declared.ways.Reached.{Reached}

-- whether one of these types has a hole
abbrev pub any_holed : List Reading → Bool
any_holed rs = list_any (λ b. b) (map has_hole rs)

-- a type, but where it has a hole and the other one has none, that
abbrev pub filled_or : Reading → Reading → Reading
filled_or r q = if has_hole q then r else (if has_hole r then q else r)

abbrev pub filled_at : Reading → Option Reading → Reading
filled_at r None = r
filled_at r (Some q) = filled_or r q

abbrev pub each_filled : List Reading → List Reading → List Reading
each_filled [] qs = []
each_filled (r ∷ rs) [] = filled_at r None ∷ each_filled rs []
each_filled (r ∷ rs) (q ∷ qs) = filled_at r (Some q) ∷ each_filled rs qs

-- ---- `{ e with f = v }`

-- what the Type variables of a struct stand for, once such values are those of fields of these types
abbrev pub types_behind : ℕ → List Typ → List Reading → List Indices → List Reading
types_behind m ts rs is = each_filled rs (types_from m 0 (length rs) ts is)

-- the values are of the fields' types, and what the struct was is of the type that it has with them: in a hole that is left is only what
-- never ends
abbrev pub refilled : Around → Place → List Typ → Indices → ℕ → List Index → List Reading → List Indices → Walk Indices
refilled around place ts i v js qs is =
    bind (owe_fit place (fits around.types (I.Tuple is) (R.Of (Y.Tuple ts) js (types_without_holes qs)))) (λ t.
    bind (owe_fit place (fits around.types i (R.Widened (I.Named v js (types_without_holes qs))))) (λ u. give (I.Named v js qs)))

abbrev pub with_filled : Around → Place → List Typ → Indices → List Indices → Indices-F Indices Reading → Walk Indices
with_filled around place ts i is (W.Named v js rs) = bind next_variable (λ m. refilled around place ts i v js (types_behind m ts rs is) is)
with_filled around place ts i is form = give i

abbrev pub struct_holed : Indices-F Indices Reading → Bool
struct_holed (W.Named v js rs) = any_holed rs
struct_holed form = false

-- else the struct is of the type that it was
abbrev pub with_made : Around → Place → ℕ → List ℕ → Indices → List Indices → Walk Indices
with_made around place u ks i is =
    if struct_holed (out-Indices i) then with_filled around place (fields_of around u ks) i is (out-Indices i) else give i

-- which the node of a number makes of it and of the new values
abbrev pub with_ended : Around → Place → ℕ → ℕ → List ℕ → Indices → List Indices → Walk Indices
with_ended around place k u ks i is = bind (with_made around place u ks i is) (node_ended k (i ∷ is))

-- ---- `[v with i = e]`

-- what is wanted of a part that is put in
abbrev pub put_aim : Reading → Aim
put_aim r = if has_hole r then Aims.Free else aimed Aims.Given r

-- items that are all of this type, which is what the new one says where it had a hole
abbrev pub items_filled : Around → Place → Indices → Num → Indices → Reading → Walk Indices
items_filled around place i n j q =
    bind (owe_fit place (fits around.types j (without_holes q))) (λ t.
    bind (owe_fit place (fits around.types i (R.Widened (I.Vector n (without_holes q))))) (λ u. give (I.Vector n q)))

abbrev pub part_holed : Around → Place → Indices → Reading → Indices → Indices-F Indices Reading → Walk Indices
part_holed around place i r j (W.Vector n s) = items_filled around place i n j (filled_or r (widened j))
part_holed around place i r j form = bind (owe_fit place (fits around.types j (without_holes r))) (λ t. give i)

abbrev pub part_behind : Around → Place → Indices → Reading → Indices → Walk Indices
part_behind around place i r j = if has_hole r then part_holed around place i r j (out-Indices i) else give i

-- a value, in which this one is put at such a part: what has a hole isn't owed as it is
abbrev pub part_put : Around → Place → Bool → Indices → Reached → Indices → Walk Indices
part_put around place is_nested i x j = bind (owe_part around place x (has_hole x.typ || is_nested) j) (λ t. part_behind around place i x.typ j)

-- which the node of a number makes of these
abbrev pub put_ended : Around → Place → ℕ → Bool → Indices → Reached → Indices → Walk Indices
put_ended around place k is_nested i x j = bind (part_put around place is_nested i x j) (node_ended k (update_operands i x j))
