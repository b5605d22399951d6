-- Values that are made of parts, and parts of values (Sail language manual, "Vectors", "Lists", "Structs", "Bitvectors").
use Rattle.std.specs.Prelude.{Bool, List, None, Option, Some, drop, false, if◌then◌else◌, length, map, nat_eq, nat_lt, pos, replicate, suc}
use Rattle.std.specs.Prelude.{take, zero, ℕ, [], ◌&&◌, ◌∷◌, ◌-◌}
use Rattle.sail_base.specs.declared.place.Place.{Place}
use Rattle.sail_types.specs.Sums.{constant}
use Rattle.sail_types.specs.declared.numbers.Index.{Index}
use Rattle.sail_types.specs.declared.numbers.Num.{Num}
use Rattle.sail_types.specs.declared.shapes.Shape.{Shape}
use Rattle.sail_types.specs.declared.types.Typ.{Typ}
use Rattle.sail_core.specs.declared.targets.Suffix.{Suffix}
use Rattle.sail_core.specs.declared.targets.Way.{Way}
use Rattle.sail_core.specs.declared.targets.Way.TheVariants as Y
use Rattle.value_indices.specs.Steps.{Walk, bind, give, next_variable, wrong}
use Rattle.value_indices.specs.declared.indices.Indices.{Indices, out-Indices}
use Rattle.value_indices.specs.declared.indices.Indices.TheOpen as W
use Rattle.value_indices.specs.declared.indices.Indices.TheOpen.{Indices-F, Reading-F}
use Rattle.value_indices.specs.declared.indices.Indices.TheVariants as I
use Rattle.value_indices.specs.declared.indices.Reading.{Reading, out-Reading}
use Rattle.value_indices.specs.declared.indices.Reading.TheVariants as R
use Rattle.value_fits.specs.Fitting.{fits, item_fits, owe_fit}
use Rattle.wide_types.specs.Widening.{filled}
use Rattle.pattern_leaves.specs.Settings.{Around, Scope}
use Rattle.call_arguments.specs.Aims.{aimed, each_under, item_type, of_wanted, part_types, wanted}
use Rattle.call_arguments.specs.Holes.{has_hole, without_holes}
use Rattle.call_notes.specs.Ends.{any_never, never_value, sized, wrong_value}
use Rattle.call_notes.specs.Noted.{node_ended}
use Rattle.call_arguments.specs.declared.aims.Aim.{Aim}
use Rattle.call_arguments.specs.declared.aims.Aim.TheVariants as Aims
use Rattle.expression_forms.specs.Ways.{fields_of, if_never_value, into_field, into_item, into_slice, is_struct, suffix_read, with_width}
use Rattle.expression_forms.specs.declared.ways.Ends.{Ends}
use Rattle.expression_forms.specs.declared.ways.Reached.{Reached}
use Rattle.expression_steps.specs.Calls.{named_made, part_aims}
use Rattle.expression_steps.specs.Filling.{any_holed, put_aim, put_ended, with_ended}
use Rattle.expression_steps.specs.Parts.{Part, each_walk, numbers_walk}

-- ---- tuples: the form around one owes for its parts

-- there is none where there is none of a part
abbrev pub tuple_indices : List Indices → Indices
tuple_indices is = if any_never is then I.Never else I.Tuple is

abbrev pub tuple_of : ℕ → List Indices → Walk Indices
tuple_of k is = node_ended k is (tuple_indices is)

abbrev pub tuple_aims : Aim → List Aim
tuple_aims aim = map (aimed Aims.PartOf) (of_wanted [] part_types (wanted aim))

abbrev pub tuple_walk : ℕ → List Part → Around → Scope → Aim → Walk Indices
tuple_walk k parts around scope aim = bind (each_walk parts around scope (tuple_aims aim)) (tuple_of k)

-- ---- vectors and lists: each item owes at itself

-- items of which a type is wanted
abbrev pub items_due : List Part → Around → Scope → Aim → Walk (List Indices)
items_due items around scope aim = each_walk items around scope (replicate (length items) aim)

abbrev pub item_owed : Around → Place → Reading → Indices → Walk (Unit {0})
item_owed around place r i = owe_fit place (fits around.types i r)

-- items of which none is wanted: the widened type of the first, which each owes
abbrev pub item_like : Part → Around → Scope → Reading → Walk Indices
item_like a around scope r = bind (a.walk around scope Aims.Free) (λ i. bind (item_owed around a.place r i) (λ t. give i))

abbrev pub items_like : List Part → Around → Scope → Reading → Walk (List Indices)
items_like [] around scope r = give []
items_like (a ∷ items) around scope r = bind (item_like a around scope r) (λ i. bind (items_like items around scope r) (λ is. give (i ∷ is)))

-- holes in it take what the literal's shape says; in one that is left is only what never ends
abbrev pub filled_here : Around → Shape → Indices → Walk Reading
filled_here around shape i = bind next_variable (λ m. filled around.types m shape i)

-- the type of items, and the items
abbrev pub Row : Type 0
Row = Reading × List Indices

abbrev pub first_like : List Part → Around → Scope → Place → Indices → Reading → Walk Row
first_like items around scope place i r =
    bind (item_owed around place (without_holes r) i) (λ t. bind (items_like items around scope (without_holes r)) (λ is. give (r, i ∷ is)))

abbrev pub first_free : Part → List Part → Around → Scope → Shape → Walk Row
first_free a items around scope shape =
    bind (a.walk around scope Aims.Free) (λ i. bind (filled_here around shape i) (first_like items around scope a.place i))

abbrev pub items_free : List Part → Around → Scope → Shape → Walk Row
items_free [] around scope shape = give (R.Hole, [])
items_free (a ∷ items) around scope shape = first_free a items around scope shape

abbrev pub items_wanted : List Part → Around → Scope → Reading → Walk Row
items_wanted items around scope r = bind (items_due items around scope (aimed Aims.Due r)) (λ is. give (r, is))

abbrev pub items_of : List Part → Around → Scope → Shape → Reading-F Indices Reading → Reading → Walk Row
items_of items around scope shape W.Hole r = items_free items around scope shape
items_of items around scope shape form r = items_wanted items around scope r

abbrev pub items_walk : List Part → Around → Scope → Shape → Reading → Walk Row
items_walk items around scope shape r = items_of items around scope shape (out-Reading r) r

abbrev pub wanted_item : Aim → Reading
wanted_item aim = of_wanted R.Hole item_type (wanted aim)

abbrev pub sized_vector : Place → Num → Reading → Walk Indices
sized_vector place n r = bind (sized place (I.Vector n r)) (λ t. give (I.Vector n r))

-- as long as there are items
abbrev pub vector_of : Place → ℕ → Row → Walk Indices
vector_of place k x = bind (sized_vector place (constant (pos (length x.1))) x.0) (node_ended k x.1)

abbrev pub vector_walk : Place → ℕ → Shape → List Part → Around → Scope → Aim → Walk Indices
vector_walk place k shape items around scope aim = bind (items_walk items around scope shape (wanted_item aim)) (vector_of place k)

abbrev pub sized_list : Place → Reading → Walk Indices
sized_list place r = bind (sized place (I.List r)) (λ t. give (I.List r))

abbrev pub list_of : Place → ℕ → Row → Walk Indices
list_of place k x = bind (sized_list place x.0) (node_ended k x.1)

abbrev pub list_walk : Place → ℕ → Shape → List Part → Around → Scope → Aim → Walk Indices
list_walk place k shape items around scope aim = bind (items_walk items around scope shape (wanted_item aim)) (list_of place k)

-- one of the two
abbrev pub row_of : Place → ℕ → Bool → Row → Walk Indices
row_of place k is_list x = if is_list then list_of place k x else vector_of place k x

abbrev pub row_walk : Place → ℕ → Bool → Shape → List Part → Around → Scope → Aim → Walk Indices
row_walk place k is_list shape items around scope aim = bind (items_walk items around scope shape (wanted_item aim)) (row_of place k is_list)

-- ---- `a :: b`

abbrev pub cons_due : ℕ → Part → Part → Around → Scope → Reading → Walk Indices
cons_due k a b around scope r =
    bind (a.walk around scope (aimed Aims.Due r)) (λ i.
    bind (b.walk around scope (Aims.Due (R.Widened (I.List r)))) (λ j. node_ended k (i ∷ j ∷ []) (I.List r)))

abbrev pub list_owing : Around → Place → Indices → Reading → Walk Indices
list_owing around place i r = bind (item_owed around place (without_holes r) i) (λ t. give (I.List r))

-- of that type, which the items of a list owe too
abbrev pub list_like : Around → Place → Indices → Reading → Reading → Walk Indices
list_like around place i r q = bind (owe_fit place (item_fits (fits around.types) r (without_holes q))) (λ t. list_owing around place i q)

-- a hole in the type of the items is filled by what stands before them, and by the shape
abbrev pub cons_filled : Around → Shape → Place → Indices → Reading → Walk Indices
cons_filled around shape place i r = bind (filled_here around shape i) (list_like around place i r)

abbrev pub cons_onto : Around → Shape → Place → Indices → Reading → Walk Indices
cons_onto around shape place i r = if has_hole r then cons_filled around shape place i r else list_owing around place i r

abbrev pub cons_before : Around → Shape → Place → Indices → Indices-F Indices Reading → Walk Indices
cons_before around shape place i (W.List r) = cons_onto around shape place i r
cons_before around shape place i W.Never = never_value
cons_before around shape place i form = wrong_value place

-- a list of which no type is wanted
abbrev pub cons_found : Around → Shape → Place → ℕ → Indices → Indices → Walk Indices
cons_found around shape place k i j = bind (cons_before around shape place i (out-Indices j)) (node_ended k (i ∷ j ∷ []))

abbrev pub cons_free : ℕ → Shape → Part → Part → Around → Scope → Walk Indices
cons_free k shape a b around scope =
    bind (a.walk around scope Aims.Free) (λ i. bind (b.walk around scope Aims.Free) (cons_found around shape a.place k i))

abbrev pub cons_of : ℕ → Shape → Part → Part → Around → Scope → Reading-F Indices Reading → Reading → Walk Indices
cons_of k shape a b around scope W.Hole r = cons_free k shape a b around scope
cons_of k shape a b around scope form r = cons_due k a b around scope r

abbrev pub cons_walk : ℕ → Shape → Part → Part → Around → Scope → Aim → Walk Indices
cons_walk k shape a b around scope aim = cons_of k shape a b around scope (out-Reading (wanted_item aim)) (wanted_item aim)

-- ---- structs: what is wanted of the values of fields, how many of them there are, and what is made of them

abbrev pub struct_aims : Around → ℕ → List ℕ → List Aim
struct_aims around u ks = part_aims None (fields_of around u ks)

abbrev pub struct_count : Around → ℕ → List ℕ → ℕ
struct_count around u ks = length (fields_of around u ks)

abbrev pub struct_made : Around → ℕ → ℕ → List ℕ → List Part → List Indices → Walk Indices
struct_made around k u ks parts is = bind (named_made around u parts None (fields_of around u ks) is) (node_ended k is)

abbrev pub struct_walk : ℕ → ℕ → List ℕ → List Part → Around → Scope → Walk Indices
struct_walk k u ks parts around scope =
    bind (each_walk (take (struct_count around u ks) parts) around scope (struct_aims around u ks)) (struct_made around k u ks parts)

abbrev pub due_aims : List Reading → List Aim
due_aims rs = map (aimed Aims.Due) rs

-- what is wanted of new values of fields of a struct: where a hole is among what its Type variables stand for, only what hangs on none
abbrev pub new_aims : List Typ → List Index → List Reading → List Aim
new_aims ts is rs = if any_holed rs then part_aims None ts else due_aims (each_under is rs ts)

-- whether each of these fields is there, of these types, and one of so many values for it
abbrev pub one_for_each : List ℕ → List Typ → ℕ → Bool
one_for_each ks ts n = nat_eq (length ks) (length ts) && nat_eq n (length ts)

abbrev pub some_aims : List ℕ → List Typ → ℕ → List Index → List Reading → Option (List Aim)
some_aims ks ts n is rs = if one_for_each ks ts n then Some (new_aims ts is rs) else None

-- of so many, if the value is of this struct
abbrev pub with_aims : Around → ℕ → List ℕ → ℕ → Indices-F Indices Reading → Option (List Aim)
with_aims around u ks n (W.Named v is rs) = if is_struct around u v rs then some_aims ks (fields_of around u ks) n is rs else None
with_aims around u ks n form = None

-- what a value gives that is not of this struct, or not with so many values
abbrev pub no_struct : Place → Indices-F Indices Reading → Walk Indices
no_struct place W.Never = never_value
no_struct place form = wrong_value place

abbrev pub with_behind : Place → ℕ → ℕ → List ℕ → List Part → Around → Scope → Indices → Option (List Aim) → Walk Indices
with_behind place k u ks parts around scope i None = no_struct place (out-Indices i)
with_behind place k u ks parts around scope i (Some aims) =
    bind (each_walk (take (length aims) parts) around scope aims) (with_ended around place k u ks i)

abbrev pub with_walk : Place → ℕ → ℕ → List ℕ → Part → List Part → Around → Scope → Walk Indices
with_walk place k u ks a parts around scope =
    bind (a.walk around scope Aims.Free) (λ i. with_behind place k u ks parts around scope i (with_aims around u ks (length parts) (out-Indices i)))

-- ---- ways into a value

-- how many indexes a way has
abbrev pub indexes_of : Way → ℕ
indexes_of (Y.Field u k) = 0
indexes_of Y.Item = 1
indexes_of Y.Slice = 2

abbrev pub slice_reached : Indices → Option Ends → Walk (Option Reached)
slice_reached i None = give None
slice_reached i (Some e) = give (into_slice e.high e.low e.width (out-Indices i))

-- a slice between two ends
abbrev pub slice_between : Indices → Num → Num → Walk (Option Reached)
slice_between i high low = bind (with_width high low) (slice_reached i)

-- the part that a way reaches by the numbers of its indexes, if there is such a part
abbrev pub reached_by : Around → Indices → Way → List Num → Walk (Option Reached)
reached_by around i (Y.Field u k) ns = give (into_field around u k (out-Indices i))
reached_by around i Y.Item (n ∷ []) = give (into_item n (out-Indices i))
reached_by around i Y.Slice (high ∷ low ∷ []) = slice_between i high low
reached_by around i way ns = give None

-- a part that a way reaches, and the parts of the expression that are left behind its indexes
pub record Taken : Type 0 where
  pub reached : Option Reached
  pub left : List Part

abbrev pub taken : Option Reached → List Part → Option Taken
taken x left = Some (record { reached = x; left = left })

abbrev pub way_taken : Around → Indices → Way → List Part → Option (List Num) → Walk (Option Taken)
way_taken around i way left None = give None
way_taken around i way left (Some ns) = bind (reached_by around i way ns) (λ x. give (taken x left))

abbrev pub no_way : Place → Walk (Option Taken)
no_way place = bind (wrong place) (λ t. give None)

-- none where an index gives no number
abbrev pub way_walk : Place → List Part → Around → Scope → Indices → Way → Walk (Option Taken)
way_walk place parts around scope i way =
    if nat_lt (length parts) (indexes_of way) then no_way place
    else bind (numbers_walk (take (indexes_of way) parts) around scope) (way_taken around i way (drop (indexes_of way) parts))

-- ---- parts that are read

-- a value on the way, and the parts of the expression that are left
pub record Passed : Type 0 where
  pub value : Indices
  pub left : List Part

abbrev pub passed : List Part → Indices → Option Passed
passed left i = Some (record { value = i; left = left })

-- a suffix of a target, or one that takes a part out
abbrev pub read_taken : Bool → Place → ℕ → Indices → Option Taken → Walk (Option Passed)
read_taken is_target place k i None = give None
read_taken is_target place k i (Some w) = bind (suffix_read is_target place k i w.reached) (λ j. give (passed w.left j))

abbrev pub suffix_walk : Bool → Suffix → List Part → Around → Scope → Indices → Walk (Option Passed)
suffix_walk is_target s parts around scope i = bind (way_walk s.place parts around scope i s.way) (read_taken is_target s.place s.number i)

abbrev pub then_on : {A : Type 0} → (List Part → Indices → Walk (Option A)) → Option Passed → Walk (Option A)
then_on next None = give None
then_on next (Some w) = next w.left w.value

abbrev pub suffixes_walk : Bool → List Suffix → Around → Scope → List Part → Indices → Walk (Option Passed)
suffixes_walk is_target [] around scope parts i = give (passed parts i)
suffixes_walk is_target (s ∷ ss) around scope parts i =
    bind (suffix_walk is_target s parts around scope i) (then_on (suffixes_walk is_target ss around scope))

abbrev pub value_on : Option Passed → Walk Indices
value_on None = never_value
value_on (Some w) = give w.value

-- how many of so many indexes are left behind those that suffixes take
abbrev pub left_after : List Suffix → ℕ → ℕ
left_after [] n = n
left_after (s ∷ ss) n = left_after ss (n - indexes_of s.way)

-- a value has no more indexes than its suffixes take, unless it never ends
abbrev pub suffixed : Place → List Suffix → List Part → Around → Scope → Indices → Walk Indices
suffixed place ss parts around scope i =
    if nat_eq (left_after ss (length parts)) 0 then bind (suffixes_walk false ss around scope parts i) value_on else if_never_value place i

abbrev pub part_walk : Place → List Suffix → Part → List Part → Around → Scope → Walk Indices
part_walk place ss a parts around scope = bind (a.walk around scope Aims.Free) (suffixed place ss parts around scope)

abbrev pub part_forms : Place → List Suffix → List Part → Around → Scope → Walk Indices
part_forms place ss [] around scope = wrong_value place
part_forms place ss (a ∷ parts) around scope = part_walk place ss a parts around scope

-- ---- `[v with i = e]`, `[v with h .. l = e]`

abbrev pub part_updated : Place → ℕ → Part → Around → Scope → Indices → Reached → Walk Indices
part_updated place k c around scope i x = bind (c.walk around scope (put_aim x.typ)) (put_ended around place k c.is_nested i x)

abbrev pub updated : Place → ℕ → Part → Around → Scope → Indices → Option Reached → Walk Indices
updated place k c around scope i None = if_never_value place i
updated place k c around scope i (Some x) = part_updated place k c around scope i x

abbrev pub numbers_updated : Place → ℕ → Way → Part → Around → Scope → Indices → Option (List Num) → Walk Indices
numbers_updated place k way c around scope i None = never_value
numbers_updated place k way c around scope i (Some ns) = bind (reached_by around i way ns) (updated place k c around scope i)

abbrev pub update_walk : Place → ℕ → Way → Part → List Part → Part → Around → Scope → Walk Indices
update_walk place k way a indexes c around scope =
    bind (a.walk around scope Aims.Free) (λ i. bind (numbers_walk indexes around scope) (numbers_updated place k way c around scope i))

-- a value, as many indexes as the way has, and what is put there
abbrev pub update_forms : Place → ℕ → Way → List Part → Around → Scope → Walk Indices
update_forms place k (Y.Field u f) (a ∷ c ∷ []) around scope = update_walk place k (Y.Field u f) a [] c around scope
update_forms place k Y.Item (a ∷ b ∷ c ∷ []) around scope = update_walk place k Y.Item a (b ∷ []) c around scope
update_forms place k Y.Slice (a ∷ b ∷ c ∷ d ∷ []) around scope = update_walk place k Y.Slice a (b ∷ c ∷ []) d around scope
update_forms place k way parts around scope = wrong_value place

-- ---- tuples and `a :: b`: what is wanted of the parts, of how many, and what is made of them

abbrev pub cons_aims : Reading-F Indices Reading → Reading → List Aim
cons_aims W.Hole r = []
cons_aims form r = aimed Aims.Due r ∷ Aims.Due (R.Widened (I.List r)) ∷ []

abbrev pub cons_made : Around → Shape → Place → ℕ → Reading-F Indices Reading → Reading → Indices → Indices → Walk Indices
cons_made around shape place k W.Hole r i j = cons_found around shape place k i j
cons_made around shape place k form r i j = node_ended k (i ∷ j ∷ []) (I.List r)

-- of two parts alone
abbrev pub cons_end : Around → Shape → Place → ℕ → Reading-F Indices Reading → Reading → List Part → List Indices → Walk Indices
cons_end around shape place k form r (a ∷ b ∷ []) (i ∷ j ∷ []) = cons_made around shape a.place k form r i j
cons_end around shape place k form r parts is = wrong_value place

abbrev pub cons_ended : Around → Shape → Place → ℕ → Reading → List Part → List Indices → Walk Indices
cons_ended around shape place k r parts is = cons_end around shape place k (out-Reading r) r parts is

abbrev pub two_or_none : ℕ → ℕ
two_or_none (suc (suc zero)) = 2
two_or_none n = 0
