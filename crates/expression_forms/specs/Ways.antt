-- Ways into values, and parts that are read (Sail language manual, "Structs", "Vectors", "Bitvectors").
use Rattle.std.specs.Prelude.{Bool, List, None, Option, Some, if◌then◌else◌, length, map, nat_eq, pos, slice_get, ℕ, [], ◌&&◌, ◌++◌, ◌∷◌}
use Rattle.sail_base.specs.declared.place.Place.{Place}
use Rattle.sail_types.specs.Named.{fields}
use Rattle.sail_types.specs.Sums.{and_then, constant, difference, sum, zero_num}
use Rattle.sail_types.specs.declared.numbers.Comparison.TheVariants as Is
use Rattle.sail_types.specs.declared.numbers.Con.{Con}
use Rattle.sail_types.specs.declared.numbers.Con.TheVariants as C
use Rattle.sail_types.specs.declared.numbers.Index.{Index}
use Rattle.sail_types.specs.declared.numbers.Num.{Num}
use Rattle.sail_types.specs.declared.table.Field.{Field}
use Rattle.sail_types.specs.declared.types.Typ.{Typ}
use Rattle.value_indices.specs.Opening.{at_most, number_or_fresh}
use Rattle.value_indices.specs.Steps.{Conditions, Walk, bind, give, owe}
use Rattle.value_indices.specs.declared.indices.Indices.{Indices}
use Rattle.value_indices.specs.declared.indices.Indices.TheOpen as W
use Rattle.value_indices.specs.declared.indices.Indices.TheOpen.{Indices-F}
use Rattle.value_indices.specs.declared.indices.Indices.TheVariants as I
use Rattle.value_indices.specs.declared.indices.Reading.{Reading}
use Rattle.value_indices.specs.declared.indices.Reading.TheVariants as R
use Rattle.value_fits.specs.Fitting.{also, owe_fit, says}
use Rattle.value_fits.specs.declared.fitted.Fitted.{Fitted}
use Rattle.wide_types.specs.Widening.{parameters_of}
use Rattle.pattern_leaves.specs.Settings.{Around}
use Rattle.call_arguments.specs.Callees.{type_parameters}
use Rattle.call_notes.specs.Ends.{fits_unless, is_never, never_value, opened_at, wrong_value}
use Rattle.call_notes.specs.Noted.{made_opened, node_given}
use Rattle.expression_forms.specs.declared.ways.Ends.{Ends}
use Rattle.expression_forms.specs.declared.ways.Reached.{Reached}

-- ---- fields

abbrev pub one_typ : Option Field → List Typ
one_typ None = []
one_typ (Some f) = f.typ ∷ []

abbrev pub field_typ : ℕ → List Field → List Typ
field_typ k fs = one_typ (slice_get fs k)

abbrev pub fields_at : List ℕ → Option (List Field) → List Typ
fields_at ks None = []
fields_at [] (Some fs) = []
fields_at (k ∷ ks) (Some fs) = field_typ k fs ++ fields_at ks (Some fs)

-- the types of these fields of a struct
abbrev pub fields_of : Around → ℕ → List ℕ → List Typ
fields_of around u ks = fields_at ks (fields around.types u)

-- ---- what has to be true for there to be such a part, the numbers of its indexes, and its type

abbrev pub reached : Conditions → List Num → Reading → Option Reached
reached cs ns r = Some (record { conditions = cs; numbers = ns; typ = r })

-- the indexes, as values
abbrev pub indexed : Reached → List Indices
indexed x = map (λ n. I.Integer n) x.numbers

abbrev pub less : Num → Num → Con
less t u = C.Compare Is.Less t u

-- `0 <= i & i < length`
abbrev pub inside_length : Num → Num → Conditions
inside_length i n = Some (at_most zero_num i) ∷ Some (less i n) ∷ []

-- `0 <= lo & lo <= hi & hi < length`
abbrev pub inside_slice : Num → Num → Num → Conditions
inside_slice hi lo n = Some (at_most zero_num lo) ∷ Some (at_most lo hi) ∷ Some (less hi n) ∷ []

-- `hi - lo + 1`
abbrev pub slice_width : Num → Num → Option Num
slice_width hi lo = and_then (difference hi lo) (λ d. sum d (constant (pos 1)))

-- the two ends of a slice, the higher first, and its width
abbrev pub ends : Num → Num → Num → Ends
ends high low width = record { high = high; low = low; width = width }

abbrev pub with_width : Num → Num → Walk (Option Ends)
with_width high low = bind (number_or_fresh (slice_width high low)) (λ w. give (Some (ends high low w)))

-- how many Type variables the named type of this place in the table has
abbrev pub types_in : Around → ℕ → ℕ
types_in around u = type_parameters (parameters_of (slice_get around.types.definitions u))

-- whether a value of the named type `v` with these Type arguments is of the struct `u`
abbrev pub is_struct : Around → ℕ → ℕ → List Reading → Bool
is_struct around u v rs = nat_eq u v && nat_eq (length rs) (types_in around u)

abbrev pub field_reached : List Typ → List Index → List Reading → Option Reached
field_reached (t ∷ ts) is rs = reached [] [] (R.Of t is rs)
field_reached [] is rs = None

-- of a value of its own struct
abbrev pub into_field : Around → ℕ → ℕ → Indices-F Indices Reading → Option Reached
into_field around u k (W.Named v is rs) = if is_struct around u v rs then field_reached (fields_of around u (k ∷ [])) is rs else None
into_field around u k form = None

abbrev pub into_item : Num → Indices-F Indices Reading → Option Reached
into_item i (W.Bits n) = reached (inside_length i n) (i ∷ []) (R.Widened I.Bit)
into_item i (W.Vector n r) = reached (inside_length i n) (i ∷ []) r
into_item i form = None

abbrev pub into_slice : Num → Num → Num → Indices-F Indices Reading → Option Reached
into_slice hi lo width (W.Bits n) = reached (inside_slice hi lo n) (hi ∷ lo ∷ []) (R.Widened (I.Bits width))
into_slice hi lo width form = None

-- ---- parts that are read: each owes, and is opened

abbrev pub if_never_value : Place → Indices → Walk Indices
if_never_value place i = if is_never i then never_value else wrong_value place

abbrev pub part_read : Place → Reached → Walk Indices
part_read place x = bind (owe place x.conditions) (λ t. opened_at place x.typ)

abbrev pub read_into : Place → Indices → Option Reached → Walk Indices
read_into place i None = if_never_value place i
read_into place i (Some x) = part_read place x

-- by the node of a number, of these operands
abbrev pub part_made : Place → ℕ → List Indices → Reached → Walk Indices
part_made place k is x = bind (owe place x.conditions) (λ t. made_opened place k is x.typ)

-- a suffix takes a part out of a value, and gives its numbers
abbrev pub taken_out : Place → ℕ → Indices → Option Reached → Walk Indices
taken_out place k i None = if_never_value place i
taken_out place k i (Some x) = bind (part_made place k (i ∷ indexed x) x) (node_given k)

-- a suffix of a target makes nothing: it is a way to what is written
abbrev pub suffix_read : Bool → Place → ℕ → Indices → Option Reached → Walk Indices
suffix_read is_target place k i x = if is_target then read_into place i x else taken_out place k i x

-- ---- parts that get a value

-- that there is such a part, and that the value is of its type, unless it owes that itself
abbrev pub part_fits : Around → Reached → Bool → Indices → ℕ → Fitted
part_fits around x is_nested j n = also (says x.conditions n) (fits_unless is_nested around j x.typ)

abbrev pub owe_part : Around → Place → Reached → Bool → Indices → Walk (Unit {0})
owe_part around place x is_nested j = owe_fit place (part_fits around x is_nested j)

-- what a value with another part is made of
abbrev pub update_operands : Indices → Reached → Indices → List Indices
update_operands i x j = i ∷ indexed x ++ j ∷ []
