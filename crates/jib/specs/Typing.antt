-- The types of what instructions read and write, by their numbers in the module's table.
use Rattle.std.specs.Prelude.{ℕ, ◌&&◌, nat_eq, nat_lt, Bool, true, false, cond, List, Option, Some, None, slice_get, length}
use Rattle.sail_types.specs.Limits.{is_small}
use Rattle.jib.specs.declared.types.ValueType.{ValueType}
use Rattle.jib.specs.declared.types.ValueType.TheVariants as T
use Rattle.jib.specs.declared.types.Sort.{Sort}
use Rattle.jib.specs.declared.types.Sort.TheVariants as S
use Rattle.jib.specs.declared.code.Literal.{Literal}
use Rattle.jib.specs.declared.code.Literal.TheVariants as L
use Rattle.jib.specs.declared.code.Source.{Source}
use Rattle.jib.specs.declared.code.Source.TheVariants as R
use Rattle.jib.specs.declared.code.Target.{Target}
use Rattle.jib.specs.declared.code.Target.TheVariants as G
use Rattle.jib.specs.declared.code.Function.{Function}
use Rattle.jib.specs.declared.code.Opening.{Opening}
use Rattle.jib.specs.declared.code.Module.{Module}
use Rattle.jib.specs.Sorts.{sort_of, sort_eq, part_of, payload_of}

-- both are there, and they are the same
abbrev pub same : Option ℕ → Option ℕ → Bool
same None o = false
same (Some a) None = false
same (Some a) (Some b) = nat_eq a b

abbrev pub typ_at : Module → Option ℕ → Option ValueType
typ_at m None = None
typ_at m (Some k) = slice_get m.types k

abbrev pub sort_some : Option ValueType → Option Sort
sort_some None = None
sort_some (Some t) = Some (sort_of t)

abbrev pub sort_at : Module → Option ℕ → Option Sort
sort_at m o = sort_some (typ_at m o)

abbrev pub is_some_sort : Option Sort → Sort → Bool
is_some_sort None s = false
is_some_sort (Some r) s = sort_eq r s

abbrev pub is_sort : Module → Option ℕ → Sort → Bool
is_sort m o s = is_some_sort (sort_at m o) s

abbrev pub part_some : ℕ → Option ValueType → Option ℕ
part_some k None = None
part_some k (Some t) = part_of k t

-- the type of a part of a tuple or a struct
abbrev pub part_typ : Module → Option ℕ → ℕ → Option ℕ
part_typ m o k = part_some k (typ_at m o)

abbrev pub payload_some : ℕ → Option ValueType → Option ℕ
payload_some k None = None
payload_some k (Some t) = payload_of k t

-- the type of a constructor's payload
abbrev pub payload_typ : Module → Option ℕ → ℕ → Option ℕ
payload_typ m o k = payload_some k (typ_at m o)

abbrev pub item_is : Module → Option ℕ → ValueType → Bool
item_is m o (T.Bits w) = is_sort m o S.Bit
item_is m o (T.List t) = same o (Some t)
item_is m o (T.Vector n t) = same o (Some t)
item_is m o t = false

abbrev pub item_some : Module → Option ℕ → Option ValueType → Bool
item_some m o None = false
item_some m o (Some t) = item_is m o t

-- the first is the type of the items of the second; a word's items are bits
abbrev pub is_item : Module → Option ℕ → Option ℕ → Bool
is_item m o whole = item_some m o (typ_at m whole)

-- ---- sources and targets

-- whether a constant belongs to a type
abbrev pub literal_has : ValueType → Literal → Bool
literal_has T.Unit L.Unit = true
literal_has T.Integer (L.Integer z) = is_small z
literal_has T.Truth (L.Truth b) = true
literal_has T.Bit (L.Bit b) = true
literal_has (T.Bits w) (L.Bits bits) = nat_eq (length bits) w
literal_has T.String (L.String text) = true
literal_has (T.Enum i n) (L.Member j k) = nat_eq j i && nat_lt k n
literal_has t l = false

abbrev pub literal_some : Option ValueType → Literal → Bool
literal_some None l = false
literal_some (Some t) l = literal_has t l

-- a constant is of the type that stands with it, where it belongs to it
abbrev pub literal_typ : Module → ℕ → Literal → Option ℕ
literal_typ m k l = cond (literal_some (slice_get m.types k) l) (Some k) None

abbrev pub result_some : Option Function → Option ℕ
result_some None = None
result_some (Some f) = Some f.result

abbrev pub opening_typ : Module → Option Opening → Option ℕ
opening_typ m None = None
opening_typ m (Some o) = result_some (slice_get m.functions o.function)

-- a function reads so many of the openings, from the first on
abbrev pub let_typ : Module → Function → ℕ → Option ℕ
let_typ m f k = cond (nat_lt k f.lets) (opening_typ m (slice_get m.openings k)) None

abbrev pub source_typ : Module → Function → Source → Option ℕ
source_typ m f (R.Slot i) = slice_get f.slots i
source_typ m f (R.Register i) = slice_get m.registers i
source_typ m f (R.Let k) = let_typ m f k
source_typ m f (R.Constant k l) = literal_typ m k l

abbrev pub target_typ : Module → Function → Target → Option ℕ
target_typ m f (G.Slot i) = slice_get f.slots i
target_typ m f (G.Register i) = slice_get m.registers i

abbrev pub some_typ : Module → Function → Option Source → Option ℕ
some_typ m f None = None
some_typ m f (Some a) = source_typ m f a

-- the type of the operand of this place
abbrev pub operand_typ : Module → Function → List Source → ℕ → Option ℕ
operand_typ m f rs k = some_typ m f (slice_get rs k)
