-- Which values belong to the types of slots, the zeros of these types, and constants.
use Rattle.std.specs.Prelude.{ℕ, zero, suc, ◌&&◌, nat_eq, nat_lt, pos, Bool, true, false, cond, List, [], ◌∷◌, map, length, replicate}
use Rattle.std.specs.Prelude.{Option, Some, None, slice_get}
use Rattle.std.specs.List.{list_all}
use Rattle.sail_types.specs.Limits.{is_small}
use Rattle.sail_types.specs.declared.values.Value.{Value, Value-F, fold-Value}
use Rattle.sail_types.specs.declared.values.Value.TheOpen as W
use Rattle.sail_types.specs.declared.values.Value.TheVariants as V
use Rattle.jib.specs.declared.types.ValueType.{ValueType}
use Rattle.jib.specs.declared.types.ValueType.TheVariants as T
use Rattle.jib.specs.declared.code.Literal.{Literal}
use Rattle.jib.specs.declared.code.Literal.TheVariants as L

-- ---- which values belong to a type, by its number in the table

-- a value, asked whether it belongs to a type
abbrev pub Asked : Type 0
Asked = ℕ → Bool

-- values, each of the type in its place
abbrev pub each_has : List Asked → List ℕ → Bool
each_has [] [] = true
each_has (v ∷ vs) (t ∷ ts) = v t && each_has vs ts
each_has vs ts = false

abbrev pub payload_has : Asked → Option ℕ → Bool
payload_has v None = false
payload_has v (Some t) = v t

abbrev pub form_has : Value-F Asked → ValueType → Bool
form_has W.Unit T.Unit = true
form_has (W.Integer z) T.Integer = is_small z
form_has (W.Truth b) T.Truth = true
form_has (W.Bit b) T.Bit = true
form_has (W.Bits bits) (T.Bits w) = nat_eq (length bits) w
form_has (W.String text) T.String = true
form_has (W.Member i k) (T.Enum j n) = nat_eq i j && nat_lt k n
form_has (W.List vs) (T.List t) = list_all (λ v. v t) vs
form_has (W.Vector vs) (T.Vector n t) = nat_eq (length vs) n && list_all (λ v. v t) vs
form_has (W.Tuple vs) (T.Tuple ts) = each_has vs ts
form_has (W.Struct i vs) (T.Struct j ts) = nat_eq i j && each_has vs ts
form_has (W.Union i k v) (T.Union j ts) = nat_eq i j && payload_has v (slice_get ts k)
form_has v t = false

abbrev pub is_of : Value-F Asked → Option ValueType → Bool
is_of v None = false
is_of v (Some t) = form_has v t

-- whether a value belongs to the type of this number
abbrev pub has : List ValueType → Value → ℕ → Bool
has ts = fold-Value Asked (λ v k. is_of v (slice_get ts k))

-- ---- the zero of a type

-- the first constructor of a union over a zero
abbrev pub first_constructor : (ℕ → Value) → ℕ → List ℕ → Value
first_constructor zero_at i [] = V.Unit
first_constructor zero_at i (t ∷ ts) = V.Union i 0 (zero_at t)

-- 0, false, the empty list or text, the first member or constructor, and each part's zero
abbrev pub form_zero : (ℕ → Value) → ValueType → Value
form_zero zero_at T.Unit = V.Unit
form_zero zero_at T.Integer = V.Integer (pos 0)
form_zero zero_at T.Truth = V.Truth false
form_zero zero_at T.Bit = V.Bit false
form_zero zero_at (T.Bits w) = V.Bits (replicate w false)
form_zero zero_at T.String = V.String []
form_zero zero_at (T.Enum i n) = V.Member i 0
form_zero zero_at (T.List t) = V.List []
form_zero zero_at (T.Vector n t) = V.Vector (replicate n (zero_at t))
form_zero zero_at (T.Tuple ts) = V.Tuple (map zero_at ts)
form_zero zero_at (T.Struct i ts) = V.Struct i (map zero_at ts)
form_zero zero_at (T.Union i ts) = first_constructor zero_at i ts

abbrev pub zero_form : (ℕ → Value) → Option ValueType → Value
zero_form zero_at None = V.Unit
zero_form zero_at (Some t) = form_zero zero_at t

-- through types inside types to this depth
abbrev pub zero_within : List ValueType → ℕ → ℕ → Value
zero_within ts zero k = V.Unit
zero_within ts (suc depth) k = zero_form (zero_within ts depth) (slice_get ts k)

-- the zero of the type of this number; the types inside one stand before it, so none is deeper than the table is long
abbrev pub zero_of : List ValueType → ℕ → Value
zero_of ts k = zero_within ts (length ts) k

-- what a slot of this type takes: the value, or the zero where the value doesn't belong to the type
abbrev pub fit : List ValueType → ℕ → Value → Value
fit ts k v = cond (has ts v k) v (zero_of ts k)

-- ---- constants

abbrev pub literal_value : Literal → Value
literal_value L.Unit = V.Unit
literal_value (L.Integer z) = V.Integer z
literal_value (L.Truth b) = V.Truth b
literal_value (L.Bit b) = V.Bit b
literal_value (L.Bits bits) = V.Bits bits
literal_value (L.String text) = V.String text
literal_value (L.Member i k) = V.Member i k
