-- The value at which a register of a type starts, and which types have one.
use Rattle.std.specs.Prelude.{ℕ, zero, suc, ◌^◌, ◌-◌, ℤ, pos, negsuc, int_le, int_lt, Bool, true, false, List, [], ◌∷◌, map, replicate}
use Rattle.std.specs.Prelude.{slice_get, Option, Some, None, option_map, if◌then◌else◌}
use Rattle.sail_types.specs.Limits.{is_small, is_width, is_length}
use Rattle.sail_types.specs.Named.{in_form, field_types}
use Rattle.sail_types.specs.Readings.{read_indices, together}
use Rattle.sail_types.specs.Sums.{and_then, constant_of, is_constant, read}
use Rattle.sail_types.specs.declared.numbers.Index.{Index}
use Rattle.sail_types.specs.declared.numbers.Num.{Num}
use Rattle.sail_types.specs.declared.table.Form.{Form}
use Rattle.sail_types.specs.declared.table.Form.TheVariants as F
use Rattle.sail_types.specs.declared.table.Types.{Types}
use Rattle.sail_types.specs.declared.types.Typ.{Typ, Typ-F, out-Typ}
use Rattle.sail_types.specs.declared.types.Typ.TheOpen as T
use Rattle.sail_types.specs.declared.values.Value.{Value}
use Rattle.sail_types.specs.declared.values.Value.TheVariants as V

abbrev pub only_if : Bool → Value → Option Value
only_if true v = Some v
only_if false v = None

-- zero bits
abbrev pub zero_bits : ℤ → Option Value
zero_bits (pos n) = only_if (is_width n) (V.Bits (replicate n false))
zero_bits (negsuc n) = None

-- the integer from a to b that is nearest to 0
abbrev pub nearest : ℤ → ℤ → ℤ
nearest a b = if int_lt (pos 0) a then a else (if int_lt b (pos 0) then b else pos 0)

abbrev pub zero_range : ℤ → ℤ → Option Value
zero_range a b = if int_le a b then only_if (is_small (nearest a b)) (V.Integer (nearest a b)) else None

abbrev pub repeated : ℕ → Value → Option Value
repeated n item = only_if (is_length n) (V.Vector (replicate n item))

abbrev pub zero_vector : ℤ → Value → Option Value
zero_vector (pos n) item = repeated n item
zero_vector (negsuc n) item = None

abbrev pub constant_value : Num → Option ℤ
constant_value n = if is_constant n then Some (constant_of n) else None

-- the integer that a number is under these arguments, where it is constant
abbrev pub known : List Index → Num → Option ℤ
known indices n = and_then (read indices n) constant_value

-- a type inside another, asked for its zero under what its Int and Bool variables stand for, and the zeros of what its Type
-- variables stand for
abbrev pub Asked : Type 0
Asked = List Index → List (Option Value) → Option Value

-- the zeros of types in order, where each has one
abbrev pub each_zero : List Asked → List Index → List (Option Value) → List (Option Value)
each_zero [] indices zeros = []
each_zero (t ∷ ts) indices zeros = t indices zeros ∷ each_zero ts indices zeros

abbrev pub field_zeros : (Typ → Asked) → List Typ → List Index → List (Option Value) → List (Option Value)
field_zeros zero_typ ts indices zeros = each_zero (map zero_typ ts) indices zeros

-- the first member of an enum
abbrev pub first_of : ℕ → List (List ℕ) → Option Value
first_of i [] = None
first_of i (m ∷ ms) = Some (V.Member i 0)

-- the zero of a struct, part by part, or of an enum: its first member
abbrev pub zero_named : (Typ → Asked) → ℕ → List Index → List (Option Value) → Form → Option Value
zero_named zero_typ i indices zeros (F.Struct fields) =
    option_map (V.Struct i) (together (field_zeros zero_typ (field_types fields) indices zeros))
zero_named zero_typ i indices zeros (F.Union constructors) = None
zero_named zero_typ i indices zeros (F.Enum members) = first_of i members

-- the zero of the struct or enum at a place in the table
abbrev pub zero_in_table : (Typ → Asked) → Types → ℕ → List Index → List (Option Value) → Option Value
zero_in_table zero_typ types i indices zeros = in_form None (zero_named zero_typ i indices zeros) (slice_get types.definitions i)

abbrev pub zero_at : List (Option Value) → ℕ → Option Value
zero_at zeros i = and_then (slice_get zeros i) (λ z. z)

-- a type of this form; `zero_typ` is for the types inside it
abbrev pub form_zero : Types → (Typ → Asked) → Typ-F Typ → Asked
form_zero types zero_typ T.Unit indices zeros = Some V.Unit
form_zero types zero_typ T.Bool indices zeros = Some (V.Truth false)
form_zero types zero_typ T.Bit indices zeros = Some (V.Bit false)
form_zero types zero_typ (T.Bits t) indices zeros = and_then (known indices t) zero_bits
form_zero types zero_typ (T.Range t u) indices zeros = and_then (known indices t) (λ a. and_then (known indices u) (zero_range a))
form_zero types zero_typ (T.Vector n t) indices zeros = and_then (known indices n) (λ k. and_then (zero_typ t indices zeros) (zero_vector k))
form_zero types zero_typ (T.Tuple ts) indices zeros = option_map V.Tuple (together (each_zero (map zero_typ ts) indices zeros))
form_zero types zero_typ (T.Named i arguments ts) indices zeros =
    and_then (read_indices indices arguments) (λ is. zero_in_table zero_typ types i is (each_zero (map zero_typ ts) indices zeros))
form_zero types zero_typ (T.Variable i) indices zeros = zero_at zeros i
form_zero types zero_typ t indices zeros = None

-- the zero, through types inside types to this depth
abbrev pub zero_within : Types → ℕ → Typ → Asked
zero_within types zero t indices zeros = None
zero_within types (suc depth) t indices zeros = form_zero types (zero_within types depth) (out-Typ t) indices zeros

-- deeper than types can stand inside one another in memory
unfoldable pub deepest : ℕ
deepest = 2 ^ 64 - 1

-- the zero of a type without variables; none where it has none
abbrev pub zero_of : Types → Typ → Option Value
zero_of types t = zero_within types deepest t [] []
