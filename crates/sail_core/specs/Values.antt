-- Literals, and the parts of values: how they are taken out and replaced (Sail language manual, "Bitvectors", "Vectors", "Structs").
use Rattle.std.specs.Prelude.{ℕ, suc, ◌-◌, nat_eq, nat_lt, nat_le, ℤ, pos, negsuc, Bool, ◌&&◌, if◌then◌else◌}
use Rattle.std.specs.Prelude.{List, [], ◌∷◌, ◌++◌, length, take, drop, map, reverse, slice_get, slice_set, Option, Some, None, option_map}
use Rattle.sail_types.specs.Limits.{is_length}
use Rattle.sail_types.specs.Sums.{and_then, constant}
use Rattle.sail_types.specs.declared.values.Value.{Value, Value-F, out-Value}
use Rattle.sail_types.specs.declared.values.Value.TheOpen as W
use Rattle.sail_types.specs.declared.values.Value.TheVariants as V
use Rattle.sail_types.specs.declared.types.Typ.{Typ}
use Rattle.sail_types.specs.declared.types.Typ.TheVariants as T
use Rattle.row_types.specs.Formulas.{least, most}
use Rattle.sail_core.specs.declared.patterns.Literal.{Literal}
use Rattle.sail_core.specs.declared.patterns.Literal.TheVariants as L

-- ---- literals

abbrev pub literal_value : Literal → Value
literal_value L.Unit = V.Unit
literal_value (L.Integer z) = V.Integer z
literal_value (L.Truth b) = V.Truth b
literal_value (L.Bit b) = V.Bit b
literal_value (L.Bits bs) = V.Bits bs
literal_value (L.String text) = V.String text
literal_value (L.Member e k) = V.Member e k

-- `int`
abbrev pub int_typ : Typ
int_typ = T.Range (constant least) (constant most)

abbrev pub bits_typ : ℕ → Typ
bits_typ n = T.Bits (constant (pos n))

-- a type that it has, without a variable
abbrev pub literal_typ : Literal → Typ
literal_typ L.Unit = T.Unit
literal_typ (L.Integer z) = int_typ
literal_typ (L.Truth b) = T.Bool
literal_typ (L.Bit b) = T.Bit
literal_typ (L.Bits bs) = bits_typ (length bs)
literal_typ (L.String text) = T.String
literal_typ (L.Member e k) = T.Named e [] []

-- ---- values of one form

abbrev pub form_integer : Value-F Value → Option ℤ
form_integer (W.Integer z) = Some z
form_integer v = None

abbrev pub form_truth : Value-F Value → Option Bool
form_truth (W.Truth b) = Some b
form_truth v = None

abbrev pub form_parts : Value-F Value → Option (List Value)
form_parts (W.Tuple vs) = Some vs
form_parts v = None

abbrev pub form_items : Value-F Value → Option (List Value)
form_items (W.List vs) = Some vs
form_items v = None

abbrev pub integer_in : Value → Option ℤ
integer_in v = form_integer (out-Value v)

abbrev pub truth_in : Value → Option Bool
truth_in v = form_truth (out-Value v)

-- the parts of a tuple, the items of a list
abbrev pub parts_in : Value → Option (List Value)
parts_in v = form_parts (out-Value v)

abbrev pub items_in : Value → Option (List Value)
items_in v = form_items (out-Value v)

abbrev pub natural_of : ℤ → Option ℕ
natural_of (pos n) = Some n
natural_of (negsuc n) = None

-- the payload that a constructor makes of its arguments: several are a tuple
abbrev pub payload_of : List Value → Value
payload_of [] = V.Unit
payload_of (v ∷ []) = v
payload_of vs = V.Tuple vs

-- ---- ways into values

-- the part of a value, and the value with another one in its place
pub record Into : Type 0 where
  pub take_out : Value → Option Value
  pub put_in : Value → Value → Option Value

abbrev pub set_at : List Value → ℕ → Value → Option (List Value)
set_at vs i v = if nat_lt i (length vs) then Some (slice_set vs i v) else None

abbrev pub field : ℕ → ℕ → Value-F Value → Option Value
field struct i (W.Struct s vs) = if nat_eq s struct then slice_get vs i else None
field struct i v = None

abbrev pub with_field : ℕ → ℕ → Value-F Value → Value → Option Value
with_field struct i (W.Struct s vs) v = if nat_eq s struct then option_map (V.Struct s) (set_at vs i v) else None
with_field struct i old v = None

-- index 0 is the least significant bit, and the last item that is written
abbrev pub item : ℤ → Value-F Value → Option Value
item (pos i) (W.Bits bs) = option_map V.Bit (slice_get bs i)
item (pos i) (W.Vector vs) = slice_get vs i
item i v = None

abbrev pub with_bit : List Bool → ℕ → Value-F Value → Option Value
with_bit bs i (W.Bit b) = if nat_lt i (length bs) then Some (V.Bits (slice_set bs i b)) else None
with_bit bs i v = None

abbrev pub with_item : ℤ → Value-F Value → Value → Option Value
with_item (pos i) (W.Bits bs) v = with_bit bs i (out-Value v)
with_item (pos i) (W.Vector vs) v = option_map V.Vector (set_at vs i v)
with_item i old v = None

abbrev pub is_slice : ℕ → ℕ → List Bool → Bool
is_slice hi lo bs = nat_le lo hi && nat_lt hi (length bs)

-- `[hi .. lo]`, both ends in
abbrev pub slice : ℤ → ℤ → Value-F Value → Option Value
slice (pos hi) (pos lo) (W.Bits bs) = if is_slice hi lo bs then Some (V.Bits (take (suc hi - lo) (drop lo bs))) else None
slice hi lo v = None

abbrev pub with_bits : List Bool → ℕ → ℕ → Value-F Value → Option Value
with_bits bs hi lo (W.Bits cs) =
    if is_slice hi lo bs && nat_eq (length cs) (suc hi - lo) then Some (V.Bits (take lo bs ++ (cs ++ drop (suc hi) bs))) else None
with_bits bs hi lo v = None

abbrev pub with_slice : ℤ → ℤ → Value-F Value → Value → Option Value
with_slice (pos hi) (pos lo) (W.Bits bs) v = with_bits bs hi lo (out-Value v)
with_slice hi lo old v = None

abbrev pub field_way : ℕ → ℕ → Into
field_way struct i = record { take_out = λ v. field struct i (out-Value v); put_in = λ old v. with_field struct i (out-Value old) v }

abbrev pub item_way : ℤ → Into
item_way i = record { take_out = λ v. item i (out-Value v); put_in = λ old v. with_item i (out-Value old) v }

abbrev pub slice_way : ℤ → ℤ → Into
slice_way hi lo = record { take_out = λ v. slice hi lo (out-Value v); put_in = λ old v. with_slice hi lo (out-Value old) v }

-- the part at the end of several ways
abbrev pub through : List Into → Value → Option Value
through [] v = Some v
through (way ∷ ways) v = and_then (way.take_out v) (through ways)

-- the value with another one at the end of the ways
abbrev pub replaced : List Into → Value → Value → Option Value
replaced [] old new = Some new
replaced (way ∷ ways) old new = and_then (way.take_out old) (λ part. and_then (replaced ways part new) (way.put_in old))

-- a struct with other values in these fields, one after the other
abbrev pub with_fields : ℕ → List ℕ → List Value → Value → Option Value
with_fields struct [] [] old = Some old
with_fields struct (i ∷ is) (v ∷ vs) old = and_then (with_field struct i (out-Value old) v) (with_fields struct is vs)
with_fields struct is vs old = None

-- ---- values made of others

abbrev pub tuple_of : List Value → Option Value
tuple_of vs = Some (V.Tuple vs)

-- at most 4,096 items
abbrev pub vector_of : List Value → Option Value
vector_of vs = if is_length (length vs) then Some (V.Vector (reverse vs)) else None

abbrev pub list_of : List Value → Option Value
list_of vs = Some (V.List vs)

abbrev pub cons_of : List Value → Option Value
cons_of (v ∷ w ∷ []) = option_map (λ vs. V.List (v ∷ vs)) (items_in w)
cons_of vs = None

-- a struct, and the values of these of its fields
abbrev pub with_of : ℕ → List ℕ → List Value → Option Value
with_of struct is (v ∷ vs) = with_fields struct is vs v
with_of struct is [] = None

-- a struct of these fields, whatever their order
abbrev pub struct_of : ℕ → List ℕ → List Value → Option Value
struct_of struct is vs = with_fields struct is vs (V.Struct struct (map (λ i. V.Unit) is))
