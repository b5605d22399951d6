-- What the operations work out from values: nothing where they can't (Sail language manual, "Expressions").
use Rattle.std.specs.Prelude.{ℕ, ◌+◌, ◌-◌, ◌&&◌, nat_lt, nat_le, nat_eq, pos, Bool, true, false, cond, List, [], ◌∷◌, ◌++◌}
use Rattle.std.specs.Prelude.{length, take, drop, Option, Some, None, option_map, slice_get, slice_set}
use Rattle.sail_base.specs.Bits.{slice_bits}
use Rattle.sail_types.specs.declared.values.Value.{Value, Value-F, out-Value}
use Rattle.sail_types.specs.declared.values.Value.TheOpen as W
use Rattle.sail_types.specs.declared.values.Value.TheVariants as V
use Rattle.jib.specs.declared.types.ValueType.{ValueType}
use Rattle.jib.specs.declared.types.ValueType.TheVariants as T
use Rattle.jib.specs.declared.code.Operation.{Operation}
use Rattle.jib.specs.declared.code.Operation.TheVariants as O

-- a tuple, struct, vector or list of these, by its type
abbrev pub built : Option ValueType → List Value → Option Value
built (Some (T.Tuple ts)) vs = Some (V.Tuple vs)
built (Some (T.Struct i ts)) vs = Some (V.Struct i vs)
built (Some (T.Vector n t)) vs = Some (V.Vector vs)
built (Some (T.List t)) vs = Some (V.List vs)
built t vs = None

abbrev pub constructed : Option ValueType → ℕ → Value → Option Value
constructed (Some (T.Union i ts)) k v = Some (V.Union i k v)
constructed t k v = None

-- the part of a tuple or a struct
abbrev pub field : ℕ → Value-F Value → Option Value
field k (W.Tuple vs) = slice_get vs k
field k (W.Struct i vs) = slice_get vs k
field k v = None

abbrev pub with_field : ℕ → Value-F Value → Value → Option Value
with_field k (W.Tuple vs) x = Some (V.Tuple (slice_set vs k x))
with_field k (W.Struct i vs) x = Some (V.Struct i (slice_set vs k x))
with_field k v x = None

-- the item at an index; of a word the bit
abbrev pub item : Value-F Value → ℕ → Option Value
item (W.Vector vs) n = slice_get vs n
item (W.List vs) n = slice_get vs n
item (W.Bits bits) n = option_map V.Bit (slice_get bits n)
item v n = None

-- nothing changes where the index is outside
abbrev pub with_item : Value-F Value → ℕ → Value → Value-F Value → Option Value
with_item (W.Vector vs) n x o = Some (V.Vector (slice_set vs n x))
with_item (W.List vs) n x o = Some (V.List (slice_set vs n x))
with_item (W.Bits bits) n x (W.Bit b) = Some (V.Bits (slice_set bits n b))
with_item v n x o = None

abbrev pub some_bits : Bool → List Bool → Option Value
some_bits true bits = Some (V.Bits bits)
some_bits false bits = None

-- whether the bits from the one index down to the other are all there
abbrev pub is_slice : List Bool → ℕ → ℕ → Bool
is_slice bits high low = nat_le low high && nat_lt high (length bits)

abbrev pub slice : Value-F Value → ℕ → ℕ → Option Value
slice (W.Bits bits) high low = some_bits (is_slice bits high low) (slice_bits bits high low)
slice v high low = None

-- a word with others in these places, where they are as many and all there
abbrev pub replaced : List Bool → ℕ → ℕ → List Bool → List Bool
replaced bits high low new =
    cond (is_slice bits high low && nat_eq (length new) (high - low + 1)) (take low bits ++ (new ++ drop (high + 1) bits)) bits

abbrev pub with_slice : Value-F Value → ℕ → ℕ → Value-F Value → Option Value
with_slice (W.Bits bits) high low (W.Bits new) = Some (V.Bits (replaced bits high low new))
with_slice v high low w = None

abbrev pub cons : Value → Value-F Value → Option Value
cons v (W.List vs) = Some (V.List (v ∷ vs))
cons v w = None

abbrev pub rest : Value-F Value → Option Value
rest (W.List (v ∷ vs)) = Some (V.List vs)
rest v = None

abbrev pub is_empty : Value-F Value → Option Value
is_empty (W.List []) = Some (V.Truth true)
is_empty (W.List (v ∷ vs)) = Some (V.Truth false)
is_empty v = None

-- ---- by the operation

-- an index; none where the value is negative or no integer
abbrev pub index_of : Value-F Value → Option ℕ
index_of (W.Integer (pos n)) = Some n
index_of v = None

abbrev pub at_index : {A : Type 0} → Option ℕ → (ℕ → Option A) → Option A
at_index None f = None
at_index (Some n) f = f n

abbrev pub at_indices : {A : Type 0} → Option ℕ → Option ℕ → (ℕ → ℕ → Option A) → Option A
at_indices a b f = at_index a (λ n. at_index b (f n))

-- a write at an index that is no index gives the old value
abbrev pub or_old : Value → Option ℕ → (ℕ → Option Value) → Option Value
or_old v None f = Some v
or_old v (Some n) f = f n

-- what an operation other than a builtin works out, for a target of this type
abbrev pub worked_out : Option ValueType → Operation → List Value → Option Value
worked_out t O.Same (v ∷ []) = Some v
worked_out t O.Build vs = built t vs
worked_out t (O.Construct k) (v ∷ []) = constructed t k v
worked_out t (O.Field k) (v ∷ []) = field k (out-Value v)
worked_out t (O.WithField k) (v ∷ x ∷ []) = with_field k (out-Value v) x
worked_out t O.Item (v ∷ i ∷ []) = at_index (index_of (out-Value i)) (item (out-Value v))
worked_out t O.WithItem (v ∷ i ∷ x ∷ []) = or_old v (index_of (out-Value i)) (λ n. with_item (out-Value v) n x (out-Value x))
worked_out t O.Slice (v ∷ i ∷ j ∷ []) = at_indices (index_of (out-Value i)) (index_of (out-Value j)) (slice (out-Value v))
worked_out t O.WithSlice (v ∷ i ∷ j ∷ x ∷ []) =
    or_old v (index_of (out-Value i)) (λ high. or_old v (index_of (out-Value j)) (λ low. with_slice (out-Value v) high low (out-Value x)))
worked_out t O.Cons (x ∷ v ∷ []) = cons x (out-Value v)
worked_out t O.Rest (v ∷ []) = rest (out-Value v)
worked_out t O.IsEmpty (v ∷ []) = is_empty (out-Value v)
worked_out t op vs = None
