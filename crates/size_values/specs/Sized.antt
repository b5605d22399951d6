-- Types whose sizes are constants (Sail language manual, "Type variables"), and which of them are the same.
use Rattle.std.specs.Prelude.{ℕ, suc, ℤ, pos, nat_eq, Bool, true, false, ◌&&◌, List, [], ◌∷◌, length, map, slice_get}
use Rattle.std.specs.Prelude.{Option, Some, None, unwrap_or}
use Rattle.std.specs.Ordering.{int_eq}
use Rattle.sail_types.specs.Zero.{deepest}
use Rattle.sail_types.specs.declared.table.Types.{Types}
use Rattle.sail_types.specs.declared.types.Typ.{Typ, Typ-F, fold-Typ}
use Rattle.sail_types.specs.declared.types.Typ.TheOpen as T
use Rattle.value_indices.specs.declared.indices.Indices.{Indices, fold-Indices}
use Rattle.value_indices.specs.declared.indices.Indices.TheOpen as W
use Rattle.value_indices.specs.declared.indices.Indices.TheOpen.{Indices-F, Reading-F}
use Rattle.value_indices.specs.declared.indices.Reading.{Reading, fold-Reading}
use Rattle.size_values.specs.declared.constants.Constant.{Constant}
use Rattle.size_values.specs.declared.constants.Constant.TheVariants as C
use Rattle.size_values.specs.declared.sized.Sized.{Sized, Sized-F, fold-Sized, out-Sized}
use Rattle.size_values.specs.declared.sized.Sized.TheOpen as Z
use Rattle.size_values.specs.declared.sized.Sized.TheVariants as S
use Rattle.size_values.specs.Numbers.{argument_of, constant_under, index_under, number_in}
use Rattle.size_values.specs.Hanging.{open_under, settled}
use Rattle.size_values.specs.Sizes.{fields_of, only_open}

-- tested before; 0 where it isn't constant
abbrev pub integer_of : Constant → ℤ
integer_of c = unwrap_or (number_in c) (pos 0)

-- ---- the numbers of a named type's arguments, where a size of its fields and payloads hangs on them

-- where it has so many arguments
abbrev pub hangs_on : Types → ℕ → ℕ → ℕ → Bool
hangs_on types u n i = open_under (settled types.definitions deepest []) (fields_of types u) (only_open i n)

abbrev pub number_where : Bool → Constant → Option ℤ
number_where true c = Some (integer_of c)
number_where false c = None

abbrev pub numbers_from : Types → ℕ → ℕ → ℕ → List Constant → List (Option ℤ)
numbers_from types u n i [] = []
numbers_from types u n i (c ∷ cs) = number_where (hangs_on types u n i) c ∷ numbers_from types u n (suc i) cs

abbrev pub named_numbers : Types → ℕ → List Constant → List (Option ℤ)
named_numbers types u cs = numbers_from types u (length cs) 0 cs

-- ---- a type under constants

abbrev pub UnderConstants : Type 0
UnderConstants = List Constant → Sized

abbrev pub each_sized : List UnderConstants → List Constant → List Sized
each_sized [] cs = []
each_sized (f ∷ fs) cs = f cs ∷ each_sized fs cs

abbrev pub or_never : Option Sized → Sized
or_never None = S.Never
or_never (Some s) = s

abbrev pub sized_at : List Sized → ℕ → Sized
sized_at own i = or_never (slice_get own i)

abbrev pub form_sized : Types → List Sized → Typ-F UnderConstants → UnderConstants
form_sized types own T.Unit cs = S.Unit
form_sized types own T.Bool cs = S.Bool
form_sized types own (T.Truth c) cs = S.Bool
form_sized types own T.Bit cs = S.Bit
form_sized types own (T.Bits t) cs = S.Bits (integer_of (constant_under (argument_of cs) t))
form_sized types own (T.Int t) cs = S.Int
form_sized types own (T.Range t u) cs = S.Int
form_sized types own T.String cs = S.String
form_sized types own (T.List f) cs = S.List (f cs)
form_sized types own (T.Vector t f) cs = S.Vector (integer_of (constant_under (argument_of cs) t)) (f cs)
form_sized types own (T.Tuple fs) cs = S.Tuple (each_sized fs cs)
form_sized types own (T.Named u is fs) cs =
    S.Named u (named_numbers types u (map (index_under (argument_of cs)) is)) (each_sized fs cs)
form_sized types own (T.Variable i) cs = sized_at own i
form_sized types own (T.Exists name c f) cs = f (C.Bound name ∷ cs)

-- where its Type variables stand for these
abbrev pub typ_sized : Types → List Sized → Typ → List Constant → Sized
typ_sized types own = fold-Typ UnderConstants (form_sized types own)

-- ---- values; the Type variables of the function around them are these

abbrev pub types_or_own : List Sized → List Sized → List Sized
types_or_own [] own = own
types_or_own ss own = ss

abbrev pub indices_sized : Types → List Sized → (ℕ → Constant) → Indices-F Sized Sized → Sized
indices_sized types own of W.Never = S.Never
indices_sized types own of W.Unit = S.Unit
indices_sized types own of (W.Truth c) = S.Bool
indices_sized types own of W.Bit = S.Bit
indices_sized types own of (W.Bits t) = S.Bits (integer_of (constant_under of t))
indices_sized types own of (W.Integer t) = S.Int
indices_sized types own of W.String = S.String
indices_sized types own of (W.List s) = S.List s
indices_sized types own of (W.Vector t s) = S.Vector (integer_of (constant_under of t)) s
indices_sized types own of (W.Tuple ss) = S.Tuple ss
indices_sized types own of (W.Named u is ss) = S.Named u (named_numbers types u (map (index_under of) is)) ss
indices_sized types own of (W.Variable i) = sized_at own i

abbrev pub form_reading_sized : Types → List Sized → (ℕ → Constant) → Reading-F Sized Sized → Sized
form_reading_sized types own of (W.Of t is ss) = typ_sized types (types_or_own ss own) t (map (index_under of) is)
form_reading_sized types own of (W.Widened s) = s
form_reading_sized types own of (W.Parts ss) = S.Tuple ss
form_reading_sized types own of W.Hole = S.Never

-- of a value of these indices
abbrev pub value_sized : Types → List Sized → (ℕ → Constant) → Indices → Sized
value_sized types own of = fold-Indices Sized Sized (indices_sized types own of) (form_reading_sized types own of)

-- of a value of this type, which isn't opened
abbrev pub reading_sized : Types → List Sized → (ℕ → Constant) → Reading → Sized
reading_sized types own of = fold-Reading Sized Sized (indices_sized types own of) (form_reading_sized types own of)

-- ---- whether two such types are the same

abbrev pub Like : Type 0
Like = Sized → Bool

abbrev pub each_like : List Like → List Sized → Bool
each_like [] [] = true
each_like (f ∷ fs) (s ∷ ss) = f s && each_like fs ss
each_like fs ss = false

abbrev pub option_eq : Option ℤ → Option ℤ → Bool
option_eq None None = true
option_eq (Some x) (Some y) = int_eq x y
option_eq x y = false

abbrev pub numbers_eq : List (Option ℤ) → List (Option ℤ) → Bool
numbers_eq [] [] = true
numbers_eq (x ∷ xs) (y ∷ ys) = option_eq x y && numbers_eq xs ys
numbers_eq xs ys = false

abbrev pub form_eq : Sized-F Like → Sized-F Sized → Bool
form_eq Z.Never Z.Never = true
form_eq Z.Unit Z.Unit = true
form_eq Z.Bool Z.Bool = true
form_eq Z.Bit Z.Bit = true
form_eq (Z.Bits x) (Z.Bits y) = int_eq x y
form_eq Z.Int Z.Int = true
form_eq Z.String Z.String = true
form_eq (Z.List f) (Z.List s) = f s
form_eq (Z.Vector x f) (Z.Vector y s) = int_eq x y && f s
form_eq (Z.Tuple fs) (Z.Tuple ss) = each_like fs ss
form_eq (Z.Named u xs fs) (Z.Named v ys ss) = (nat_eq u v && numbers_eq xs ys) && each_like fs ss
form_eq f s = false

abbrev pub eq_step : Sized-F Like → Like
eq_step f s = form_eq f (out-Sized s)

abbrev pub sized_eq : Sized → Sized → Bool
sized_eq = fold-Sized Like eq_step

abbrev pub all_eq : List Sized → List Sized → Bool
all_eq xs ys = each_like (map sized_eq xs) ys
