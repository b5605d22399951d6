-- Types without their sizes, and the sorts that builtins take and give (Sail language manual, "Integers" and "Bitvectors").
use Rattle.std.specs.Prelude.{ℕ, Bool, true, false, List, [], ◌∷◌, Option, None, slice_get}
use Rattle.sail_types.specs.declared.rows.Row.{Row}
use Rattle.sail_types.specs.declared.rows.Row.TheVariants as R
use Rattle.jib.specs.declared.types.ValueType.{ValueType}
use Rattle.jib.specs.declared.types.ValueType.TheVariants as T
use Rattle.jib.specs.declared.types.Sort.{Sort}
use Rattle.jib.specs.declared.types.Sort.TheVariants as S

abbrev pub sort_of : ValueType → Sort
sort_of T.Unit = S.Unit
sort_of T.Integer = S.Integer
sort_of T.Truth = S.Truth
sort_of T.Bit = S.Bit
sort_of (T.Bits w) = S.Bits
sort_of T.String = S.String
sort_of (T.Enum i n) = S.Enum
sort_of (T.List t) = S.List
sort_of (T.Vector n t) = S.Vector
sort_of (T.Tuple ts) = S.Tuple
sort_of (T.Struct i ts) = S.Struct
sort_of (T.Union i ts) = S.Union

-- the type of a part of a tuple or a struct
abbrev pub part_of : ℕ → ValueType → Option ℕ
part_of k (T.Tuple ts) = slice_get ts k
part_of k (T.Struct i ts) = slice_get ts k
part_of k t = None

-- the type of a constructor's payload
abbrev pub payload_of : ℕ → ValueType → Option ℕ
payload_of k (T.Union i ts) = slice_get ts k
payload_of k t = None

abbrev pub sort_eq : Sort → Sort → Bool
sort_eq S.Unit S.Unit = true
sort_eq S.Integer S.Integer = true
sort_eq S.Truth S.Truth = true
sort_eq S.Bit S.Bit = true
sort_eq S.Bits S.Bits = true
sort_eq S.String S.String = true
sort_eq S.Enum S.Enum = true
sort_eq S.List S.List = true
sort_eq S.Vector S.Vector = true
sort_eq S.Tuple S.Tuple = true
sort_eq S.Struct S.Struct = true
sort_eq S.Union S.Union = true
sort_eq a b = false

-- the sorts of values that can be compared
abbrev pub is_comparable : Sort → Bool
is_comparable S.List = false
is_comparable S.Vector = false
is_comparable S.Tuple = false
is_comparable S.Struct = false
is_comparable S.Union = false
is_comparable s = true

abbrev pub an_integer : List Sort
an_integer = S.Integer ∷ []

abbrev pub integers : List Sort
integers = S.Integer ∷ S.Integer ∷ []

abbrev pub a_word : List Sort
a_word = S.Bits ∷ []

abbrev pub words : List Sort
words = S.Bits ∷ S.Bits ∷ []

abbrev pub word_integer : List Sort
word_integer = S.Bits ∷ S.Integer ∷ []

abbrev pub integer_word : List Sort
integer_word = S.Integer ∷ S.Bits ∷ []

abbrev pub placed_word : List Sort
placed_word = S.Integer ∷ S.Bits ∷ S.Bits ∷ []

abbrev pub a_truth : List Sort
a_truth = S.Truth ∷ []

abbrev pub a_text : List Sort
a_text = S.String ∷ []

-- what a builtin takes; `eq`, `neq`, `length` and `vector_init`, which take several sorts, have rules of their own
abbrev pub takes : Row → List Sort
takes R.AddInt = integers
takes R.SubInt = integers
takes R.MultInt = integers
takes R.NegInt = an_integer
takes R.Pow2 = an_integer
takes R.AbsInt = an_integer
takes R.MinInt = integers
takes R.MaxInt = integers
takes R.EdivInt = integers
takes R.EmodInt = integers
takes R.TdivInt = integers
takes R.TmodInt = integers
takes R.LtInt = integers
takes R.LteqInt = integers
takes R.GtInt = integers
takes R.GteqInt = integers
takes R.NotBool = a_truth
takes R.AddBitsInt = word_integer
takes R.SubBitsInt = word_integer
takes R.NotBits = a_word
takes R.Shiftl = word_integer
takes R.Shiftr = word_integer
takes R.ArithShiftr = word_integer
takes R.ZeroExtend = integer_word
takes R.SignExtend = integer_word
takes R.Truncate = word_integer
takes R.Zeros = an_integer
takes R.Ones = an_integer
takes R.ReplicateBits = word_integer
takes R.Unsigned = a_word
takes R.Signed = a_word
takes R.ToBits = integers
takes R.CountLeadingZeros = a_word
takes R.BoolToBits = a_truth
takes R.ConcatStr = S.String ∷ S.String ∷ []
takes R.DecStr = an_integer
takes R.BitsStr = a_word
takes R.MemRead = integer_word
takes R.MemReserve = integer_word
takes R.MemWrite = placed_word
takes R.MemWriteCond = placed_word
takes R.MemMapped = integer_word
takes R.Print = a_text
takes R.PrintEndline = a_text
takes R.ConsolePut = a_word
takes row = words

-- what a builtin gives
abbrev pub gives : Row → Sort
gives R.AddInt = S.Integer
gives R.SubInt = S.Integer
gives R.MultInt = S.Integer
gives R.NegInt = S.Integer
gives R.Pow2 = S.Integer
gives R.AbsInt = S.Integer
gives R.MinInt = S.Integer
gives R.MaxInt = S.Integer
gives R.EdivInt = S.Integer
gives R.EmodInt = S.Integer
gives R.TdivInt = S.Integer
gives R.TmodInt = S.Integer
gives R.LtInt = S.Truth
gives R.LteqInt = S.Truth
gives R.GtInt = S.Truth
gives R.GteqInt = S.Truth
gives R.Eq = S.Truth
gives R.Neq = S.Truth
gives R.NotBool = S.Truth
gives R.LtU = S.Truth
gives R.LteqU = S.Truth
gives R.GtU = S.Truth
gives R.GteqU = S.Truth
gives R.LtS = S.Truth
gives R.LteqS = S.Truth
gives R.GtS = S.Truth
gives R.GteqS = S.Truth
gives R.Unsigned = S.Integer
gives R.Signed = S.Integer
gives R.Length = S.Integer
gives R.CountLeadingZeros = S.Integer
gives R.VectorInit = S.Vector
gives R.ConcatStr = S.String
gives R.DecStr = S.String
gives R.BitsStr = S.String
gives R.MemWrite = S.Unit
gives R.MemWriteCond = S.Truth
gives R.MemMapped = S.Truth
gives R.Print = S.Unit
gives R.PrintEndline = S.Unit
gives R.ConsolePut = S.Unit
gives row = S.Bits
