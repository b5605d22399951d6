-- The builtins: the name of each, its operator and its members with the shapes of their parameters and results.
use Rattle.std.specs.Prelude.{ℕ, suc, Bool, true, false, List, [], ◌∷◌, map, flat_map, find, codes, Option, if◌then◌else◌}
use Rattle.std.specs.Str.{bytes_eq}
use Rattle.sail_base.specs.declared.operators.Operator.{Operator}
use Rattle.sail_base.specs.declared.operators.Operator.TheVariants as O
use Rattle.sail_base.specs.declared.operators.Prefix.{Prefix}
use Rattle.sail_base.specs.declared.operators.Prefix.TheVariants as P
use Rattle.sail_types.specs.declared.rows.Row.{Row}
use Rattle.sail_types.specs.declared.rows.Row.TheVariants as R
use Rattle.sail_types.specs.declared.members.Member.{Member}
use Rattle.sail_types.specs.declared.shapes.Shape.{Shape}
use Rattle.sail_types.specs.declared.shapes.Shape.TheVariants as V
use Rattle.sail_types.specs.declared.table.Definition.{Definition}
use Rattle.sail_types.specs.declared.table.Form.{Form}
use Rattle.sail_types.specs.declared.table.Form.TheVariants as F
use Rattle.sail_types.specs.declared.table.Types.{Types}

-- all of them, in the order in which the members of an operator are tried
unfoldable pub all_rows : List Row
all_rows =
    R.AddInt ∷ R.SubInt ∷ R.MultInt ∷ R.NegInt ∷ R.Pow2 ∷ R.AbsInt ∷ R.MinInt ∷ R.MaxInt ∷ R.EdivInt ∷ R.EmodInt ∷ R.TdivInt ∷
    R.TmodInt ∷ R.LtInt ∷ R.LteqInt ∷ R.GtInt ∷ R.GteqInt ∷ R.Eq ∷ R.Neq ∷ R.NotBool ∷ R.AddBits ∷ R.SubBits ∷ R.MultBits ∷
    R.AddBitsInt ∷ R.SubBitsInt ∷ R.AndBits ∷ R.OrBits ∷ R.XorBits ∷ R.NotBits ∷ R.Shiftl ∷ R.Shiftr ∷ R.ArithShiftr ∷
    R.ShiftlBits ∷ R.ShiftrBits ∷ R.ArithShiftrBits ∷ R.LtU ∷ R.LteqU ∷ R.GtU ∷ R.GteqU ∷ R.LtS ∷ R.LteqS ∷ R.GtS ∷ R.GteqS ∷
    R.Append ∷ R.ZeroExtend ∷ R.SignExtend ∷ R.Truncate ∷ R.Zeros ∷ R.Ones ∷ R.ReplicateBits ∷ R.Unsigned ∷ R.Signed ∷ R.ToBits ∷
    R.Length ∷ R.MulWideUu ∷ R.MulWideSs ∷ R.MulWideSu ∷ R.CountLeadingZeros ∷ R.BoolToBits ∷ R.VectorInit ∷ R.ConcatStr ∷
    R.DecStr ∷ R.BitsStr ∷ R.MemRead ∷ R.MemReserve ∷ R.MemWrite ∷ R.MemWriteCond ∷ R.MemMapped ∷ R.Print ∷ R.PrintEndline ∷
    R.ConsolePut ∷ []

-- the name that models call it
abbrev pub row_name : Row → List ℕ
row_name R.AddInt = codes "add_int"
row_name R.SubInt = codes "sub_int"
row_name R.MultInt = codes "mult_int"
row_name R.NegInt = codes "neg_int"
row_name R.Pow2 = codes "pow2"
row_name R.AbsInt = codes "abs_int"
row_name R.MinInt = codes "min_int"
row_name R.MaxInt = codes "max_int"
row_name R.EdivInt = codes "ediv_int"
row_name R.EmodInt = codes "emod_int"
row_name R.TdivInt = codes "tdiv_int"
row_name R.TmodInt = codes "tmod_int"
row_name R.LtInt = codes "lt_int"
row_name R.LteqInt = codes "lteq_int"
row_name R.GtInt = codes "gt_int"
row_name R.GteqInt = codes "gteq_int"
row_name R.Eq = codes "eq"
row_name R.Neq = codes "neq"
row_name R.NotBool = codes "not_bool"
row_name R.AddBits = codes "add_bits"
row_name R.SubBits = codes "sub_bits"
row_name R.MultBits = codes "mult_bits"
row_name R.AddBitsInt = codes "add_bits_int"
row_name R.SubBitsInt = codes "sub_bits_int"
row_name R.AndBits = codes "and_bits"
row_name R.OrBits = codes "or_bits"
row_name R.XorBits = codes "xor_bits"
row_name R.NotBits = codes "not_bits"
row_name R.Shiftl = codes "shiftl"
row_name R.Shiftr = codes "shiftr"
row_name R.ArithShiftr = codes "arith_shiftr"
row_name R.ShiftlBits = codes "shiftl_bits"
row_name R.ShiftrBits = codes "shiftr_bits"
row_name R.ArithShiftrBits = codes "arith_shiftr_bits"
row_name R.LtU = codes "lt_u"
row_name R.LteqU = codes "lteq_u"
row_name R.GtU = codes "gt_u"
row_name R.GteqU = codes "gteq_u"
row_name R.LtS = codes "lt_s"
row_name R.LteqS = codes "lteq_s"
row_name R.GtS = codes "gt_s"
row_name R.GteqS = codes "gteq_s"
row_name R.Append = codes "append"
row_name R.ZeroExtend = codes "zero_extend"
row_name R.SignExtend = codes "sign_extend"
row_name R.Truncate = codes "truncate"
row_name R.Zeros = codes "zeros"
row_name R.Ones = codes "ones"
row_name R.ReplicateBits = codes "replicate_bits"
row_name R.Unsigned = codes "unsigned"
row_name R.Signed = codes "signed"
row_name R.ToBits = codes "to_bits"
row_name R.Length = codes "length"
row_name R.MulWideUu = codes "mul_wide_uu"
row_name R.MulWideSs = codes "mul_wide_ss"
row_name R.MulWideSu = codes "mul_wide_su"
row_name R.CountLeadingZeros = codes "count_leading_zeros"
row_name R.BoolToBits = codes "bool_to_bits"
row_name R.VectorInit = codes "vector_init"
row_name R.ConcatStr = codes "concat_str"
row_name R.DecStr = codes "dec_str"
row_name R.BitsStr = codes "bits_str"
row_name R.MemRead = codes "mem_read"
row_name R.MemReserve = codes "mem_reserve"
row_name R.MemWrite = codes "mem_write"
row_name R.MemWriteCond = codes "mem_write_cond"
row_name R.MemMapped = codes "mem_mapped"
row_name R.Print = codes "print"
row_name R.PrintEndline = codes "print_endline"
row_name R.ConsolePut = codes "console_put"

-- the rows that an operator may mean, in order
abbrev pub operator_rows : Operator → List Row
operator_rows O.Caret = R.XorBits ∷ R.ConcatStr ∷ []
operator_rows O.Star = R.MultInt ∷ R.MultBits ∷ []
operator_rows O.ShiftLeft = R.Shiftl ∷ R.ShiftlBits ∷ []
operator_rows O.ShiftRight = R.Shiftr ∷ R.ShiftrBits ∷ []
operator_rows O.Plus = R.AddInt ∷ R.AddBits ∷ R.AddBitsInt ∷ []
operator_rows O.Minus = R.SubInt ∷ R.SubBits ∷ R.SubBitsInt ∷ []
operator_rows O.Append = R.Append ∷ []
operator_rows O.Equal = R.Eq ∷ []
operator_rows O.NotEqual = R.Neq ∷ []
operator_rows O.Less = R.LtInt ∷ []
operator_rows O.LessEqual = R.LteqInt ∷ []
operator_rows O.Greater = R.GtInt ∷ []
operator_rows O.GreaterEqual = R.GteqInt ∷ []
operator_rows O.LessUnsigned = R.LtU ∷ []
operator_rows O.LessEqualUnsigned = R.LteqU ∷ []
operator_rows O.GreaterUnsigned = R.GtU ∷ []
operator_rows O.GreaterEqualUnsigned = R.GteqU ∷ []
operator_rows O.LessSigned = R.LtS ∷ []
operator_rows O.LessEqualSigned = R.LteqS ∷ []
operator_rows O.GreaterSigned = R.GtS ∷ []
operator_rows O.GreaterEqualSigned = R.GteqS ∷ []
operator_rows O.And = R.AndBits ∷ []
operator_rows O.Or = R.OrBits ∷ []
operator_rows O.Cons = []

-- the rows that a sign or a word before an operand may mean, in order
abbrev pub prefix_rows : Prefix → List Row
prefix_rows P.Negate = R.NegInt ∷ []
prefix_rows P.Power = R.Pow2 ∷ []
prefix_rows P.Tilde = R.NotBool ∷ R.NotBits ∷ []
prefix_rows P.Not = R.NotBool ∷ []

-- ---- members

abbrev pub member : Row → List Shape → Shape → Member
member row params answer = record { row = row; params = params; answer = answer }

abbrev pub form_is_enum : Form → Bool
form_is_enum (F.Enum members) = true
form_is_enum form = false

abbrev pub is_enum : Definition → Bool
is_enum definition = form_is_enum definition.form

-- the shapes of the enums of a table that begins at this place
abbrev pub enums_from : ℕ → List Definition → List Shape
enums_from i [] = []
enums_from i (d ∷ ds) = if is_enum d then V.Named i [] ∷ enums_from (suc i) ds else enums_from (suc i) ds

-- what can be compared: integers, bits, one bit, truths, strings, unit and the members of each enum
abbrev pub comparable : Types → List Shape
comparable types = V.Int ∷ V.Bits ∷ V.Bit ∷ V.Bool ∷ V.String ∷ V.Unit ∷ enums_from 0 types.definitions

-- a member that takes two of a shape
abbrev pub comparison : Row → Shape → Member
comparison row s = member row (s ∷ s ∷ []) V.Bool

abbrev pub comparisons : Row → Types → List Member
comparisons row types = map (comparison row) (comparable types)

-- the length of bits, and of a vector
abbrev pub lengths : List Member
lengths = member R.Length (V.Bits ∷ []) V.Int ∷ member R.Length (V.Vector (V.Variable 0) ∷ []) V.Int ∷ []

-- the members of a row, in order
abbrev pub row_members : Types → Row → List Member
row_members types R.AddInt = member R.AddInt (V.Int ∷ V.Int ∷ []) V.Int ∷ []
row_members types R.SubInt = member R.SubInt (V.Int ∷ V.Int ∷ []) V.Int ∷ []
row_members types R.MultInt = member R.MultInt (V.Int ∷ V.Int ∷ []) V.Int ∷ []
row_members types R.NegInt = member R.NegInt (V.Int ∷ []) V.Int ∷ []
row_members types R.Pow2 = member R.Pow2 (V.Int ∷ []) V.Int ∷ []
row_members types R.AbsInt = member R.AbsInt (V.Int ∷ []) V.Int ∷ []
row_members types R.MinInt = member R.MinInt (V.Int ∷ V.Int ∷ []) V.Int ∷ []
row_members types R.MaxInt = member R.MaxInt (V.Int ∷ V.Int ∷ []) V.Int ∷ []
row_members types R.EdivInt = member R.EdivInt (V.Int ∷ V.Int ∷ []) V.Int ∷ []
row_members types R.EmodInt = member R.EmodInt (V.Int ∷ V.Int ∷ []) V.Int ∷ []
row_members types R.TdivInt = member R.TdivInt (V.Int ∷ V.Int ∷ []) V.Int ∷ []
row_members types R.TmodInt = member R.TmodInt (V.Int ∷ V.Int ∷ []) V.Int ∷ []
row_members types R.LtInt = member R.LtInt (V.Int ∷ V.Int ∷ []) V.Bool ∷ []
row_members types R.LteqInt = member R.LteqInt (V.Int ∷ V.Int ∷ []) V.Bool ∷ []
row_members types R.GtInt = member R.GtInt (V.Int ∷ V.Int ∷ []) V.Bool ∷ []
row_members types R.GteqInt = member R.GteqInt (V.Int ∷ V.Int ∷ []) V.Bool ∷ []
row_members types R.Eq = comparisons R.Eq types
row_members types R.Neq = comparisons R.Neq types
row_members types R.NotBool = member R.NotBool (V.Bool ∷ []) V.Bool ∷ []
row_members types R.AddBits = member R.AddBits (V.Bits ∷ V.Bits ∷ []) V.Bits ∷ []
row_members types R.SubBits = member R.SubBits (V.Bits ∷ V.Bits ∷ []) V.Bits ∷ []
row_members types R.MultBits = member R.MultBits (V.Bits ∷ V.Bits ∷ []) V.Bits ∷ []
row_members types R.AddBitsInt = member R.AddBitsInt (V.Bits ∷ V.Int ∷ []) V.Bits ∷ []
row_members types R.SubBitsInt = member R.SubBitsInt (V.Bits ∷ V.Int ∷ []) V.Bits ∷ []
row_members types R.AndBits = member R.AndBits (V.Bits ∷ V.Bits ∷ []) V.Bits ∷ []
row_members types R.OrBits = member R.OrBits (V.Bits ∷ V.Bits ∷ []) V.Bits ∷ []
row_members types R.XorBits = member R.XorBits (V.Bits ∷ V.Bits ∷ []) V.Bits ∷ []
row_members types R.NotBits = member R.NotBits (V.Bits ∷ []) V.Bits ∷ []
row_members types R.Shiftl = member R.Shiftl (V.Bits ∷ V.Int ∷ []) V.Bits ∷ []
row_members types R.Shiftr = member R.Shiftr (V.Bits ∷ V.Int ∷ []) V.Bits ∷ []
row_members types R.ArithShiftr = member R.ArithShiftr (V.Bits ∷ V.Int ∷ []) V.Bits ∷ []
row_members types R.ShiftlBits = member R.ShiftlBits (V.Bits ∷ V.Bits ∷ []) V.Bits ∷ []
row_members types R.ShiftrBits = member R.ShiftrBits (V.Bits ∷ V.Bits ∷ []) V.Bits ∷ []
row_members types R.ArithShiftrBits = member R.ArithShiftrBits (V.Bits ∷ V.Bits ∷ []) V.Bits ∷ []
row_members types R.LtU = member R.LtU (V.Bits ∷ V.Bits ∷ []) V.Bool ∷ []
row_members types R.LteqU = member R.LteqU (V.Bits ∷ V.Bits ∷ []) V.Bool ∷ []
row_members types R.GtU = member R.GtU (V.Bits ∷ V.Bits ∷ []) V.Bool ∷ []
row_members types R.GteqU = member R.GteqU (V.Bits ∷ V.Bits ∷ []) V.Bool ∷ []
row_members types R.LtS = member R.LtS (V.Bits ∷ V.Bits ∷ []) V.Bool ∷ []
row_members types R.LteqS = member R.LteqS (V.Bits ∷ V.Bits ∷ []) V.Bool ∷ []
row_members types R.GtS = member R.GtS (V.Bits ∷ V.Bits ∷ []) V.Bool ∷ []
row_members types R.GteqS = member R.GteqS (V.Bits ∷ V.Bits ∷ []) V.Bool ∷ []
row_members types R.Append = member R.Append (V.Bits ∷ V.Bits ∷ []) V.Bits ∷ []
row_members types R.ZeroExtend = member R.ZeroExtend (V.Int ∷ V.Bits ∷ []) V.Bits ∷ []
row_members types R.SignExtend = member R.SignExtend (V.Int ∷ V.Bits ∷ []) V.Bits ∷ []
row_members types R.Truncate = member R.Truncate (V.Bits ∷ V.Int ∷ []) V.Bits ∷ []
row_members types R.Zeros = member R.Zeros (V.Int ∷ []) V.Bits ∷ []
row_members types R.Ones = member R.Ones (V.Int ∷ []) V.Bits ∷ []
row_members types R.ReplicateBits = member R.ReplicateBits (V.Bits ∷ V.Int ∷ []) V.Bits ∷ []
row_members types R.Unsigned = member R.Unsigned (V.Bits ∷ []) V.Int ∷ []
row_members types R.Signed = member R.Signed (V.Bits ∷ []) V.Int ∷ []
row_members types R.ToBits = member R.ToBits (V.Int ∷ V.Int ∷ []) V.Bits ∷ []
row_members types R.Length = lengths
row_members types R.MulWideUu = member R.MulWideUu (V.Bits ∷ V.Bits ∷ []) V.Bits ∷ []
row_members types R.MulWideSs = member R.MulWideSs (V.Bits ∷ V.Bits ∷ []) V.Bits ∷ []
row_members types R.MulWideSu = member R.MulWideSu (V.Bits ∷ V.Bits ∷ []) V.Bits ∷ []
row_members types R.CountLeadingZeros = member R.CountLeadingZeros (V.Bits ∷ []) V.Int ∷ []
row_members types R.BoolToBits = member R.BoolToBits (V.Bool ∷ []) V.Bits ∷ []
row_members types R.VectorInit = member R.VectorInit (V.Int ∷ (V.Variable 0) ∷ []) (V.Vector (V.Variable 0)) ∷ []
row_members types R.ConcatStr = member R.ConcatStr (V.String ∷ V.String ∷ []) V.String ∷ []
row_members types R.DecStr = member R.DecStr (V.Int ∷ []) V.String ∷ []
row_members types R.BitsStr = member R.BitsStr (V.Bits ∷ []) V.String ∷ []
row_members types R.MemRead = member R.MemRead (V.Int ∷ V.Bits ∷ []) V.Bits ∷ []
row_members types R.MemReserve = member R.MemReserve (V.Int ∷ V.Bits ∷ []) V.Bits ∷ []
row_members types R.MemWrite = member R.MemWrite (V.Int ∷ V.Bits ∷ V.Bits ∷ []) V.Unit ∷ []
row_members types R.MemWriteCond = member R.MemWriteCond (V.Int ∷ V.Bits ∷ V.Bits ∷ []) V.Bool ∷ []
row_members types R.MemMapped = member R.MemMapped (V.Int ∷ V.Bits ∷ []) V.Bool ∷ []
row_members types R.Print = member R.Print (V.String ∷ []) V.Unit ∷ []
row_members types R.PrintEndline = member R.PrintEndline (V.String ∷ []) V.Unit ∷ []
row_members types R.ConsolePut = member R.ConsolePut (V.Bits ∷ []) V.Unit ∷ []

-- ---- finding them

-- the row of that name
abbrev pub row_named : List ℕ → Option Row
row_named name = find (λ row. bytes_eq (row_name row) name) all_rows

abbrev pub members_of : Types → List Row → List Member
members_of types rows = flat_map (row_members types) rows
