-- The table of the builtins: what a call owes over the numbers of its arguments, and what its result is (Sail language
-- manual, "Integers" and "Bitvectors").
use Rattle.std.specs.Prelude.{pos, negsuc, List, [], ◌∷◌, ◌++◌}
use Rattle.sail_types.specs.Sums.{constant}
use Rattle.sail_types.specs.declared.numbers.Num.{Num}
use Rattle.sail_types.specs.declared.numbers.Comparison.{Comparison}
use Rattle.sail_types.specs.declared.numbers.Comparison.TheVariants as Is
use Rattle.sail_types.specs.declared.numbers.Con.{Con}
use Rattle.sail_types.specs.declared.numbers.Con.TheVariants as C
use Rattle.sail_types.specs.declared.rows.Row.{Row}
use Rattle.sail_types.specs.declared.rows.Row.TheVariants as R
use Rattle.sail_types.specs.declared.shapes.Shape.{Shape, Shape-F, out-Shape}
use Rattle.sail_types.specs.declared.shapes.Shape.TheOpen as S
use Rattle.row_types.specs.declared.kinds.RowType.{RowType}
use Rattle.row_types.specs.declared.kinds.Outcome.{Outcome}
use Rattle.row_types.specs.declared.kinds.Outcome.TheVariants as O
use Rattle.row_types.specs.declared.kinds.Product.{Product}
use Rattle.row_types.specs.declared.kinds.Product.TheVariants as P
use Rattle.row_types.specs.Formulas.{least, most, first, second, third, answer, product, times, plus_times}
use Rattle.row_types.specs.Formulas.{times_power, at_most, equal, within, as_wide}

abbrev pub with_product : Product → List Con → Outcome → RowType
with_product p conditions outcome = record { conditions = conditions; product = p; outcome = outcome }

-- under these conditions the result is this
abbrev pub under : List Con → Outcome → RowType
under = with_product P.Nothing

-- an integer, which has to be from the least to the largest
abbrev pub bounded : Product → Num → RowType
bounded p t = with_product p (within least t most) (O.Integer t)

-- an integer from the least to the largest, of which no more is known
abbrev pub any_integer : Outcome
any_integer = O.Fresh (constant least) (constant most) []

-- so many bits, the number not negative
abbrev pub bits_of_first : RowType
bits_of_first = under (at_most (constant (pos 0)) first ∷ []) (O.Bits first)

-- two words that are as wide, and as wide a word or a truth
abbrev pub alike : Outcome → RowType
alike outcome = under as_wide outcome

-- a word twice as wide
abbrev pub wide : RowType
wide = under (as_wide ++ at_most first (constant (pos 64)) ∷ []) (O.Bits (times (pos 2) 0 (pos 0)))

-- a count of bytes from 1 to 16, and an address of 64 bits
abbrev pub access : List Con
access = within (pos 1) first (pos 16) ++ equal second (constant (pos 64)) ∷ []

abbrev pub bits_of_bytes : Num
bits_of_bytes = times (pos 8) 0 (pos 0)

-- two values of a shape are compared: integers by their numbers, bits only where they are as wide
abbrev pub compared : Comparison → Shape-F Shape → RowType
compared how S.Int = under [] (O.Truth (C.Compare how first second))
compared how S.Bits = alike O.Bool
compared how s = under [] O.Bool

-- what a builtin is whose first argument has this shape
abbrev pub row_type : Row → Shape → RowType
row_type R.AddInt s = bounded P.Nothing (plus_times 0 (pos 1) 1 (pos 0))
row_type R.SubInt s = bounded P.Nothing (plus_times 0 (negsuc 0) 1 (pos 0))
row_type R.MultInt s = bounded P.OfArguments product
row_type R.NegInt s = under [] (O.Integer (times (negsuc 0) 0 (pos 0)))
row_type R.Pow2 s = under (within (pos 0) first (pos 126)) (O.Integer (times_power (pos 1) (pos 0) (pos 0)))
row_type R.AbsInt s = under [] (O.Fresh (constant (pos 0)) (constant most) [])
row_type R.MinInt s = under []
    (O.Fresh (constant least) (constant most) (at_most answer first ∷ at_most answer second ∷ []))
row_type R.MaxInt s = under []
    (O.Fresh (constant least) (constant most) (at_most first answer ∷ at_most second answer ∷ []))
row_type R.EdivInt s =
    with_product P.OfResult (at_most (constant (pos 1)) second ∷ [])
    (O.Fresh (constant least) (constant most)
    (at_most product first ∷ at_most first (plus_times 4 (pos 1) 1 (negsuc 0)) ∷ []))
row_type R.EmodInt s = under (at_most (constant (pos 1)) second ∷ [])
    (O.Fresh (constant (pos 0)) (times (pos 1) 1 (negsuc 0)) [])
row_type R.TdivInt s = under (C.Compare Is.NotEqual second (constant (pos 0)) ∷ []) any_integer
row_type R.TmodInt s = under (C.Compare Is.NotEqual second (constant (pos 0)) ∷ []) any_integer
row_type R.LtInt s = under [] (O.Truth (C.Compare Is.Less first second))
row_type R.LteqInt s = under [] (O.Truth (C.Compare Is.LessEqual first second))
row_type R.GtInt s = under [] (O.Truth (C.Compare Is.Greater first second))
row_type R.GteqInt s = under [] (O.Truth (C.Compare Is.GreaterEqual first second))
row_type R.Eq s = compared Is.Equal (out-Shape s)
row_type R.Neq s = compared Is.NotEqual (out-Shape s)
row_type R.NotBool s = under [] (O.Truth (C.Not (C.Holds 0)))
row_type R.AddBits s = alike (O.Bits first)
row_type R.SubBits s = alike (O.Bits first)
row_type R.MultBits s = alike (O.Bits first)
row_type R.AddBitsInt s = under [] (O.Bits first)
row_type R.SubBitsInt s = under [] (O.Bits first)
row_type R.AndBits s = alike (O.Bits first)
row_type R.OrBits s = alike (O.Bits first)
row_type R.XorBits s = alike (O.Bits first)
row_type R.NotBits s = under [] (O.Bits first)
row_type R.Shiftl s = under (at_most (constant (pos 0)) second ∷ []) (O.Bits first)
row_type R.Shiftr s = under (at_most (constant (pos 0)) second ∷ []) (O.Bits first)
row_type R.ArithShiftr s = under (at_most (constant (pos 0)) second ∷ []) (O.Bits first)
row_type R.ShiftlBits s = under [] (O.Bits first)
row_type R.ShiftrBits s = under [] (O.Bits first)
row_type R.ArithShiftrBits s = under [] (O.Bits first)
row_type R.LtU s = alike O.Bool
row_type R.LteqU s = alike O.Bool
row_type R.GtU s = alike O.Bool
row_type R.GteqU s = alike O.Bool
row_type R.LtS s = alike O.Bool
row_type R.LteqS s = alike O.Bool
row_type R.GtS s = alike O.Bool
row_type R.GteqS s = alike O.Bool
row_type R.Append s = under [] (O.Bits (plus_times 0 (pos 1) 1 (pos 0)))
row_type R.ZeroExtend s = under (at_most second first ∷ []) (O.Bits first)
row_type R.SignExtend s = under (at_most second first ∷ []) (O.Bits first)
row_type R.Truncate s = under (at_most (constant (pos 0)) second ∷ at_most second first ∷ []) (O.Bits second)
row_type R.Zeros s = bits_of_first
row_type R.Ones s = bits_of_first
row_type R.ReplicateBits s = with_product P.OfArguments (at_most (constant (pos 0)) second ∷ []) (O.Bits product)
row_type R.Unsigned s =
    under (at_most first (constant (pos 126)) ∷ [])
    (O.Fresh (constant (pos 0)) (times_power (pos 1) (pos 0) (negsuc 0)) [])
row_type R.Signed s =
    under (at_most first (constant (pos 126)) ∷ at_most (constant (pos 1)) first ∷ [])
    (O.Fresh (times_power (negsuc 0) (negsuc 0) (pos 0)) (times_power (pos 1) (negsuc 0) (negsuc 0)) [])
row_type R.ToBits s = bits_of_first
row_type R.Length s = under [] (O.Integer first)
row_type R.MulWideUu s = wide
row_type R.MulWideSs s = wide
row_type R.MulWideSu s = wide
row_type R.CountLeadingZeros s = under [] (O.Fresh (constant (pos 0)) first [])
row_type R.BoolToBits s = under [] (O.Bits (constant (pos 1)))
row_type R.VectorInit s = under (at_most (constant (pos 0)) first ∷ []) (O.Vector first)
row_type R.ConcatStr s = under [] O.String
row_type R.DecStr s = under [] O.String
row_type R.BitsStr s = under [] O.String
row_type R.MemRead s = under access (O.Bits bits_of_bytes)
row_type R.MemReserve s = under access (O.Bits bits_of_bytes)
row_type R.MemWrite s = under (access ++ equal third bits_of_bytes ∷ []) O.Unit
row_type R.MemWriteCond s = under (access ++ equal third bits_of_bytes ∷ []) O.Bool
row_type R.MemMapped s = under access O.Bool
row_type R.Print s = under [] O.Unit
row_type R.PrintEndline s = under [] O.Unit
row_type R.ConsolePut s = under (equal first (constant (pos 8)) ∷ []) O.Unit
