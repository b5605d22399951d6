-- Each builtin has a member.
use Rattle.std.proofs.Common.{◌≡◌, refl, true}
use Rattle.sail_types.specs.Rows.{row_members}
use Rattle.sail_types.specs.declared.rows.Row.{Row}
use Rattle.sail_types.specs.declared.rows.Row.TheVariants as R
use Rattle.sail_types.specs.declared.table.Types.{Types}
use Rattle.known_texts.specs.Written.{is_some_name}

pub row_full : (types : Types) (row : Row) → is_some_name (row_members types row) ≡ true
row_full types R.AddInt = refl
row_full types R.SubInt = refl
row_full types R.MultInt = refl
row_full types R.NegInt = refl
row_full types R.Pow2 = refl
row_full types R.AbsInt = refl
row_full types R.MinInt = refl
row_full types R.MaxInt = refl
row_full types R.EdivInt = refl
row_full types R.EmodInt = refl
row_full types R.TdivInt = refl
row_full types R.TmodInt = refl
row_full types R.LtInt = refl
row_full types R.LteqInt = refl
row_full types R.GtInt = refl
row_full types R.GteqInt = refl
row_full types R.Eq = refl
row_full types R.Neq = refl
row_full types R.NotBool = refl
row_full types R.AddBits = refl
row_full types R.SubBits = refl
row_full types R.MultBits = refl
row_full types R.AddBitsInt = refl
row_full types R.SubBitsInt = refl
row_full types R.AndBits = refl
row_full types R.OrBits = refl
row_full types R.XorBits = refl
row_full types R.NotBits = refl
row_full types R.Shiftl = refl
row_full types R.Shiftr = refl
row_full types R.ArithShiftr = refl
row_full types R.ShiftlBits = refl
row_full types R.ShiftrBits = refl
row_full types R.ArithShiftrBits = refl
row_full types R.LtU = refl
row_full types R.LteqU = refl
row_full types R.GtU = refl
row_full types R.GteqU = refl
row_full types R.LtS = refl
row_full types R.LteqS = refl
row_full types R.GtS = refl
row_full types R.GteqS = refl
row_full types R.Append = refl
row_full types R.ZeroExtend = refl
row_full types R.SignExtend = refl
row_full types R.Truncate = refl
row_full types R.Zeros = refl
row_full types R.Ones = refl
row_full types R.ReplicateBits = refl
row_full types R.Unsigned = refl
row_full types R.Signed = refl
row_full types R.ToBits = refl
row_full types R.Length = refl
row_full types R.MulWideUu = refl
row_full types R.MulWideSs = refl
row_full types R.MulWideSu = refl
row_full types R.CountLeadingZeros = refl
row_full types R.BoolToBits = refl
row_full types R.VectorInit = refl
row_full types R.ConcatStr = refl
row_full types R.DecStr = refl
row_full types R.BitsStr = refl
row_full types R.MemRead = refl
row_full types R.MemReserve = refl
row_full types R.MemWrite = refl
row_full types R.MemWriteCond = refl
row_full types R.MemMapped = refl
row_full types R.Print = refl
row_full types R.PrintEndline = refl
row_full types R.ConsolePut = refl
