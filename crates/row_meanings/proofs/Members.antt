-- Each member of each builtin: its parameters and result have no variable but its own, and calls of it keep shapes.
use Rattle.std.proofs.Common.{◌≡◌, ℕ, suc, List, [], ◌∷◌, ◌++◌, map, length, replicate, refl, Bool, true, false, not, nat_le, ◌&&◌}
use Rattle.std.proofs.Common.{if◌then◌else◌}
use Rattle.std.specs.Prelude.{take, pos, neg_ℤ, ◌+ℤ◌, ◌-ℤ◌, ◌*ℤ◌, unsigned_abs, int_le, int_lt, int_div, int_rem}
use Rattle.std.specs.Int.{int_div_euclid, int_rem_euclid}
use Rattle.std.specs.Ordering.{int_eq}
use Rattle.std.specs.Fmt.{signed_decimal}
use Rattle.sail_base.specs.Bits as Word
use Rattle.sail_types.specs.Limits.{small_power}
use Rattle.sail_types.specs.Rows.{row_members, members_of, comparison, enums_from, is_enum}
use Rattle.sail_types.specs.Texts.{bits_text}
use Rattle.sail_types.specs.declared.members.Member.{Member}
use Rattle.sail_types.specs.declared.rows.Row.{Row}
use Rattle.sail_types.specs.declared.rows.Row.TheVariants as B
use Rattle.sail_types.specs.declared.shapes.Shape.{Shape}
use Rattle.sail_types.specs.declared.shapes.Shape.TheOpen as S
use Rattle.sail_types.specs.declared.shapes.Shape.TheVariants as V
use Rattle.sail_types.specs.declared.table.Definition.{Definition}
use Rattle.sail_types.specs.declared.table.Types.{Types}
use Rattle.shape_meanings.specs.Whole.{below}
use Rattle.shape_meanings.proofs.Matching.{leaf_below}
use Rattle.row_meanings.specs.Rows.{Each, KeepsShapes, RowsKeepShapes}
use Rattle.row_meanings.proofs.Given as G
use Rattle.row_meanings.proofs.State as M
use Rattle.row_meanings.proofs.Arguments.{MemberIs, ints, words, truths, texts, units, eq_is, neq_is, vector_init_is}
use Rattle.row_meanings.proofs.Arguments as A

-- ---- comparisons

abbrev AllBelow : List Shape → Type 0
AllBelow [] = Unit {0}
AllBelow (s ∷ ss) = (below 1 s ≡ true) × AllBelow ss

enums_below : (i : ℕ) (ds : List Definition) → AllBelow (enums_from i ds)
enums_below i [] = tt
enums_below i (d ∷ ds) = by_enum (is_enum d) (enums_below (suc i) ds)
  where
    by_enum : (b : Bool) → AllBelow (enums_from (suc i) ds)
        → AllBelow (if b then V.Named i [] ∷ enums_from (suc i) ds else enums_from (suc i) ds)
    by_enum true rest = (leaf_below 1 (S.Named i []) (V.Named i []) (V.rolls-Named i []) refl, rest)
    by_enum false rest = rest

compared_are : (types : Types) (r : Row) (ss : List Shape) → ((s : Shape) → below 1 s ≡ true → MemberIs types (comparison r s)) → AllBelow ss
    → Each (MemberIs types) (map (comparison r) ss)
compared_are types r [] is h = tt
compared_are types r (s ∷ ss) is h = (is s h.0, compared_are types r ss is h.1)

comparable_are : (types : Types) (r : Row) → ((s : Shape) → below 1 s ≡ true → MemberIs types (comparison r s))
    → Each (MemberIs types)
    (map (comparison r) (V.Int ∷ V.Bits ∷ V.Bit ∷ V.Bool ∷ V.String ∷ V.Unit ∷ enums_from 0 types.definitions))
comparable_are types r is =
    compared_are types r (V.Int ∷ V.Bits ∷ V.Bit ∷ V.Bool ∷ V.String ∷ V.Unit ∷ enums_from 0 types.definitions) is (
      ints.closed,
      (words.closed, (leaf_below 1 S.Bit V.Bit V.rolls-Bit refl, (truths.closed, (texts.closed, (units.closed, enums_below 0 types.definitions))))),
    )

-- ---- all members

pub row_is : (types : Types) (r : Row) → Each (MemberIs types) (row_members types r)
row_is types B.AddInt = (A.on_integers types B.AddInt V.Int ints refl (λ c i j. G.integer_given types c (i +ℤ j)), tt)
row_is types B.SubInt = (A.on_integers types B.SubInt V.Int ints refl (λ c i j. G.integer_given types c (i -ℤ j)), tt)
row_is types B.MultInt = (A.on_integers types B.MultInt V.Int ints refl (λ c i j. G.integer_given types c (i *ℤ j)), tt)
row_is types B.NegInt = (A.on_integer types B.NegInt V.Int ints refl (λ c i. G.integer_given types c (neg_ℤ i)), tt)
row_is types B.Pow2 = (A.on_integer types B.Pow2 V.Int ints refl (λ c i. G.power_given types c (small_power i)), tt)
row_is types B.AbsInt = (A.on_integer types B.AbsInt V.Int ints refl (λ c i. G.integer_given types c (pos (unsigned_abs i))), tt)
row_is types B.MinInt = (A.on_integers types B.MinInt V.Int ints refl (λ c i j. G.integer_given types c (if int_le i j then i else j)), tt)
row_is types B.MaxInt = (A.on_integers types B.MaxInt V.Int ints refl (λ c i j. G.integer_given types c (if int_le i j then j else i)), tt)
row_is types B.EdivInt = (A.on_integers types B.EdivInt V.Int ints refl (λ c i j. G.integer_where types c (int_le (pos 1) j) (int_div_euclid i j)), tt)
row_is types B.EmodInt = (A.on_integers types B.EmodInt V.Int ints refl (λ c i j. G.integer_where types c (int_le (pos 1) j) (int_rem_euclid i j)), tt)
row_is types B.TdivInt = (A.on_integers types B.TdivInt V.Int ints refl (λ c i j. G.integer_where types c (not (int_eq j (pos 0))) (int_div i j)), tt)
row_is types B.TmodInt = (A.on_integers types B.TmodInt V.Int ints refl (λ c i j. G.integer_where types c (not (int_eq j (pos 0))) (int_rem i j)), tt)
row_is types B.LtInt = (A.on_integers types B.LtInt V.Bool truths refl (λ c i j. G.truth_fits types c (int_lt i j)), tt)
row_is types B.LteqInt = (A.on_integers types B.LteqInt V.Bool truths refl (λ c i j. G.truth_fits types c (int_le i j)), tt)
row_is types B.GtInt = (A.on_integers types B.GtInt V.Bool truths refl (λ c i j. G.truth_fits types c (int_lt j i)), tt)
row_is types B.GteqInt = (A.on_integers types B.GteqInt V.Bool truths refl (λ c i j. G.truth_fits types c (int_le j i)), tt)
row_is types B.Eq = comparable_are types B.Eq (eq_is types)
row_is types B.Neq = comparable_are types B.Neq (neq_is types)
row_is types B.NotBool = (A.on_truth types B.NotBool V.Bool truths refl (λ c b. G.truth_fits types c (not b)), tt)
row_is types B.AddBits = (A.on_words types B.AddBits V.Bits words refl (λ c b d. G.alike_word types c b d (Word.add_bits b d)), tt)
row_is types B.SubBits = (A.on_words types B.SubBits V.Bits words refl (λ c b d. G.alike_word types c b d (Word.sub_bits b d)), tt)
row_is types B.MultBits = (A.on_words types B.MultBits V.Bits words refl (λ c b d. G.alike_word types c b d (Word.mul_bits b d)), tt)
row_is types B.AddBitsInt =
    (A.on_word_integer types B.AddBitsInt V.Bits words refl (λ c b i. G.word_given types c (Word.add_bits b (Word.bits_of_int (length b) i))), tt)
row_is types B.SubBitsInt =
    (A.on_word_integer types B.SubBitsInt V.Bits words refl (λ c b i. G.word_given types c (Word.sub_bits b (Word.bits_of_int (length b) i))), tt)
row_is types B.AndBits = (A.on_words types B.AndBits V.Bits words refl (λ c b d. G.alike_word types c b d (Word.and_bits b d)), tt)
row_is types B.OrBits = (A.on_words types B.OrBits V.Bits words refl (λ c b d. G.alike_word types c b d (Word.or_bits b d)), tt)
row_is types B.XorBits = (A.on_words types B.XorBits V.Bits words refl (λ c b d. G.alike_word types c b d (Word.xor_bits b d)), tt)
row_is types B.NotBits = (A.on_word types B.NotBits V.Bits words refl (λ c b. G.word_given types c (Word.not_bits b)), tt)
row_is types B.Shiftl = (A.on_word_integer types B.Shiftl V.Bits words refl (λ c b i. G.word_for types c i (λ n. Word.shl_bits b n)), tt)
row_is types B.Shiftr = (A.on_word_integer types B.Shiftr V.Bits words refl (λ c b i. G.word_for types c i (λ n. Word.shr_bits b n)), tt)
row_is types B.ArithShiftr = (A.on_word_integer types B.ArithShiftr V.Bits words refl (λ c b i. G.word_for types c i (λ n. Word.sar_bits b n)), tt)
row_is types B.ShiftlBits = (A.on_words types B.ShiftlBits V.Bits words refl (λ c b d. G.word_given types c (Word.shl_bits b (Word.value_of d))), tt)
row_is types B.ShiftrBits = (A.on_words types B.ShiftrBits V.Bits words refl (λ c b d. G.word_given types c (Word.shr_bits b (Word.value_of d))), tt)
row_is types B.ArithShiftrBits =
    (A.on_words types B.ArithShiftrBits V.Bits words refl (λ c b d. G.word_given types c (Word.sar_bits b (Word.value_of d))), tt)
row_is types B.LtU = (A.on_words types B.LtU V.Bool truths refl (λ c b d. G.alike_truth types c b d (Word.lt_unsigned b d)), tt)
row_is types B.LteqU = (A.on_words types B.LteqU V.Bool truths refl (λ c b d. G.alike_truth types c b d (not (Word.lt_unsigned d b))), tt)
row_is types B.GtU = (A.on_words types B.GtU V.Bool truths refl (λ c b d. G.alike_truth types c b d (Word.lt_unsigned d b)), tt)
row_is types B.GteqU = (A.on_words types B.GteqU V.Bool truths refl (λ c b d. G.alike_truth types c b d (not (Word.lt_unsigned b d))), tt)
row_is types B.LtS = (A.on_words types B.LtS V.Bool truths refl (λ c b d. G.alike_truth types c b d (Word.lt_signed b d)), tt)
row_is types B.LteqS = (A.on_words types B.LteqS V.Bool truths refl (λ c b d. G.alike_truth types c b d (not (Word.lt_signed d b))), tt)
row_is types B.GtS = (A.on_words types B.GtS V.Bool truths refl (λ c b d. G.alike_truth types c b d (Word.lt_signed d b)), tt)
row_is types B.GteqS = (A.on_words types B.GteqS V.Bool truths refl (λ c b d. G.alike_truth types c b d (not (Word.lt_signed b d))), tt)
row_is types B.Append = (A.on_words types B.Append V.Bits words refl (λ c b d. G.word_given types c (Word.append_bits b d)), tt)
row_is types B.ZeroExtend =
    (A.on_integer_word types B.ZeroExtend V.Bits words refl (λ c i b. G.word_where types c i (λ n. nat_le (length b) n) (λ n. Word.zext_bits b n)), tt)
row_is types B.SignExtend =
    (A.on_integer_word types B.SignExtend V.Bits words refl (λ c i b. G.word_where types c i (λ n. nat_le (length b) n) (λ n. Word.sext_bits b n)), tt)
row_is types B.Truncate =
    (A.on_word_integer types B.Truncate V.Bits words refl (λ c b i. G.word_where types c i (λ n. nat_le n (length b)) (λ n. take n b)), tt)
row_is types B.Zeros = (A.on_integer types B.Zeros V.Bits words refl (λ c i. G.word_for types c i (λ n. replicate n false)), tt)
row_is types B.Ones = (A.on_integer types B.Ones V.Bits words refl (λ c i. G.word_for types c i (λ n. replicate n true)), tt)
row_is types B.ReplicateBits = (A.on_word_integer types B.ReplicateBits V.Bits words refl (λ c b i. G.word_for types c i (λ n. Word.copies n b)), tt)
row_is types B.Unsigned = (A.on_word types B.Unsigned V.Int ints refl (λ c b. G.integer_where types c (nat_le (length b) 126) (pos (Word.value_of b))), tt)
row_is types B.Signed =
    (A.on_word types B.Signed V.Int ints refl (λ c b. G.integer_where types c (nat_le 1 (length b) && nat_le (length b) 126) (Word.signed_of b)), tt)
row_is types B.ToBits = (A.on_integers types B.ToBits V.Bits words refl (λ c i j. G.word_for types c i (λ n. Word.bits_of_int n j)), tt)
row_is types B.Length = (
  A.on_word types B.Length V.Int ints refl (λ c b. G.integer_given types c (pos (length b))),
  (A.on_vector types B.Length V.Int ints refl (λ c vs. G.integer_given types c (pos (length vs))), tt),
)
row_is types B.MulWideUu = (A.on_words types B.MulWideUu V.Bits words refl (λ c b d. G.alike_word types c b d (Word.mul_wide_unsigned b d)), tt)
row_is types B.MulWideSs = (A.on_words types B.MulWideSs V.Bits words refl (λ c b d. G.alike_word types c b d (Word.mul_wide_signed b d)), tt)
row_is types B.MulWideSu = (A.on_words types B.MulWideSu V.Bits words refl (λ c b d. G.alike_word types c b d (Word.mul_wide_mixed b d)), tt)
row_is types B.CountLeadingZeros = (A.on_word types B.CountLeadingZeros V.Int ints refl (λ c b. G.integer_given types c (pos (Word.leading_zeros b))), tt)
row_is types B.BoolToBits = (A.on_truth types B.BoolToBits V.Bits words refl (λ c b. G.word_given types c (b ∷ [])), tt)
row_is types B.VectorInit = (vector_init_is types, tt)
row_is types B.ConcatStr = (A.on_texts types B.ConcatStr V.String texts refl (λ c t u. G.text_fits types c (t ++ u)), tt)
row_is types B.DecStr = (A.on_integer types B.DecStr V.String texts refl (λ c i. G.text_fits types c (signed_decimal i)), tt)
row_is types B.BitsStr = (A.on_word types B.BitsStr V.String texts refl (λ c b. G.text_fits types c (bits_text b)), tt)
row_is types B.MemRead = (A.at_place types B.MemRead V.Bits words refl (λ c hart state. M.read_ends types c hart state), tt)
row_is types B.MemReserve = (A.at_place types B.MemReserve V.Bits words refl (λ c hart state. M.reserve_ends types c hart state), tt)
row_is types B.MemWrite = (A.at_word types B.MemWrite V.Unit units refl (λ c hart state. M.write_ends types c hart state), tt)
row_is types B.MemWriteCond = (A.at_word types B.MemWriteCond V.Bool truths refl (λ c hart state. M.write_cond_ends types c hart state), tt)
row_is types B.MemMapped = (A.at_place types B.MemMapped V.Bool truths refl (λ c hart state. M.ask_ends types c hart state), tt)
row_is types B.Print = (A.of_text types B.Print V.Unit units refl (λ c hart state. M.print_ends types c hart state), tt)
row_is types B.PrintEndline = (A.of_text types B.PrintEndline V.Unit units refl (λ c hart state. M.print_line_ends types c hart state), tt)
row_is types B.ConsolePut = (A.of_bits types B.ConsolePut V.Unit units refl (λ c hart state. M.console_ends types c hart state), tt)

-- ---- what follows

pub each_keeps : (types : Types) (ms : List Member) → Each (MemberIs types) ms → Each (KeepsShapes types) ms
each_keeps types [] h = tt
each_keeps types (m ∷ ms) h = (h.0.keeps, each_keeps types ms h.1)

pub rows_keep : RowsKeepShapes
rows_keep types r = each_keeps types (row_members types r) (row_is types r)

both_are : (types : Types) (ms ns : List Member) → Each (MemberIs types) ms → Each (MemberIs types) ns → Each (MemberIs types) (ms ++ ns)
both_are types [] ns h k = k
both_are types (m ∷ ms) ns h k = (h.0, both_are types ms ns h.1 k)

-- the members of several builtins
pub members_are : (types : Types) (rows : List Row) → Each (MemberIs types) (members_of types rows)
members_are types [] = tt
members_are types (r ∷ rows) = both_are types (row_members types r) (members_of types rows) (row_is types r) (members_are types rows)
