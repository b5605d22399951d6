-- What the builtins without state compute, on lists of bits and plain integers (Sail language manual, "Integers" and
-- "Bitvectors"). There is nothing where a row's condition fails, a value has another shape, or what it makes passes a limit.
use Rattle.std.specs.Bool.{beq}
use Rattle.std.specs.Prelude.{ℕ, nat_eq, nat_le, ℤ, pos, negsuc, ◌+ℤ◌, ◌-ℤ◌, ◌*ℤ◌, neg_ℤ, unsigned_abs, int_le}
use Rattle.std.specs.Prelude.{int_lt, int_div, int_rem, Bool, true, false, not, ◌&&◌, List, [], ◌∷◌, ◌++◌, length}
use Rattle.std.specs.Prelude.{take, replicate, map, bytes_eq, Option, Some, None, option_map, if◌then◌else◌}
use Rattle.std.specs.Int.{int_div_euclid, int_rem_euclid}
use Rattle.std.specs.Ordering.{int_eq}
use Rattle.std.specs.Fmt.{signed_decimal}
use Rattle.sail_base.specs.Bits as B
use Rattle.sail_types.specs.Limits.{is_small, is_width, is_length, small_power}
use Rattle.sail_types.specs.Texts.{bits_text}
use Rattle.sail_types.specs.Sums.{and_then}
use Rattle.sail_types.specs.declared.rows.Row.{Row}
use Rattle.sail_types.specs.declared.rows.Row.TheVariants as R
use Rattle.sail_types.specs.declared.values.Value.{Value, Value-F, out-Value, roll-Value}
use Rattle.sail_types.specs.declared.values.Value.TheOpen as W
use Rattle.sail_types.specs.declared.values.Value.TheVariants as V

abbrev pub Bits : Type 0
Bits = List Bool

abbrev pub Opened : Type 0
Opened = List (Value-F Value)

-- ---- what results are, within the limits

abbrev pub only : {A : Type 0} → Bool → A → Option A
only true x = Some x
only false x = None

abbrev pub an_integer : ℤ → Option Value
an_integer z = only (is_small z) (V.Integer z)

abbrev pub a_word : Bits → Option Value
a_word b = only (is_width (length b)) (V.Bits b)

abbrev pub a_truth : Bool → Option Value
a_truth b = Some (V.Truth b)

abbrev pub a_text : List ℕ → Option Value
a_text text = Some (V.String text)

-- under a condition
abbrev pub where_ : Bool → Option Value → Option Value
where_ true v = v
where_ false v = None

-- a function of a number that is not negative
abbrev pub natural : ℤ → (ℕ → Option Value) → Option Value
natural (pos n) f = f n
natural (negsuc n) f = None

-- ---- the rows, by what they take

abbrev pub on_integer : Row → ℤ → Option Value
on_integer R.NegInt i = an_integer (neg_ℤ i)
on_integer R.Pow2 i = and_then (small_power i) an_integer
on_integer R.AbsInt i = an_integer (pos (unsigned_abs i))
on_integer R.Zeros i = natural i (λ n. a_word (replicate n false))
on_integer R.Ones i = natural i (λ n. a_word (replicate n true))
on_integer R.DecStr i = a_text (signed_decimal i)
on_integer row i = None

-- the quotient of `ediv_int` is rounded down and that of `tdiv_int` toward zero
abbrev pub on_integers : Row → ℤ → ℤ → Option Value
on_integers R.AddInt i j = an_integer (i +ℤ j)
on_integers R.SubInt i j = an_integer (i -ℤ j)
on_integers R.MultInt i j = an_integer (i *ℤ j)
on_integers R.MinInt i j = an_integer (if int_le i j then i else j)
on_integers R.MaxInt i j = an_integer (if int_le i j then j else i)
on_integers R.EdivInt i j = where_ (int_le (pos 1) j) (an_integer (int_div_euclid i j))
on_integers R.EmodInt i j = where_ (int_le (pos 1) j) (an_integer (int_rem_euclid i j))
on_integers R.TdivInt i j = where_ (not (int_eq j (pos 0))) (an_integer (int_div i j))
on_integers R.TmodInt i j = where_ (not (int_eq j (pos 0))) (an_integer (int_rem i j))
on_integers R.LtInt i j = a_truth (int_lt i j)
on_integers R.LteqInt i j = a_truth (int_le i j)
on_integers R.GtInt i j = a_truth (int_lt j i)
on_integers R.GteqInt i j = a_truth (int_le j i)
on_integers R.ToBits i j = natural i (λ n. a_word (B.bits_of_int n j))
on_integers row i j = None

abbrev pub on_truth : Row → Bool → Option Value
on_truth R.NotBool b = a_truth (not b)
on_truth R.BoolToBits b = a_word (b ∷ [])
on_truth row b = None

abbrev pub on_word : Row → Bits → Option Value
on_word R.NotBits b = a_word (B.not_bits b)
on_word R.Unsigned b = where_ (nat_le (length b) 126) (an_integer (pos (B.value_of b)))
on_word R.Signed b = where_ (nat_le 1 (length b) && nat_le (length b) 126) (an_integer (B.signed_of b))
on_word R.Length b = an_integer (pos (length b))
on_word R.CountLeadingZeros b = an_integer (pos (B.leading_zeros b))
on_word R.BitsStr b = a_text (bits_text b)
on_word row b = None

-- of words that are as wide
abbrev pub on_alike : Row → Bits → Bits → Option Value
on_alike R.AddBits b c = a_word (B.add_bits b c)
on_alike R.SubBits b c = a_word (B.sub_bits b c)
on_alike R.MultBits b c = a_word (B.mul_bits b c)
on_alike R.AndBits b c = a_word (B.and_bits b c)
on_alike R.OrBits b c = a_word (B.or_bits b c)
on_alike R.XorBits b c = a_word (B.xor_bits b c)
on_alike R.LtU b c = a_truth (B.lt_unsigned b c)
on_alike R.LteqU b c = a_truth (not (B.lt_unsigned c b))
on_alike R.GtU b c = a_truth (B.lt_unsigned c b)
on_alike R.GteqU b c = a_truth (not (B.lt_unsigned b c))
on_alike R.LtS b c = a_truth (B.lt_signed b c)
on_alike R.LteqS b c = a_truth (not (B.lt_signed c b))
on_alike R.GtS b c = a_truth (B.lt_signed c b)
on_alike R.GteqS b c = a_truth (not (B.lt_signed b c))
on_alike R.MulWideUu b c = a_word (B.mul_wide_unsigned b c)
on_alike R.MulWideSs b c = a_word (B.mul_wide_signed b c)
on_alike R.MulWideSu b c = a_word (B.mul_wide_mixed b c)
on_alike row b c = None

abbrev pub on_words : Row → Bits → Bits → Option Value
on_words R.Append b c = a_word (B.append_bits b c)
on_words R.ShiftlBits b c = a_word (B.shl_bits b (B.value_of c))
on_words R.ShiftrBits b c = a_word (B.shr_bits b (B.value_of c))
on_words R.ArithShiftrBits b c = a_word (B.sar_bits b (B.value_of c))
on_words row b c = where_ (nat_eq (length b) (length c)) (on_alike row b c)

-- an integer is added by its low bits
abbrev pub on_word_integer : Row → Bits → ℤ → Option Value
on_word_integer R.AddBitsInt b i = a_word (B.add_bits b (B.bits_of_int (length b) i))
on_word_integer R.SubBitsInt b i = a_word (B.sub_bits b (B.bits_of_int (length b) i))
on_word_integer R.Shiftl b i = natural i (λ n. a_word (B.shl_bits b n))
on_word_integer R.Shiftr b i = natural i (λ n. a_word (B.shr_bits b n))
on_word_integer R.ArithShiftr b i = natural i (λ n. a_word (B.sar_bits b n))
on_word_integer R.Truncate b i = natural i (λ n. where_ (nat_le n (length b)) (a_word (take n b)))
on_word_integer R.ReplicateBits b i = natural i (λ n. a_word (B.copies n b))
on_word_integer row b i = None

abbrev pub on_integer_word : Row → ℤ → Bits → Option Value
on_integer_word R.ZeroExtend i b = natural i (λ n. where_ (nat_le (length b) n) (a_word (B.zext_bits b n)))
on_integer_word R.SignExtend i b = natural i (λ n. where_ (nat_le (length b) n) (a_word (B.sext_bits b n)))
on_integer_word row i b = None

abbrev pub on_texts : Row → List ℕ → List ℕ → Option Value
on_texts R.ConcatStr s t = a_text (s ++ t)
on_texts row s t = None

abbrev pub on_vector : Row → List Value → Option Value
on_vector R.Length vs = an_integer (pos (length vs))
on_vector row vs = None

-- what two values that can be compared are: the same or not
abbrev pub same_two : Value-F Value → Value-F Value → Option Bool
same_two (W.Integer i) (W.Integer j) = Some (int_eq i j)
same_two (W.Bits b) (W.Bits c) = only (nat_eq (length b) (length c)) (B.eq_bits b c)
same_two (W.Bit b) (W.Bit c) = Some (beq b c)
same_two (W.Truth b) (W.Truth c) = Some (beq b c)
same_two (W.String s) (W.String t) = Some (bytes_eq s t)
same_two W.Unit W.Unit = Some true
same_two (W.Member i k) (W.Member j l) = only (nat_eq i j) (nat_eq k l)
same_two v w = None

abbrev pub same : Opened → Option Bool
same (v ∷ w ∷ []) = same_two v w
same vs = None

-- so many times an item
abbrev pub repeated : Opened → Option Value
repeated (W.Integer i ∷ x ∷ []) = natural i (λ n. where_ (is_length n) (Some (V.Vector (replicate n (roll-Value x)))))
repeated vs = None

abbrev pub of_one : Row → Value-F Value → Option Value
of_one row (W.Integer i) = on_integer row i
of_one row (W.Truth b) = on_truth row b
of_one row (W.Bits b) = on_word row b
of_one row (W.Vector vs) = on_vector row vs
of_one row v = None

abbrev pub of_two : Row → Value-F Value → Value-F Value → Option Value
of_two row (W.Integer i) (W.Integer j) = on_integers row i j
of_two row (W.Integer i) (W.Bits b) = on_integer_word row i b
of_two row (W.Bits b) (W.Bits c) = on_words row b c
of_two row (W.Bits b) (W.Integer i) = on_word_integer row b i
of_two row (W.String s) (W.String t) = on_texts row s t
of_two row v w = None

abbrev pub by_shape : Row → Opened → Option Value
by_shape row (v ∷ []) = of_one row v
by_shape row (v ∷ w ∷ []) = of_two row v w
by_shape row vs = None

abbrev pub row_of : Row → Opened → Option Value
row_of R.Eq vs = option_map V.Truth (same vs)
row_of R.Neq vs = option_map (λ b. V.Truth (not b)) (same vs)
row_of R.VectorInit vs = repeated vs
row_of row vs = by_shape row vs

-- what a row gives for these arguments
abbrev pub row : Row → List Value → Option Value
row r vs = row_of r (map out-Value vs)
