-- The other way round: where a builtin without state has a value for values of its parameters' shapes, what the call
-- owes is true of their numbers. So a condition of the table is one of the definition.
use Rattle.std.proofs.Common.{◌≡◌, ℕ, inl, inr, true, false, not, List, [], ◌∷◌, map, sym, subst, refl, zero-add}
use Rattle.std.specs.Prelude.{Contains, slice_get, is_some}
use Rattle.std.proofs.lemmas.Bool.{true≢false}
use Rattle.sail_types.specs.Rows.{member, row_members, comparison, enums_from}
use Rattle.sail_types.specs.Shapes.{each_fits, fits}
use Rattle.sail_types.specs.Numbers.{Positive}
use Rattle.sail_types.specs.declared.members.Member.{Member}
use Rattle.sail_types.specs.declared.numbers.Num.{Num}
use Rattle.sail_types.specs.declared.numbers.Comparison.TheVariants as Is
use Rattle.sail_types.specs.declared.rows.Row.{Row}
use Rattle.sail_types.specs.declared.rows.Row.TheVariants as R
use Rattle.sail_types.specs.declared.shapes.Shape.{Shape}
use Rattle.sail_types.specs.declared.shapes.Shape.TheOpen as S
use Rattle.sail_types.specs.declared.shapes.Shape.TheVariants as V
use Rattle.sail_types.specs.declared.table.Types.{Types}
use Rattle.sail_types.specs.declared.values.Value.{Value, out-Value}
use Rattle.sail_types.specs.declared.values.Value.TheOpen as W
use Rattle.builtins.specs.RowValues.{Opened, row_of}
use Rattle.row_types.specs.declared.kinds.RowType.{RowType}
use Rattle.row_types.specs.declared.kinds.Outcome.TheVariants as O
use Rattle.row_types.specs.Formulas.{first}
use Rattle.row_types.specs.RowTypes.{row_type, compared}
use Rattle.row_types.specs.Calls.{is_met, has_state, first_shape}
use Rattle.row_types.specs.laws.Shapes.{int_is, bits_is, bit_is, bool_is, string_is, unit_is, named_is}
use Rattle.row_types.specs.laws.Shapes.{first_or_more, Enum, enum_at, member_value}
use Rattle.row_types.specs.laws.Rows.{only_params, pairs, of_integer, of_truth, of_word, of_vector, of_integers}
use Rattle.row_types.specs.laws.Rows.{of_words, of_word_integer, of_integer_word, of_texts, of_bits, of_truths}
use Rattle.row_types.specs.laws.Rows.{of_units, of_any}
use Rattle.row_types.specs.laws.Owed as D

abbrev pub OwedOf : (Num → Positive) → RowType → Row → Opened → Type 0
OwedOf beyond t r vs = is_some (row_of r vs) ≡ true → is_met beyond t vs ≡ true

module _ (types : Types) (vs : List Value) (beyond : Num → Positive) where
  abbrev Compared : Row → Member → Type 0
  Compared r m = each_fits (map (fits types) vs) m.params ≡ true
      → OwedOf beyond (row_type r (first_shape m.params)) r (map out-Value vs)

  eq_of_int : (m : Member) → comparison R.Eq V.Int ≡ m → Compared R.Eq m
  eq_of_int m e = subst (Compared R.Eq) e (λ h.
      subst (λ f. OwedOf beyond (compared Is.Equal f) R.Eq (map out-Value vs)) (sym int_is)
      (of_integers types vs (OwedOf beyond (compared Is.Equal S.Int) R.Eq) h (λ i j h. refl)))

  eq_of_bits : (m : Member) → comparison R.Eq V.Bits ≡ m → Compared R.Eq m
  eq_of_bits m e = subst (Compared R.Eq) e (λ h.
      subst (λ f. OwedOf beyond (compared Is.Equal f) R.Eq (map out-Value vs)) (sym bits_is)
      (of_words types vs (OwedOf beyond (compared Is.Equal S.Bits) R.Eq) h
      (λ b c h. D.compared_owed beyond Is.Equal (λ t. t) b c h)))

  eq_of_bit : (m : Member) → comparison R.Eq V.Bit ≡ m → Compared R.Eq m
  eq_of_bit m e = subst (Compared R.Eq) e (λ h.
      subst (λ f. OwedOf beyond (compared Is.Equal f) R.Eq (map out-Value vs)) (sym bit_is)
      (of_bits types vs (OwedOf beyond (compared Is.Equal S.Bit) R.Eq) h (λ a b h. refl)))

  eq_of_bool : (m : Member) → comparison R.Eq V.Bool ≡ m → Compared R.Eq m
  eq_of_bool m e = subst (Compared R.Eq) e (λ h.
      subst (λ f. OwedOf beyond (compared Is.Equal f) R.Eq (map out-Value vs)) (sym bool_is)
      (of_truths types vs (OwedOf beyond (compared Is.Equal S.Bool) R.Eq) h (λ a b h. refl)))

  eq_of_string : (m : Member) → comparison R.Eq V.String ≡ m → Compared R.Eq m
  eq_of_string m e = subst (Compared R.Eq) e (λ h.
      subst (λ f. OwedOf beyond (compared Is.Equal f) R.Eq (map out-Value vs)) (sym string_is)
      (of_texts types vs (OwedOf beyond (compared Is.Equal S.String) R.Eq) h (λ a b h. refl)))

  eq_of_unit : (m : Member) → comparison R.Eq V.Unit ≡ m → Compared R.Eq m
  eq_of_unit m e = subst (Compared R.Eq) e (λ h.
      subst (λ f. OwedOf beyond (compared Is.Equal f) R.Eq (map out-Value vs)) (sym unit_is)
      (of_units types vs (OwedOf beyond (compared Is.Equal S.Unit) R.Eq) h (λ h. refl)))

  eq_of_enum : (m : Member) (i : ℕ) → Enum R.Eq m i (slice_get types.definitions i) → Compared R.Eq m
  eq_of_enum m i n = subst (Compared R.Eq) n.is (λ h.
      let known = member_value types i n.definition n.found n.form in
      subst (λ f. OwedOf beyond (compared Is.Equal f) R.Eq (map out-Value vs)) (sym (named_is i []))
      (pairs types vs (V.Named i []) (V.Named i []) (W.Member i) (W.Member i) known known
      (OwedOf beyond (compared Is.Equal (S.Named i [])) R.Eq) h
      (λ k l h. refl)))

  eq_owe : (m : Member) → Contains (row_members types R.Eq) m → Compared R.Eq m
  eq_owe m c =
      let f : Shape → Member = comparison R.Eq in
      let enums : List Member = map (comparison R.Eq) (enums_from 0 types.definitions) in
      elim (first_or_more (f V.Int) (f V.Bits ∷ f V.Bit ∷ f V.Bool ∷ f V.String ∷ f V.Unit ∷ enums) m c) [
        | inl e ↦ eq_of_int m e
        | inr c ↦ elim (first_or_more (f V.Bits) (f V.Bit ∷ f V.Bool ∷ f V.String ∷ f V.Unit ∷ enums) m c) [
          | inl e ↦ eq_of_bits m e
          | inr c ↦ elim (first_or_more (f V.Bit) (f V.Bool ∷ f V.String ∷ f V.Unit ∷ enums) m c) [
            | inl e ↦ eq_of_bit m e
            | inr c ↦ elim (first_or_more (f V.Bool) (f V.String ∷ f V.Unit ∷ enums) m c) [
              | inl e ↦ eq_of_bool m e
              | inr c ↦ elim (first_or_more (f V.String) (f V.Unit ∷ enums) m c) [
                | inl e ↦ eq_of_string m e
                | inr c ↦ elim (first_or_more (f V.Unit) enums m c) [
                  | inl e ↦ eq_of_unit m e
                  | inr c ↦ let n = enum_at R.Eq m 0 types.definitions c in
                      eq_of_enum m n.0 (subst (λ k. Enum R.Eq m k (slice_get types.definitions n.0)) (zero-add n.0) n.1)
                ]
              ]
            ]
          ]
        ]
      ]

  neq_of_int : (m : Member) → comparison R.Neq V.Int ≡ m → Compared R.Neq m
  neq_of_int m e = subst (Compared R.Neq) e (λ h.
      subst (λ f. OwedOf beyond (compared Is.NotEqual f) R.Neq (map out-Value vs)) (sym int_is)
      (of_integers types vs (OwedOf beyond (compared Is.NotEqual S.Int) R.Neq) h (λ i j h. refl)))

  neq_of_bits : (m : Member) → comparison R.Neq V.Bits ≡ m → Compared R.Neq m
  neq_of_bits m e = subst (Compared R.Neq) e (λ h.
      subst (λ f. OwedOf beyond (compared Is.NotEqual f) R.Neq (map out-Value vs)) (sym bits_is)
      (of_words types vs (OwedOf beyond (compared Is.NotEqual S.Bits) R.Neq) h
      (λ b c h. D.compared_owed beyond Is.NotEqual not b c h)))

  neq_of_bit : (m : Member) → comparison R.Neq V.Bit ≡ m → Compared R.Neq m
  neq_of_bit m e = subst (Compared R.Neq) e (λ h.
      subst (λ f. OwedOf beyond (compared Is.NotEqual f) R.Neq (map out-Value vs)) (sym bit_is)
      (of_bits types vs (OwedOf beyond (compared Is.NotEqual S.Bit) R.Neq) h (λ a b h. refl)))

  neq_of_bool : (m : Member) → comparison R.Neq V.Bool ≡ m → Compared R.Neq m
  neq_of_bool m e = subst (Compared R.Neq) e (λ h.
      subst (λ f. OwedOf beyond (compared Is.NotEqual f) R.Neq (map out-Value vs)) (sym bool_is)
      (of_truths types vs (OwedOf beyond (compared Is.NotEqual S.Bool) R.Neq) h (λ a b h. refl)))

  neq_of_string : (m : Member) → comparison R.Neq V.String ≡ m → Compared R.Neq m
  neq_of_string m e = subst (Compared R.Neq) e (λ h.
      subst (λ f. OwedOf beyond (compared Is.NotEqual f) R.Neq (map out-Value vs)) (sym string_is)
      (of_texts types vs (OwedOf beyond (compared Is.NotEqual S.String) R.Neq) h (λ a b h. refl)))

  neq_of_unit : (m : Member) → comparison R.Neq V.Unit ≡ m → Compared R.Neq m
  neq_of_unit m e = subst (Compared R.Neq) e (λ h.
      subst (λ f. OwedOf beyond (compared Is.NotEqual f) R.Neq (map out-Value vs)) (sym unit_is)
      (of_units types vs (OwedOf beyond (compared Is.NotEqual S.Unit) R.Neq) h (λ h. refl)))

  neq_of_enum : (m : Member) (i : ℕ) → Enum R.Neq m i (slice_get types.definitions i) → Compared R.Neq m
  neq_of_enum m i n = subst (Compared R.Neq) n.is (λ h.
      let known = member_value types i n.definition n.found n.form in
      subst (λ f. OwedOf beyond (compared Is.NotEqual f) R.Neq (map out-Value vs)) (sym (named_is i []))
      (pairs types vs (V.Named i []) (V.Named i []) (W.Member i) (W.Member i) known known
      (OwedOf beyond (compared Is.NotEqual (S.Named i [])) R.Neq) h
      (λ k l h. refl)))

  neq_owe : (m : Member) → Contains (row_members types R.Neq) m → Compared R.Neq m
  neq_owe m c =
      let f : Shape → Member = comparison R.Neq in
      let enums : List Member = map (comparison R.Neq) (enums_from 0 types.definitions) in
      elim (first_or_more (f V.Int) (f V.Bits ∷ f V.Bit ∷ f V.Bool ∷ f V.String ∷ f V.Unit ∷ enums) m c) [
        | inl e ↦ neq_of_int m e
        | inr c ↦ elim (first_or_more (f V.Bits) (f V.Bit ∷ f V.Bool ∷ f V.String ∷ f V.Unit ∷ enums) m c) [
          | inl e ↦ neq_of_bits m e
          | inr c ↦ elim (first_or_more (f V.Bit) (f V.Bool ∷ f V.String ∷ f V.Unit ∷ enums) m c) [
            | inl e ↦ neq_of_bit m e
            | inr c ↦ elim (first_or_more (f V.Bool) (f V.String ∷ f V.Unit ∷ enums) m c) [
              | inl e ↦ neq_of_bool m e
              | inr c ↦ elim (first_or_more (f V.String) (f V.Unit ∷ enums) m c) [
                | inl e ↦ neq_of_string m e
                | inr c ↦ elim (first_or_more (f V.Unit) enums m c) [
                  | inl e ↦ neq_of_unit m e
                  | inr c ↦ let n = enum_at R.Neq m 0 types.definitions c in
                      neq_of_enum m n.0 (subst (λ k. Enum R.Neq m k (slice_get types.definitions n.0))
                      (zero-add n.0) n.1)
                ]
              ]
            ]
          ]
        ]
      ]

  -- ---- all rows

  abbrev At : Row → Opened → Type 0
  At r = OwedOf beyond (row_type r V.Unit) r

  pub rows_owe : (r : Row) (m : Member) → has_state r ≡ false → Contains (row_members types r) m
      → each_fits (map (fits types) vs) m.params ≡ true
      → OwedOf beyond (row_type r (first_shape m.params)) r (map out-Value vs)
  rows_owe R.AddInt m n c h = of_integers types vs (At R.AddInt) (only_params types vs _ m c h)
      (λ i j h. D.add_int beyond V.Unit i j h)
  rows_owe R.SubInt m n c h = of_integers types vs (At R.SubInt) (only_params types vs _ m c h)
      (λ i j h. D.sub_int beyond V.Unit i j h)
  rows_owe R.MultInt m n c h = of_integers types vs (At R.MultInt) (only_params types vs _ m c h)
      (λ i j h. D.mult_int beyond V.Unit i j h)
  rows_owe R.NegInt m n c h = of_integer types vs (At R.NegInt) (only_params types vs _ m c h) (λ i h. refl)
  rows_owe R.Pow2 m n c h = of_integer types vs (At R.Pow2) (only_params types vs _ m c h)
      (λ i h. D.pow2 beyond V.Unit i h)
  rows_owe R.AbsInt m n c h = of_integer types vs (At R.AbsInt) (only_params types vs _ m c h) (λ i h. refl)
  rows_owe R.MinInt m n c h = of_integers types vs (At R.MinInt) (only_params types vs _ m c h) (λ i j h. refl)
  rows_owe R.MaxInt m n c h = of_integers types vs (At R.MaxInt) (only_params types vs _ m c h) (λ i j h. refl)
  rows_owe R.EdivInt m n c h = of_integers types vs (At R.EdivInt) (only_params types vs _ m c h)
      (λ i j h. D.ediv_int beyond V.Unit i j h)
  rows_owe R.EmodInt m n c h = of_integers types vs (At R.EmodInt) (only_params types vs _ m c h)
      (λ i j h. D.emod_int beyond V.Unit i j h)
  rows_owe R.TdivInt m n c h = of_integers types vs (At R.TdivInt) (only_params types vs _ m c h)
      (λ i j h. D.tdiv_int beyond V.Unit i j h)
  rows_owe R.TmodInt m n c h = of_integers types vs (At R.TmodInt) (only_params types vs _ m c h)
      (λ i j h. D.tmod_int beyond V.Unit i j h)
  rows_owe R.LtInt m n c h = of_integers types vs (At R.LtInt) (only_params types vs _ m c h) (λ i j h. refl)
  rows_owe R.LteqInt m n c h = of_integers types vs (At R.LteqInt) (only_params types vs _ m c h) (λ i j h. refl)
  rows_owe R.GtInt m n c h = of_integers types vs (At R.GtInt) (only_params types vs _ m c h) (λ i j h. refl)
  rows_owe R.GteqInt m n c h = of_integers types vs (At R.GteqInt) (only_params types vs _ m c h) (λ i j h. refl)
  rows_owe R.Eq m n c h = eq_owe m c h
  rows_owe R.Neq m n c h = neq_owe m c h
  rows_owe R.NotBool m n c h = of_truth types vs (At R.NotBool) (only_params types vs _ m c h) (λ b h. refl)
  rows_owe R.AddBits m n c h = of_words types vs (At R.AddBits) (only_params types vs _ m c h)
      (λ b c h. D.alike_owed beyond (O.Bits first) b c _ h)
  rows_owe R.SubBits m n c h = of_words types vs (At R.SubBits) (only_params types vs _ m c h)
      (λ b c h. D.alike_owed beyond (O.Bits first) b c _ h)
  rows_owe R.MultBits m n c h = of_words types vs (At R.MultBits) (only_params types vs _ m c h)
      (λ b c h. D.alike_owed beyond (O.Bits first) b c _ h)
  rows_owe R.AddBitsInt m n c h = of_word_integer types vs (At R.AddBitsInt) (only_params types vs _ m c h)
      (λ b i h. refl)
  rows_owe R.SubBitsInt m n c h = of_word_integer types vs (At R.SubBitsInt) (only_params types vs _ m c h)
      (λ b i h. refl)
  rows_owe R.AndBits m n c h = of_words types vs (At R.AndBits) (only_params types vs _ m c h)
      (λ b c h. D.alike_owed beyond (O.Bits first) b c _ h)
  rows_owe R.OrBits m n c h = of_words types vs (At R.OrBits) (only_params types vs _ m c h)
      (λ b c h. D.alike_owed beyond (O.Bits first) b c _ h)
  rows_owe R.XorBits m n c h = of_words types vs (At R.XorBits) (only_params types vs _ m c h)
      (λ b c h. D.alike_owed beyond (O.Bits first) b c _ h)
  rows_owe R.NotBits m n c h = of_word types vs (At R.NotBits) (only_params types vs _ m c h) (λ b h. refl)
  rows_owe R.Shiftl m n c h = of_word_integer types vs (At R.Shiftl) (only_params types vs _ m c h)
      (λ b i h. D.shiftl beyond V.Unit b i h)
  rows_owe R.Shiftr m n c h = of_word_integer types vs (At R.Shiftr) (only_params types vs _ m c h)
      (λ b i h. D.shiftr beyond V.Unit b i h)
  rows_owe R.ArithShiftr m n c h = of_word_integer types vs (At R.ArithShiftr) (only_params types vs _ m c h)
      (λ b i h. D.arith_shiftr beyond V.Unit b i h)
  rows_owe R.ShiftlBits m n c h = of_words types vs (At R.ShiftlBits) (only_params types vs _ m c h) (λ b c h. refl)
  rows_owe R.ShiftrBits m n c h = of_words types vs (At R.ShiftrBits) (only_params types vs _ m c h) (λ b c h. refl)
  rows_owe R.ArithShiftrBits m n c h = of_words types vs (At R.ArithShiftrBits) (only_params types vs _ m c h)
      (λ b c h. refl)
  rows_owe R.LtU m n c h = of_words types vs (At R.LtU) (only_params types vs _ m c h)
      (λ b c h. D.alike_owed beyond O.Bool b c _ h)
  rows_owe R.LteqU m n c h = of_words types vs (At R.LteqU) (only_params types vs _ m c h)
      (λ b c h. D.alike_owed beyond O.Bool b c _ h)
  rows_owe R.GtU m n c h = of_words types vs (At R.GtU) (only_params types vs _ m c h)
      (λ b c h. D.alike_owed beyond O.Bool b c _ h)
  rows_owe R.GteqU m n c h = of_words types vs (At R.GteqU) (only_params types vs _ m c h)
      (λ b c h. D.alike_owed beyond O.Bool b c _ h)
  rows_owe R.LtS m n c h = of_words types vs (At R.LtS) (only_params types vs _ m c h)
      (λ b c h. D.alike_owed beyond O.Bool b c _ h)
  rows_owe R.LteqS m n c h = of_words types vs (At R.LteqS) (only_params types vs _ m c h)
      (λ b c h. D.alike_owed beyond O.Bool b c _ h)
  rows_owe R.GtS m n c h = of_words types vs (At R.GtS) (only_params types vs _ m c h)
      (λ b c h. D.alike_owed beyond O.Bool b c _ h)
  rows_owe R.GteqS m n c h = of_words types vs (At R.GteqS) (only_params types vs _ m c h)
      (λ b c h. D.alike_owed beyond O.Bool b c _ h)
  rows_owe R.Append m n c h = of_words types vs (At R.Append) (only_params types vs _ m c h) (λ b c h. refl)
  rows_owe R.ZeroExtend m n c h = of_integer_word types vs (At R.ZeroExtend) (only_params types vs _ m c h)
      (λ i b h. D.zero_extend beyond V.Unit i b h)
  rows_owe R.SignExtend m n c h = of_integer_word types vs (At R.SignExtend) (only_params types vs _ m c h)
      (λ i b h. D.sign_extend beyond V.Unit i b h)
  rows_owe R.Truncate m n c h = of_word_integer types vs (At R.Truncate) (only_params types vs _ m c h)
      (λ b i h. D.truncate beyond V.Unit b i h)
  rows_owe R.Zeros m n c h = of_integer types vs (At R.Zeros) (only_params types vs _ m c h)
      (λ i h. D.zeros beyond V.Unit i h)
  rows_owe R.Ones m n c h = of_integer types vs (At R.Ones) (only_params types vs _ m c h)
      (λ i h. D.ones beyond V.Unit i h)
  rows_owe R.ReplicateBits m n c h = of_word_integer types vs (At R.ReplicateBits) (only_params types vs _ m c h)
      (λ b i h. D.replicate_bits beyond V.Unit b i h)
  rows_owe R.Unsigned m n c h = of_word types vs (At R.Unsigned) (only_params types vs _ m c h)
      (λ b h. D.unsigned beyond V.Unit b h)
  rows_owe R.Signed m n c h = of_word types vs (At R.Signed) (only_params types vs _ m c h)
      (λ b h. D.signed beyond V.Unit b h)
  rows_owe R.ToBits m n c h = of_integers types vs (At R.ToBits) (only_params types vs _ m c h)
      (λ i j h. D.to_bits beyond V.Unit i j h)
  rows_owe R.Length m n c h =
      let of_items : Member = member R.Length (V.Vector (V.Variable 0) ∷ []) V.Int in
      elim (first_or_more (member R.Length (V.Bits ∷ []) V.Int) (of_items ∷ []) m c) [
        | inl e ↦ of_word types vs (At R.Length)
            (subst (λ y. each_fits (map (fits types) vs) y.params ≡ true) (sym e) h)
            (λ b h. refl)
        | inr d ↦ of_vector types vs (V.Variable 0) (At R.Length) (only_params types vs of_items m d h)
            (λ items h. refl)
      ]
  rows_owe R.MulWideUu m n c h = of_words types vs (At R.MulWideUu) (only_params types vs _ m c h)
      (λ b c h. D.mul_wide_uu beyond V.Unit b c h)
  rows_owe R.MulWideSs m n c h = of_words types vs (At R.MulWideSs) (only_params types vs _ m c h)
      (λ b c h. D.mul_wide_ss beyond V.Unit b c h)
  rows_owe R.MulWideSu m n c h = of_words types vs (At R.MulWideSu) (only_params types vs _ m c h)
      (λ b c h. D.mul_wide_su beyond V.Unit b c h)
  rows_owe R.CountLeadingZeros m n c h = of_word types vs (At R.CountLeadingZeros) (only_params types vs _ m c h)
      (λ b h. refl)
  rows_owe R.BoolToBits m n c h = of_truth types vs (At R.BoolToBits) (only_params types vs _ m c h) (λ b h. refl)
  rows_owe R.VectorInit m n c h = of_any types vs (At R.VectorInit) (only_params types vs _ m c h)
      (λ i x h. D.vector_init beyond V.Unit i x h)
  rows_owe R.ConcatStr m n c h = of_texts types vs (At R.ConcatStr) (only_params types vs _ m c h) (λ a b h. refl)
  rows_owe R.DecStr m n c h = of_integer types vs (At R.DecStr) (only_params types vs _ m c h) (λ i h. refl)
  rows_owe R.BitsStr m n c h = of_word types vs (At R.BitsStr) (only_params types vs _ m c h) (λ b h. refl)
  rows_owe R.MemRead m n c h = absurd (true≢false n)
  rows_owe R.MemReserve m n c h = absurd (true≢false n)
  rows_owe R.MemWrite m n c h = absurd (true≢false n)
  rows_owe R.MemWriteCond m n c h = absurd (true≢false n)
  rows_owe R.MemMapped m n c h = absurd (true≢false n)
  rows_owe R.Print m n c h = absurd (true≢false n)
  rows_owe R.PrintEndline m n c h = absurd (true≢false n)
  rows_owe R.ConsolePut m n c h = absurd (true≢false n)
