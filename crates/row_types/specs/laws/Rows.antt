-- The law of the table: where a builtin without state is given values of its parameters' shapes and within the limits,
-- what the call owes is true of their numbers, and the width or length of the result is within its limit, there is a
-- value, and it has the number, width or length that the table says.
use Rattle.std.proofs.Common.{◌≡◌, ℕ, inl, inr, Bool, true, false, List, [], ◌∷◌, map, ap, sym, ◌∙◌}
use Rattle.std.proofs.Common.{refl, subst, zero-add}
use Rattle.std.specs.Prelude.{ℤ, Contains, slice_get}
use Rattle.std.specs.List.{list_all}
use Rattle.std.proofs.lemmas.Bool.{and_parts, true≢false}
use Rattle.sail_types.specs.Numbers.{Positive}
use Rattle.sail_types.specs.Rows.{member, row_members, comparison, enums_from}
use Rattle.sail_types.specs.Shapes.{each_fits, fits}
use Rattle.sail_types.specs.declared.members.Member.{Member}
use Rattle.sail_types.specs.declared.numbers.Num.{Num}
use Rattle.sail_types.specs.declared.numbers.Comparison.TheVariants as Is
use Rattle.sail_types.specs.declared.rows.Row.{Row}
use Rattle.sail_types.specs.declared.rows.Row.TheVariants as R
use Rattle.sail_types.specs.declared.shapes.Shape.{Shape}
use Rattle.sail_types.specs.declared.shapes.Shape.TheOpen as S
use Rattle.sail_types.specs.declared.shapes.Shape.TheVariants as V
use Rattle.sail_types.specs.declared.table.Types.{Types}
use Rattle.sail_types.specs.declared.values.Value.{Value, Value-F, out-Value}
use Rattle.sail_types.specs.declared.values.Value.TheOpen as W
use Rattle.builtins.specs.RowValues.{Bits, Opened, row_of}
use Rattle.row_types.specs.declared.kinds.RowType.{RowType}
use Rattle.row_types.specs.RowTypes.{row_type, compared}
use Rattle.row_types.specs.Calls.{is_sized, is_met, has_space, gives, has_state, first_shape}
use Rattle.row_types.specs.laws.Shapes.{int_is, bits_is, bit_is, bool_is, string_is, unit_is, named_is, only_member}
use Rattle.row_types.specs.laws.Shapes.{first_or_more, Enum, enum_at, one_argument, two_arguments, integer_value}
use Rattle.row_types.specs.laws.Shapes.{bits_value, bit_value, truth_value, string_value, unit_value, vector_value}
use Rattle.row_types.specs.laws.Shapes.{member_value}
use Rattle.row_types.specs.laws.IntegerRows as I
use Rattle.row_types.specs.laws.DivisionRows as D
use Rattle.row_types.specs.laws.WordRows as A
use Rattle.row_types.specs.laws.WidthRows as L
use Rattle.row_types.specs.laws.OtherRows as O

-- what holds of a call with these arguments, opened
abbrev pub HoldsOf : (Num → Positive) → RowType → Row → Opened → Type 0
HoldsOf beyond t r vs = list_all is_sized vs ≡ true → is_met beyond t vs ≡ true → has_space beyond t vs ≡ true
    → gives beyond t vs (row_of r vs) ≡ true

-- the sizes of one argument, and of two
one_sized : (v : Value-F Value) → list_all is_sized (v ∷ []) ≡ true → is_sized v ≡ true
one_sized v h = (and_parts (is_sized v) true h).0

two_sized : (v w : Value-F Value) → list_all is_sized (v ∷ w ∷ []) ≡ true → (is_sized v ≡ true) × (is_sized w ≡ true)
two_sized v w h =
    let p = and_parts (is_sized v) (list_all is_sized (w ∷ [])) h in
    (p.0, one_sized w p.1)

module _ (types : Types) (vs : List Value) where
  -- the parameters of a row's only member
  pub only_params : (x m : Member) → Contains (x ∷ []) m → each_fits (map (fits types) vs) m.params ≡ true
      → each_fits (map (fits types) vs) x.params ≡ true
  only_params x m c h = subst (λ y. each_fits (map (fits types) vs) y.params ≡ true) (sym (only_member x m c)) h

  -- what holds of all arguments of these shapes holds of these
  pub pairs : (s t : Shape) {X Y : Type 0} (f : X → Value-F Value) (g : Y → Value-F Value)
      → ((v : Value) → fits types v s ≡ true → (x : X) × (out-Value v ≡ f x))
      → ((v : Value) → fits types v t ≡ true → (y : Y) × (out-Value v ≡ g y))
      → (P : Opened → Type 0) → each_fits (map (fits types) vs) (s ∷ t ∷ []) ≡ true
      → ((x : X) (y : Y) → P (f x ∷ g y ∷ [])) → P (map out-Value vs)
  pairs s t f g shown_first shown_second P h holds =
      let a = two_arguments types vs s t h in
      let x = shown_first a.0 a.3 in
      let y = shown_second a.1 a.4 in
      subst P (sym (ap (map out-Value) a.2 ∙ (λ i. x.1 i ∷ y.1 i ∷ []))) (holds x.0 y.0)

  pub singles : (s : Shape) {X : Type 0} (f : X → Value-F Value)
      → ((v : Value) → fits types v s ≡ true → (x : X) × (out-Value v ≡ f x))
      → (P : Opened → Type 0) → each_fits (map (fits types) vs) (s ∷ []) ≡ true → ((x : X) → P (f x ∷ []))
      → P (map out-Value vs)
  singles s f shown P h holds =
      let a = one_argument types vs s h in
      let x = shown a.0 a.2 in
      subst P (sym (ap (map out-Value) a.1 ∙ (λ i. x.1 i ∷ []))) (holds x.0)

  pub of_integer : (P : Opened → Type 0) → each_fits (map (fits types) vs) (V.Int ∷ []) ≡ true
      → ((i : ℤ) → P (W.Integer i ∷ [])) → P (map out-Value vs)
  of_integer P h holds = singles V.Int W.Integer (integer_value types) P h holds

  pub of_truth : (P : Opened → Type 0) → each_fits (map (fits types) vs) (V.Bool ∷ []) ≡ true
      → ((b : Bool) → P (W.Truth b ∷ [])) → P (map out-Value vs)
  of_truth P h holds = singles V.Bool W.Truth (truth_value types) P h holds

  pub of_word : (P : Opened → Type 0) → each_fits (map (fits types) vs) (V.Bits ∷ []) ≡ true
      → ((b : Bits) → P (W.Bits b ∷ [])) → P (map out-Value vs)
  of_word P h holds = singles V.Bits W.Bits (bits_value types) P h holds

  pub of_vector : (s : Shape) (P : Opened → Type 0) → each_fits (map (fits types) vs) (V.Vector s ∷ []) ≡ true
      → ((items : List Value) → P (W.Vector items ∷ [])) → P (map out-Value vs)
  of_vector s P h holds = singles (V.Vector s) W.Vector (λ v k. vector_value types v s k) P h holds

  pub of_integers : (P : Opened → Type 0) → each_fits (map (fits types) vs) (V.Int ∷ V.Int ∷ []) ≡ true
      → ((i j : ℤ) → P (W.Integer i ∷ W.Integer j ∷ [])) → P (map out-Value vs)
  of_integers P h holds = pairs V.Int V.Int W.Integer W.Integer (integer_value types) (integer_value types) P h holds

  pub of_words : (P : Opened → Type 0) → each_fits (map (fits types) vs) (V.Bits ∷ V.Bits ∷ []) ≡ true
      → ((b c : Bits) → P (W.Bits b ∷ W.Bits c ∷ [])) → P (map out-Value vs)
  of_words P h holds = pairs V.Bits V.Bits W.Bits W.Bits (bits_value types) (bits_value types) P h holds

  pub of_word_integer : (P : Opened → Type 0) → each_fits (map (fits types) vs) (V.Bits ∷ V.Int ∷ []) ≡ true
      → ((b : Bits) (i : ℤ) → P (W.Bits b ∷ W.Integer i ∷ [])) → P (map out-Value vs)
  of_word_integer P h holds = pairs V.Bits V.Int W.Bits W.Integer (bits_value types) (integer_value types) P h holds

  pub of_integer_word : (P : Opened → Type 0) → each_fits (map (fits types) vs) (V.Int ∷ V.Bits ∷ []) ≡ true
      → ((i : ℤ) (b : Bits) → P (W.Integer i ∷ W.Bits b ∷ [])) → P (map out-Value vs)
  of_integer_word P h holds = pairs V.Int V.Bits W.Integer W.Bits (integer_value types) (bits_value types) P h holds

  pub of_texts : (P : Opened → Type 0) → each_fits (map (fits types) vs) (V.String ∷ V.String ∷ []) ≡ true
      → ((a b : List ℕ) → P (W.String a ∷ W.String b ∷ [])) → P (map out-Value vs)
  of_texts P h holds = pairs V.String V.String W.String W.String (string_value types) (string_value types) P h holds

  pub of_bits : (P : Opened → Type 0) → each_fits (map (fits types) vs) (V.Bit ∷ V.Bit ∷ []) ≡ true
      → ((a b : Bool) → P (W.Bit a ∷ W.Bit b ∷ [])) → P (map out-Value vs)
  of_bits P h holds = pairs V.Bit V.Bit W.Bit W.Bit (bit_value types) (bit_value types) P h holds

  pub of_truths : (P : Opened → Type 0) → each_fits (map (fits types) vs) (V.Bool ∷ V.Bool ∷ []) ≡ true
      → ((a b : Bool) → P (W.Truth a ∷ W.Truth b ∷ [])) → P (map out-Value vs)
  of_truths P h holds = pairs V.Bool V.Bool W.Truth W.Truth (truth_value types) (truth_value types) P h holds

  pub of_units : (P : Opened → Type 0) → each_fits (map (fits types) vs) (V.Unit ∷ V.Unit ∷ []) ≡ true
      → P (W.Unit ∷ W.Unit ∷ []) → P (map out-Value vs)
  of_units P h holds =
      let a = two_arguments types vs V.Unit V.Unit h in
      subst P (sym (ap (map out-Value) a.2
      ∙ (λ i. unit_value types a.0 a.3 i ∷ unit_value types a.1 a.4 i ∷ []))) holds

  pub of_any : (P : Opened → Type 0) → each_fits (map (fits types) vs) (V.Int ∷ V.Variable 0 ∷ []) ≡ true
      → ((i : ℤ) (x : Value-F Value) → P (W.Integer i ∷ x ∷ [])) → P (map out-Value vs)
  of_any P h holds = pairs V.Int (V.Variable 0) W.Integer (λ x. x) (integer_value types)
      (λ v k. (out-Value v, refl)) P h holds

  module _ (beyond : Num → Positive) where
    -- ---- comparisons, one member for each shape

    abbrev Compared : Row → Member → Type 0
    Compared r m = each_fits (map (fits types) vs) m.params ≡ true
        → HoldsOf beyond (row_type r (first_shape m.params)) r (map out-Value vs)

    eq_of_int : (m : Member) → comparison R.Eq V.Int ≡ m → Compared R.Eq m
    eq_of_int m e = subst (Compared R.Eq) e (λ h.
        subst (λ f. HoldsOf beyond (compared Is.Equal f) R.Eq (map out-Value vs)) (sym int_is)
        (of_integers (HoldsOf beyond (compared Is.Equal S.Int) R.Eq) h (λ i j sized met room. D.eq_int beyond i j)))

    eq_of_bits : (m : Member) → comparison R.Eq V.Bits ≡ m → Compared R.Eq m
    eq_of_bits m e = subst (Compared R.Eq) e (λ h.
        subst (λ f. HoldsOf beyond (compared Is.Equal f) R.Eq (map out-Value vs)) (sym bits_is)
        (of_words (HoldsOf beyond (compared Is.Equal S.Bits) R.Eq) h
        (λ b c sized met room. O.eq_bits_row beyond b c met)))

    eq_of_bit : (m : Member) → comparison R.Eq V.Bit ≡ m → Compared R.Eq m
    eq_of_bit m e = subst (Compared R.Eq) e (λ h.
        subst (λ f. HoldsOf beyond (compared Is.Equal f) R.Eq (map out-Value vs)) (sym bit_is)
        (of_bits (HoldsOf beyond (compared Is.Equal S.Bit) R.Eq) h (λ a b sized met room. O.eq_bit beyond a b)))

    eq_of_bool : (m : Member) → comparison R.Eq V.Bool ≡ m → Compared R.Eq m
    eq_of_bool m e = subst (Compared R.Eq) e (λ h.
        subst (λ f. HoldsOf beyond (compared Is.Equal f) R.Eq (map out-Value vs)) (sym bool_is)
        (of_truths (HoldsOf beyond (compared Is.Equal S.Bool) R.Eq) h (λ a b sized met room. O.eq_bool beyond a b)))

    eq_of_string : (m : Member) → comparison R.Eq V.String ≡ m → Compared R.Eq m
    eq_of_string m e = subst (Compared R.Eq) e (λ h.
        subst (λ f. HoldsOf beyond (compared Is.Equal f) R.Eq (map out-Value vs)) (sym string_is)
        (of_texts (HoldsOf beyond (compared Is.Equal S.String) R.Eq) h
        (λ a b sized met room. O.eq_string beyond a b)))

    eq_of_unit : (m : Member) → comparison R.Eq V.Unit ≡ m → Compared R.Eq m
    eq_of_unit m e = subst (Compared R.Eq) e (λ h.
        subst (λ f. HoldsOf beyond (compared Is.Equal f) R.Eq (map out-Value vs)) (sym unit_is)
        (of_units (HoldsOf beyond (compared Is.Equal S.Unit) R.Eq) h (λ sized met room. O.eq_unit beyond)))

    eq_of_enum : (m : Member) (i : ℕ) → Enum R.Eq m i (slice_get types.definitions i) → Compared R.Eq m
    eq_of_enum m i n = subst (Compared R.Eq) n.is (λ h.
        let known = member_value types i n.definition n.found n.form in
        subst (λ f. HoldsOf beyond (compared Is.Equal f) R.Eq (map out-Value vs)) (sym (named_is i []))
        (pairs (V.Named i []) (V.Named i []) (W.Member i) (W.Member i) known known
        (HoldsOf beyond (compared Is.Equal (S.Named i [])) R.Eq) h
        (λ k l sized met room. O.eq_member beyond i k l [])))

    eq_gives : (m : Member) → Contains (row_members types R.Eq) m → Compared R.Eq m
    eq_gives m c =
        let f : Shape → Member = comparison R.Eq in
        let enums : List Member = map (comparison R.Eq) (enums_from 0 types.definitions) in
        elim (first_or_more (f V.Int) (f V.Bits ∷ f V.Bit ∷ f V.Bool ∷ f V.String ∷ f V.Unit ∷ enums) m c) [
          | inl e ↦ eq_of_int m e
          | inr c ↦ elim (first_or_more (f V.Bits) (f V.Bit ∷ f V.Bool ∷ f V.String ∷ f V.Unit ∷ enums) m c) [
            | inl e ↦ eq_of_bits m e
            | inr c ↦ elim (first_or_more (f V.Bit) (f V.Bool ∷ f V.String ∷ f V.Unit ∷ enums) m c) [
              | inl e ↦ eq_of_bit m e
              | inr c ↦ elim (first_or_more (f V.Bool) (f V.String ∷ f V.Unit ∷ enums) m c) [
                | inl e ↦ eq_of_bool m e
                | inr c ↦ elim (first_or_more (f V.String) (f V.Unit ∷ enums) m c) [
                  | inl e ↦ eq_of_string m e
                  | inr c ↦ elim (first_or_more (f V.Unit) enums m c) [
                    | inl e ↦ eq_of_unit m e
                    | inr c ↦ let n = enum_at R.Eq m 0 types.definitions c in
                        eq_of_enum m n.0 (subst (λ k. Enum R.Eq m k (slice_get types.definitions n.0))
                        (zero-add n.0) n.1)
                  ]
                ]
              ]
            ]
          ]
        ]

    neq_of_int : (m : Member) → comparison R.Neq V.Int ≡ m → Compared R.Neq m
    neq_of_int m e = subst (Compared R.Neq) e (λ h.
        subst (λ f. HoldsOf beyond (compared Is.NotEqual f) R.Neq (map out-Value vs)) (sym int_is)
        (of_integers (HoldsOf beyond (compared Is.NotEqual S.Int) R.Neq) h
        (λ i j sized met room. D.neq_int beyond i j)))

    neq_of_bits : (m : Member) → comparison R.Neq V.Bits ≡ m → Compared R.Neq m
    neq_of_bits m e = subst (Compared R.Neq) e (λ h.
        subst (λ f. HoldsOf beyond (compared Is.NotEqual f) R.Neq (map out-Value vs)) (sym bits_is)
        (of_words (HoldsOf beyond (compared Is.NotEqual S.Bits) R.Neq) h
        (λ b c sized met room. O.neq_bits_row beyond b c met)))

    neq_of_bit : (m : Member) → comparison R.Neq V.Bit ≡ m → Compared R.Neq m
    neq_of_bit m e = subst (Compared R.Neq) e (λ h.
        subst (λ f. HoldsOf beyond (compared Is.NotEqual f) R.Neq (map out-Value vs)) (sym bit_is)
        (of_bits (HoldsOf beyond (compared Is.NotEqual S.Bit) R.Neq) h (λ a b sized met room. O.neq_bit beyond a b)))

    neq_of_bool : (m : Member) → comparison R.Neq V.Bool ≡ m → Compared R.Neq m
    neq_of_bool m e = subst (Compared R.Neq) e (λ h.
        subst (λ f. HoldsOf beyond (compared Is.NotEqual f) R.Neq (map out-Value vs)) (sym bool_is)
        (of_truths (HoldsOf beyond (compared Is.NotEqual S.Bool) R.Neq) h
        (λ a b sized met room. O.neq_bool beyond a b)))

    neq_of_string : (m : Member) → comparison R.Neq V.String ≡ m → Compared R.Neq m
    neq_of_string m e = subst (Compared R.Neq) e (λ h.
        subst (λ f. HoldsOf beyond (compared Is.NotEqual f) R.Neq (map out-Value vs)) (sym string_is)
        (of_texts (HoldsOf beyond (compared Is.NotEqual S.String) R.Neq) h
        (λ a b sized met room. O.neq_string beyond a b)))

    neq_of_unit : (m : Member) → comparison R.Neq V.Unit ≡ m → Compared R.Neq m
    neq_of_unit m e = subst (Compared R.Neq) e (λ h.
        subst (λ f. HoldsOf beyond (compared Is.NotEqual f) R.Neq (map out-Value vs)) (sym unit_is)
        (of_units (HoldsOf beyond (compared Is.NotEqual S.Unit) R.Neq) h (λ sized met room. O.neq_unit beyond)))

    neq_of_enum : (m : Member) (i : ℕ) → Enum R.Neq m i (slice_get types.definitions i) → Compared R.Neq m
    neq_of_enum m i n = subst (Compared R.Neq) n.is (λ h.
        let known = member_value types i n.definition n.found n.form in
        subst (λ f. HoldsOf beyond (compared Is.NotEqual f) R.Neq (map out-Value vs)) (sym (named_is i []))
        (pairs (V.Named i []) (V.Named i []) (W.Member i) (W.Member i) known known
        (HoldsOf beyond (compared Is.NotEqual (S.Named i [])) R.Neq) h
        (λ k l sized met room. O.neq_member beyond i k l [])))

    neq_gives : (m : Member) → Contains (row_members types R.Neq) m → Compared R.Neq m
    neq_gives m c =
        let f : Shape → Member = comparison R.Neq in
        let enums : List Member = map (comparison R.Neq) (enums_from 0 types.definitions) in
        elim (first_or_more (f V.Int) (f V.Bits ∷ f V.Bit ∷ f V.Bool ∷ f V.String ∷ f V.Unit ∷ enums) m c) [
          | inl e ↦ neq_of_int m e
          | inr c ↦ elim (first_or_more (f V.Bits) (f V.Bit ∷ f V.Bool ∷ f V.String ∷ f V.Unit ∷ enums) m c) [
            | inl e ↦ neq_of_bits m e
            | inr c ↦ elim (first_or_more (f V.Bit) (f V.Bool ∷ f V.String ∷ f V.Unit ∷ enums) m c) [
              | inl e ↦ neq_of_bit m e
              | inr c ↦ elim (first_or_more (f V.Bool) (f V.String ∷ f V.Unit ∷ enums) m c) [
                | inl e ↦ neq_of_bool m e
                | inr c ↦ elim (first_or_more (f V.String) (f V.Unit ∷ enums) m c) [
                  | inl e ↦ neq_of_string m e
                  | inr c ↦ elim (first_or_more (f V.Unit) enums m c) [
                    | inl e ↦ neq_of_unit m e
                    | inr c ↦ let n = enum_at R.Neq m 0 types.definitions c in
                        neq_of_enum m n.0 (subst (λ k. Enum R.Neq m k (slice_get types.definitions n.0))
                        (zero-add n.0) n.1)
                  ]
                ]
              ]
            ]
          ]
        ]

    -- ---- all rows

    abbrev At : Row → Opened → Type 0
    At r = HoldsOf beyond (row_type r V.Unit) r

    pub rows_give : (r : Row) (m : Member) → has_state r ≡ false → Contains (row_members types r) m
        → each_fits (map (fits types) vs) m.params ≡ true
        → HoldsOf beyond (row_type r (first_shape m.params)) r (map out-Value vs)
    rows_give R.AddInt m n c h = of_integers (At R.AddInt) (only_params _ m c h)
        (λ i j sized met room. I.add_int beyond V.Unit i j met)
    rows_give R.SubInt m n c h = of_integers (At R.SubInt) (only_params _ m c h)
        (λ i j sized met room. I.sub_int beyond V.Unit i j met)
    rows_give R.MultInt m n c h = of_integers (At R.MultInt) (only_params _ m c h)
        (λ i j sized met room. I.mult_int beyond V.Unit i j met)
    rows_give R.NegInt m n c h = of_integer (At R.NegInt) (only_params _ m c h)
        (λ i sized met room. I.neg_int beyond V.Unit i (one_sized (W.Integer i) sized))
    rows_give R.Pow2 m n c h = of_integer (At R.Pow2) (only_params _ m c h)
        (λ i sized met room. D.pow2 beyond V.Unit i met)
    rows_give R.AbsInt m n c h = of_integer (At R.AbsInt) (only_params _ m c h)
        (λ i sized met room. I.abs_int beyond V.Unit i (one_sized (W.Integer i) sized))
    rows_give R.MinInt m n c h = of_integers (At R.MinInt) (only_params _ m c h)
        (λ i j sized met room. I.min_int beyond V.Unit i j (two_sized (W.Integer i) (W.Integer j) sized).0
        (two_sized (W.Integer i) (W.Integer j) sized).1)
    rows_give R.MaxInt m n c h = of_integers (At R.MaxInt) (only_params _ m c h)
        (λ i j sized met room. I.max_int beyond V.Unit i j (two_sized (W.Integer i) (W.Integer j) sized).0
        (two_sized (W.Integer i) (W.Integer j) sized).1)
    rows_give R.EdivInt m n c h = of_integers (At R.EdivInt) (only_params _ m c h)
        (λ i j sized met room. D.ediv_int beyond V.Unit i j (two_sized (W.Integer i) (W.Integer j) sized).0 met)
    rows_give R.EmodInt m n c h = of_integers (At R.EmodInt) (only_params _ m c h)
        (λ i j sized met room. D.emod_int beyond V.Unit i j (two_sized (W.Integer i) (W.Integer j) sized).1 met)
    rows_give R.TdivInt m n c h = of_integers (At R.TdivInt) (only_params _ m c h)
        (λ i j sized met room. D.tdiv_int beyond V.Unit i j (two_sized (W.Integer i) (W.Integer j) sized).0 met)
    rows_give R.TmodInt m n c h = of_integers (At R.TmodInt) (only_params _ m c h)
        (λ i j sized met room. D.tmod_int beyond V.Unit i j (two_sized (W.Integer i) (W.Integer j) sized).0 met)
    rows_give R.LtInt m n c h = of_integers (At R.LtInt) (only_params _ m c h)
        (λ i j sized met room. D.lt_int beyond V.Unit i j)
    rows_give R.LteqInt m n c h = of_integers (At R.LteqInt) (only_params _ m c h)
        (λ i j sized met room. D.lteq_int beyond V.Unit i j)
    rows_give R.GtInt m n c h = of_integers (At R.GtInt) (only_params _ m c h)
        (λ i j sized met room. D.gt_int beyond V.Unit i j)
    rows_give R.GteqInt m n c h = of_integers (At R.GteqInt) (only_params _ m c h)
        (λ i j sized met room. D.gteq_int beyond V.Unit i j)
    rows_give R.Eq m n c h = eq_gives m c h
    rows_give R.Neq m n c h = neq_gives m c h
    rows_give R.NotBool m n c h = of_truth (At R.NotBool) (only_params _ m c h)
        (λ b sized met room. D.not_bool beyond V.Unit b)
    rows_give R.AddBits m n c h = of_words (At R.AddBits) (only_params _ m c h)
        (λ b c sized met room. A.add_bits beyond V.Unit b c (two_sized (W.Bits b) (W.Bits c) sized).0 met)
    rows_give R.SubBits m n c h = of_words (At R.SubBits) (only_params _ m c h)
        (λ b c sized met room. A.sub_bits beyond V.Unit b c (two_sized (W.Bits b) (W.Bits c) sized).0 met)
    rows_give R.MultBits m n c h = of_words (At R.MultBits) (only_params _ m c h)
        (λ b c sized met room. A.mult_bits beyond V.Unit b c (two_sized (W.Bits b) (W.Bits c) sized).0 met)
    rows_give R.AddBitsInt m n c h = of_word_integer (At R.AddBitsInt) (only_params _ m c h)
        (λ b i sized met room. A.add_bits_int beyond V.Unit b i (two_sized (W.Bits b) (W.Integer i) sized).0)
    rows_give R.SubBitsInt m n c h = of_word_integer (At R.SubBitsInt) (only_params _ m c h)
        (λ b i sized met room. A.sub_bits_int beyond V.Unit b i (two_sized (W.Bits b) (W.Integer i) sized).0)
    rows_give R.AndBits m n c h = of_words (At R.AndBits) (only_params _ m c h)
        (λ b c sized met room. A.and_bits beyond V.Unit b c (two_sized (W.Bits b) (W.Bits c) sized).0 met)
    rows_give R.OrBits m n c h = of_words (At R.OrBits) (only_params _ m c h)
        (λ b c sized met room. A.or_bits beyond V.Unit b c (two_sized (W.Bits b) (W.Bits c) sized).0 met)
    rows_give R.XorBits m n c h = of_words (At R.XorBits) (only_params _ m c h)
        (λ b c sized met room. A.xor_bits beyond V.Unit b c (two_sized (W.Bits b) (W.Bits c) sized).0 met)
    rows_give R.NotBits m n c h = of_word (At R.NotBits) (only_params _ m c h)
        (λ b sized met room. A.not_bits_row beyond V.Unit b (one_sized (W.Bits b) sized))
    rows_give R.Shiftl m n c h = of_word_integer (At R.Shiftl) (only_params _ m c h)
        (λ b i sized met room. A.shiftl beyond V.Unit b i (two_sized (W.Bits b) (W.Integer i) sized).0 met)
    rows_give R.Shiftr m n c h = of_word_integer (At R.Shiftr) (only_params _ m c h)
        (λ b i sized met room. A.shiftr beyond V.Unit b i (two_sized (W.Bits b) (W.Integer i) sized).0 met)
    rows_give R.ArithShiftr m n c h = of_word_integer (At R.ArithShiftr) (only_params _ m c h)
        (λ b i sized met room. A.arith_shiftr beyond V.Unit b i (two_sized (W.Bits b) (W.Integer i) sized).0 met)
    rows_give R.ShiftlBits m n c h = of_words (At R.ShiftlBits) (only_params _ m c h)
        (λ b c sized met room. A.shiftl_bits beyond V.Unit b c (two_sized (W.Bits b) (W.Bits c) sized).0)
    rows_give R.ShiftrBits m n c h = of_words (At R.ShiftrBits) (only_params _ m c h)
        (λ b c sized met room. A.shiftr_bits beyond V.Unit b c (two_sized (W.Bits b) (W.Bits c) sized).0)
    rows_give R.ArithShiftrBits m n c h = of_words (At R.ArithShiftrBits) (only_params _ m c h)
        (λ b c sized met room. A.arith_shiftr_bits beyond V.Unit b c (two_sized (W.Bits b) (W.Bits c) sized).0)
    rows_give R.LtU m n c h = of_words (At R.LtU) (only_params _ m c h)
        (λ b c sized met room. A.lt_u beyond V.Unit b c met)
    rows_give R.LteqU m n c h = of_words (At R.LteqU) (only_params _ m c h)
        (λ b c sized met room. A.lteq_u beyond V.Unit b c met)
    rows_give R.GtU m n c h = of_words (At R.GtU) (only_params _ m c h)
        (λ b c sized met room. A.gt_u beyond V.Unit b c met)
    rows_give R.GteqU m n c h = of_words (At R.GteqU) (only_params _ m c h)
        (λ b c sized met room. A.gteq_u beyond V.Unit b c met)
    rows_give R.LtS m n c h = of_words (At R.LtS) (only_params _ m c h)
        (λ b c sized met room. A.lt_s beyond V.Unit b c met)
    rows_give R.LteqS m n c h = of_words (At R.LteqS) (only_params _ m c h)
        (λ b c sized met room. A.lteq_s beyond V.Unit b c met)
    rows_give R.GtS m n c h = of_words (At R.GtS) (only_params _ m c h)
        (λ b c sized met room. A.gt_s beyond V.Unit b c met)
    rows_give R.GteqS m n c h = of_words (At R.GteqS) (only_params _ m c h)
        (λ b c sized met room. A.gteq_s beyond V.Unit b c met)
    rows_give R.Append m n c h = of_words (At R.Append) (only_params _ m c h)
        (λ b c sized met room. L.append beyond V.Unit b c room)
    rows_give R.ZeroExtend m n c h = of_integer_word (At R.ZeroExtend) (only_params _ m c h)
        (λ i b sized met room. L.zero_extend beyond V.Unit i b met room)
    rows_give R.SignExtend m n c h = of_integer_word (At R.SignExtend) (only_params _ m c h)
        (λ i b sized met room. L.sign_extend beyond V.Unit i b met room)
    rows_give R.Truncate m n c h = of_word_integer (At R.Truncate) (only_params _ m c h)
        (λ b i sized met room. L.truncate beyond V.Unit b i met room)
    rows_give R.Zeros m n c h = of_integer (At R.Zeros) (only_params _ m c h)
        (λ i sized met room. L.zeros beyond V.Unit i met room)
    rows_give R.Ones m n c h = of_integer (At R.Ones) (only_params _ m c h)
        (λ i sized met room. L.ones beyond V.Unit i met room)
    rows_give R.ReplicateBits m n c h = of_word_integer (At R.ReplicateBits) (only_params _ m c h)
        (λ b i sized met room. L.replicate_bits beyond V.Unit b i met room)
    rows_give R.Unsigned m n c h = of_word (At R.Unsigned) (only_params _ m c h)
        (λ b sized met room. O.unsigned beyond V.Unit b met)
    rows_give R.Signed m n c h = of_word (At R.Signed) (only_params _ m c h)
        (λ b sized met room. O.signed beyond V.Unit b met)
    rows_give R.ToBits m n c h = of_integers (At R.ToBits) (only_params _ m c h)
        (λ i j sized met room. L.to_bits beyond V.Unit i j met room)
    rows_give R.Length m n c h =
        let of_items : Member = member R.Length (V.Vector (V.Variable 0) ∷ []) V.Int in
        elim (first_or_more (member R.Length (V.Bits ∷ []) V.Int) (of_items ∷ []) m c) [
          | inl e ↦ of_word (At R.Length) (subst (λ y. each_fits (map (fits types) vs) y.params ≡ true) (sym e) h)
              (λ b sized met room. O.length_of_bits beyond V.Unit b (one_sized (W.Bits b) sized))
          | inr d ↦ of_vector (V.Variable 0) (At R.Length) (only_params of_items m d h)
              (λ items sized met room. O.length_of_vector beyond V.Unit items (one_sized (W.Vector items) sized))
        ]
    rows_give R.MulWideUu m n c h = of_words (At R.MulWideUu) (only_params _ m c h)
        (λ b c sized met room. L.mul_wide_uu beyond V.Unit b c met)
    rows_give R.MulWideSs m n c h = of_words (At R.MulWideSs) (only_params _ m c h)
        (λ b c sized met room. L.mul_wide_ss beyond V.Unit b c met)
    rows_give R.MulWideSu m n c h = of_words (At R.MulWideSu) (only_params _ m c h)
        (λ b c sized met room. L.mul_wide_su beyond V.Unit b c met)
    rows_give R.CountLeadingZeros m n c h = of_word (At R.CountLeadingZeros) (only_params _ m c h)
        (λ b sized met room. O.count_leading_zeros beyond V.Unit b (one_sized (W.Bits b) sized))
    rows_give R.BoolToBits m n c h = of_truth (At R.BoolToBits) (only_params _ m c h)
        (λ b sized met room. O.bool_to_bits beyond V.Unit b)
    rows_give R.VectorInit m n c h = of_any (At R.VectorInit) (only_params _ m c h)
        (λ i x sized met room. O.vector_init beyond V.Unit i x met room)
    rows_give R.ConcatStr m n c h = of_texts (At R.ConcatStr) (only_params _ m c h)
        (λ a b sized met room. O.concat_str beyond V.Unit a b)
    rows_give R.DecStr m n c h = of_integer (At R.DecStr) (only_params _ m c h)
        (λ i sized met room. O.dec_str beyond V.Unit i)
    rows_give R.BitsStr m n c h = of_word (At R.BitsStr) (only_params _ m c h)
        (λ b sized met room. O.bits_str beyond V.Unit b)
    rows_give R.MemRead m n c h = absurd (true≢false n)
    rows_give R.MemReserve m n c h = absurd (true≢false n)
    rows_give R.MemWrite m n c h = absurd (true≢false n)
    rows_give R.MemWriteCond m n c h = absurd (true≢false n)
    rows_give R.MemMapped m n c h = absurd (true≢false n)
    rows_give R.Print m n c h = absurd (true≢false n)
    rows_give R.PrintEndline m n c h = absurd (true≢false n)
    rows_give R.ConsolePut m n c h = absurd (true≢false n)
