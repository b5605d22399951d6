-- Nothing belongs to bits with a negative constant width, or to a range with constant ends the second below the first.
use Rattle.std.proofs.Common.{◌≡◌, ℕ, List, [], ◌∷◌, length, ap, sym, ◌∙◌, refl, Bool, true, false, ◌&&◌, arith}
use Rattle.std.proofs.lemmas.Bool.{and_parts}
use Rattle.std.proofs.lemmas.Int.{ints}
use Rattle.std.specs.Prelude.{ℤ, pos, negsuc, int_lt, int_le}
use Rattle.std.specs.Ordering.{int_eq}
use Rattle.sail_types.specs.Belongs.{Readings, reading, Asked, Inner, belongs, form_belongs, form_belongs_to, answers_to}
use Rattle.sail_types.specs.Limits.{is_width, is_small}
use Rattle.sail_types.specs.Numbers.{Assignment, number}
use Rattle.sail_types.specs.Sums.{num, no_terms, is_constant, constant_of, terms_of}
use Rattle.sail_types.specs.declared.numbers.Num.{Num}
use Rattle.sail_types.specs.declared.numbers.Term.{Term}
use Rattle.sail_types.specs.declared.numbers.Atom.TheViews.{roll-out-Num}
use Rattle.sail_types.specs.declared.table.Types.{Types}
use Rattle.sail_types.specs.declared.types.Typ.{Typ, Typ-F, roll-Typ}
use Rattle.sail_types.specs.declared.types.Typ.TheFolds.{para-roll-Typ, para-Typ, map-Typ}
use Rattle.sail_types.specs.declared.types.Typ.TheOpen as T
use Rattle.sail_types.specs.declared.types.Typ.TheVariants as V
use Rattle.sail_types.specs.declared.values.Value.{Value, Value-F, out-Value}
use Rattle.sail_types.specs.declared.values.Value.TheFolds.{para-roll-Value, map-Value}
use Rattle.sail_types.specs.declared.values.Value.TheViews.{roll-out-Value}
use Rattle.sail_types.specs.declared.values.Value.TheOpen as W
use Rattle.sail_types.proofs.Substituted.{number_constant}
use Rattle.type_arguments.specs.Ranges.{is_negative, is_empty_range}

-- ---- numbers

no_terms_is : (nu : Assignment) (ts : List Term) (z : ℤ) → no_terms ts ≡ true → number nu (num ts z) ≡ z
no_terms_is nu [] z h = number_constant nu z
no_terms_is nu (t ∷ ts) z h = absurd (cc)

constant_is : (nu : Assignment) (n : Num) → is_constant n ≡ true → number nu n ≡ constant_of n
constant_is nu n h = ap (number nu) (sym (roll-out-Num n)) ∙ no_terms_is nu (terms_of n) (constant_of n) h

below_zero : (z : ℤ) (l : ℕ) → int_lt z (pos 0) ≡ true → int_eq (pos l) z ≡ false
below_zero (pos k) l h = absurd (omega (arith, ints))
below_zero (negsuc k) l h = refl

nothing_between : (low z high : ℤ) → int_lt high low ≡ true → (int_le low z && int_le z high) ≡ false
nothing_between low z high h = by (int_le low z) (int_le z high) refl refl
  where
    by : (s t : Bool) → int_le low z ≡ s → int_le z high ≡ t → (s && t) ≡ false
    by true true e f = absurd (omega (arith, ints))
    by true false e f = refl
    by false t e f = refl

no_width : (nu : Assignment) (n : Num) (l : ℕ) → is_negative n ≡ true → int_eq (pos l) (number nu n) ≡ false
no_width nu n l h =
    let k = and_parts (is_constant n) (int_lt (constant_of n) (pos 0)) h in
    ap (λ z. int_eq (pos l) z) (constant_is nu n k.0) ∙ below_zero (constant_of n) l k.1

no_integer : (nu : Assignment) (low high : Num) (z : ℤ) → is_empty_range low high ≡ true
    → (int_le (number nu low) z && int_le z (number nu high)) ≡ false
no_integer nu low high z h =
    let k = and_parts (is_constant low) (is_constant high && int_lt (constant_of high) (constant_of low)) h in
    let l = and_parts (is_constant high) (int_lt (constant_of high) (constant_of low)) k.1 in
    (λ i. int_le (constant_is nu low k.0 i) z && int_le z (constant_is nu high l.0 i)) ∙ nothing_between (constant_of low) z (constant_of high) l.1

-- ---- values

bits_form : (types : Types) (f : Value-F (Value × Asked)) (rs : Readings) (answers : List Bool) (n : Num) (nu : Assignment) → is_negative n ≡ true
    → form_belongs types f rs answers (T.Bits n) nu ≡ false
bits_form types (W.Bits bits) rs answers n nu h = ap (λ b. b && is_width (length bits)) (no_width nu n (length bits) h)
bits_form types W.Unit rs answers n nu h = refl
bits_form types (W.Truth b) rs answers n nu h = refl
bits_form types (W.Bit b) rs answers n nu h = refl
bits_form types (W.Integer z) rs answers n nu h = refl
bits_form types (W.String text) rs answers n nu h = refl
bits_form types (W.List vs) rs answers n nu h = refl
bits_form types (W.Vector vs) rs answers n nu h = refl
bits_form types (W.Tuple vs) rs answers n nu h = refl
bits_form types (W.Member i k) rs answers n nu h = refl
bits_form types (W.Struct i vs) rs answers n nu h = refl
bits_form types (W.Union i k v) rs answers n nu h = refl

range_form : (types : Types) (f : Value-F (Value × Asked)) (rs : Readings) (answers : List Bool) (low high : Num) (nu : Assignment)
    → is_empty_range low high ≡ true → form_belongs types f rs answers (T.Range low high) nu ≡ false
range_form types (W.Integer z) rs answers low high nu h = ap (λ b. b && is_small z) (no_integer nu low high z h)
range_form types W.Unit rs answers low high nu h = refl
range_form types (W.Truth b) rs answers low high nu h = refl
range_form types (W.Bit b) rs answers low high nu h = refl
range_form types (W.Bits bits) rs answers low high nu h = refl
range_form types (W.String text) rs answers low high nu h = refl
range_form types (W.List vs) rs answers low high nu h = refl
range_form types (W.Vector vs) rs answers low high nu h = refl
range_form types (W.Tuple vs) rs answers low high nu h = refl
range_form types (W.Member i k) rs answers low high nu h = refl
range_form types (W.Struct i vs) rs answers low high nu h = refl
range_form types (W.Union i k v) rs answers low high nu h = refl

module _ (types : Types) (value : Value) (nu : Assignment) (rs : Readings) where
  abbrev asked : Value-F (Value × Asked)
  asked = map-Value Value (Value × Asked) (λ v. (v, belongs types v)) (out-Value value)

  abbrev inner : Typ → Inner
  inner = para-Typ Inner (form_belongs types asked rs (answers_to types asked rs))

  opened : (x : Typ-F Typ) → belongs types value (reading (roll-Typ x) nu rs)
      ≡ form_belongs types asked rs (answers_to types asked rs) (map-Typ Typ (Typ × Inner) (λ t. (t, inner t)) x) nu
  opened x =
      ap (λ v. belongs types v (reading (roll-Typ x) nu rs)) (sym (roll-out-Value value))
      ∙ ap (λ f. f (reading (roll-Typ x) nu rs)) (para-roll-Value Asked (form_belongs_to types) (out-Value value))
      ∙ ap (λ f. f nu) (para-roll-Typ Inner (form_belongs types asked rs (answers_to types asked rs)) x)

  pub no_bits : (n : Num) → is_negative n ≡ true → belongs types value (reading (V.Bits n) nu rs) ≡ false
  no_bits n h =
      ap (λ t. belongs types value (reading t nu rs)) (sym (V.rolls-Bits n)) ∙ opened (T.Bits n)
      ∙ bits_form types asked rs (answers_to types asked rs) n nu h

  pub no_range : (low high : Num) → is_empty_range low high ≡ true → belongs types value (reading (V.Range low high) nu rs) ≡ false
  no_range low high h =
      ap (λ t. belongs types value (reading t nu rs)) (sym (V.rolls-Range low high)) ∙ opened (T.Range low high)
      ∙ range_form types asked rs (answers_to types asked rs) low high nu h
