-- Bits, bits of a width and vectors: which values they are, and which indices and types they have.
use Rattle.std.proofs.Common.{◌≡◌, pos, Bool, true, false, ◌&&◌, List, [], length, refl, sym, ap, ◌∙◌}
use Rattle.std.proofs.lemmas.Bool.{and_parts}
use Rattle.std.proofs.lemmas.Bool.Decides.{Decides-int_eq}
use Rattle.std.specs.List.{list_all}
use Rattle.std.specs.Ordering.{int_eq}
use Rattle.sail_types.specs.Belongs.{Reading as Closed, belongs, no_readings}
use Rattle.sail_types.specs.Limits.{is_length, is_width}
use Rattle.sail_types.specs.Numbers.{Assignment, number}
use Rattle.sail_types.specs.declared.numbers.Num.{Num}
use Rattle.sail_types.specs.declared.table.Types.{Types}
use Rattle.sail_types.specs.declared.types.Typ.TheOpen as T
use Rattle.sail_types.specs.declared.types.Typ.TheVariants as U
use Rattle.sail_types.specs.declared.values.Value.{Value, Value-F, out-Value}
use Rattle.sail_types.specs.declared.values.Value.TheOpen as V
use Rattle.sail_types.specs.declared.values.Value.TheVariants as Val
use Rattle.sail_types.specs.declared.values.Value.TheViews.{out-roll-Value}
use Rattle.sail_types.proofs.Substituted.{number_constant}
use Rattle.value_indices.specs.declared.indices.Indices.{Indices, roll-Indices}
use Rattle.value_indices.specs.declared.indices.Indices.TheOpen as W
use Rattle.value_indices.specs.declared.indices.Indices.TheVariants as I
use Rattle.value_indices.specs.declared.indices.Reading.{Reading}
use Rattle.value_indices.specs.declared.indices.Reading.TheVariants as R
use Rattle.value_laws.specs.Belonging.{closed, form_holds, has, is_of, nowhere, number_there, plain}
use Rattle.value_laws.proofs.Basics.{no, two}
use Rattle.value_laws.proofs.Values.{belongs_form, closed_is, form_asked, has_form, meant_is}

-- ---- as they are held

pub out_bit : (b : Bool) → out-Value (Val.Bit b) ≡ V.Bit b
out_bit b = ap out-Value (sym (Val.rolls-Bit b)) ∙ out-roll-Value (V.Bit b)

pub out_bits : (bs : List Bool) → out-Value (Val.Bits bs) ≡ V.Bits bs
out_bits bs = ap out-Value (sym (Val.rolls-Bits bs)) ∙ out-roll-Value (V.Bits bs)

pub out_vector : (vs : List Value) → out-Value (Val.Vector vs) ≡ V.Vector vs
out_vector vs = ap out-Value (sym (Val.rolls-Vector vs)) ∙ out-roll-Value (V.Vector vs)

module _ (types : Types) (mu : Assignment) (own : List Closed) where
  -- ---- a bit

  pub bit_type : closed types mu own (R.Widened I.Bit) ≡ plain mu U.Bit []
  bit_type =
      closed_is types mu own (R.Widened I.Bit) (W.Widened I.Bit) (R.rolls-Widened I.Bit)
      ∙ ap (λ m. m.wide) (meant_is types mu own I.Bit W.Bit I.rolls-Bit)

  bit_asked : (v : Value) → is_of types mu own (R.Widened I.Bit) v ≡ form_asked types (out-Value v) T.Bit (nowhere mu) no_readings
  bit_asked v = ap (belongs types v) bit_type ∙ belongs_form types v T.Bit U.Bit (nowhere mu) no_readings U.rolls-Bit

  pub bit_typed : (b : Bool) → is_of types mu own (R.Widened I.Bit) (Val.Bit b) ≡ true
  bit_typed b = bit_asked (Val.Bit b) ∙ ap (λ w. form_asked types w T.Bit (nowhere mu) no_readings) (out_bit b)

  bit_form : (w : Value-F Value) → form_asked types w T.Bit (nowhere mu) no_readings ≡ true → (b : Bool) × (w ≡ V.Bit b)
  bit_form (V.Bit b) h = (b, refl)
  bit_form w h = let k : false ≡ true = h in no k

  pub bit_in : (v : Value) → is_of types mu own (R.Widened I.Bit) v ≡ true → (b : Bool) × (out-Value v ≡ V.Bit b)
  bit_in v h = bit_form (out-Value v) (sym (bit_asked v) ∙ h)

  -- ---- bits of a width

  pub bits_type : (n : Num) → closed types mu own (R.Widened (I.Bits n)) ≡ plain mu (U.Bits (number_there mu n)) []
  bits_type n =
      closed_is types mu own (R.Widened (I.Bits n)) (W.Widened (I.Bits n)) (R.rolls-Widened (I.Bits n))
      ∙ ap (λ m. m.wide) (meant_is types mu own (I.Bits n) (W.Bits n) (I.rolls-Bits n))

  bits_asked : (n : Num) (v : Value)
      → is_of types mu own (R.Widened (I.Bits n)) v ≡ form_asked types (out-Value v) (T.Bits (number_there mu n)) (nowhere mu) no_readings
  bits_asked n v =
      ap (belongs types v) (bits_type n)
      ∙ belongs_form types v (T.Bits (number_there mu n)) (U.Bits (number_there mu n)) (nowhere mu) no_readings (U.rolls-Bits (number_there mu n))

  width_is : (n : Num) → number (nowhere mu) (number_there mu n) ≡ number mu n
  width_is n = number_constant (nowhere mu) (number mu n)

  pub bits_typed : (n : Num) (bs : List Bool) → pos (length bs) ≡ number mu n → is_width (length bs) ≡ true
      → is_of types mu own (R.Widened (I.Bits n)) (Val.Bits bs) ≡ true
  bits_typed n bs same fits =
      bits_asked n (Val.Bits bs)
      ∙ (ap (λ w. form_asked types w (T.Bits (number_there mu n)) (nowhere mu) no_readings) (out_bits bs)
      ∙ two (int_eq (pos (length bs)) (number (nowhere mu) (number_there mu n))) (is_width (length bs))
      ((Decides-int_eq (pos (length bs)) (number (nowhere mu) (number_there mu n))).1 (same ∙ sym (width_is n))) fits)

  bits_form : (n : Num) (w : Value-F Value) → form_asked types w (T.Bits (number_there mu n)) (nowhere mu) no_readings ≡ true
      → (bs : List Bool) × (w ≡ V.Bits bs) × (pos (length bs) ≡ number mu n)
  bits_form n (V.Bits bs) h =
      let k = and_parts (int_eq (pos (length bs)) (number (nowhere mu) (number_there mu n))) (is_width (length bs)) h in
      (bs, refl, (Decides-int_eq (pos (length bs)) (number (nowhere mu) (number_there mu n))).0 k.0 ∙ width_is n)
  bits_form n w h = let k : false ≡ true = h in no k

  pub bits_of_type : (n : Num) (v : Value) → is_of types mu own (R.Widened (I.Bits n)) v ≡ true
      → (bs : List Bool) × (out-Value v ≡ V.Bits bs) × (pos (length bs) ≡ number mu n)
  bits_of_type n v h = bits_form n (out-Value v) (sym (bits_asked n v) ∙ h)

  pub bits_have : (i : Indices) (n : Num) (bs : List Bool) → roll-Indices (W.Bits n) ≡ i → pos (length bs) ≡ number mu n
      → is_width (length bs) ≡ true → has types mu own i (Val.Bits bs) ≡ true
  bits_have i n bs is same fits =
      has_form types mu own i (W.Bits n) (Val.Bits bs) is
      ∙ (ap (form_holds types mu own (W.Bits n)) (out_bits bs)
      ∙ two (int_eq (pos (length bs)) (number mu n)) (is_width (length bs)) ((Decides-int_eq (pos (length bs)) (number mu n)).1 same) fits)

  held_bits : (n : Num) (w : Value-F Value) → form_holds types mu own (W.Bits n) w ≡ true
      → (bs : List Bool) × (w ≡ V.Bits bs) × (pos (length bs) ≡ number mu n) × (is_width (length bs) ≡ true)
  held_bits n (V.Bits bs) h =
      let k = and_parts (int_eq (pos (length bs)) (number mu n)) (is_width (length bs)) h in
      (bs, refl, (Decides-int_eq (pos (length bs)) (number mu n)).0 k.0, k.1)
  held_bits n w h = let k : false ≡ true = h in no k

  pub bits_in : (i : Indices) (n : Num) (v : Value) → roll-Indices (W.Bits n) ≡ i → has types mu own i v ≡ true
      → (bs : List Bool) × (out-Value v ≡ V.Bits bs) × (pos (length bs) ≡ number mu n) × (is_width (length bs) ≡ true)
  bits_in i n v is h = held_bits n (out-Value v) (sym (has_form types mu own i (W.Bits n) v is) ∙ h)

  -- ---- vectors

  abbrev pub are_items : Reading → List Value → Bool
  are_items r vs = list_all (λ v. belongs types v (closed types mu own r)) vs

  pub vector_has : (i : Indices) (n : Num) (r : Reading) (vs : List Value) → roll-Indices (W.Vector n r) ≡ i → pos (length vs) ≡ number mu n
      → is_length (length vs) ≡ true → are_items r vs ≡ true → has types mu own i (Val.Vector vs) ≡ true
  vector_has i n r vs is same fits typed =
      has_form types mu own i (W.Vector n r) (Val.Vector vs) is
      ∙ (ap (form_holds types mu own (W.Vector n (closed types mu own r))) (out_vector vs)
      ∙ two (int_eq (pos (length vs)) (number mu n) && is_length (length vs)) (are_items r vs)
      (two (int_eq (pos (length vs)) (number mu n)) (is_length (length vs)) ((Decides-int_eq (pos (length vs)) (number mu n)).1 same) fits) typed)

  held_vector : (n : Num) (r : Reading) (w : Value-F Value) → form_holds types mu own (W.Vector n (closed types mu own r)) w ≡ true
      → (vs : List Value) × (w ≡ V.Vector vs) × (pos (length vs) ≡ number mu n) × (is_length (length vs) ≡ true) × (are_items r vs ≡ true)
  held_vector n r (V.Vector vs) h =
      let k = and_parts (int_eq (pos (length vs)) (number mu n) && is_length (length vs)) (are_items r vs) h in
      let l = and_parts (int_eq (pos (length vs)) (number mu n)) (is_length (length vs)) k.0 in
      (vs, refl, (Decides-int_eq (pos (length vs)) (number mu n)).0 l.0, l.1, k.1)
  held_vector n r w h = let k : false ≡ true = h in no k

  pub vector_in : (i : Indices) (n : Num) (r : Reading) (v : Value) → roll-Indices (W.Vector n r) ≡ i → has types mu own i v ≡ true
      → (vs : List Value) × (out-Value v ≡ V.Vector vs) × (pos (length vs) ≡ number mu n) × (is_length (length vs) ≡ true) × (are_items r vs ≡ true)
  vector_in i n r v is h = held_vector n r (out-Value v) (sym (has_form types mu own i (W.Vector n r) v is) ∙ h)
