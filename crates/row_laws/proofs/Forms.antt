-- What the indices of an argument say of its value, form by form: its number, its truth, its size and its shape.
use Rattle.std.proofs.Common.{◌≡◌, ℕ, zero, suc, pos, nat_eq, nat_lt, ◌&&◌, Bool, true, false, List, [], ◌∷◌, map, length, ap, sym, ◌∙◌, refl}
use Rattle.std.proofs.Common.{Option, Some, None, slice_get, slice_index_or}
use Rattle.std.specs.Bool.{beq}
use Rattle.std.specs.List.{list_all}
use Rattle.std.specs.Ordering.{int_eq}
use Rattle.std.proofs.lemmas.Bool.{and_parts, eqb-true}
use Rattle.std.proofs.lemmas.Bool.Decides.{Decides-int_eq}
use Rattle.sail_types.proofs.Substituted.{number_constant}
use Rattle.sail_types.specs.Belongs.{Reading as Closed, belongs, assigned, fields_belong, payload_belongs}
use Rattle.sail_types.specs.Limits.{is_small, is_width, is_length}
use Rattle.sail_types.specs.Named.{fields, constructors, payload, members, in_form, form_fields, form_constructors, typ_of}
use Rattle.sail_types.specs.Numbers.{Assignment, number, true_in}
use Rattle.sail_types.specs.Readings.{truth_at, truth_or_false}
use Rattle.sail_types.specs.Rows.{form_is_enum}
use Rattle.sail_types.specs.Shapes.{Asked, fits, form_fits, each_fits}
use Rattle.sail_types.specs.Sums.{number_at, number_or_zero}
use Rattle.sail_types.specs.declared.numbers.Con.{Con}
use Rattle.sail_types.specs.declared.numbers.Index.{Index}
use Rattle.sail_types.specs.declared.numbers.Num.{Num}
use Rattle.sail_types.specs.declared.shapes.Shape.{Shape, Shape-F, out-Shape}
use Rattle.sail_types.specs.declared.shapes.Shape.TheOpen as S
use Rattle.sail_types.specs.declared.table.Definition.{Definition}
use Rattle.sail_types.specs.declared.table.Form.{Form as DefinitionForm}
use Rattle.sail_types.specs.declared.table.Form.TheVariants as F
use Rattle.sail_types.specs.declared.table.Types.{Types}
use Rattle.sail_types.specs.declared.values.Value.{Value, Value-F, out-Value, roll-out-Value, fold-roll-Value}
use Rattle.sail_types.specs.declared.values.Value.TheFolds.{map-Value}
use Rattle.sail_types.specs.declared.values.Value.TheOpen as V
use Rattle.row_types.specs.Calls.{number_of, truth_of, is_sized}
use Rattle.value_indices.specs.declared.indices.Indices.{Indices, out-Indices}
use Rattle.value_indices.specs.declared.indices.Indices.TheOpen as W
use Rattle.value_indices.specs.declared.indices.Indices.TheOpen.{Indices-F}
use Rattle.value_indices.specs.declared.indices.Indices.TheViews.{roll-out-Indices}
use Rattle.value_indices.specs.declared.indices.Reading.{Reading}
use Rattle.value_laws.specs.Belonging.{meant, closed, has, closeds, each_holds, form_holds, indices_hold, asked}
use Rattle.value_laws.proofs.Basics.{no, two}
use Rattle.value_laws.proofs.Numbers.{truth_is}
use Rattle.value_laws.proofs.Values.{meanings, has_form}
use Rattle.call_notes.specs.Rows.{form_index, argument_index}
use Rattle.call_notes.specs.Taken.{Form, is_unit, is_truth, is_bit, is_bits, is_integer, is_string, is_vector, is_enum_at, is_member_of, is_any}
use Rattle.call_notes.specs.Taken.{form_suits, suits}
use Rattle.row_laws.proofs.Members.{AllPlain, AllSuit}

truth_same : (b c : Bool) → beq b c ≡ true → c ≡ b
truth_same true true h = refl
truth_same true false h = no h
truth_same false true h = no h
truth_same false false h = refl

-- ---- an enum has neither fields nor constructors

no_fields : (d : DefinitionForm) → form_is_enum d ≡ true → form_fields d ≡ None
no_fields (F.Enum names) h = refl
no_fields (F.Struct fs) h = no h
no_fields (F.Union fs) h = no h

no_constructors : (d : DefinitionForm) → form_is_enum d ≡ true → form_constructors d ≡ []
no_constructors (F.Enum names) h = refl
no_constructors (F.Struct fs) h = no h
no_constructors (F.Union fs) h = no h

without_fields : (o : Option Definition) → in_form false form_is_enum o ≡ true → in_form None form_fields o ≡ None
without_fields None h = no h
without_fields (Some d) h = no_fields d.form h

without_constructors : (o : Option Definition) → in_form false form_is_enum o ≡ true → in_form [] form_constructors o ≡ []
without_constructors None h = no h
without_constructors (Some d) h = no_constructors d.form h

module _ (types : Types) where
  -- ---- shapes of values

  pub shape_is : (v : Value) (s : Shape) → fits types v s ≡ form_fits types (map-Value Value Asked (fits types) (out-Value v)) (out-Shape s)
  shape_is v s =
      ap (λ u. fits types u s) (sym (roll-out-Value v))
      ∙ ap (λ g. g s) (fold-roll-Value Asked (λ w t. form_fits types w (out-Shape t)) (out-Value v))

  any_form : (w : Value-F Asked) (y : Shape-F Shape) → is_any y ≡ true → form_fits types w y ≡ true
  any_form w (S.Variable k) h = refl
  any_form w y h = no h

  items_fit : (s : Shape) → is_any (out-Shape s) ≡ true → (vs : List Value) → list_all (λ (g : Asked). g s) (map (fits types) vs) ≡ true
  items_fit s h [] = refl
  items_fit s h (v ∷ vs) =
      two (fits types v s) (list_all (λ (g : Asked). g s) (map (fits types) vs))
      (shape_is v s ∙ any_form (map-Value Value Asked (fits types) (out-Value v)) (out-Shape s) h) (items_fit s h vs)

  module _ (mu : Assignment) (own : List Closed) where
    -- a value has indices of this form
    abbrev Holds : Form → Value → Type 0
    Holds x v = indices_hold types mu own (meanings types mu own x) v ≡ true

    -- what indices of this form say of an opened value of this shape
    pub record Says (x : Indices-F Indices Reading) (y : Shape-F Shape) (w : Value-F Value) : Type 0 where
      pub fitting : form_fits types (map-Value Value Asked (fits types) w) y ≡ true
      pub sized : is_sized w ≡ true
      pub number_said : number mu (number_or_zero (Some (form_index x))) ≡ number_of w
      pub truth_said : true_in mu (truth_or_false (Some (form_index x))) ≡ truth_of w

    nothing : number mu (number_or_zero None) ≡ pos 0
    nothing = number_constant mu (pos 0)

    -- ---- units, truths, bits, integers, strings

    unit_form : (w : Value-F Value) → form_holds types mu own W.Unit w ≡ true → Says W.Unit S.Unit w
    unit_form V.Unit h = record { fitting = refl; sized = refl; number_said = nothing; truth_said = truth_is mu false }
    unit_form w h = no h

    unit_says : (x : Form) (v : Value) → is_unit x ≡ true → Holds x v → Says x S.Unit (out-Value v)
    unit_says W.Unit v h k = unit_form (out-Value v) k
    unit_says x v h k = no h

    truth_form : (c : Con) (w : Value-F Value) → form_holds types mu own (W.Truth c) w ≡ true → Says (W.Truth c) S.Bool w
    truth_form c (V.Truth b) h = record { fitting = refl; sized = refl; number_said = nothing; truth_said = truth_same b (true_in mu c) h }
    truth_form c w h = no h

    truth_says : (x : Form) (v : Value) → is_truth x ≡ true → Holds x v → Says x S.Bool (out-Value v)
    truth_says (W.Truth c) v h k = truth_form c (out-Value v) k
    truth_says x v h k = no h

    bit_form : (w : Value-F Value) → form_holds types mu own W.Bit w ≡ true → Says W.Bit S.Bit w
    bit_form (V.Bit b) h = record { fitting = refl; sized = refl; number_said = nothing; truth_said = truth_is mu false }
    bit_form w h = no h

    bit_says : (x : Form) (v : Value) → is_bit x ≡ true → Holds x v → Says x S.Bit (out-Value v)
    bit_says W.Bit v h k = bit_form (out-Value v) k
    bit_says x v h k = no h

    bits_form : (t : Num) (w : Value-F Value) → form_holds types mu own (W.Bits t) w ≡ true → Says (W.Bits t) S.Bits w
    bits_form t (V.Bits bits) h =
        let p = and_parts (int_eq (pos (length bits)) (number mu t)) (is_width (length bits)) h in
        record {
          fitting = refl;
          sized = p.1;
          number_said = sym ((Decides-int_eq (pos (length bits)) (number mu t)).0 p.0);
          truth_said = truth_is mu false;
        }
    bits_form t w h = no h

    bits_says : (x : Form) (v : Value) → is_bits x ≡ true → Holds x v → Says x S.Bits (out-Value v)
    bits_says (W.Bits t) v h k = bits_form t (out-Value v) k
    bits_says x v h k = no h

    integer_form : (t : Num) (w : Value-F Value) → form_holds types mu own (W.Integer t) w ≡ true → Says (W.Integer t) S.Int w
    integer_form t (V.Integer z) h =
        let p = and_parts (int_eq z (number mu t)) (is_small z) h in
        record { fitting = refl; sized = p.1; number_said = sym ((Decides-int_eq z (number mu t)).0 p.0); truth_said = truth_is mu false }
    integer_form t w h = no h

    integer_says : (x : Form) (v : Value) → is_integer x ≡ true → Holds x v → Says x S.Int (out-Value v)
    integer_says (W.Integer t) v h k = integer_form t (out-Value v) k
    integer_says x v h k = no h

    string_form : (w : Value-F Value) → form_holds types mu own W.String w ≡ true → Says W.String S.String w
    string_form (V.String text) h = record { fitting = refl; sized = refl; number_said = nothing; truth_said = truth_is mu false }
    string_form w h = no h

    string_says : (x : Form) (v : Value) → is_string x ≡ true → Holds x v → Says x S.String (out-Value v)
    string_says W.String v h k = string_form (out-Value v) k
    string_says x v h k = no h

    -- ---- vectors of any items, and members of an enum

    vector_form : (s : Shape) → is_any (out-Shape s) ≡ true → (t : Num) (r : Closed) (q : Reading) (w : Value-F Value)
        → form_holds types mu own (W.Vector t r) w ≡ true → Says (W.Vector t q) (S.Vector s) w
    vector_form s any t r q (V.Vector vs) h =
        let p = and_parts (int_eq (pos (length vs)) (number mu t) && is_length (length vs)) (list_all (λ v. belongs types v r) vs) h in
        let l = and_parts (int_eq (pos (length vs)) (number mu t)) (is_length (length vs)) p.0 in
        record {
          fitting = items_fit s any vs;
          sized = l.1;
          number_said = sym ((Decides-int_eq (pos (length vs)) (number mu t)).0 l.0);
          truth_said = truth_is mu false;
        }
    vector_form s any t r q w h = no h

    vector_says : (s : Shape) → is_any (out-Shape s) ≡ true → (x : Form) (v : Value) → is_vector x ≡ true → Holds x v → Says x (S.Vector s) (out-Value v)
    vector_says s any (W.Vector t q) v h k = vector_form s any t (closed types mu own q) q (out-Value v) k
    vector_says s any x v h k = no h

    same_place : (i j u : ℕ) → nat_eq i j ≡ true → nat_eq j u ≡ true → nat_eq i u ≡ true
    same_place i j u h k = ap (λ a. nat_eq a u) (eqb-true i j h) ∙ k

    member_form : (u : ℕ) (ss : List Shape) (j : ℕ) (is : List Index) (rs : List Closed) (qs : List Reading) (w : Value-F Value)
        → (nat_eq j u && is_enum_at types j) ≡ true → form_holds types mu own (W.Named j is rs) w ≡ true → Says (W.Named j is qs) (S.Named u ss) w
    member_form u ss j is rs qs (V.Member i k) e h =
        let p = and_parts (nat_eq i j) (nat_lt k (length (members types i))) h in
        let q = and_parts (nat_eq j u) (is_enum_at types j) e in
        record {
          fitting = two (nat_eq i u) (nat_lt k (length (members types i))) (same_place i j u p.0 q.0) p.1;
          sized = refl;
          number_said = nothing;
          truth_said = truth_is mu false;
        }
    member_form u ss j is rs qs (V.Struct i vs) e h =
        let p = and_parts (nat_eq i j) (fields_belong (asked types mu own vs) (assigned mu is) (closeds rs) (fields types i)) h in
        let q = and_parts (nat_eq j u) (is_enum_at types j) e in
        let none : fields types i ≡ None = ap (fields types) (eqb-true i j p.0) ∙ without_fields (slice_get types.definitions j) q.1 in
        no (sym (ap (fields_belong (asked types mu own vs) (assigned mu is) (closeds rs)) none) ∙ p.1)
    member_form u ss j is rs qs (V.Union i k v) e h =
        let p = and_parts (nat_eq i j) (payload_belongs (belongs types v) (assigned mu is) (closeds rs) (payload types i k)) h in
        let q = and_parts (nat_eq j u) (is_enum_at types j) e in
        let none : constructors types i ≡ [] = ap (constructors types) (eqb-true i j p.0) ∙ without_constructors (slice_get types.definitions j) q.1 in
        no (sym (ap (λ cs. payload_belongs (belongs types v) (assigned mu is) (closeds rs) (typ_of (slice_get cs k))) none) ∙ p.1)
    member_form u ss j is rs qs w e h = no h

    member_says : (u : ℕ) (ss : List Shape) (x : Form) (v : Value) → is_member_of types u x ≡ true → Holds x v → Says x (S.Named u ss) (out-Value v)
    member_says u ss (W.Named j is qs) v h k = member_form u ss j is (map (closed types mu own) qs) qs (out-Value v) h k
    member_says u ss x v h k = no h

    -- ---- each shape but any

    form_says : (y : Shape-F Shape) (x : Form) (v : Value) → is_any y ≡ false → form_suits types y x ≡ true → Holds x v → Says x y (out-Value v)
    form_says S.Unit x v e h k = unit_says x v h k
    form_says S.Bool x v e h k = truth_says x v h k
    form_says S.Bit x v e h k = bit_says x v h k
    form_says S.Bits x v e h k = bits_says x v h k
    form_says S.Int x v e h k = integer_says x v h k
    form_says S.String x v e h k = string_says x v h k
    form_says (S.Vector s) x v e h k = let p = and_parts (is_any (out-Shape s)) (is_vector x) h in vector_says s p.0 x v p.1 k
    form_says (S.Named u ss) x v e h k = member_says u ss x v h k
    form_says (S.Variable j) x v e h k = no (sym e)
    form_says y x v e h k = no h

    pub held : (i : Indices) (v : Value) → has types mu own i v ≡ true → indices_hold types mu own (meanings types mu own (out-Indices i)) v ≡ true
    held i v h = sym (has_form types mu own i (out-Indices i) v (roll-out-Indices i)) ∙ h

    pub says : (s : Shape) (i : Indices) (v : Value) → is_any (out-Shape s) ≡ false → suits types s i ≡ true → has types mu own i v ≡ true
        → Says (out-Indices i) (out-Shape s) (out-Value v)
    says s i v e h k = form_says (out-Shape s) (out-Indices i) v e h (held i v k)

    -- ---- all arguments

    pub record AllSay (ss : List Shape) (is : List Indices) (vs : List Value) : Type 0 where
      pub fitting : each_fits (map (fits types) vs) ss ≡ true
      pub sized : list_all is_sized (map out-Value vs) ≡ true
      pub numbers : (k : ℕ) → number mu (number_at (map argument_index is) k) ≡ slice_index_or (map number_of (map out-Value vs)) k (pos 0)
      pub truths : (k : ℕ) → true_in mu (truth_at (map argument_index is) k) ≡ slice_index_or (map truth_of (map out-Value vs)) k false

    number_behind : (i : Indices) (is : List Indices) (v : Value) (vs : List Value)
        → number mu (number_or_zero (Some (argument_index i))) ≡ number_of (out-Value v)
        → ((k : ℕ) → number mu (number_at (map argument_index is) k) ≡ slice_index_or (map number_of (map out-Value vs)) k (pos 0))
        → (k : ℕ) → number mu (number_at (map argument_index (i ∷ is)) k) ≡ slice_index_or (map number_of (map out-Value (v ∷ vs))) k (pos 0)
    number_behind i is v vs first rest zero = first
    number_behind i is v vs first rest (suc k) = rest k

    truth_behind : (i : Indices) (is : List Indices) (v : Value) (vs : List Value)
        → true_in mu (truth_or_false (Some (argument_index i))) ≡ truth_of (out-Value v)
        → ((k : ℕ) → true_in mu (truth_at (map argument_index is) k) ≡ slice_index_or (map truth_of (map out-Value vs)) k false)
        → (k : ℕ) → true_in mu (truth_at (map argument_index (i ∷ is)) k) ≡ slice_index_or (map truth_of (map out-Value (v ∷ vs))) k false
    truth_behind i is v vs first rest zero = first
    truth_behind i is v vs first rest (suc k) = rest k

    pub all_say : (ss : List Shape) (is : List Indices) (vs : List Value) → AllPlain ss → AllSuit types ss is
        → each_holds (map (meant types mu own) is) vs ≡ true → AllSay ss is vs
    all_say [] [] [] e h k = record { fitting = refl; sized = refl; numbers = λ j. nothing; truths = λ j. truth_is mu false }
    all_say [] [] (v ∷ vs) e h k = no k
    all_say [] (i ∷ is) vs e h k = absurd h
    all_say (s ∷ ss) [] vs e h k = absurd h
    all_say (s ∷ ss) (i ∷ is) [] e h k = no k
    all_say (s ∷ ss) (i ∷ is) (v ∷ vs) e h k =
        let q = and_parts (has types mu own i v) (each_holds (map (meant types mu own) is) vs) k in
        let one = says s i v e.0 h.0 q.0 in
        let rest = all_say ss is vs e.1 h.1 q.1 in
        record {
          fitting = two (fits types v s) (each_fits (map (fits types) vs) ss) (shape_is v s ∙ one.fitting) rest.fitting;
          sized = two (is_sized (out-Value v)) (list_all is_sized (map out-Value vs)) one.sized rest.sized;
          numbers = number_behind i is v vs one.number_said rest.numbers;
          truths = truth_behind i is v vs one.truth_said rest.truths;
        }
