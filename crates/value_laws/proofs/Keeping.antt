-- Values that have the same indices: they are of one form, with the same numbers, and so they belong to the same types.
use Rattle.std.proofs.Common.{◌≡◌, ℕ, ℤ, pos, Bool, true, false, ◌&&◌, List, [], ◌∷◌, length, refl, sym, ap, ◌∙◌}
use Rattle.std.specs.Bool.{beq}
use Rattle.std.specs.List.{list_all}
use Rattle.std.specs.Ordering.{int_eq}
use Rattle.std.proofs.lemmas.Bool.{and_parts}
use Rattle.std.proofs.lemmas.Bool.Decides.{Decides-int_eq}
use Rattle.std.proofs.lemmas.List.{length-map}
use Rattle.sail_types.proofs.Substituted.{number_constant}
use Rattle.sail_types.specs.Belongs.{Reading as Closed, Readings as Closeds, reading, Asked, all_belong, belongs}
use Rattle.sail_types.specs.Limits.{is_small, is_width, is_length}
use Rattle.sail_types.specs.Numbers.{Assignment, Positive, number, true_in}
use Rattle.sail_types.specs.Places.{Placed, placed, placed_form}
use Rattle.sail_types.specs.Sums.{constant}
use Rattle.sail_types.specs.declared.numbers.Con.TheVariants as C
use Rattle.sail_types.specs.declared.numbers.Num.{Num}
use Rattle.sail_types.specs.declared.table.Types.{Types}
use Rattle.sail_types.specs.declared.types.Typ.{Typ, Typ-F, roll-Typ}
use Rattle.sail_types.specs.declared.types.Typ.TheFolds.{fold-roll-Typ, map-Typ}
use Rattle.sail_types.specs.declared.types.Typ.TheOpen as T
use Rattle.sail_types.specs.declared.values.Value.{Value, Value-F, out-Value, roll-Value}
use Rattle.sail_types.specs.declared.values.Value.TheFolds.{map-Value}
use Rattle.sail_types.specs.declared.values.Value.TheOpen as V
use Rattle.sail_types.specs.declared.values.Value.TheViews.{roll-out-Value}
use Rattle.value_indices.specs.declared.indices.Indices.TheOpen as W
use Rattle.value_indices.specs.declared.indices.Indices.TheOpen.{Indices-F}
use Rattle.value_laws.specs.Belonging.{standing, Meant, each_holds, form_holds}
use Rattle.value_laws.proofs.Alike.{asks}
use Rattle.value_laws.proofs.Basics.{no, two, fronts}
use Rattle.value_laws.proofs.Numbers.{truth_is}
use Rattle.value_laws.proofs.Values.{form_asked, questions}

pub truth_same : (b c : Bool) → beq b c ≡ true → c ≡ b
truth_same true true h = refl
truth_same true false h = no h
truth_same false true h = no h
truth_same false false h = refl

-- values of one form
pub one_form : (v w : Value) → out-Value v ≡ out-Value w → v ≡ w
one_form v w e = sym (roll-out-Value v) ∙ ap roll-Value e ∙ roll-out-Value w

-- the number that a value gives to a variable of a type, by the type's form
pub placed_by : (x : Typ-F Typ) (j : ℕ) (v : Value) → placed (roll-Typ x) j v ≡ placed_form (map-Typ Typ Placed placed x) j v
placed_by x j v = ap (λ p. p j v) (fold-roll-Typ Placed placed_form x)

module _ (types : Types) where
  -- a value, out of the questions that are asked of its parts
  bare_form : (w : Value-F Value) → map-Value (Value × Asked) Value (λ p. p.0) (questions types w) ≡ w
  bare_form V.Unit = refl
  bare_form (V.Integer z) = refl
  bare_form (V.Truth b) = refl
  bare_form (V.Bit b) = refl
  bare_form (V.Bits bits) = refl
  bare_form (V.String text) = refl
  bare_form (V.List vs) = ap V.List (fronts (belongs types) vs)
  bare_form (V.Vector vs) = ap V.Vector (fronts (belongs types) vs)
  bare_form (V.Tuple vs) = ap V.Tuple (fronts (belongs types) vs)
  bare_form (V.Member i k) = refl
  bare_form (V.Struct i vs) = ap (V.Struct i) (fronts (belongs types) vs)
  bare_form (V.Union i k v) = refl

  pub bare : (v : Value) → roll-Value (map-Value (Value × Asked) Value (λ p. p.0) (questions types (out-Value v))) ≡ v
  bare v = ap roll-Value (bare_form (out-Value v)) ∙ roll-out-Value v

  -- items of one type
  pub all_of : (vs : List Value) (r q : Closed) → ((x : Value) → belongs types x r ≡ belongs types x q) → all_belong (asks types vs) r ≡ true
      → list_all (λ x. belongs types x q) vs ≡ true
  all_of [] r q e h = refl
  all_of (v ∷ vs) r q e h =
      let k = and_parts (belongs types v r) (all_belong (asks types vs) r) h in
      two (belongs types v q) (list_all (λ x. belongs types x q) vs) (sym (e v) ∙ k.0) (all_of vs r q e k.1)

  all_in : (vs : List Value) (r q : Closed) → ((x : Value) → belongs types x r ≡ belongs types x q) → list_all (λ x. belongs types x q) vs ≡ true
      → all_belong (asks types vs) r ≡ true
  all_in [] r q e h = refl
  all_in (v ∷ vs) r q e h =
      let k = and_parts (belongs types v q) (list_all (λ x. belongs types x q) vs) h in
      two (belongs types v r) (all_belong (asks types vs) r) (e v ∙ k.0) (all_in vs r q e k.1)

module _ (types : Types) (past : Positive) (own : List Closed) where
  abbrev zeros : Assignment
  zeros = standing past (λ i. pos 0)

  -- what holds of values of a form whose numbers are constants
  abbrev Holds : Indices-F Meant Closed → Value-F Value → Type 0
  Holds x w = form_holds types zeros own x w ≡ true

  constant_is : (z : ℤ) → number zeros (constant z) ≡ z
  constant_is z = number_constant zeros z

  -- ---- one form alone

  pub unit_alone : (w : Value-F Value) → Holds W.Unit w → w ≡ V.Unit
  unit_alone V.Unit h = refl
  unit_alone w h = no h

  pub bit_alone : (w : Value-F Value) → Holds W.Bit w → (b : Bool) × (w ≡ V.Bit b)
  bit_alone (V.Bit b) h = (b, refl)
  bit_alone w h = no h

  pub string_alone : (w : Value-F Value) (mu : Assignment) (rs : Closeds) → Holds W.String w → form_asked types w T.String mu rs ≡ true
  string_alone (V.String text) mu rs h = refl
  string_alone w mu rs h = no h

  pub integer_alone : (z : ℤ) (w : Value-F Value) → Holds (W.Integer (constant z)) w → w ≡ V.Integer z
  integer_alone z (V.Integer y) h =
      ap V.Integer ((Decides-int_eq y (number zeros (constant z))).0 (and_parts (int_eq y (number zeros (constant z))) (is_small y) h).0 ∙ constant_is z)
  integer_alone z w h = no h

  pub truth_alone : (b : Bool) (w : Value-F Value) → Holds (W.Truth (C.Truth b)) w → w ≡ V.Truth b
  truth_alone b (V.Truth c) h = ap V.Truth (sym (truth_same c (true_in zeros (C.Truth b)) h) ∙ truth_is zeros b)
  truth_alone b w h = no h

  pub bits_alone : (z : ℤ) (w : Value-F Value) → Holds (W.Bits (constant z)) w
      → (bits : List Bool) × (w ≡ V.Bits bits) × (pos (length bits) ≡ z) × (is_width (length bits) ≡ true)
  bits_alone z (V.Bits bits) h =
      let k = and_parts (int_eq (pos (length bits)) (number zeros (constant z))) (is_width (length bits)) h in
      (bits, refl, (Decides-int_eq (pos (length bits)) (number zeros (constant z))).0 k.0 ∙ constant_is z, k.1)
  bits_alone z w h = no h

  pub vector_alone : (z : ℤ) (c : Closed) (w : Value-F Value) → Holds (W.Vector (constant z) c) w
      → (vs : List Value) × (w ≡ V.Vector vs) × (pos (length vs) ≡ z) × (is_length (length vs) ≡ true) × (list_all (λ v. belongs types v c) vs ≡ true)
  vector_alone z c (V.Vector vs) h =
      let k = and_parts (int_eq (pos (length vs)) (number zeros (constant z)) && is_length (length vs)) (list_all (λ v. belongs types v c) vs) h in
      let l = and_parts (int_eq (pos (length vs)) (number zeros (constant z))) (is_length (length vs)) k.0 in
      (vs, refl, (Decides-int_eq (pos (length vs)) (number zeros (constant z))).0 l.0 ∙ constant_is z, l.1, k.1)
  vector_alone z c w h = no h

  list_alone : (c : Closed) (w : Value-F Value) → Holds (W.List c) w → (vs : List Value) × (w ≡ V.List vs) × (list_all (λ v. belongs types v c) vs ≡ true)
  list_alone c (V.List vs) h = (vs, refl, h)
  list_alone c w h = no h

  pub tuple_alone : (ms : List Meant) (w : Value-F Value) → Holds (W.Tuple ms) w → (vs : List Value) × (w ≡ V.Tuple vs) × (each_holds ms vs ≡ true)
  tuple_alone ms (V.Tuple vs) h = (vs, refl, h)
  tuple_alone ms w h = no h

  -- ---- so they belong to types with these numbers

  module _ (mu : Assignment) (rs : Closeds) where
    pub bits_asked : (z : ℤ) (t : Num) → number mu t ≡ z → (w : Value-F Value) → Holds (W.Bits (constant z)) w → form_asked types w (T.Bits t) mu rs ≡ true
    bits_asked z t e w h =
        let s = bits_alone z w h in
        ap (λ u. form_asked types u (T.Bits t) mu rs) s.1
        ∙ two (int_eq (pos (length s.0)) (number mu t)) (is_width (length s.0)) ((Decides-int_eq (pos (length s.0)) (number mu t)).1 (s.2 ∙ sym e)) s.3

    pub vector_asked : (z : ℤ) (c : Closed) (l : Num) (t : Typ) → number mu l ≡ z
        → ((x : Value) → belongs types x (reading t mu rs) ≡ belongs types x c) → (w : Value-F Value) → Holds (W.Vector (constant z) c) w
        → form_asked types w (T.Vector l t) mu rs ≡ true
    vector_asked z c l t e same w h =
        let s = vector_alone z c w h in
        let as_many : length (asks types s.0) ≡ length s.0 = length-map s.0 (λ x. (x, belongs types x)) in
        ap (λ u. form_asked types u (T.Vector l t) mu rs) s.1
        ∙ ap (λ n. (int_eq (pos n) (number mu l) && is_length n) && all_belong (asks types s.0) (reading t mu rs)) as_many
        ∙ two (int_eq (pos (length s.0)) (number mu l) && is_length (length s.0)) (all_belong (asks types s.0) (reading t mu rs))
        (two (int_eq (pos (length s.0)) (number mu l)) (is_length (length s.0)) ((Decides-int_eq (pos (length s.0)) (number mu l)).1 (s.2 ∙ sym e)) s.3)
        (all_in types s.0 (reading t mu rs) c same s.4)

    pub list_asked : (c : Closed) (t : Typ) → ((x : Value) → belongs types x (reading t mu rs) ≡ belongs types x c) → (w : Value-F Value) → Holds (W.List c) w
        → form_asked types w (T.List t) mu rs ≡ true
    list_asked c t same w h =
        let s = list_alone c w h in
        ap (λ u. form_asked types u (T.List t) mu rs) s.1 ∙ all_in types s.0 (reading t mu rs) c same s.2
