-- What conditions say, and values of one form that belong to a type of that form.
use Rattle.std.proofs.Common.{◌≡◌, ℕ, pos, nat_eq, nat_lt, int_le, length, Bool, true, false, ◌&&◌, List, [], ◌∷◌, map, Option, Some, None}
use Rattle.std.proofs.Common.{refl, sym, ap, ◌∙◌, subst}
use Rattle.std.specs.Bool.{beq}
use Rattle.std.specs.List.{list_all}
use Rattle.std.specs.Ordering.{int_eq}
use Rattle.std.proofs.lemmas.Bool.{and_parts}
use Rattle.std.proofs.lemmas.Bool.Decides.{Decides-int_eq}
use Rattle.std.proofs.lemmas.List.{length-map}
use Rattle.sail_types.specs.Belongs.{Reading as Closed, Readings as Closeds, reading, assigned, read_each, all_belong, fields_belong, inner_types}
use Rattle.sail_types.specs.Belongs.{payload_belongs, belongs}
use Rattle.sail_types.specs.Limits.{is_small, is_width, is_length}
use Rattle.sail_types.specs.Named.{fields, members, payload}
use Rattle.sail_types.specs.Numbers.{Assignment, number, true_in, form_true}
use Rattle.sail_types.specs.Sums.{constant}
use Rattle.sail_types.specs.declared.numbers.Comparison.TheVariants as Is
use Rattle.sail_types.specs.declared.numbers.Con.{Con, fold-roll-Con}
use Rattle.sail_types.specs.declared.numbers.Con.TheOpen as F
use Rattle.sail_types.specs.declared.numbers.Con.TheVariants as C
use Rattle.sail_types.specs.declared.numbers.Index.{Index}
use Rattle.sail_types.specs.declared.numbers.Index.TheVariants as N
use Rattle.sail_types.specs.declared.numbers.Num.{Num}
use Rattle.sail_types.specs.declared.table.Types.{Types}
use Rattle.sail_types.specs.declared.types.Typ.{Typ}
use Rattle.sail_types.specs.declared.types.Typ.TheOpen as T
use Rattle.sail_types.specs.declared.values.Value.{Value, Value-F}
use Rattle.sail_types.specs.declared.values.Value.TheOpen as V
use Rattle.sail_types.proofs.Substituted.{number_constant}
use Rattle.row_types.specs.Formulas.{least, most}
use Rattle.value_indices.specs.declared.indices.Indices.TheOpen as W
use Rattle.value_indices.specs.Opening.{equal}
use Rattle.value_fits.specs.Fitting.{number_fits, truth_fits, in_range, index_fits, indices_fit}
use Rattle.value_laws.specs.Belonging.{closeds, form_holds}
use Rattle.value_laws.proofs.Alike.{asks}
use Rattle.value_laws.proofs.Arguments.{IsAs, AreAs}
use Rattle.value_laws.proofs.Basics.{fronts, no, two}
use Rattle.value_laws.proofs.Numbers.{above_least, at_most_is, below_most, truth_is}
use Rattle.value_laws.proofs.Values.{form_asked, inner}
use Rattle.fitting_laws.specs.Fitting.{Said}
use Rattle.fitting_laws.proofs.Joining.{implies_true, said_behind, said_front}
use Rattle.fitting_laws.proofs.Within.{AllWithin, fields_within, payload_within}

-- ---- what conditions say

equal_is : (mu : Assignment) (t u : Num) → true_in mu (equal t u) ≡ int_eq (number mu t) (number mu u)
equal_is mu t u = ap (true_in mu) (sym (C.rolls-Compare Is.Equal t u)) ∙ fold-roll-Con Bool (form_true mu) (F.Compare Is.Equal t u)

pub equal_said : (mu : Assignment) (t u : Num) → true_in mu (equal t u) ≡ true → number mu t ≡ number mu u
equal_said mu t u h = (Decides-int_eq (number mu t) (number mu u)).0 (sym (equal_is mu t u) ∙ h)

-- the number that was read
pub number_said : (mu : Assignment) (n : Num) (o : Option Num) → Said mu (number_fits n o) → (u : Num) × (o ≡ Some u) × (number mu n ≡ number mu u)
number_said mu n None h = absurd h
number_said mu n (Some u) h = (u, refl, equal_said mu n u h.0)

same_truths : (a b : Bool) → (a ≡ true → b ≡ true) → (b ≡ true → a ≡ true) → a ≡ b
same_truths true b h k = sym (h refl)
same_truths false true h k = k refl
same_truths false false h k = refl

pub truth_said : (mu : Assignment) (d : Con) (o : Option Con) → Said mu (truth_fits d o) → (c : Con) × (o ≡ Some c) × (true_in mu d ≡ true_in mu c)
truth_said mu d None h = absurd h
truth_said mu d (Some c) h = (c, refl, same_truths (true_in mu d) (true_in mu c) (implies_true mu d c h.0) (implies_true mu c d h.1.0))

pub bound_said : (mu : Assignment) (n : Num) (o p : Option Num) → Said mu (in_range n o p)
    → (a : Num) × ((b : Num) × (o ≡ Some a) × (p ≡ Some b) × (int_le (number mu a) (number mu n) ≡ true) × (int_le (number mu n) (number mu b) ≡ true))
bound_said mu n None p h = absurd h
bound_said mu n (Some a) None h = absurd h.1
bound_said mu n (Some a) (Some b) h = (a, (b, refl, refl, sym (at_most_is mu a n) ∙ h.0, sym (at_most_is mu n b) ∙ h.1.0))

-- the condition that was read
pub con_said : (mu : Assignment) (o : Option Con) → Said mu (o ∷ []) → (d : Con) × (o ≡ Some d) × (true_in mu d ≡ true)
con_said mu None h = absurd h
con_said mu (Some d) h = (d, refl, h.0)

-- ---- the arguments of a named type

wrong : {A : Type 0} (mu : Assignment) → Said mu (Some (C.Truth false) ∷ []) → A
wrong mu h = no (sym (truth_is mu false) ∙ h.0)

index_said : (mu : Assignment) (i j : Index) → Said mu (index_fits i j) → IsAs mu mu j i
index_said mu (N.Number n) (N.Number t) h =
    let e : number mu n ≡ number mu t = equal_said mu n t h.0 in record { numbers = e; truths = refl; as_there = ap (λ z. N.Number (constant z)) e }
index_said mu (N.Truth d) (N.Truth c) h =
    let e : true_in mu d ≡ true_in mu c = same_truths (true_in mu d) (true_in mu c) (implies_true mu d c h.0) (implies_true mu c d h.1.0) in
    record { numbers = refl; truths = e; as_there = ap (λ b. N.Truth (C.Truth b)) e }
index_said mu (N.Number n) (N.Truth c) h = wrong mu h
index_said mu (N.Truth d) (N.Number t) h = wrong mu h

pub indices_said : (mu : Assignment) (is js : List Index) → Said mu (indices_fit is js) → AreAs mu mu js is
indices_said mu [] [] h = tt
indices_said mu [] (j ∷ js) h = wrong mu h
indices_said mu (i ∷ is) [] h = wrong mu h
indices_said mu (i ∷ is) (j ∷ js) h = (
  index_said mu i j (said_front mu (index_fits i j) (indices_fit is js) h),
  indices_said mu is js (said_behind mu (index_fits i j) (indices_fit is js) h),
)

-- ---- values of one form: the indices where variables stand for these, and the type where they stand for those

module _ (types : Types) (own : List Closed) (mu nu : Assignment) (rs : Closeds) where
  pub unit_into : (v : Value-F Value) → form_holds types mu own W.Unit v ≡ true → form_asked types v T.Unit nu rs ≡ true
  unit_into V.Unit h = refl
  unit_into v h = no h

  pub bit_into : (v : Value-F Value) → form_holds types mu own W.Bit v ≡ true → form_asked types v T.Bit nu rs ≡ true
  bit_into (V.Bit b) h = refl
  bit_into v h = no h

  pub string_into : (v : Value-F Value) → form_holds types mu own W.String v ≡ true → form_asked types v T.String nu rs ≡ true
  string_into (V.String text) h = refl
  string_into v h = no h

  pub bool_into : (d : Con) (v : Value-F Value) → form_holds types mu own (W.Truth d) v ≡ true → form_asked types v T.Bool nu rs ≡ true
  bool_into d (V.Truth b) h = refl
  bool_into d v h = no h

  pub truth_into : (d c : Con) → true_in mu d ≡ true_in nu c → (v : Value-F Value) → form_holds types mu own (W.Truth d) v ≡ true
      → form_asked types v (T.Truth c) nu rs ≡ true
  truth_into d c e (V.Truth b) h = ap (beq b) (sym e) ∙ h
  truth_into d c e v h = no h

  pub bits_into : (w t : Num) → number mu w ≡ number nu t → (v : Value-F Value) → form_holds types mu own (W.Bits w) v ≡ true
      → form_asked types v (T.Bits t) nu rs ≡ true
  bits_into w t e (V.Bits bits) h =
      let k = and_parts (int_eq (pos (length bits)) (number mu w)) (is_width (length bits)) h in
      two (int_eq (pos (length bits)) (number nu t)) (is_width (length bits))
      ((Decides-int_eq (pos (length bits)) (number nu t)).1 ((Decides-int_eq (pos (length bits)) (number mu w)).0 k.0 ∙ e)) k.1
  bits_into w t e v h = no h

  pub integer_into : (n t : Num) → number mu n ≡ number nu t → (v : Value-F Value) → form_holds types mu own (W.Integer n) v ≡ true
      → form_asked types v (T.Int t) nu rs ≡ true
  integer_into n t e (V.Integer z) h =
      let k = and_parts (int_eq z (number mu n)) (is_small z) h in
      two (int_eq z (number nu t)) (is_small z) ((Decides-int_eq z (number nu t)).1 ((Decides-int_eq z (number mu n)).0 k.0 ∙ e)) k.1
  integer_into n t e v h = no h

  pub range_into : (n t u : Num) → int_le (number nu t) (number mu n) ≡ true → int_le (number mu n) (number nu u) ≡ true → (v : Value-F Value)
      → form_holds types mu own (W.Integer n) v ≡ true → form_asked types v (T.Range t u) nu rs ≡ true
  range_into n t u low high (V.Integer z) h =
      let k = and_parts (int_eq z (number mu n)) (is_small z) h in
      let z_is : z ≡ number mu n = (Decides-int_eq z (number mu n)).0 k.0 in
      two (int_le (number nu t) z && int_le z (number nu u)) (is_small z)
      (two (int_le (number nu t) z) (int_le z (number nu u)) (ap (int_le (number nu t)) z_is ∙ low) (ap (λ y. int_le y (number nu u)) z_is ∙ high)) k.1
  range_into n t u low high v h = no h

  -- any integer
  pub wide_into : (n : Num) (v : Value-F Value) → form_holds types mu own (W.Integer n) v ≡ true
      → form_asked types v (T.Range (constant least) (constant most)) nu rs ≡ true
  wide_into n (V.Integer z) h =
      let small : is_small z ≡ true = (and_parts (int_eq z (number mu n)) (is_small z) h).1 in
      two (int_le (number nu (constant least)) z && int_le z (number nu (constant most))) (is_small z)
      (two (int_le (number nu (constant least)) z) (int_le z (number nu (constant most)))
      (ap (λ y. int_le y z) (number_constant nu least) ∙ above_least z small) (ap (int_le z) (number_constant nu most) ∙ below_most z small)) small
  wide_into n v h = no h

  -- items of a type all of whose values are of another one
  all_into : (vs : List Value) (r q : Closed) → ((x : Value) → belongs types x r ≡ true → belongs types x q ≡ true)
      → list_all (λ x. belongs types x r) vs ≡ true → all_belong (asks types vs) q ≡ true
  all_into [] r q e h = refl
  all_into (v ∷ vs) r q e h =
      let k = and_parts (belongs types v r) (list_all (λ x. belongs types x r) vs) h in
      two (belongs types v q) (all_belong (asks types vs) q) (e v k.0) (all_into vs r q e k.1)

  pub list_into : (r : Closed) (t : Typ) → ((x : Value) → belongs types x r ≡ true → belongs types x (reading t nu rs) ≡ true) → (v : Value-F Value)
      → form_holds types mu own (W.List r) v ≡ true → form_asked types v (T.List t) nu rs ≡ true
  list_into r t e (V.List vs) h = all_into vs r (reading t nu rs) e h
  list_into r t e v h = no h

  pub vector_into : (k l : Num) → number mu k ≡ number nu l → (r : Closed) (t : Typ)
      → ((x : Value) → belongs types x r ≡ true → belongs types x (reading t nu rs) ≡ true) → (v : Value-F Value)
      → form_holds types mu own (W.Vector k r) v ≡ true → form_asked types v (T.Vector l t) nu rs ≡ true
  vector_into k l e r t f (V.Vector vs) h =
      let p = and_parts (int_eq (pos (length vs)) (number mu k) && is_length (length vs)) (list_all (λ x. belongs types x r) vs) h in
      let q = and_parts (int_eq (pos (length vs)) (number mu k)) (is_length (length vs)) p.0 in
      let same_length : length (asks types vs) ≡ length vs = length-map vs (λ x. (x, belongs types x)) in
      two (int_eq (pos (length (asks types vs))) (number nu l) && is_length (length (asks types vs))) (all_belong (asks types vs) (reading t nu rs))
      (subst (λ c. (int_eq (pos c) (number nu l) && is_length c) ≡ true) (sym same_length)
      (two (int_eq (pos (length vs)) (number nu l)) (is_length (length vs))
      ((Decides-int_eq (pos (length vs)) (number nu l)).1 ((Decides-int_eq (pos (length vs)) (number mu k)).0 q.0 ∙ e)) q.1))
      (all_into vs r (reading t nu rs) f p.1)
  vector_into k l e r t f v h = no h

  -- a named type: its arguments are the same, and what its Type parameters stand for has no fewer values
  pub named_into : (u k : ℕ) → u ≡ k → (is args : List Index) (cs : List Closed) (ts : List Typ) → assigned mu is ≡ assigned nu args
      → AllWithin types (closeds cs) (read_each nu rs ts) → (v : Value-F Value) → form_holds types mu own (W.Named k is cs) v ≡ true
      → form_asked types v (T.Named u args ts) nu rs ≡ true
  named_into u k e is args cs ts same less (V.Member i m) h = ap (λ n. nat_eq i n && nat_lt m (length (members types i))) e ∙ h
  named_into u k e is args cs ts same less (V.Struct i vs) h =
      let p = and_parts (nat_eq i k) (fields_belong (asks types vs) (assigned mu is) (closeds cs) (fields types i)) h in
      let of : List Typ → Bool = λ us. fields_belong (asks types vs) (assigned nu args) (read_each nu rs us) (fields types i) in
      two (nat_eq i u) (of (inner_types (map (λ t. (t, inner types (V.Struct i vs) rs t)) ts))) (ap (nat_eq i) e ∙ p.0)
      (ap of (fronts (inner types (V.Struct i vs) rs) ts)
      ∙ fields_within types vs (fields types i) (assigned nu args) (closeds cs) (read_each nu rs ts) less
      (ap (λ a. fields_belong (asks types vs) a (closeds cs) (fields types i)) (sym same) ∙ p.1))
  named_into u k e is args cs ts same less (V.Union i m x) h =
      let p = and_parts (nat_eq i k) (payload_belongs (belongs types x) (assigned mu is) (closeds cs) (payload types i m)) h in
      let of : List Typ → Bool = λ us. payload_belongs (belongs types x) (assigned nu args) (read_each nu rs us) (payload types i m) in
      two (nat_eq i u) (of (inner_types (map (λ t. (t, inner types (V.Union i m x) rs t)) ts))) (ap (nat_eq i) e ∙ p.0)
      (ap of (fronts (inner types (V.Union i m x) rs) ts)
      ∙ payload_within types x (payload types i m) (assigned nu args) (closeds cs) (read_each nu rs ts) less
      (ap (λ a. payload_belongs (belongs types x) a (closeds cs) (payload types i m)) (sym same) ∙ p.1))
  named_into u k e is args cs ts same less v h = no h
