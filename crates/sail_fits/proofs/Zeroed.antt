-- The zero of a type that has one belongs to it: an induction on the depth of types inside types.
use Rattle.std.proofs.Common.{◌≡◌, ℕ, zero, suc, List, [], ◌∷◌, map, length, ap, sym, ◌∙◌, refl, subst, Bool, true, false, ◌&&◌, cond}
use Rattle.std.proofs.Common.{slice_index_or, slice_get, Option, Some, None, option_map, nat_eq, nat_lt, ℤ, pos, negsuc, ◌≤ℤ◌, int_le, int_lt, replicate}
use Rattle.std.proofs.Common.{arith, ◌⊎◌, inl, inr}
use Rattle.std.proofs.lemmas.Bool.{lt-ltb}
use Rattle.std.proofs.lemmas.Bool.Decides.{Decides-int_eq, Decides-eqb}
use Rattle.std.proofs.lemmas.Int.{ints}
use Rattle.std.proofs.lemmas.List.{length-map, length-replicate}
use Rattle.std.specs.Ordering.{int_eq}
use Rattle.sail_fits.proofs.Basics.{no, two, fronts}
use Rattle.sail_types.proofs.SumNumbers.{some_same, then_parts}
use Rattle.sail_types.proofs.Substituted.{number_constant, substituted_number}
use Rattle.sail_types.specs.Before.{before, beyond_of}
use Rattle.sail_types.specs.Belongs.{Reading, Readings, reading, no_readings, assigned, read_each, Asked as Question, Inner}
use Rattle.sail_types.specs.Belongs.{each_belongs, all_belong, fields_belong, form_belongs, form_belongs_to, answers_to, belongs}
use Rattle.sail_types.specs.Limits.{is_small, is_width, is_length}
use Rattle.sail_types.specs.Named.{in_form, form_fields, form_members, field_types, fields, members}
use Rattle.sail_types.specs.Numbers.{Assignment, number}
use Rattle.sail_types.specs.Readings.{more, together, read_con, read_index, read_indices}
use Rattle.sail_types.specs.Sums.{and_then, num, terms_of, constant_of, constant, no_terms, is_constant, number_at, number_or_zero, read, substituted}
use Rattle.sail_types.specs.Zero.{only_if, zero_bits, nearest, zero_range, zero_vector, constant_value, known, each_zero, field_zeros}
use Rattle.sail_types.specs.Zero.{zero_named, zero_in_table, zero_at, form_zero, zero_within, deepest, zero_of}
use Rattle.sail_types.specs.declared.numbers.Index.{Index}
use Rattle.sail_types.specs.declared.numbers.Index.TheVariants as I
use Rattle.sail_types.specs.declared.numbers.Num.{Num}
use Rattle.sail_types.specs.declared.numbers.Term.{Term}
use Rattle.sail_types.specs.declared.numbers.Atom.TheViews.{roll-out-Num}
use Rattle.sail_types.specs.declared.table.Definition.{Definition}
use Rattle.sail_types.specs.declared.table.Field.{Field}
use Rattle.sail_types.specs.declared.table.Form.{Form}
use Rattle.sail_types.specs.declared.table.Form.TheVariants as F
use Rattle.sail_types.specs.declared.table.Types.{Types}
use Rattle.sail_types.specs.declared.types.Typ.{Typ, Typ-F, roll-Typ, out-Typ}
use Rattle.sail_types.specs.declared.types.Typ.TheFolds.{para-Typ, para-roll-Typ, map-Typ}
use Rattle.sail_types.specs.declared.types.Typ.TheOpen as T
use Rattle.sail_types.specs.declared.types.Typ.TheViews.{roll-out-Typ}
use Rattle.sail_types.specs.declared.values.Value.{Value, Value-F, roll-Value, out-Value}
use Rattle.sail_types.specs.declared.values.Value.TheFolds.{para-roll-Value, map-Value}
use Rattle.sail_types.specs.declared.values.Value.TheOpen as W
use Rattle.sail_types.specs.declared.values.Value.TheVariants as V
use Rattle.sail_types.specs.declared.values.Value.TheViews.{roll-out-Value}

none : {A B : Type 0} {x : B} → None ≡ Some x → A
none h = absurd (cc)

map_parts : {A B : Type 0} (f : A → B) (o : Option A) (y : B) → option_map f o ≡ Some y → (x : A) × (o ≡ Some x) × (f x ≡ y)
map_parts f None y h = none h
map_parts f (Some x) y h = (x, refl, some_same (f x) y h)

more_parts : {A : Type 0} (o : Option A) (os : Option (List A)) (ys : List A) → more o os ≡ Some ys
    → (x : A) × ((xs : List A) × (o ≡ Some x) × (os ≡ Some xs) × (x ∷ xs ≡ ys))
more_parts None os ys h = none h
more_parts (Some x) os ys h = let k = map_parts (λ zs. x ∷ zs) os ys h in (x, (k.0, refl, k.1, k.2))

only_parts : (b : Bool) (v w : Value) → only_if b v ≡ Some w → (b ≡ true) × (v ≡ w)
only_parts true v w h = (refl, some_same v w h)
only_parts false v w h = none h

-- ---- numbers that are constant

constant_is : (nu : Assignment) (ts : List Term) (z : ℤ) → no_terms ts ≡ true → number nu (num ts z) ≡ z
constant_is nu [] z h = number_constant nu z
constant_is nu (t ∷ ts) z h = no h

number_of_constant : (nu : Assignment) (n : Num) → is_constant n ≡ true → number nu n ≡ constant_of n
number_of_constant nu n h = ap (number nu) (sym (roll-out-Num n)) ∙ constant_is nu (terms_of n) (constant_of n) h

value_is : (nu : Assignment) (n : Num) (b : Bool) (z : ℤ) → is_constant n ≡ b → cond b (Some (constant_of n)) None ≡ Some z → number nu n ≡ z
value_is nu n true z e h = number_of_constant nu n e ∙ some_same (constant_of n) z h
value_is nu n false z e h = none h

-- a number is what the integers of the variables and the powers make it
same_number : (a b : Assignment) → ((i : ℕ) → a.int i ≡ b.int i) → ((t : Num) → a.beyond t ≡ b.beyond t) → (n : Num) → number a n ≡ number b n
same_number a b h k n = λ p. number (record { int = λ i. h i p; bool = b.bool; beyond = λ t. k t p }) n

beyond_is : (nu mu : Assignment) → ((t u : Num) → mu.beyond t ≡ nu.beyond u) → (o : Option Num) (u : Num) → beyond_of mu o ≡ nu.beyond u
beyond_is nu mu h (Some t) u = h t u
beyond_is nu mu h None u = h (constant (pos 0)) u

beyond_same : (nu mu : Assignment) → ((t u : Num) → mu.beyond t ≡ nu.beyond u) → (o p : Option Num) → beyond_of mu o ≡ beyond_of nu p
beyond_same nu mu h o (Some u) = beyond_is nu mu h o u
beyond_same nu mu h o None = beyond_is nu mu h o (constant (pos 0))

-- numbers are what they are read as, and all powers that aren't fixed are one number
abbrev Reads : Assignment → Assignment → List Index → Type 0
Reads nu mu indices = ((n m : Num) → read indices n ≡ Some m → number mu n ≡ number nu m) × ((t u : Num) → mu.beyond t ≡ nu.beyond u)

known_is : (nu mu : Assignment) (indices : List Index) (n : Num) (z : ℤ) → Reads nu mu indices → known indices n ≡ Some z → number mu n ≡ z
known_is nu mu indices n z reads h =
    let k = then_parts (read indices n) constant_value z h in
    reads.0 n k.0 k.1 ∙ value_is nu k.0 (is_constant k.0) z refl k.2

index_is : (nu mu : Assignment) (indices : List Index) → Reads nu mu indices → (a x : Index) → read_index indices a ≡ Some x
    → number nu (number_or_zero (Some x)) ≡ number mu (number_or_zero (Some a))
index_is nu mu indices reads (I.Number n) x h =
    let k = map_parts I.Number (read indices n) x h in
    ap (λ i. number nu (number_or_zero (Some i))) (sym k.2) ∙ sym (reads.0 n k.0 k.1)
index_is nu mu indices reads (I.Truth c) x h =
    let k = map_parts I.Truth (read_con indices c) x h in
    ap (λ i. number nu (number_or_zero (Some i))) (sym k.2) ∙ number_constant nu (pos 0) ∙ sym (number_constant mu (pos 0))

mutual
  indices_are : (nu mu : Assignment) (indices : List Index) → Reads nu mu indices → (args is : List Index) → together (map (read_index indices) args) ≡ Some is
      → (i : ℕ) → number nu (number_at is i) ≡ number mu (number_at args i)
  indices_are nu mu indices reads [] is h i =
      ap (λ js. number nu (number_at js i)) (sym (some_same [] is h)) ∙ number_constant nu (pos 0) ∙ sym (number_constant mu (pos 0))
  indices_are nu mu indices reads (a ∷ args) is h zero =
      let k = more_parts (read_index indices a) (together (map (read_index indices) args)) is h in
      ap (λ js. number nu (number_at js zero)) (sym k.1.3) ∙ index_is nu mu indices reads a k.0 k.1.1
  indices_are nu mu indices reads (a ∷ args) is h (suc i) =
      let k = more_parts (read_index indices a) (together (map (read_index indices) args)) is h in
      ap (λ js. number nu (number_at js (suc i))) (sym k.1.3) ∙ indices_are nu mu indices reads args k.1.0 k.1.2 i

-- one type further in
reads_inside : (nu mu : Assignment) (indices args is : List Index) → Reads nu mu indices → read_indices indices args ≡ Some is → Reads nu (assigned mu args) is
reads_inside nu mu indices args is reads h = (
  (λ n m e.
      same_number (assigned mu args) (before (number_at is) nu) (λ i. sym (indices_are nu mu indices reads args is h i))
      (λ t. beyond_same nu mu reads.1 (read args t) (substituted (number_at is) t)) n
      ∙ sym (substituted_number (number_at is) n nu m e)),
  (λ t u. beyond_is nu mu reads.1 (read args t) u),
)

-- with no argument a variable is 0
reads_closed : (nu : Assignment) → ((t u : Num) → nu.beyond t ≡ nu.beyond u) → Reads nu (assigned nu []) []
reads_closed nu same = (
  (λ n m e. same_number (assigned nu []) (before (number_at []) nu) (λ i. refl) (λ t. refl) n ∙ sym (substituted_number (number_at []) n nu m e)),
  (λ t u. beyond_is nu nu same (read [] t) u),
)

-- ---- the integer of a range

at_most : (a b : ℤ) → a ≤ℤ b → int_le a b ≡ true
at_most a b h = by (int_le a b) refl
  where
    by : (t : Bool) → int_le a b ≡ t → t ≡ true
    by true e = refl
    by false e = absurd (omega (arith, ints))

within : (a b : ℤ) (s t : Bool) → int_lt (pos 0) a ≡ s → int_lt b (pos 0) ≡ t → int_le a b ≡ true
    → let z : ℤ = cond s a (cond t b (pos 0)) in (int_le a z && int_le z b) ≡ true
within a b true t e f h = two (int_le a a) (int_le a b) (at_most a a (omega (arith, ints))) h
within a b false true e f h = two (int_le a b) (int_le b b) h (at_most b b (omega (arith, ints)))
within a b false false e f h =
    two (int_le a (pos 0)) (int_le (pos 0) b) (at_most a (pos 0) (omega (arith, ints))) (at_most (pos 0) b (omega (arith, ints)))

module _ (types : Types) (nu : Assignment) where
  abbrev asked : List Value → List (Value × Question)
  asked vs = map (λ v. (v, belongs types v)) vs

  abbrev questions : Value-F Value → Value-F (Value × Question)
  questions w = map-Value Value (Value × Question) (λ v. (v, belongs types v)) w

  abbrev inner : Value-F Value → Readings → Typ → Inner
  inner w rs = para-Typ Inner (form_belongs types (questions w) rs (answers_to types (questions w) rs))

  abbrev inners : Value-F Value → Readings → List Typ → List (Typ × Inner)
  inners w rs ts = map (λ t. (t, inner w rs t)) ts

  abbrev opened : Value-F Value → Typ-F Typ → Assignment → Readings → Bool
  opened w x mu rs = form_belongs types (questions w) rs (answers_to types (questions w) rs) (map-Typ Typ (Typ × Inner) (λ t. (t, inner w rs t)) x) mu

  opens : (w : Value-F Value) (x : Typ-F Typ) (mu : Assignment) (rs : Readings) → belongs types (roll-Value w) (reading (roll-Typ x) mu rs) ≡ opened w x mu rs
  opens w x mu rs =
      ap (λ f. f (reading (roll-Typ x) mu rs)) (para-roll-Value Question (form_belongs_to types) w)
      ∙ ap (λ f. f mu) (para-roll-Typ Inner (form_belongs types (questions w) rs (answers_to types (questions w) rs)) x)

  shown : (w : Value-F Value) (x : Typ-F Typ) (mu : Assignment) (rs : Readings) (v : Value) → roll-Value w ≡ v → opened w x mu rs ≡ true
      → belongs types v (reading (roll-Typ x) mu rs) ≡ true
  shown w x mu rs v e h = ap (λ u. belongs types u (reading (roll-Typ x) mu rs)) (sym e) ∙ opens w x mu rs ∙ h

  -- a value of what a Type variable stands for
  abbrev answer : Value → Readings → ℕ → Bool
  answer v rs i = slice_index_or (answers_to types (questions (out-Value v)) rs) i false

  belongs_out : (v : Value) (r : Reading) → belongs types v r ≡ form_belongs_to types (questions (out-Value v)) r
  belongs_out v r =
      ap (λ u. belongs types u r) (sym (roll-out-Value v)) ∙ ap (λ f. f r) (para-roll-Value Question (form_belongs_to types) (out-Value v))

  -- the zeros of what the Type variables stand for belong to it
  abbrev Held : List (Option Value) → Readings → Type 0
  Held zeros rs = (i : ℕ) (v : Value) → zero_at zeros i ≡ Some v → answer v rs i ≡ true

  abbrev Zeroed : ℕ → Type 0
  Zeroed d = (t : Typ) (mu : Assignment) (indices : List Index) (zeros : List (Option Value)) (rs : Readings) (v : Value)
      → Reads nu mu indices → Held zeros rs → zero_within types d t indices zeros ≡ Some v → belongs types v (reading t mu rs) ≡ true

  module _ (d : ℕ) (ih : Zeroed d) (indices : List Index) (zeros : List (Option Value)) (mu : Assignment) (rs : Readings) (reads : Reads nu mu indices)
      (held : Held zeros rs) where
    each : (ts : List Typ) (vs : List Value) → together (each_zero (map (zero_within types d) ts) indices zeros) ≡ Some vs
        → each_belongs (asked vs) mu rs ts ≡ true
    each [] vs h = ap (λ us. each_belongs (asked us) mu rs []) (sym (some_same [] vs h))
    each (t ∷ ts) vs h =
        let k = more_parts (zero_within types d t indices zeros) (together (each_zero (map (zero_within types d) ts) indices zeros)) vs h in
        ap (λ us. each_belongs (asked us) mu rs (t ∷ ts)) (sym k.1.3)
        ∙ two (belongs types k.0 (reading t mu rs)) (each_belongs (asked k.1.0) mu rs ts) (ih t mu indices zeros rs k.0 reads held k.1.1) (each ts k.1.0 k.1.2)

    held_inside : (ts : List Typ) → Held (each_zero (map (zero_within types d) ts) indices zeros) (read_each mu rs ts)
    held_inside [] i v h = none h
    held_inside (t ∷ ts) zero v h = sym (belongs_out v (reading t mu rs)) ∙ ih t mu indices zeros rs v reads held h
    held_inside (t ∷ ts) (suc i) v h = held_inside ts i v h

    -- ---- one form

    bits_case : (t : Num) (z : ℤ) (v : Value) → number mu t ≡ z → zero_bits z ≡ Some v → belongs types v (reading (roll-Typ (T.Bits t)) mu rs) ≡ true
    bits_case t (pos n) v e h =
        let k = only_parts (is_width n) (V.Bits (replicate n false)) v h in
        shown (W.Bits (replicate n false)) (T.Bits t) mu rs v (V.rolls-Bits (replicate n false) ∙ k.1)
        (subst (λ m. (int_eq (pos m) (number mu t) && is_width m) ≡ true) (sym (length-replicate n false))
        (two (int_eq (pos n) (number mu t)) (is_width n) ((Decides-int_eq (pos n) (number mu t)).1 (sym e)) k.0))
    bits_case t (negsuc n) v e h = none h

    range_case : (t u : Num) (a b : ℤ) (v : Value) (s : Bool) → number mu t ≡ a → number mu u ≡ b → int_le a b ≡ s
        → cond s (only_if (is_small (nearest a b)) (V.Integer (nearest a b))) None ≡ Some v → belongs types v (reading (roll-Typ (T.Range t u)) mu rs) ≡ true
    range_case t u a b v true e f g h =
        let k = only_parts (is_small (nearest a b)) (V.Integer (nearest a b)) v h in
        shown (W.Integer (nearest a b)) (T.Range t u) mu rs v (V.rolls-Integer (nearest a b) ∙ k.1)
        (two (int_le (number mu t) (nearest a b) && int_le (nearest a b) (number mu u)) (is_small (nearest a b))
        ((λ i. int_le (e i) (nearest a b) && int_le (nearest a b) (f i)) ∙ within a b (int_lt (pos 0) a) (int_lt b (pos 0)) refl refl g) k.0)
    range_case t u a b v false e f g h = none h

    copies : (n : ℕ) (t : Typ) (item : Value) → belongs types item (reading t mu rs) ≡ true → all_belong (asked (replicate n item)) (reading t mu rs) ≡ true
    copies zero t item h = refl
    copies (suc n) t item h =
        two (belongs types item (reading t mu rs)) (all_belong (asked (replicate n item)) (reading t mu rs)) h (copies n t item h)

    vector_case : (n : Num) (t : Typ) (z : ℤ) (item v : Value) → number mu n ≡ z → belongs types item (reading t mu rs) ≡ true → zero_vector z item ≡ Some v
        → belongs types v (reading (roll-Typ (T.Vector n t)) mu rs) ≡ true
    vector_case n t (pos m) item v e b h =
        let k = only_parts (is_length m) (V.Vector (replicate m item)) v h in
        let w = replicate m item in
        let same : length (asked w) ≡ m = length-map w (λ x. (x, belongs types x)) ∙ length-replicate m item in
        shown (W.Vector w) (T.Vector n t) mu rs v (V.rolls-Vector w ∙ k.1)
        (two (int_eq (pos (length (asked w))) (number mu n) && is_length (length (asked w))) (all_belong (asked w) (reading t mu rs))
        (subst (λ l. (int_eq (pos l) (number mu n) && is_length l) ≡ true) (sym same)
        (two (int_eq (pos m) (number mu n)) (is_length m) ((Decides-int_eq (pos m) (number mu n)).1 (sym e)) k.0))
        (copies m t item b))
    vector_case n t (negsuc m) item v e b h = none h

    tuple_case : (ts : List Typ) (vs : List Value) (v : Value) → V.Tuple vs ≡ v → together (each_zero (map (zero_within types d) ts) indices zeros) ≡ Some vs
        → belongs types v (reading (roll-Typ (T.Tuple ts)) mu rs) ≡ true
    tuple_case ts vs v e h =
        shown (W.Tuple vs) (T.Tuple ts) mu rs v (V.rolls-Tuple vs ∙ e)
        (ap (λ us. each_belongs (asked vs) mu rs us) (fronts (inner (W.Tuple vs) rs) ts) ∙ each ts vs h)

    variable_case : (i : ℕ) (v : Value) → zero_at zeros i ≡ Some v → belongs types v (reading (roll-Typ (T.Variable i)) mu rs) ≡ true
    variable_case i v h = shown (out-Value v) (T.Variable i) mu rs v (roll-out-Value v) (held i v h)

  -- ---- a named type

  abbrev Zero : Type 0
  Zero = Typ → List Index → List (Option Value) → Option Value

  -- the zeros of these fields make the value
  abbrev IsStruct : Option (List Field) → Zero → ℕ → List Index → List (Option Value) → Value → Type 0
  IsStruct o zero_typ i is zeros v =
      (fs : List Field) × ((vs : List Value) × (o ≡ Some fs) × (together (field_zeros zero_typ (field_types fs) is zeros) ≡ Some vs) × (V.Struct i vs ≡ v))

  -- the first of these members is the value
  abbrev IsFirst : List (List ℕ) → ℕ → Value → Type 0
  IsFirst ms i v = (V.Member i 0 ≡ v) × (nat_lt 0 (length ms) ≡ true)

  form_case : (f : Form) (zero_typ : Zero) (i : ℕ) (is : List Index) (zeros : List (Option Value)) (v : Value)
      → zero_named zero_typ i is zeros f ≡ Some v → IsStruct (form_fields f) zero_typ i is zeros v ⊎ IsFirst (form_members f) i v
  form_case (F.Struct fs) zero_typ i is zeros v h =
      let k = map_parts (V.Struct i) (together (field_zeros zero_typ (field_types fs) is zeros)) v h in
      inl (fs, (k.0, refl, k.1, k.2))
  form_case (F.Union cs) zero_typ i is zeros v h = none h
  form_case (F.Enum []) zero_typ i is zeros v h = none h
  form_case (F.Enum (m ∷ ms)) zero_typ i is zeros v h = inr (some_same (V.Member i 0) v h, lt-ltb 0 (length (m ∷ ms)) (omega arith))

  table_case : (o : Option Definition) (zero_typ : Zero) (i : ℕ) (is : List Index) (zeros : List (Option Value)) (v : Value)
      → in_form None (zero_named zero_typ i is zeros) o ≡ Some v
      → IsStruct (in_form None form_fields o) zero_typ i is zeros v ⊎ IsFirst (in_form [] form_members o) i v
  table_case None zero_typ i is zeros v h = none h
  table_case (Some definition) zero_typ i is zeros v h = form_case definition.form zero_typ i is zeros v h

  named_case : (d : ℕ) → Zeroed d → (indices : List Index) (zeros : List (Option Value)) (mu : Assignment) (rs : Readings) → Reads nu mu indices
      → Held zeros rs → (i : ℕ) (args : List Index) (ts : List Typ) (is : List Index) (v : Value) → read_indices indices args ≡ Some is
      → zero_in_table (zero_within types d) types i is (each_zero (map (zero_within types d) ts) indices zeros) ≡ Some v
      → belongs types v (reading (roll-Typ (T.Named i args ts)) mu rs) ≡ true
  named_case d ih indices zeros mu rs reads held i args ts is v e h =
      let zs = each_zero (map (zero_within types d) ts) indices zeros in
      elim (table_case (slice_get types.definitions i) (zero_within types d) i is zs v h) [
        | inl k ↦
            let vs = k.1.0 in
            shown (W.Struct i vs) (T.Named i args ts) mu rs v (V.rolls-Struct i vs ∙ k.1.3)
            (two (nat_eq i i) _ ((Decides-eqb i i).1 refl)
            (ap (λ us. fields_belong (asked vs) (assigned mu args) (read_each mu rs us) (fields types i)) (fronts (inner (W.Struct i vs) rs) ts)
            ∙ ap (λ fs. fields_belong (asked vs) (assigned mu args) (read_each mu rs ts) fs) k.1.1
            ∙ each d ih is zs (assigned mu args) (read_each mu rs ts) (reads_inside nu mu indices args is reads e)
            (held_inside d ih indices zeros mu rs reads held ts) (field_types k.0) vs k.1.2))
        | inr k ↦
            shown (W.Member i 0) (T.Named i args ts) mu rs v (V.rolls-Member i 0 ∙ k.0)
            (two (nat_eq i i) (nat_lt 0 (length (members types i))) ((Decides-eqb i i).1 refl) k.1)
      ]

  -- ---- all forms

  one_form : (d : ℕ) → Zeroed d → (x : Typ-F Typ) (mu : Assignment) (indices : List Index) (zeros : List (Option Value)) (rs : Readings) (v : Value)
      → Reads nu mu indices → Held zeros rs → form_zero types (zero_within types d) x indices zeros ≡ Some v
      → belongs types v (reading (roll-Typ x) mu rs) ≡ true
  one_form d ih T.Unit mu indices zeros rs v reads held h = shown W.Unit T.Unit mu rs v (V.rolls-Unit ∙ some_same V.Unit v h) refl
  one_form d ih T.Bool mu indices zeros rs v reads held h =
      shown (W.Truth false) T.Bool mu rs v (V.rolls-Truth false ∙ some_same (V.Truth false) v h) refl
  one_form d ih T.Bit mu indices zeros rs v reads held h = shown (W.Bit false) T.Bit mu rs v (V.rolls-Bit false ∙ some_same (V.Bit false) v h) refl
  one_form d ih (T.Bits t) mu indices zeros rs v reads held h =
      let k = then_parts (known indices t) zero_bits v h in
      bits_case d ih indices zeros mu rs reads held t k.0 v (known_is nu mu indices t k.0 reads k.1) k.2
  one_form d ih (T.Range t u) mu indices zeros rs v reads held h =
      let k = then_parts (known indices t) (λ a. and_then (known indices u) (zero_range a)) v h in
      let l = then_parts (known indices u) (zero_range k.0) v k.2 in
      range_case d ih indices zeros mu rs reads held t u k.0 l.0 v (int_le k.0 l.0) (known_is nu mu indices t k.0 reads k.1)
      (known_is nu mu indices u l.0 reads l.1) refl l.2
  one_form d ih (T.Vector n t) mu indices zeros rs v reads held h =
      let k = then_parts (known indices n) (λ z. and_then (zero_within types d t indices zeros) (zero_vector z)) v h in
      let l = then_parts (zero_within types d t indices zeros) (zero_vector k.0) v k.2 in
      vector_case d ih indices zeros mu rs reads held n t k.0 l.0 v (known_is nu mu indices n k.0 reads k.1)
      (ih t mu indices zeros rs l.0 reads held l.1) l.2
  one_form d ih (T.Tuple ts) mu indices zeros rs v reads held h =
      let k = map_parts V.Tuple (together (each_zero (map (zero_within types d) ts) indices zeros)) v h in
      tuple_case d ih indices zeros mu rs reads held ts k.0 v k.2 k.1
  one_form d ih (T.Named i args ts) mu indices zeros rs v reads held h =
      let zs = each_zero (map (zero_within types d) ts) indices zeros in
      let k = then_parts (read_indices indices args) (λ is. zero_in_table (zero_within types d) types i is zs) v h in
      named_case d ih indices zeros mu rs reads held i args ts k.0 v k.1 k.2
  one_form d ih (T.Variable i) mu indices zeros rs v reads held h = variable_case d ih indices zeros mu rs reads held i v h
  one_form d ih x mu indices zeros rs v reads held h = none h

  zeroed : (d : ℕ) → Zeroed d
  zeroed zero t mu indices zeros rs v reads held h = none h
  zeroed (suc d) t mu indices zeros rs v reads held h =
      ap (λ u. belongs types v (reading u mu rs)) (sym (roll-out-Typ t)) ∙ one_form d (zeroed d) (out-Typ t) mu indices zeros rs v reads held h

pub zeros_belong : (types : Types) (t : Typ) (v : Value) (nu : Assignment) → ((n m : Num) → nu.beyond n ≡ nu.beyond m) → zero_of types t ≡ Some v
    → belongs types v (reading t (assigned nu []) no_readings) ≡ true
zeros_belong types t v nu same h = zeroed types nu deepest t (assigned nu []) [] [] no_readings v (reads_closed nu same) (λ i z e. none e) h
