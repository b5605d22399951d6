-- What is known of a value of one form: its numbers, its truth, its parts.
use Rattle.std.proofs.Common.{◌≡◌, ℕ, ◌≤◌, ℤ, pos, int_le, Bool, true, false, ◌&&◌, List, ◌∷◌, map, length}
use Rattle.std.proofs.Common.{Option, Some, None, if◌then◌else◌, refl, sym, ap, ◌∙◌, arith}
use Rattle.std.specs.Bool.{beq}
use Rattle.std.specs.List.{list_all}
use Rattle.std.specs.Ordering.{int_eq}
use Rattle.std.proofs.lemmas.Bool.{leb-true}
use Rattle.std.proofs.lemmas.Bool.Decides.{Decides-int_eq}
use Rattle.std.proofs.lemmas.Int.{ints}
use Rattle.value_laws.proofs.Basics.{two}
use Rattle.sail_types.proofs.Substituted.{number_constant}
use Rattle.sail_types.specs.Belongs.{Reading as Closed}
use Rattle.sail_types.specs.Belongs.{belongs}
use Rattle.sail_types.specs.Limits.{is_small, is_width, is_length}
use Rattle.sail_types.specs.Numbers.{Assignment, Positive, number, true_in}
use Rattle.sail_types.specs.Sums.{constant, is_constant, variable}
use Rattle.sail_types.specs.declared.numbers.Con.{Con}
use Rattle.sail_types.specs.declared.numbers.Con.TheVariants as C
use Rattle.sail_types.specs.declared.numbers.Num.{Num}
use Rattle.sail_types.specs.declared.table.Types.{Types}
use Rattle.sail_types.specs.declared.values.Value.{Value, out-Value}
use Rattle.sail_types.specs.declared.values.Value.TheOpen as V
use Rattle.row_types.specs.Formulas.{least, most}
use Rattle.value_indices.specs.declared.indices.Indices.{Indices}
use Rattle.value_indices.specs.declared.indices.Indices.TheOpen as W
use Rattle.value_indices.specs.declared.indices.Indices.TheOpen.{Indices-F}
use Rattle.value_indices.specs.declared.indices.Indices.TheVariants as I
use Rattle.value_indices.specs.declared.indices.Naming.{Naming}
use Rattle.value_indices.specs.declared.indices.Reading.{Reading}
use Rattle.value_indices.specs.declared.notes.Fact.{Fact}
use Rattle.value_indices.specs.Steps.{Walk, give, bind}
use Rattle.value_indices.specs.Opening.{at_most, between, zero_num, least_num, largest_num, widest, longest, number_or_fresh, truth_or_fresh}
use Rattle.value_indices.specs.Opening.{fresh_integer as any_number, integer_between, any_truth, bits_of, vector_of}
use Rattle.value_indices.specs.Opening.{integer_of}
use Rattle.value_indices.specs.Opening.{bound_below, bound_above}
use Rattle.value_laws.specs.Belonging.{Integers, Meant, standing, meant, meant_form, closed}
use Rattle.value_laws.specs.Belonging.{form_holds, each_holds}
use Rattle.value_laws.specs.Known.{Point, Agree, Later, Goes}
use Rattle.value_laws.proofs.Numbers.{mapped, at_most_true, above_least, below_most, holds_is, at_most_is, truth_is, variable_is}
use Rattle.value_laws.proofs.Steps.{agree_on, gives, goes_on, goes_then, assumes_if, fresh_integer, fresh_goes, between_goes}
use Rattle.value_laws.proofs.Meanings.{bits_same, integers_same, truths_same, tuples_same, vectors_same}
use Rattle.value_laws.proofs.Values.{meant_is}

-- a truth is that of its integer
truth_of : (b : Bool) → int_le (pos 1) (if b then pos 1 else pos 0) ≡ b
truth_of true = refl
truth_of false = refl

beq_itself : (b : Bool) → beq b b ≡ true
beq_itself true = refl
beq_itself false = refl

module _ (types : Types) (past : Positive) (own : List Closed) where
  abbrev there : Integers → Assignment
  there g = standing past g

  abbrev zeros : Integers
  zeros i = pos 0

  -- indices with this meaning
  abbrev pub Means : Meant → Integers → Indices → Type 0
  Means m g i = meant types (there g) own i ≡ m

  -- a walk that gives indices that a value has, whatever variables stand for that aren't fixed
  abbrev pub Opened : Value → (n : ℕ) → Point n → List Fact → Walk Indices → Type 0
  Opened v n f facts walk = (m : Meant) × (m.holds v ≡ true) × Goes past n f facts walk (Means m)

  -- what a form means, whose numbers and truths are those of a value
  abbrev pub form_meant : Indices-F Meant Closed → Meant
  form_meant x = meant_form types (there zeros) own x

  -- for all integers of variables that aren't fixed
  abbrev Always : {n : ℕ} → Point n → (Integers → Type 0) → Type 0
  Always f P = (g : Integers) → Agree f g → P g

  -- ---- numbers, and values with numbers

  pub number_goes : {n : ℕ} {f : Point n} {facts : List Fact} (o : Option Num) (z : ℤ) → is_small z ≡ true
      → ((u : Num) → o ≡ Some u → Always f (λ g. number (there g) u ≡ z)) → Goes past n f facts (number_or_fresh o) (λ g u. number (there g) u ≡ z)
  unfolding number_or_fresh any_number
  number_goes (Some u) z small h = gives u (h u refl)
  number_goes None z small h =
      goes_then (fresh_integer z) (λ m g fs i a q. goes_then
      (between_goes least_num (variable i) largest_num
      (λ k b. (λ j. int_le (number_constant (there k) least j) ((variable_is past k i ∙ q k b) j)) ∙ above_least z small)
      (λ k b. (λ j. int_le ((variable_is past k i ∙ q k b) j) (number_constant (there k) most j)) ∙ below_most z small))
      (λ m2 g2 fs2 x a2 q2. gives (variable i) (λ k b. variable_is past k i ∙ q k (agree_on a2 b))))

  constant_is : (g : Integers) (z : ℤ) → number (there g) (constant z) ≡ z
  constant_is g z = number_constant (there g) z

  pub bits_known : {n : ℕ} {f : Point n} {facts : List Fact} (u : Num) (v : Value) (bits : List Bool) → out-Value v ≡ V.Bits bits
      → is_width (length bits) ≡ true → Always f (λ g. number (there g) u ≡ pos (length bits)) → Opened v n f facts (bits_of u)
  unfolding bits_of widest
  bits_known u v bits e width h =
      let few : length bits ≤ 128 = leb-true (length bits) 128 width in
      let z : ℤ = pos (length bits) in (
        form_meant (W.Bits (constant z)),
        ap (form_holds types (there zeros) own (W.Bits (constant z))) e
            ∙ two (int_eq z (number (there zeros) (constant z))) (is_width (length bits))
            ((Decides-int_eq z (number (there zeros) (constant z))).1 (sym (constant_is zeros z))) width,
        goes_then
            (between_goes zero_num u widest
            (λ g a. (λ j. int_le (number_constant (there g) (pos 0) j) (h g a j)) ∙ at_most_true (pos 0) (pos (length bits)) (omega (arith, ints)))
            (λ g a. (λ j. int_le (h g a j) (number_constant (there g) (pos 128) j)) ∙ at_most_true (pos (length bits)) (pos 128) (omega (arith, ints, few))))
            (λ m g fs x a q. gives (I.Bits u) (λ k b.
            meant_is types (there k) own (I.Bits u) (W.Bits u) (I.rolls-Bits u)
            ∙ bits_same types past own k zeros u (constant z) (h k (agree_on a b) ∙ sym (constant_is zeros z)))),
      )

  -- items of one type, which hangs on fixed variables alone
  pub vector_known : {n : ℕ} {f : Point n} {facts : List Fact} (u : Num) (r : Reading) (c : Closed) (v : Value) (vs : List Value)
      → out-Value v ≡ V.Vector vs → is_length (length vs) ≡ true → Always f (λ g. number (there g) u ≡ pos (length vs))
      → Always f (λ g. closed types (there g) own r ≡ c) → list_all (λ x. belongs types x c) vs ≡ true → Opened v n f facts (vector_of r u)
  unfolding vector_of longest
  vector_known u r c v vs e fits h steady items =
      let few : length vs ≤ 4096 = leb-true (length vs) 4096 fits in
      let z : ℤ = pos (length vs) in (
        form_meant (W.Vector (constant z) c),
        ap (form_holds types (there zeros) own (W.Vector (constant z) c)) e
            ∙ two (int_eq z (number (there zeros) (constant z)) && is_length (length vs)) (list_all (λ x. belongs types x c) vs)
            (two (int_eq z (number (there zeros) (constant z))) (is_length (length vs))
            ((Decides-int_eq z (number (there zeros) (constant z))).1 (sym (constant_is zeros z))) fits)
            items,
        goes_then
            (between_goes zero_num u longest
            (λ g a. (λ j. int_le (number_constant (there g) (pos 0) j) (h g a j)) ∙ at_most_true (pos 0) (pos (length vs)) (omega (arith, ints)))
            (λ g a. (λ j. int_le (h g a j) (number_constant (there g) (pos 4096) j)) ∙ at_most_true (pos (length vs)) (pos 4096) (omega (arith, ints, few))))
            (λ m g fs x a q. gives (I.Vector u r) (λ k b.
            meant_is types (there k) own (I.Vector u r) (W.Vector u r) (I.rolls-Vector u r)
            ∙ vectors_same types past own k zeros u (constant z) (closed types (there k) own r) c (h k (agree_on a b) ∙ sym (constant_is zeros z))
            (steady k (agree_on a b)))),
      )

  abbrev integer_meant : ℤ → Meant
  integer_meant z = form_meant (W.Integer (constant z))

  integer_holds : (z : ℤ) (v : Value) → out-Value v ≡ V.Integer z → is_small z ≡ true → (integer_meant z).holds v ≡ true
  integer_holds z v e small =
      ap (form_holds types (there zeros) own (W.Integer (constant z))) e
      ∙ two (int_eq z (number (there zeros) (constant z))) (is_small z)
      ((Decides-int_eq z (number (there zeros) (constant z))).1 (sym (constant_is zeros z))) small

  -- an integer that is this number
  integer_means : (u : Num) (z : ℤ) (g : Integers) → number (there g) u ≡ z → Means (integer_meant z) g (I.Integer u)
  integer_means u z g h =
      meant_is types (there g) own (I.Integer u) (W.Integer u) (I.rolls-Integer u)
      ∙ integers_same types past own g zeros u (constant z) (h ∙ sym (constant_is zeros z))

  pub integer_known : {n : ℕ} {f : Point n} {facts : List Fact} (tells : Bool) (u : Num) (z : ℤ) (v : Value) → out-Value v ≡ V.Integer z → is_small z ≡ true
      → Always f (λ g. number (there g) u ≡ z) → Opened v n f facts (integer_of tells u)
  unfolding integer_of
  integer_known {n} {f} {facts} tells u z v e small h = (integer_meant z, integer_holds z v e small, by tells (is_constant u))
    where
      by : (s c : Bool) → Goes past n f facts (if s then (if c then give (I.Integer u) else bind (between least_num u largest_num) (λ x. give (I.Integer u)))
          else give (I.Integer u)) (Means (integer_meant z))
      by false c = gives (I.Integer u) (λ g a. integer_means u z g (h g a))
      by true true = gives (I.Integer u) (λ g a. integer_means u z g (h g a))
      by true false = goes_then
          (between_goes least_num u largest_num
          (λ k b. (λ j. int_le (number_constant (there k) least j) (h k b j)) ∙ above_least z small)
          (λ k b. (λ j. int_le (h k b j) (number_constant (there k) most j)) ∙ below_most z small))
          (λ m g fs x a q. gives (I.Integer u) (λ k b. integer_means u z k (h k (agree_on a b))))

  pub between_known : {n : ℕ} {f : Point n} {facts : List Fact} (name : Naming) (low high : Option Num) (z : ℤ) (v : Value) → out-Value v ≡ V.Integer z
      → is_small z ≡ true → ((t : Num) → low ≡ Some t → Always f (λ g. int_le (number (there g) t) z ≡ true))
      → ((t : Num) → high ≡ Some t → Always f (λ g. int_le z (number (there g) t) ≡ true)) → Opened v n f facts (integer_between name low high)
  unfolding integer_between
  between_known name low high z v e small h k = (
    integer_meant z,
    integer_holds z v e small,
    goes_then (fresh_goes name z) (λ m g fs i a q. goes_then
        (assumes_if (bound_below low (variable i)) (λ c is l b.
        let p = mapped (λ t. at_most t (variable i)) low c is in
        ap (true_in (there l)) (sym p.2) ∙ at_most_is (there l) p.0 (variable i)
        ∙ ap (int_le (number (there l) p.0)) (variable_is past l i ∙ q l b) ∙ h p.0 p.1 l (agree_on a b)))
        (λ m2 g2 fs2 x a2 q2. goes_then
        (assumes_if (bound_above (variable i) high) (λ c is l b.
        let p = mapped (λ t. at_most (variable i) t) high c is in
        let d = agree_on a2 b in
        ap (true_in (there l)) (sym p.2) ∙ at_most_is (there l) (variable i) p.0
        ∙ ap (λ y. int_le y (number (there l) p.0)) (variable_is past l i ∙ q l d) ∙ k p.0 p.1 l (agree_on a d)))
        (λ m3 g3 fs3 y a3 q3. gives (I.Integer (variable i)) (λ l b.
        integer_means (variable i) z l (variable_is past l i ∙ q l (agree_on a2 (agree_on a3 b))))))),
  )

  abbrev pub truth_meant : Bool → Meant
  truth_meant b = form_meant (W.Truth (C.Truth b))

  pub truth_holds : (b : Bool) (v : Value) → out-Value v ≡ V.Truth b → (truth_meant b).holds v ≡ true
  truth_holds b v e =
      ap (form_holds types (there zeros) own (W.Truth (C.Truth b))) e ∙ ap (beq b) (truth_is (there zeros) b) ∙ beq_itself b

  pub truth_means : (d : Con) (b : Bool) (g : Integers) → true_in (there g) d ≡ b → Means (truth_meant b) g (I.Truth d)
  truth_means d b g h =
      meant_is types (there g) own (I.Truth d) (W.Truth d) (I.rolls-Truth d)
      ∙ truths_same types past own g zeros d (C.Truth b) (h ∙ sym (truth_is (there zeros) b))

  -- a variable with the integer of a truth
  bit_true : (i : ℕ) (b : Bool) (g : Integers) → g i ≡ (if b then pos 1 else pos 0) → true_in (there g) (C.Holds i) ≡ b
  bit_true i b g h = holds_is (there g) i ∙ ap (int_le (pos 1)) h ∙ truth_of b

  pub any_truth_known : {n : ℕ} {f : Point n} {facts : List Fact} (name : Naming) (b : Bool) (v : Value) → out-Value v ≡ V.Truth b
      → Opened v n f facts (any_truth name)
  unfolding any_truth
  any_truth_known name b v e = (
    truth_meant b,
    truth_holds b v e,
    goes_then (fresh_goes name (if b then pos 1 else pos 0)) (λ m g fs i a q. gives (I.Truth (C.Holds i)) (λ k c.
        truth_means (C.Holds i) b k (bit_true i b k (q k c)))),
  )

  pub truth_goes : {n : ℕ} {f : Point n} {facts : List Fact} (o : Option Con) (b : Bool)
      → ((d : Con) → o ≡ Some d → Always f (λ g. true_in (there g) d ≡ b))
      → Goes past n f facts (truth_or_fresh o) (λ g d. true_in (there g) d ≡ b)
  unfolding truth_or_fresh
  truth_goes (Some d) b h = gives d (h d refl)
  truth_goes None b h = goes_then (fresh_integer (if b then pos 1 else pos 0)) (λ m g fs i a q. gives (C.Holds i) (λ k c. bit_true i b k (q k c)))

  -- behind a walk
  pub opens_then : {n : ℕ} {f : Point n} {facts : List Fact} {A : Type 0} {w : Walk A} {k : A → Walk Indices} {Holds : Integers → A → Type 0} (v : Value)
      → Goes past n f facts w Holds
      → ((m : ℕ) (g : Point m) (fs : List Fact) (x : A) → Later f g → ((h : Integers) → Agree g h → Holds h x) → Opened v m g fs (k x))
      → Opened v n f facts (bind w k)
  opens_then {n} {f} {facts} {w} {k} v r next =
      let s : Opened v (w facts n).next r.goes.point (w facts n).facts (k (w facts n).value) =
      next (w facts n).next r.goes.point (w facts n).facts (w facts n).value r.goes.later r.goes.holds in (s.0, s.1, goes_on k r s.2)

  -- ---- several, one after the other

  abbrev pub AllOpened : List Value → (n : ℕ) → Point n → List Fact → Walk (List Indices) → Type 0
  AllOpened vs n f facts walk =
      (ms : List Meant) × (each_holds ms vs ≡ true) × Goes past n f facts walk (λ g is. map (meant types (there g) own) is ≡ ms)

  pub both_opened : {n : ℕ} {f : Point n} {facts : List Fact} {w : Walk Indices} {ws : Walk (List Indices)} (v : Value) (vs : List Value)
      → Opened v n f facts w → ((m : ℕ) (g : Point m) (fs : List Fact) → Later f g → AllOpened vs m g fs ws)
      → AllOpened (v ∷ vs) n f facts (bind w (λ i. bind ws (λ is. give (i ∷ is))))
  both_opened {n} {f} {facts} {w} {ws} v vs one rest =
      let first = one.2.goes in
      let more : AllOpened vs (w facts n).next first.point (w facts n).facts ws =
      rest (w facts n).next first.point (w facts n).facts first.later in (
        one.0 ∷ more.0,
        two (one.0.holds v) (each_holds more.0 vs) one.1 more.1,
        goes_on (λ i. bind ws (λ is. give (i ∷ is))) one.2 (goes_then more.2 (λ m g fs is a q. gives ((w facts n).value ∷ is) (λ k b. λ j. first.holds k (agree_on a b) j ∷ q k b j))),
      )

  pub tuple_known : {n : ℕ} {f : Point n} {facts : List Fact} {ws : Walk (List Indices)} (v : Value) (vs : List Value) → out-Value v ≡ V.Tuple vs
      → AllOpened vs n f facts ws → Opened v n f facts (bind ws (λ is. give (I.Tuple is)))
  tuple_known v vs e all = (
    form_meant (W.Tuple all.0),
    ap (form_holds types (there zeros) own (W.Tuple all.0)) e ∙ all.1,
    goes_then all.2 (λ m g fs is a q. gives (I.Tuple is) (λ k b.
        meant_is types (there k) own (I.Tuple is) (W.Tuple is) (I.rolls-Tuple is)
        ∙ tuples_same types past own k zeros (map (meant types (there k) own) is) all.0 (q k b))),
  )

  -- ---- and what is so of the meaning besides

  abbrev pub OpenedAs : (Meant → Type 0) → Value → (n : ℕ) → Point n → List Fact → Walk Indices → Type 0
  OpenedAs P v n f facts walk = (m : Meant) × (m.holds v ≡ true) × P m × Goes past n f facts walk (Means m)

  pub kept_as : {n : ℕ} {f : Point n} {facts : List Fact} {walk : Walk Indices} (P Q : Meant → Type 0) (v : Value) → ((m : Meant) → P m → Q m)
      → OpenedAs P v n f facts walk → OpenedAs Q v n f facts walk
  kept_as P Q v h s = (s.0, s.1, h s.0 s.2, s.3)

  pub opens_kept : {n : ℕ} {f : Point n} {facts : List Fact} {A : Type 0} {w : Walk A} {k : A → Walk Indices} {Holds : Integers → A → Type 0}
      (P : Meant → Type 0) (v : Value) → Goes past n f facts w Holds
      → ((m : ℕ) (g : Point m) (fs : List Fact) (x : A) → Later f g → ((h : Integers) → Agree g h → Holds h x) → OpenedAs P v m g fs (k x))
      → OpenedAs P v n f facts (bind w k)
  opens_kept {n} {f} {facts} {w} {k} P v r next =
      let s : OpenedAs P v (w facts n).next r.goes.point (w facts n).facts (k (w facts n).value) =
      next (w facts n).next r.goes.point (w facts n).facts (w facts n).value r.goes.later r.goes.holds in (s.0, s.1, s.2, goes_on k r s.3)

  module _ {n : ℕ} {f : Point n} {facts : List Fact} (P : Meant → Type 0) where
    pub bits_kept : (u : Num) (v : Value) (bits : List Bool) → out-Value v ≡ V.Bits bits → is_width (length bits) ≡ true
        → Always f (λ g. number (there g) u ≡ pos (length bits)) → P (form_meant (W.Bits (constant (pos (length bits)))))
        → OpenedAs P v n f facts (bits_of u)
    unfolding bits_known
    bits_kept u v bits e width h p = let s : Opened v n f facts (bits_of u) = bits_known u v bits e width h in (s.0, s.1, p, s.2)

    pub vector_kept : (u : Num) (r : Reading) (c : Closed) (v : Value) (vs : List Value) → out-Value v ≡ V.Vector vs → is_length (length vs) ≡ true
        → Always f (λ g. number (there g) u ≡ pos (length vs)) → Always f (λ g. closed types (there g) own r ≡ c)
        → list_all (λ x. belongs types x c) vs ≡ true → P (form_meant (W.Vector (constant (pos (length vs))) c)) → OpenedAs P v n f facts (vector_of r u)
    unfolding vector_known
    vector_kept u r c v vs e fits h steady items p =
        let s : Opened v n f facts (vector_of r u) = vector_known u r c v vs e fits h steady items in (s.0, s.1, p, s.2)

    pub integer_kept : (tells : Bool) (u : Num) (z : ℤ) (v : Value) → out-Value v ≡ V.Integer z → is_small z ≡ true
        → Always f (λ g. number (there g) u ≡ z) → P (form_meant (W.Integer (constant z))) → OpenedAs P v n f facts (integer_of tells u)
    unfolding integer_known
    integer_kept tells u z v e small h p = let s : Opened v n f facts (integer_of tells u) = integer_known tells u z v e small h in (s.0, s.1, p, s.2)

    pub between_kept : (name : Naming) (low high : Option Num) (z : ℤ) (v : Value) → out-Value v ≡ V.Integer z → is_small z ≡ true
        → ((t : Num) → low ≡ Some t → Always f (λ g. int_le (number (there g) t) z ≡ true))
        → ((t : Num) → high ≡ Some t → Always f (λ g. int_le z (number (there g) t) ≡ true)) → P (form_meant (W.Integer (constant z)))
        → OpenedAs P v n f facts (integer_between name low high)
    unfolding between_known
    between_kept name low high z v e small h k p =
        let s : Opened v n f facts (integer_between name low high) = between_known name low high z v e small h k in (s.0, s.1, p, s.2)

    pub any_truth_kept : (name : Naming) (b : Bool) (v : Value) → out-Value v ≡ V.Truth b → P (truth_meant b) → OpenedAs P v n f facts (any_truth name)
    unfolding any_truth_known
    any_truth_kept name b v e p = let s : Opened v n f facts (any_truth name) = any_truth_known name b v e in (s.0, s.1, p, s.2)

  abbrev pub AllOpenedAs : (List Meant → Type 0) → List Value → (n : ℕ) → Point n → List Fact → Walk (List Indices) → Type 0
  AllOpenedAs P vs n f facts walk =
      (ms : List Meant) × (each_holds ms vs ≡ true) × P ms × Goes past n f facts walk (λ g is. map (meant types (there g) own) is ≡ ms)

  pub both_kept : {n : ℕ} {f : Point n} {facts : List Fact} {w : Walk Indices} {ws : Walk (List Indices)} (P : Meant → Type 0) (Q R : List Meant → Type 0)
      (v : Value) (vs : List Value) → ((m : Meant) (ms : List Meant) → P m → Q ms → R (m ∷ ms)) → OpenedAs P v n f facts w
      → ((m : ℕ) (g : Point m) (fs : List Fact) → Later f g → AllOpenedAs Q vs m g fs ws)
      → AllOpenedAs R (v ∷ vs) n f facts (bind w (λ i. bind ws (λ is. give (i ∷ is))))
  both_kept {n} {f} {facts} {w} {ws} P Q R v vs join one rest =
      let first = one.3.goes in
      let more : AllOpenedAs Q vs (w facts n).next first.point (w facts n).facts ws =
      rest (w facts n).next first.point (w facts n).facts first.later in (
        one.0 ∷ more.0,
        two (one.0.holds v) (each_holds more.0 vs) one.1 more.1,
        join one.0 more.0 one.2 more.2,
        goes_on (λ i. bind ws (λ is. give (i ∷ is))) one.3 (goes_then more.3 (λ m g fs is a q.
            gives ((w facts n).value ∷ is) (λ k b. λ j. first.holds k (agree_on a b) j ∷ q k b j))),
      )

  pub tuple_kept : {n : ℕ} {f : Point n} {facts : List Fact} {ws : Walk (List Indices)} (P : Meant → Type 0) (Q : List Meant → Type 0) (v : Value)
      (vs : List Value) → out-Value v ≡ V.Tuple vs → ((ms : List Meant) → Q ms → P (form_meant (W.Tuple ms))) → AllOpenedAs Q vs n f facts ws
      → OpenedAs P v n f facts (bind ws (λ is. give (I.Tuple is)))
  unfolding tuple_known
  tuple_kept {n} {f} {facts} {ws} P Q v vs e as_tuple all =
      let s : Opened v n f facts (bind ws (λ is. give (I.Tuple is))) = tuple_known v vs e (all.0, all.1, all.3) in (s.0, s.1, as_tuple all.0 all.2, s.2)
