-- What a row of the table says of a result is what the walk takes to be known of it.
use Rattle.std.proofs.Common.{◌≡◌, ℕ, ◌≤◌, ℤ, pos, int_le, Bool, true, false, ◌&&◌, List, [], ◌∷◌, length, ap, sym, ◌∙◌, refl, subst}
use Rattle.std.proofs.Common.{Some, arith}
use Rattle.std.specs.Bool.{beq}
use Rattle.std.specs.List.{list_all}
use Rattle.std.proofs.lemmas.Bool.{and_parts, leb-true}
use Rattle.std.proofs.lemmas.Bool.Decides.{Decides-int_eq}
use Rattle.sail_base.specs.declared.place.Place.{Place}
use Rattle.sail_types.specs.Belongs.{Reading as Closed, assigned}
use Rattle.sail_types.specs.Limits.{is_small}
use Rattle.sail_types.specs.Numbers.{Assignment, Positive, number, true_in}
use Rattle.sail_types.specs.Sums.{variable, zero_num}
use Rattle.sail_types.specs.declared.numbers.Con.{Con}
use Rattle.sail_types.specs.declared.numbers.Index.{Index}
use Rattle.sail_types.specs.declared.numbers.Num.{Num}
use Rattle.sail_types.specs.declared.table.Types.{Types}
use Rattle.sail_types.specs.declared.values.Value.{Value, Value-F, out-Value}
use Rattle.sail_types.specs.declared.values.Value.TheOpen as V
use Rattle.builtins.specs.RowValues.{Opened as Values}
use Rattle.row_types.specs.Calls.{variables, number_of, is_sized}
use Rattle.row_types.specs.Calls as Of
use Rattle.row_types.specs.declared.kinds.Outcome.{Outcome}
use Rattle.row_types.specs.declared.kinds.Outcome.TheVariants as O
use Rattle.row_types.specs.declared.kinds.Product.{Product}
use Rattle.value_indices.specs.declared.indices.Indices.{Indices}
use Rattle.value_indices.specs.declared.indices.Indices.TheOpen as W
use Rattle.value_indices.specs.declared.indices.Indices.TheVariants as I
use Rattle.value_indices.specs.declared.indices.Naming.TheVariants as M
use Rattle.value_indices.specs.declared.notes.Fact.{Fact}
use Rattle.value_indices.specs.declared.notes.Made.TheVariants as Makes
use Rattle.value_indices.specs.Opening.{at_most, bound_below, bound_above, integer_of}
use Rattle.value_indices.specs.Steps.{Conditions, assume_all, size_note}
use Rattle.value_laws.specs.Belonging.{Integers, standing, form_holds}
use Rattle.value_laws.specs.Known.{Point, Agree, Goes}
use Rattle.value_laws.proofs.Basics.{no}
use Rattle.value_laws.proofs.Numbers.{mapped, at_most_is, variable_is}
use Rattle.value_laws.proofs.Steps.{agree_on, gives, goes_then, assumes_if, fresh_integer}
use Rattle.value_laws.proofs.Knowing.{Opened, any_truth_known, bits_known, form_meant, integer_known, number_goes, opens_then, truth_goes, truth_holds}
use Rattle.value_laws.proofs.Knowing.{truth_meant, truth_means}
use Rattle.value_laws.proofs.Meanings.{strings_same, units_same}
use Rattle.value_laws.proofs.Values.{meant_is}
use Rattle.call_notes.specs.Rows.{condition_in, conditions_in, number_in, numbers_under, outcome}
use Rattle.call_notes.specs.declared.numbers.Numbers.{Numbers}
use Rattle.row_laws.proofs.Free.{FreeOf}
use Rattle.row_laws.proofs.Goals.{If, AllIf, number_said, condition_said}
use Rattle.row_laws.proofs.Standing.{beyond}
use Rattle.row_laws.proofs.Room.{notes_pass, small_count}

truth_same : (b c : Bool) → beq b c ≡ true → c ≡ b
truth_same true true h = refl
truth_same true false h = no h
truth_same false true h = no h
truth_same false false h = refl

-- all conditions that can be said come into force
all_assumed : {past : Positive} {n : ℕ} {f : Point n} {facts : List Fact} (ns : Numbers) (os : Conditions)
    → ((g : Integers) → Agree f g → AllIf past g ns os) → Goes past n f facts (assume_all os) (λ g t. Unit {0})
all_assumed ns [] h = gives tt (λ g a. tt)
all_assumed {past} ns (o ∷ os) h =
    goes_then (assumes_if o (λ c e g a. subst (If past g ns) e (h g a).0)) (λ m g fs t l q.
    all_assumed ns os (λ k b. (h k (agree_on l b)).1))

-- ---- what a fresh integer is read under, where it is this result

abbrev pub ReadsFresh : Positive → List Index → Values → Product → {n : ℕ} → Point n → ℤ → Num → Num → List Con → Type 0
ReadsFresh past is os p f z low high cs =
    (g : Integers) → Agree f g → (a : Num) → number (standing past g) a ≡ z
    → ((t : Num) → number_in (numbers_under p is a) low ≡ Some t → number (standing past g) t ≡ number (variables (beyond past) p os z) low)
    × ((t : Num) → number_in (numbers_under p is a) high ≡ Some t → number (standing past g) t ≡ number (variables (beyond past) p os z) high)
    × (list_all (true_in (variables (beyond past) p os z)) cs ≡ true → AllIf past g (numbers_under p is a) (conditions_in (numbers_under p is a) cs))

abbrev pub ReadsOf : Positive → List Index → Values → Product → {n : ℕ} → Point n → ℤ → Outcome → Type 0
ReadsOf past is os p f z (O.Fresh low high cs) = ReadsFresh past is os p f z low high cs
ReadsOf past is os p f z o = Unit {0}

module _ (types : Types) (past : Positive) (own : List Closed) (place : Place) (is : List Index) (args : List Indices) (os : Values) (p : Product) where
  abbrev there : Integers → Assignment
  there g = standing past g

  abbrev zeros : Integers
  zeros i = pos 0

  -- before there is a result, and under it
  abbrev ns : Numbers
  ns = numbers_under p is zero_num

  abbrev under : ℤ → Assignment
  under z = variables (beyond past) p os z

  abbrev Always : {n : ℕ} → Point n → (Integers → Type 0) → Type 0
  Always f P = (g : Integers) → Agree f g → P g

  -- what stands for the variables of the row
  abbrev pub Stands : {n : ℕ} → Point n → Type 0
  Stands f = (g : Integers) → Agree f g → assigned (standing past g) (numbers_under p is zero_num).indices ≡ variables (beyond past) p os (pos 0)

  module _ {n : ℕ} {f : Point n} (facts : List Fact) (stands : Stands f) where
    -- a number of the row, read
    read_is : (t u : Num) → number_in ns t ≡ Some u → Always f (λ g. number (there g) u ≡ number (under (pos 0)) t)
    read_is t u e g a = number_said past g ns t u e ∙ ap (λ nu. number nu t) (stands g a)

    condition_is : (c d : Con) → condition_in ns c ≡ Some d → Always f (λ g. true_in (there g) d ≡ true_in (under (pos 0)) c)
    condition_is c d e g a = condition_said past g ns c d e ∙ ap (λ nu. true_in nu c) (stands g a)

    abbrev Known : Outcome → Value → Type 0
    Known o v = Opened types past own v n f facts (outcome place p is args ns o)

    integer_result : (t : Num) (v : Value) (w : Value-F Value) → out-Value v ≡ w → Of.has (under (number_of w)) (O.Integer t) w ≡ true
        → is_sized w ≡ true → FreeOf past os p (O.Integer t) → Known (O.Integer t) v
    unfolding integer_of
    integer_result t v (V.Integer z) e h small free =
        opens_then types past own v
        (number_goes types past own (number_in ns t) z small (λ u k g a. read_is t u k g a ∙ sym (free z)
        ∙ sym ((Decides-int_eq z (number (under z) t)).0 h)))
        (λ m g fs u a q. integer_known types past own false u z v e small q)
    integer_result t v w e h small free = no h

    bits_result : (t : Num) (v : Value) (w : Value-F Value) → out-Value v ≡ w → Of.has (under (number_of w)) (O.Bits t) w ≡ true
        → is_sized w ≡ true → FreeOf past os p (O.Bits t) → Known (O.Bits t) v
    bits_result t v (V.Bits bits) e h width free =
        let few : length bits ≤ 128 = leb-true (length bits) 128 width in
        opens_then types past own v
        (number_goes types past own (number_in ns t) (pos (length bits)) (small_count (length bits) (omega (arith, few)))
        (λ u k g a. read_is t u k g a ∙ sym (free (pos (length bits)))
        ∙ sym ((Decides-int_eq (pos (length bits)) (number (under (pos (length bits))) t)).0 h)))
        (λ m g fs u a q. opens_then types past own v (notes_pass (λ fs. size_note fs place (Makes.ByIndices (I.Bits u))))
        (λ m2 g2 fs2 x a2 q2. bits_known types past own u v bits e width (λ k b. q k (agree_on a2 b))))
    bits_result t v w e h width free = no h

    truth_result : (c : Con) (v : Value) (w : Value-F Value) → out-Value v ≡ w → Of.has (under (number_of w)) (O.Truth c) w ≡ true → Known (O.Truth c) v
    truth_result c v (V.Truth b) e h =
        opens_then types past own v
        (truth_goes types past own (condition_in ns c) b (λ d k g a. condition_is c d k g a ∙ truth_same b (true_in (under (pos 0)) c) h))
        (λ m g fs d a q. (truth_meant types past own b, truth_holds types past own b v e, gives (I.Truth d) (λ k l. truth_means types past own d b k (q k l))))
    truth_result c v w e h = no h

    bool_result : (v : Value) (w : Value-F Value) → out-Value v ≡ w → Of.has (under (number_of w)) O.Bool w ≡ true → Known O.Bool v
    bool_result v (V.Truth b) e h = any_truth_known types past own M.Unnamed b v e
    bool_result v w e h = no h

    string_result : (v : Value) (w : Value-F Value) → out-Value v ≡ w → Of.has (under (number_of w)) O.String w ≡ true → Known O.String v
    string_result v (V.String text) e h = (
      form_meant types past own W.String,
      ap (form_holds types (there zeros) own W.String) e,
      gives I.String (λ g a. meant_is types (there g) own I.String W.String I.rolls-String ∙ strings_same types past own g zeros),
    )
    string_result v w e h = no h

    unit_result : (v : Value) (w : Value-F Value) → out-Value v ≡ w → Of.has (under (number_of w)) O.Unit w ≡ true → Known O.Unit v
    unit_result v V.Unit e h = (
      form_meant types past own W.Unit,
      ap (form_holds types (there zeros) own W.Unit) e,
      gives I.Unit (λ g a. meant_is types (there g) own I.Unit W.Unit I.rolls-Unit ∙ units_same types past own g zeros),
    )
    unit_result v w e h = no h

    fresh_known : (low high : Num) (cs : List Con) (z : ℤ) (v : Value) → out-Value v ≡ V.Integer z → is_small z ≡ true
        → int_le (number (under z) low) z ≡ true → int_le z (number (under z) high) ≡ true → list_all (true_in (under z)) cs ≡ true
        → ReadsFresh past is os p f z low high cs → Known (O.Fresh low high cs) v
    unfolding integer_of
    fresh_known low high cs z v e small below above said reads =
        opens_then types past own v (fresh_integer z) (λ m g fs i a q.
        opens_then types past own v
        (assumes_if (bound_below (number_in (numbers_under p is (variable i)) low) (variable i)) (λ c k l b.
        let t = mapped (λ t. at_most t (variable i)) (number_in (numbers_under p is (variable i)) low) c k in
        let r = reads l (agree_on a b) (variable i) (variable_is past l i ∙ q l b) in
        ap (true_in (there l)) (sym t.2) ∙ at_most_is (there l) t.0 (variable i)
        ∙ ap (int_le (number (there l) t.0)) (variable_is past l i ∙ q l b) ∙ ap (λ y. int_le y z) (r.0 t.0 t.1) ∙ below))
        (λ m2 g2 fs2 x a2 q2. opens_then types past own v
        (assumes_if (bound_above (variable i) (number_in (numbers_under p is (variable i)) high)) (λ c k l b.
        let t = mapped (λ t. at_most (variable i) t) (number_in (numbers_under p is (variable i)) high) c k in
        let d = agree_on a2 b in
        let r = reads l (agree_on a d) (variable i) (variable_is past l i ∙ q l d) in
        ap (true_in (there l)) (sym t.2) ∙ at_most_is (there l) (variable i) t.0
        ∙ ap (λ y. int_le y (number (there l) t.0)) (variable_is past l i ∙ q l d) ∙ ap (int_le z) (r.1 t.0 t.1) ∙ above))
        (λ m3 g3 fs3 y a3 q3. opens_then types past own v
        (all_assumed (numbers_under p is (variable i)) (conditions_in (numbers_under p is (variable i)) cs) (λ l b.
        let d = agree_on a2 (agree_on a3 b) in (reads l (agree_on a d) (variable i) (variable_is past l i ∙ q l d)).2 said))
        (λ m4 g4 fs4 t a4 q4. integer_known types past own false (variable i) z v e small (λ l b.
        variable_is past l i ∙ q l (agree_on a2 (agree_on a3 (agree_on a4 b))))))))

    fresh_result_known : (low high : Num) (cs : List Con) (v : Value) (w : Value-F Value) → out-Value v ≡ w
        → Of.has (under (number_of w)) (O.Fresh low high cs) w ≡ true → is_sized w ≡ true → ReadsFresh past is os p f (number_of w) low high cs
        → Known (O.Fresh low high cs) v
    fresh_result_known low high cs v (V.Integer z) e h small reads =
        let k = and_parts (int_le (number (under z) low) z && int_le z (number (under z) high)) (list_all (true_in (under z)) cs) h in
        let l = and_parts (int_le (number (under z) low) z) (int_le z (number (under z) high)) k.0 in
        fresh_known low high cs z v e small l.0 l.1 k.1 reads
    fresh_result_known low high cs v w e h small reads = no h

    -- ---- each outcome

    pub result_known : (o : Outcome) (v : Value) (w : Value-F Value) → out-Value v ≡ w → Of.has (under (number_of w)) o w ≡ true → is_sized w ≡ true
        → FreeOf past os p o → ReadsOf past is os p f (number_of w) o
        → Opened types past own v n f facts (outcome place p is args (numbers_under p is zero_num) o)
    result_known (O.Integer t) v w e h k free reads = integer_result t v w e h k free
    result_known (O.Fresh low high cs) v w e h k free reads = fresh_result_known low high cs v w e h k reads
    result_known (O.Truth c) v w e h k free reads = truth_result c v w e h
    result_known O.Bool v w e h k free reads = bool_result v w e h
    result_known (O.Bits t) v w e h k free reads = bits_result t v w e h k free
    result_known (O.Vector t) v w e h k free reads = absurd free
    result_known O.String v w e h k free reads = string_result v w e h
    result_known O.Unit v w e h k free reads = unit_result v w e h
