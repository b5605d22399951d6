-- Numbers and truths where each variable stands for an integer.
use Rattle.std.proofs.Common.{◌≡◌, ℕ, zero, suc, ◌≤◌, ◌^◌, ℤ, pos, negsuc, ◌≤ℤ◌, int_le, Bool, true, false, List, ◌∷◌}
use Rattle.std.proofs.Common.{Option, Some, None, option_map, refl, sym, ap, ◌∙◌, arith}
use Rattle.std.proofs.lemmas.Bool.{leb-true}
use Rattle.std.proofs.lemmas.Int.{ints}
use Rattle.sail_types.specs.Before.{beyond_of}
use Rattle.sail_types.specs.Belongs.{assigned, under, number_under}
use Rattle.sail_types.specs.Limits.{largest, is_small}
use Rattle.sail_types.specs.Numbers.{Assignment, Positive, number, true_in, form_true}
use Rattle.sail_types.specs.Readings.{read_con, read_index, truth_or_false}
use Rattle.sail_types.specs.Sums.{constant, number_at, number_or_zero, read, substituted, variable}
use Rattle.sail_types.specs.declared.numbers.Atom.TheVariants as A
use Rattle.sail_types.specs.declared.numbers.Comparison.TheVariants as Is
use Rattle.sail_types.specs.declared.numbers.Con.{Con, fold-roll-Con}
use Rattle.sail_types.specs.declared.numbers.Con.TheOpen as F
use Rattle.sail_types.specs.declared.numbers.Con.TheVariants as C
use Rattle.sail_types.specs.declared.numbers.Index.{Index}
use Rattle.sail_types.specs.declared.numbers.Index.TheVariants as N
use Rattle.sail_types.specs.declared.numbers.Num.{Num}
use Rattle.sail_types.proofs.SumNumbers.{some_same}
use Rattle.sail_types.proofs.Substituted.{number_atom, number_constant, atom_variable, substituted_number}
use Rattle.row_types.specs.Formulas.{least, most}
use Rattle.row_types.specs.laws.Goals.{con_read}
use Rattle.value_indices.specs.Opening.{at_most}
use Rattle.value_laws.specs.Belonging.{Integers, index_there, standing}

none : {A B : Type 0} {x : B} → None ≡ Some x → A
none h = absurd (cc)

pub mapped : {A B : Type 0} (f : A → B) (o : Option A) (y : B) → option_map f o ≡ Some y → (x : A) × (o ≡ Some x) × (f x ≡ y)
mapped f None y h = none h
mapped f (Some x) y h = (x, refl, some_same (f x) y h)

-- ---- integers within the limit

pub at_most_true : (a b : ℤ) → a ≤ℤ b → int_le a b ≡ true
at_most_true a b h = by (int_le a b) refl
  where
    by : (t : Bool) → int_le a b ≡ t → t ≡ true
    by true e = refl
    by false e = absurd (omega (arith, ints))

pub above_least : (z : ℤ) → is_small z ≡ true → int_le least z ≡ true
unfolding largest
above_least (pos n) h = at_most_true least (pos n) (omega (arith, ints))
above_least (negsuc n) h = let k : suc n ≤ 2 ^ 126 = leb-true (suc n) (2 ^ 126) h in at_most_true least (negsuc n) (omega (arith, ints, k))

pub below_most : (z : ℤ) → is_small z ≡ true → int_le z most ≡ true
unfolding largest
below_most (pos n) h = let k : n ≤ 2 ^ 126 = leb-true n (2 ^ 126) h in at_most_true (pos n) most (omega (arith, ints, k))
below_most (negsuc n) h = at_most_true (negsuc n) most (omega (arith, ints))

-- ---- truths

pub truth_is : (nu : Assignment) (b : Bool) → true_in nu (C.Truth b) ≡ b
truth_is nu b = ap (true_in nu) (sym (C.rolls-Truth b)) ∙ fold-roll-Con Bool (form_true nu) (F.Truth b)

pub holds_is : (nu : Assignment) (i : ℕ) → true_in nu (C.Holds i) ≡ nu.bool i
holds_is nu i = ap (true_in nu) (sym (C.rolls-Holds i)) ∙ fold-roll-Con Bool (form_true nu) (F.Holds i)

pub at_most_is : (nu : Assignment) (t u : Num) → true_in nu (at_most t u) ≡ int_le (number nu t) (number nu u)
at_most_is nu t u = ap (true_in nu) (sym (C.rolls-Compare Is.LessEqual t u)) ∙ fold-roll-Con Bool (form_true nu) (F.Compare Is.LessEqual t u)

module _ (past : Positive) (f : Integers) where
  abbrev there : Assignment
  there = standing past f

  pub variable_is : (i : ℕ) → number there (variable i) ≡ f i
  variable_is i = number_atom there (A.Variable i) ∙ atom_variable there i

  pub beyond_past : (o : Option Num) → beyond_of there o ≡ past
  beyond_past None = refl
  beyond_past (Some t) = refl

  pub beyond_read : (is : List Index) (o : Option Num) → beyond_of (assigned there is) o ≡ past
  beyond_read is None = beyond_past (read is (constant (pos 0)))
  beyond_read is (Some t) = beyond_past (read is t)

  -- ---- what is read is what it was under what its variables stand for

  pub number_read : (is : List Index) (t u : Num) → read is t ≡ Some u → number there u ≡ number (assigned there is) t
  number_read is t u e = substituted_number (number_at is) t there u e

  pub truth_read : (is : List Index) (c d : Con) → read_con is c ≡ Some d → true_in there d ≡ true_in (assigned there is) c
  truth_read is c d e = con_read is there c d e

  -- one binder further in
  module _ (z : ℤ) (is : List Index) (i : ℕ) (same : f i ≡ z) where
    abbrev inside : List Index
    inside = N.Number (variable i) ∷ is

    ints_inside : (k : ℕ) → (under z (assigned there is)).int k ≡ (assigned there inside).int k
    ints_inside zero = sym (variable_is i ∙ same)
    ints_inside (suc k) = refl

    bools_inside : (k : ℕ) → (under z (assigned there is)).bool k ≡ (assigned there inside).bool k
    bools_inside zero = sym (truth_is there false)
    bools_inside (suc k) = refl

    beyond_inside : (t : Num) → (under z (assigned there is)).beyond t ≡ (assigned there inside).beyond t
    beyond_inside t = beyond_read is (substituted (number_under z) t) ∙ sym (beyond_past (read inside t))

    pub under_is : under z (assigned there is) ≡ assigned there inside
    under_is = λ j. record { int = λ k. ints_inside k j; bool = λ k. bools_inside k j; beyond = λ t. beyond_inside t j }

  -- the arguments of a named type
  module _ (is : List Index) where
    abbrev before : Assignment
    before = assigned there is

    pub index_number : (a x : Index) → read_index is a ≡ Some x → number there (number_or_zero (Some x)) ≡ number before (number_or_zero (Some a))
    index_number (N.Number t) x h =
        let k = mapped N.Number (read is t) x h in ap (λ i. number there (number_or_zero (Some i))) (sym k.2) ∙ number_read is t k.0 k.1
    index_number (N.Truth c) x h =
        let k = mapped N.Truth (read_con is c) x h in
        ap (λ i. number there (number_or_zero (Some i))) (sym k.2) ∙ number_constant there (pos 0) ∙ sym (number_constant before (pos 0))

    pub index_truth : (a x : Index) → read_index is a ≡ Some x → true_in there (truth_or_false (Some x)) ≡ true_in before (truth_or_false (Some a))
    index_truth (N.Number t) x h =
        let k = mapped N.Number (read is t) x h in
        ap (λ i. true_in there (truth_or_false (Some i))) (sym k.2) ∙ truth_is there false ∙ sym (truth_is before false)
    index_truth (N.Truth c) x h =
        let k = mapped N.Truth (read_con is c) x h in ap (λ i. true_in there (truth_or_false (Some i))) (sym k.2) ∙ truth_read is c k.0 k.1

    pub index_read : (a x : Index) → read_index is a ≡ Some x → index_there there x ≡ index_there before a
    index_read (N.Number t) x h =
        let k = mapped N.Number (read is t) x h in
        ap (index_there there) (sym k.2) ∙ ap (λ z. N.Number (constant z)) (number_read is t k.0 k.1)
    index_read (N.Truth c) x h =
        let k = mapped N.Truth (read_con is c) x h in
        ap (index_there there) (sym k.2) ∙ ap (λ b. N.Truth (C.Truth b)) (truth_read is c k.0 k.1)
