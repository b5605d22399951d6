-- The variables of a row under what stands for them: they are the numbers and truths of the arguments, of the result, and the product.
use Rattle.std.proofs.Common.{◌≡◌, ℕ, zero, suc, ◌≤◌, ℤ, pos, ◌*ℤ◌, false, List, [], ◌∷◌, ◌++◌, map, length, ap, sym, ◌∙◌, refl, arith}
use Rattle.std.proofs.Common.{Option, Some, None, slice_get, slice_index_or}
use Rattle.std.proofs.lemmas.Int.{ints}
use Rattle.sail_types.proofs.SumNumbers.{some_same}
use Rattle.sail_types.proofs.Substituted.{number_constant, product_number}
use Rattle.sail_types.specs.Belongs.{assigned}
use Rattle.sail_types.specs.Numbers.{Assignment, Positive, number, true_in}
use Rattle.sail_types.specs.Readings.{truth_at, truth_or_false}
use Rattle.sail_types.specs.Sums.{number_at, number_or_zero, read, zero_num}
use Rattle.sail_types.specs.declared.numbers.Con.TheVariants as C
use Rattle.sail_types.specs.declared.numbers.Index.{Index}
use Rattle.sail_types.specs.declared.numbers.Index.TheVariants as N
use Rattle.sail_types.specs.declared.numbers.Num.{Num}
use Rattle.builtins.specs.RowValues.{Opened}
use Rattle.row_types.specs.Calls as Of
use Rattle.row_types.specs.Calls.{number_of, truth_of, variables}
use Rattle.row_types.specs.declared.kinds.Product.{Product}
use Rattle.row_types.specs.declared.kinds.Product.TheVariants as P
use Rattle.value_laws.specs.Belonging.{Integers, standing}
use Rattle.value_laws.proofs.Numbers.{truth_is, beyond_past}
use Rattle.call_notes.specs.Rows as Rows
use Rattle.call_notes.specs.Rows.{zero_index, three_indices, index_number, with_product, numbers_under}

-- ---- what stands for the first three arguments

record Three (js : List Index) : Type 0 where
  pub a : Index
  pub b : Index
  pub c : Index
  pub these : three_indices js ≡ a ∷ b ∷ c ∷ []
  pub first : number_or_zero (Some a) ≡ number_at js 0
  pub second : number_or_zero (Some b) ≡ number_at js 1
  pub third : number_or_zero (Some c) ≡ number_at js 2
  pub first_truth : truth_or_false (Some a) ≡ truth_at js 0
  pub second_truth : truth_or_false (Some b) ≡ truth_at js 1
  pub third_truth : truth_or_false (Some c) ≡ truth_at js 2

three : (js : List Index) → Three js
three [] = record {
  a = zero_index;
  b = zero_index;
  c = zero_index;
  these = refl;
  first = refl;
  second = refl;
  third = refl;
  first_truth = refl;
  second_truth = refl;
  third_truth = refl;
}
three (i ∷ []) = record {
  a = i;
  b = zero_index;
  c = zero_index;
  these = refl;
  first = refl;
  second = refl;
  third = refl;
  first_truth = refl;
  second_truth = refl;
  third_truth = refl;
}
three (i ∷ j ∷ []) = record {
  a = i;
  b = j;
  c = zero_index;
  these = refl;
  first = refl;
  second = refl;
  third = refl;
  first_truth = refl;
  second_truth = refl;
  third_truth = refl;
}
three (i ∷ j ∷ k ∷ more) = record {
  a = i;
  b = j;
  c = k;
  these = refl;
  first = refl;
  second = refl;
  third = refl;
  first_truth = refl;
  second_truth = refl;
  third_truth = refl;
}

-- behind three values there is no truth
past_three : (os : Opened) (k : ℕ) → length os ≤ 3 → slice_index_or (map truth_of os) (suc (suc (suc k))) false ≡ false
past_three [] k h = refl
past_three (u ∷ []) k h = refl
past_three (u ∷ v ∷ []) k h = refl
past_three (u ∷ v ∷ w ∷ []) k h = refl
past_three (u ∷ v ∷ w ∷ x ∷ os) k h = absurd (omega (arith, h))

same_number : (o : Option Index) → index_number o ≡ number_or_zero o
same_number None = refl
same_number (Some (N.Number t)) = refl
same_number (Some (N.Truth c)) = refl

-- powers of two past the largest integer are all the same
abbrev pub beyond : Positive → Num → Positive
beyond past t = past

module _ (past : Positive) (g : Integers) (js : List Index) (os : Opened) where
  abbrev there : Assignment
  there = standing past g

  -- the numbers and truths of the arguments, of which there are three at most
  pub record AreThose : Type 0 where
    pub few : length os ≤ 3
    pub numbers : (k : ℕ) → number there (number_at js k) ≡ slice_index_or (map number_of os) k (pos 0)
    pub truths : (k : ℕ) → true_in there (truth_at js k) ≡ slice_index_or (map truth_of os) k false

  module _ (those : AreThose) where
    -- ---- the result and the product behind them

    module _ (a q : Num) (z p : ℤ) (answer : number there a ≡ z) (product : number there q ≡ p) where
      abbrev behind : List Index
      behind = N.Number a ∷ N.Number q ∷ []

      abbrev integers : ℕ → ℤ
      integers k = slice_index_or (Of.number_at os 0 ∷ Of.number_at os 1 ∷ Of.number_at os 2 ∷ z ∷ p ∷ []) k (pos 0)

      ints_of : (t : Three js) (k : ℕ) → number there (number_at ((t.a ∷ t.b ∷ t.c ∷ []) ++ behind) k) ≡ integers k
      ints_of t zero = ap (number there) t.first ∙ those.numbers 0
      ints_of t (suc zero) = ap (number there) t.second ∙ those.numbers 1
      ints_of t (suc (suc zero)) = ap (number there) t.third ∙ those.numbers 2
      ints_of t (suc (suc (suc zero))) = answer
      ints_of t (suc (suc (suc (suc zero)))) = product
      ints_of t (suc (suc (suc (suc (suc k))))) = number_constant there (pos 0)

      false_here : true_in there (C.Truth false) ≡ false
      false_here = truth_is there false

      bools_of : (t : Three js) (k : ℕ) → true_in there (truth_at ((t.a ∷ t.b ∷ t.c ∷ []) ++ behind) k) ≡ slice_index_or (map truth_of os) k false
      bools_of t zero = ap (true_in there) t.first_truth ∙ those.truths 0
      bools_of t (suc zero) = ap (true_in there) t.second_truth ∙ those.truths 1
      bools_of t (suc (suc zero)) = ap (true_in there) t.third_truth ∙ those.truths 2
      bools_of t (suc (suc (suc zero))) = false_here ∙ sym (past_three os 0 those.few)
      bools_of t (suc (suc (suc (suc zero)))) = false_here ∙ sym (past_three os 1 those.few)
      bools_of t (suc (suc (suc (suc (suc k))))) = false_here ∙ sym (past_three os (suc (suc k)) those.few)

      all_ints : (k : ℕ) → number there (number_at (three_indices js ++ behind) k) ≡ integers k
      all_ints k = ap (λ xs. number there (number_at (xs ++ behind) k)) (three js).these ∙ ints_of (three js) k

      all_bools : (k : ℕ) → true_in there (truth_at (three_indices js ++ behind) k) ≡ slice_index_or (map truth_of os) k false
      all_bools k = ap (λ xs. true_in there (truth_at (xs ++ behind) k)) (three js).these ∙ bools_of (three js) k

    -- ---- the product of a row

    number_is : (k : ℕ) → number there (Rows.number_of (three_indices js) k) ≡ number there (number_at (three_indices js) k)
    number_is k = ap (number there) (same_number (slice_get (three_indices js) k))

    first_is : number there (Rows.number_of (three_indices js) 0) ≡ Of.number_at os 0
    first_is =
        number_is 0 ∙ ap (λ xs. number there (number_at xs 0)) (three js).these ∙ ap (number there) (three js).first ∙ those.numbers 0

    second_is : number there (Rows.number_of (three_indices js) 1) ≡ Of.number_at os 1
    second_is =
        number_is 1 ∙ ap (λ xs. number there (number_at xs 1)) (three js).these ∙ ap (number there) (three js).second ∙ those.numbers 1

    product_is : (p : Product) (a q : Num) (z : ℤ) → number there a ≡ z → Rows.product_of p (three_indices js) a ≡ Some q
        → number there q ≡ Of.product_of p os z
    product_is P.Nothing a q z answer e = ap (number there) (sym (some_same zero_num q e)) ∙ number_constant there (pos 0)
    product_is P.OfArguments a q z answer e =
        product_number there (Rows.number_of (three_indices js) 0) (Rows.number_of (three_indices js) 1) q e ∙ (λ j. first_is j *ℤ second_is j)
    product_is P.OfResult a q z answer e =
        product_number there (Rows.number_of (three_indices js) 1) a q e ∙ (λ j. second_is j *ℤ answer j)

    -- ---- all of them

    -- what stands for the variables of a row, where its result is this number
    abbrev pub Stand : Product → Num → ℤ → Type 0
    Stand p a z = assigned there (numbers_under p (three_indices js) a).indices ≡ variables (beyond past) p os z

    pub stand_by : (p : Product) (a : Num) (z : ℤ) → number there a ≡ z → (o : Option Num) → Rows.product_of p (three_indices js) a ≡ o
        → (o ≡ None → Of.product_of p os z ≡ pos 0)
        → assigned there (with_product (three_indices js) a o).indices ≡ variables (beyond past) p os z
    stand_by p a z answer (Some q) e h =
        let product = product_is p a q z answer e in
        λ j. record {
          int = λ k. all_ints a q z (Of.product_of p os z) answer product k j;
          bool = λ k. all_bools a q z (Of.product_of p os z) answer product k j;
          beyond = λ t. beyond_past past g (read (three_indices js ++ N.Number a ∷ N.Number q ∷ []) t) j;
        }
    stand_by p a z answer None e h =
        let product : number there zero_num ≡ Of.product_of p os z = number_constant there (pos 0) ∙ sym (h refl) in
        λ j. record {
          int = λ k. all_ints a zero_num z (Of.product_of p os z) answer product k j;
          bool = λ k. all_bools a zero_num z (Of.product_of p os z) answer product k j;
          beyond = λ t. beyond_past past g (read (three_indices js ++ N.Number a ∷ N.Number zero_num ∷ []) t) j;
        }

    pub stand : (p : Product) (a : Num) (z : ℤ) → number there a ≡ z
        → (Rows.product_of p (three_indices js) a ≡ None → Of.product_of p os z ≡ pos 0) → Stand p a z
    stand p a z answer h = stand_by p a z answer (Rows.product_of p (three_indices js) a) refl h

    -- a row without a product
    pub stand_nothing : (a : Num) (z : ℤ) → number there a ≡ z → Stand P.Nothing a z
    stand_nothing a z answer = stand P.Nothing a z answer (λ e. refl)

-- without a result there is no product of it
times_zero : (z : ℤ) → z *ℤ pos 0 ≡ pos 0
times_zero z = omega (arith, ints)

pub no_result : (os : Opened) → Of.product_of P.OfResult os (pos 0) ≡ pos 0
no_result os = times_zero (Of.number_at os 1)
