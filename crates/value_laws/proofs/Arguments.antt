-- The arguments of a named type, where a value of it is opened and as they are there.
use Rattle.std.proofs.Common.{◌≡◌, ℕ, zero, suc, pos, int_le, Bool, true, false, List, [], ◌∷◌, map, Option, Some, None}
use Rattle.std.proofs.Common.{if◌then◌else◌, refl, sym, ap, ◌∙◌}
use Rattle.sail_types.specs.Before.{beyond_of}
use Rattle.sail_types.specs.Belongs.{assigned}
use Rattle.sail_types.specs.Numbers.{Assignment, Positive, number, true_in}
use Rattle.sail_types.specs.Readings.{read_index, truth_or_false, truth_at}
use Rattle.sail_types.specs.Sums.{constant, number_at, number_or_zero, read, variable}
use Rattle.sail_types.specs.declared.numbers.Con.TheVariants as C
use Rattle.sail_types.specs.declared.numbers.Index.{Index}
use Rattle.sail_types.specs.declared.numbers.Index.TheVariants as N
use Rattle.sail_types.specs.declared.numbers.Num.{Num}
use Rattle.sail_types.proofs.Substituted.{number_constant}
use Rattle.value_indices.specs.declared.notes.Fact.{Fact}
use Rattle.value_indices.specs.Steps.{each}
use Rattle.value_indices.specs.Opening.{index_or_fresh, read_or_fresh, each_read}
use Rattle.value_laws.specs.Belonging.{Integers, standing, index_there}
use Rattle.value_laws.specs.Known.{Point, Agree, Later, Goes}
use Rattle.value_laws.proofs.Numbers.{truth_is, holds_is, variable_is, beyond_past, beyond_read, index_number, index_read, index_truth}
use Rattle.value_laws.proofs.Steps.{same, agree_on, gives, goes_then, goes_as, fresh_integer}

-- an argument that is what another was
pub record IsAs (nu mu : Assignment) (a x : Index) : Type 0 where
  pub numbers : number nu (number_or_zero (Some x)) ≡ number mu (number_or_zero (Some a))
  pub truths : true_in nu (truth_or_false (Some x)) ≡ true_in mu (truth_or_false (Some a))
  pub as_there : index_there nu x ≡ index_there mu a

abbrev pub AreAs : Assignment → Assignment → List Index → List Index → Type 0
AreAs nu mu [] [] = Unit {0}
AreAs nu mu (a ∷ args) (x ∷ xs) = IsAs nu mu a x × AreAs nu mu args xs
AreAs nu mu args xs = ⊥

module _ (nu mu : Assignment) where
  ints_as : (args xs : List Index) → AreAs nu mu args xs → (i : ℕ) → number nu (number_at xs i) ≡ number mu (number_at args i)
  ints_as [] [] h i = number_constant nu (pos 0) ∙ sym (number_constant mu (pos 0))
  ints_as [] (x ∷ xs) h i = absurd h
  ints_as (a ∷ args) [] h i = absurd h
  ints_as (a ∷ args) (x ∷ xs) h zero = h.0.numbers
  ints_as (a ∷ args) (x ∷ xs) h (suc i) = ints_as args xs h.1 i

  truths_as : (args xs : List Index) → AreAs nu mu args xs → (i : ℕ) → true_in nu (truth_at xs i) ≡ true_in mu (truth_at args i)
  truths_as [] [] h i = truth_is nu false ∙ sym (truth_is mu false)
  truths_as [] (x ∷ xs) h i = absurd h
  truths_as (a ∷ args) [] h i = absurd h
  truths_as (a ∷ args) (x ∷ xs) h zero = h.0.truths
  truths_as (a ∷ args) (x ∷ xs) h (suc i) = truths_as args xs h.1 i

  pub assigned_as : ((o p : Option Num) → beyond_of nu o ≡ beyond_of mu p) → (args xs : List Index) → AreAs nu mu args xs → assigned nu xs ≡ assigned mu args
  assigned_as beyonds args xs h = λ j. record {
    int = λ i. ints_as args xs h i j;
    bool = λ i. truths_as args xs h i j;
    beyond = λ t. beyonds (read xs t) (read args t) j;
  }

  pub indices_as : (args xs : List Index) → AreAs nu mu args xs → map (index_there nu) xs ≡ map (index_there mu) args
  indices_as [] [] h = refl
  indices_as [] (x ∷ xs) h = absurd h
  indices_as (a ∷ args) [] h = absurd h
  indices_as (a ∷ args) (x ∷ xs) h = λ j. h.0.as_there j ∷ indices_as args xs h.1 j

module _ (past : Positive) where
  abbrev there : Integers → Assignment
  there g = standing past g

  abbrev pub under_these : Integers → List Index → Assignment
  under_these g is = assigned (there g) is

  -- ---- as they are there

  abbrev pub nil : Assignment
  nil = standing past (λ i. pos 0)

  one_there : (mu : Assignment) (a : Index) → IsAs nil mu a (index_there mu a)
  one_there mu (N.Number t) = record {
    numbers = number_constant nil (number mu t);
    truths = truth_is nil false ∙ sym (truth_is mu false);
    as_there = ap (λ z. N.Number (constant z)) (number_constant nil (number mu t));
  }
  one_there mu (N.Truth c) = record {
    numbers = number_constant nil (pos 0) ∙ sym (number_constant mu (pos 0));
    truths = truth_is nil (true_in mu c);
    as_there = ap (λ b. N.Truth (C.Truth b)) (truth_is nil (true_in mu c));
  }

  each_there : (mu : Assignment) (args : List Index) → AreAs nil mu args (map (index_there mu) args)
  each_there mu [] = tt
  each_there mu (a ∷ args) = (one_there mu a, each_there mu args)

  pub assigned_there : (g : Integers) (args : List Index) → assigned nil (map (index_there (there g)) args) ≡ assigned (there g) args
  assigned_there g args =
      assigned_as nil (there g) (λ o p. beyond_past past (λ i. pos 0) o ∙ sym (beyond_past past g p)) args (map (index_there (there g)) args)
      (each_there (there g) args)

  pub assigned_under : (g : Integers) (is args : List Index)
      → assigned nil (map (index_there (under_these g is)) args) ≡ assigned (under_these g is) args
  assigned_under g is args =
      assigned_as nil (under_these g is) (λ o p. beyond_past past (λ i. pos 0) o ∙ sym (beyond_read past g is p)) args
      (map (index_there (under_these g is)) args) (each_there (under_these g is) args)

  -- what they are there is the same anywhere
  pub indices_there : (mu : Assignment) (args : List Index) → map (index_there nil) (map (index_there mu) args) ≡ map (index_there mu) args
  indices_there mu args = indices_as nil mu args (map (index_there mu) args) (each_there mu args)

  -- ---- where a value is opened

  -- what the variables of a type stand for hangs on fixed variables alone
  abbrev pub Still : {n : ℕ} → Point n → List Index → Type 0
  Still f is = (g : Integers) → Agree f g → under_these g is ≡ under_these f.integers is

  pub still_later : {n m : ℕ} (f : Point n) (g : Point m) (is : List Index) → Later f g → Still f is → Still g is
  still_later f g is a s k b = s k (agree_on a b) ∙ sym (s g.integers (agree_on a (same g)))

  bit_of : (b : Bool) → int_le (pos 1) (if b then pos 1 else pos 0) ≡ b
  bit_of true = refl
  bit_of false = refl

  argument_goes : {n : ℕ} {f : Point n} {facts : List Fact} (is : List Index) → Still f is → (a : Index) (o : Option Index) → read_index is a ≡ o
      → Goes past n f facts (index_or_fresh a o) (λ g x. IsAs (there g) (under_these g is) a x)
  unfolding index_or_fresh
  argument_goes is still (N.Number t) (Some x) e = gives x (λ g a.
      record {
        numbers = index_number past g is (N.Number t) x e;
        truths = index_truth past g is (N.Number t) x e;
        as_there = index_read past g is (N.Number t) x e;
      })
  argument_goes is still (N.Truth c) (Some x) e = gives x (λ g a.
      record {
        numbers = index_number past g is (N.Truth c) x e;
        truths = index_truth past g is (N.Truth c) x e;
        as_there = index_read past g is (N.Truth c) x e;
      })
  argument_goes {f} is still (N.Number t) None e =
      goes_then (fresh_integer (number (under_these f.integers is) t)) (λ m g fs i a q. gives (N.Number (variable i)) (λ k b. record {
        numbers = variable_is past k i ∙ q k b ∙ ap (λ mu. number mu t) (sym (still k (agree_on a b)));
        truths = truth_is (there k) false ∙ sym (truth_is (under_these k is) false);
        as_there = ap (λ z. N.Number (constant z)) (variable_is past k i ∙ q k b ∙ ap (λ mu. number mu t) (sym (still k (agree_on a b))));
      }))
  argument_goes {f} is still (N.Truth c) None e =
      let here = true_in (under_these f.integers is) c in
      goes_then (fresh_integer (if here then pos 1 else pos 0)) (λ m g fs i a q. gives (N.Truth (C.Holds i)) (λ k b. record {
        numbers = number_constant (there k) (pos 0) ∙ sym (number_constant (under_these k is) (pos 0));
        truths = holds_is (there k) i ∙ ap (int_le (pos 1)) (q k b) ∙ bit_of here ∙ ap (λ mu. true_in mu c) (sym (still k (agree_on a b)));
        as_there = ap (λ d. N.Truth (C.Truth d))
            (holds_is (there k) i ∙ ap (int_le (pos 1)) (q k b) ∙ bit_of here ∙ ap (λ mu. true_in mu c) (sym (still k (agree_on a b))));
      }))

  each_goes : {n : ℕ} {f : Point n} {facts : List Fact} (is : List Index) → Still f is → (args : List Index)
      → Goes past n f facts (each (read_or_fresh is) args) (λ g xs. AreAs (there g) (under_these g is) args xs)
  unfolding read_or_fresh
  each_goes is still [] = gives [] (λ g a. tt)
  each_goes {f} is still (a ∷ args) =
      goes_then (argument_goes is still a (read_index is a) refl) (λ m g fs x l q.
      goes_then (each_goes is (still_later f g is l still) args) (λ m2 g2 fs2 xs l2 q2. gives (x ∷ xs) (λ k b. (q k (agree_on l2 b), q2 k b))))

  -- they assign the same, and are the same there
  abbrev pub Same : Integers → List Index → List Index → List Index → Type 0
  Same g is args xs =
      (assigned (there g) xs ≡ assigned (under_these g is) args) × (map (index_there (there g)) xs ≡ map (index_there (under_these g is)) args)

  pub arguments_go : {n : ℕ} {f : Point n} {facts : List Fact} (is : List Index) → Still f is → (args : List Index)
      → Goes past n f facts (each_read is args) (λ g xs. Same g is args xs)
  unfolding each_read
  arguments_go is still args =
      goes_as (each_goes is still args) (λ g xs h. (
        assigned_as (there g) (under_these g is) (λ o p. beyond_past past g o ∙ sym (beyond_read past g is p)) args xs h,
        indices_as (there g) (under_these g is) args xs h,
      ))
