-- A number under constants hangs on the variables that are in it alone.
use Rattle.std.proofs.Common.{◌≡◌, ℕ, ℤ, pos, ◌+ℤ◌, ◌*ℤ◌, Bool, true, false, List, [], ◌∷◌, ◌++◌, map, Option, Some, None, refl, sym, ap, ◌∙◌, subst}
use Rattle.std.proofs.Common.{if◌then◌else◌}
use Rattle.sail_types.specs.Limits.{small_power}
use Rattle.sail_types.specs.Places.{first}
use Rattle.sail_types.specs.Sums.{and_then}
use Rattle.sail_types.proofs.SumNumbers.{some_same}
use Rattle.sail_types.specs.declared.numbers.Atom.{Atom, roll-Atom}
use Rattle.sail_types.specs.declared.numbers.Atom.TheFolds.{map-Atom, map-Num, map-Term, fold-roll-Atom, fold-roll-Num, fold-roll-Term, ind-Num}
use Rattle.sail_types.specs.declared.numbers.Atom.TheOpen as N
use Rattle.sail_types.specs.declared.numbers.Atom.TheOpen.{Atom-F, Num-F, Term-F}
use Rattle.sail_types.specs.declared.numbers.Index.{Index}
use Rattle.sail_types.specs.declared.numbers.Index.TheVariants as I
use Rattle.sail_types.specs.declared.numbers.Num.{Num, roll-Num}
use Rattle.sail_types.specs.declared.numbers.Term.{Term, roll-Term}
use Rattle.size_values.specs.Sizes.{joined}
use Rattle.size_values.specs.declared.constants.Constant.{Constant}
use Rattle.size_values.specs.Numbers.{added, atom_free, atom_value, constant_under, first_free, first_of, free_in_atom, free_in_term, index_under, is_free, small}
use Rattle.size_values.specs.Numbers.{sum_free, sum_value, term_free, term_value, unless_free, value_of, value_of_atom, value_of_term}
use Rattle.hanging_sizes.proofs.Variables.{atom_variables, index_variables, sum_variables, term_variables, variables_in_atom, variables_in_term, variables_of}

module _ (of by : ℕ → Constant) where
  -- the same for each of these variables
  abbrev pub AllSame : List ℕ → Type 0
  AllSame [] = Unit {0}
  AllSame (i ∷ is) = (of i ≡ by i) × AllSame is

  pub same_left : (is js : List ℕ) → AllSame (is ++ js) → AllSame is
  same_left [] js h = tt
  same_left (i ∷ is) js h = (h.0, same_left is js h.1)

  pub same_right : (is js : List ℕ) → AllSame (is ++ js) → AllSame js
  same_right [] js h = h
  same_right (i ∷ is) js h = same_right is js h.1

  -- a variable that is free, and the same
  abbrev IsFree : ℕ → Type 0
  IsFree j = (of j ≡ by j) × (is_free (of j) ≡ true)

  -- as much is known, and as much is free
  pub record Alike (v w : Option ℤ) (f e : Option ℕ) : Type 0 where
    pub value : v ≡ w
    pub free : f ≡ e
    pub first_same : (j : ℕ) → f ≡ Some j → IsFree j

  abbrev KeepsA : Atom → Type 0
  KeepsA a = AllSame (variables_in_atom a) → Alike (value_of_atom of a) (value_of_atom by a) (free_in_atom of a) (free_in_atom by a)

  abbrev KeepsN : Num → Type 0
  KeepsN n = AllSame (variables_of n) → Alike (value_of of n) (value_of by n) (first_free of n) (first_free by n)

  abbrev KeepsT : Term → Type 0
  KeepsT t = AllSame (variables_in_term t) → Alike (value_of_term of t) (value_of_term by t) (free_in_term of t) (free_in_term by t)

  abbrev SuchA : Type 0
  SuchA = (a : Atom) × KeepsA a

  abbrev SuchN : Type 0
  SuchN = (n : Num) × KeepsN n

  abbrev SuchT : Type 0
  SuchT = (t : Term) × KeepsT t

  -- what a form is worth, and its first free variable
  worth : (to : ℕ → Constant) (x : Atom-F Atom Num Term) → value_of_atom to (roll-Atom x)
      ≡ atom_value to (map-Atom Atom Num Term (Option ℤ) (Option ℤ) (Option ℤ) (value_of_atom to) (value_of to) (value_of_term to) x)
  worth to x = fold-roll-Atom (Option ℤ) (Option ℤ) (Option ℤ) (atom_value to) sum_value term_value x

  frees : (to : ℕ → Constant) (x : Atom-F Atom Num Term) → free_in_atom to (roll-Atom x)
      ≡ atom_free to (map-Atom Atom Num Term (Option ℕ) (Option ℕ) (Option ℕ) (free_in_atom to) (first_free to) (free_in_term to) x)
  frees to x = fold-roll-Atom (Option ℕ) (Option ℕ) (Option ℕ) (atom_free to) sum_free term_free x

  free_variable_is : (i j : ℕ) → of i ≡ by i → (if is_free (of i) then Some i else None) ≡ Some j → IsFree j
  free_variable_is i j e h = by_test (is_free (of i)) refl h
    where
      by_test : (b : Bool) → is_free (of i) ≡ b → (if b then Some i else None) ≡ Some j → IsFree j
      by_test true t k = subst IsFree (some_same i j k) (e, t)
      by_test false t k = absurd (cc)

  atom_step : (y : Atom-F SuchA SuchN SuchT) → KeepsA (roll-Atom (map-Atom SuchA SuchN SuchT Atom Num Term (λ p. p.0) (λ p. p.0) (λ p. p.0) y))
  atom_step (N.Variable i) h =
      let same : of i ≡ by i =
      (subst AllSame (fold-roll-Atom (List ℕ) (List ℕ) (List ℕ) atom_variables sum_variables term_variables (N.Variable i)) h).0 in
      record {
        value = worth of (N.Variable i) ∙ ap (λ c. atom_value (λ j. c) (N.Variable i)) same ∙ sym (worth by (N.Variable i));
        free = frees of (N.Variable i) ∙ ap (λ c. atom_free (λ j. c) (N.Variable i)) same ∙ sym (frees by (N.Variable i));
        first_same = λ j e. free_variable_is i j same (sym (frees of (N.Variable i)) ∙ e);
      }
  atom_step (N.Power t) h =
      let inner = t.1 (subst AllSame (fold-roll-Atom (List ℕ) (List ℕ) (List ℕ) atom_variables sum_variables term_variables (N.Power t.0)) h) in
      record {
        value = worth of (N.Power t.0) ∙ ap (λ o. and_then o small_power) inner.value ∙ sym (worth by (N.Power t.0));
        free = frees of (N.Power t.0) ∙ inner.free ∙ sym (frees by (N.Power t.0));
        first_same = λ j e. inner.first_same j (sym (frees of (N.Power t.0)) ∙ e);
      }

  abbrev bare : List SuchT → List Term
  bare ys = map (λ (p : SuchT). p.0) ys

  abbrev Each : List SuchT → Type 0
  Each ys = (map (value_of_term of) (bare ys) ≡ map (value_of_term by) (bare ys)) × (map (free_in_term of) (bare ys) ≡ map (free_in_term by) (bare ys))
      × ((j : ℕ) → first_of (map (free_in_term of) (bare ys)) ≡ Some j → IsFree j)

  first_one : (o p : Option ℕ) (j : ℕ) → ((k : ℕ) → o ≡ Some k → IsFree k) → ((k : ℕ) → p ≡ Some k → IsFree k) → first o p ≡ Some j → IsFree j
  first_one None p j h k e = k j e
  first_one (Some i) p j h k e = h j e

  each_same : (ys : List SuchT) → AllSame (joined (map variables_in_term (bare ys))) → Each ys
  each_same [] h = (refl, refl, λ j e. absurd (cc))
  each_same (y ∷ ys) h =
      let one = y.1 (same_left (variables_in_term y.0) (joined (map variables_in_term (bare ys))) h) in
      let more = each_same ys (same_right (variables_in_term y.0) (joined (map variables_in_term (bare ys))) h) in (
        (λ i. one.value i ∷ more.0 i),
        (λ i. one.free i ∷ more.1 i),
        (λ j e. first_one (free_in_term of y.0) (first_of (map (free_in_term of) (bare ys))) j one.first_same more.2 e),
      )

  num_step : (y : Num-F SuchA SuchN SuchT) → KeepsN (roll-Num (map-Num SuchA SuchN SuchT Atom Num Term (λ p. p.0) (λ p. p.0) (λ p. p.0) y))
  num_step y h =
      let ts : List Term = bare y.terms in
      let f : Num-F Atom Num Term = record { terms = ts; constant = y.constant } in
      let all = each_same y.terms (subst AllSame (fold-roll-Num (List ℕ) (List ℕ) (List ℕ) atom_variables sum_variables term_variables f) h) in
      record {
        value = fold-roll-Num (Option ℤ) (Option ℤ) (Option ℤ) (atom_value of) sum_value term_value f
            ∙ ap (λ os. and_then (added (pos 0) os) (λ z. small (z +ℤ y.constant))) all.0
            ∙ sym (fold-roll-Num (Option ℤ) (Option ℤ) (Option ℤ) (atom_value by) sum_value term_value f);
        free = fold-roll-Num (Option ℕ) (Option ℕ) (Option ℕ) (atom_free of) sum_free term_free f
            ∙ ap first_of all.1
            ∙ sym (fold-roll-Num (Option ℕ) (Option ℕ) (Option ℕ) (atom_free by) sum_free term_free f);
        first_same = λ j e. all.2 j (sym (fold-roll-Num (Option ℕ) (Option ℕ) (Option ℕ) (atom_free of) sum_free term_free f) ∙ e);
      }

  term_step : (y : Term-F SuchA SuchN SuchT) → KeepsT (roll-Term (map-Term SuchA SuchN SuchT Atom Num Term (λ p. p.0) (λ p. p.0) (λ p. p.0) y))
  term_step y h =
      let f : Term-F Atom Num Term = record { coefficient = y.coefficient; atom = y.atom.0 } in
      let inner = y.atom.1 (subst AllSame (fold-roll-Term (List ℕ) (List ℕ) (List ℕ) atom_variables sum_variables term_variables f) h) in
      record {
        value = fold-roll-Term (Option ℤ) (Option ℤ) (Option ℤ) (atom_value of) sum_value term_value f
            ∙ ap (λ o. and_then o (λ z. small (y.coefficient *ℤ z))) inner.value
            ∙ sym (fold-roll-Term (Option ℤ) (Option ℤ) (Option ℤ) (atom_value by) sum_value term_value f);
        free = fold-roll-Term (Option ℕ) (Option ℕ) (Option ℕ) (atom_free of) sum_free term_free f
            ∙ inner.free
            ∙ sym (fold-roll-Term (Option ℕ) (Option ℕ) (Option ℕ) (atom_free by) sum_free term_free f);
        first_same = λ j e. inner.first_same j (sym (fold-roll-Term (Option ℕ) (Option ℕ) (Option ℕ) (atom_free of) sum_free term_free f) ∙ e);
      }

  number_alike : (n : Num) → AllSame (variables_of n) → Alike (value_of of n) (value_of by n) (first_free of n) (first_free by n)
  number_alike = ind-Num KeepsA KeepsN KeepsT
      (λ e y is. subst (λ d. KeepsA (roll-Atom d)) is (atom_step y))
      (λ e y is. subst (λ d. KeepsN (roll-Num d)) is (num_step y))
      (λ e y is. subst (λ d. KeepsT (roll-Term d)) is (term_step y))

  -- a size, and an argument, under both
  pub size_same : (n : Num) → AllSame (variables_of n) → constant_under of n ≡ constant_under by n
  size_same n h =
      let a = number_alike n h in
      by_first (first_free of n) (λ j e. (a.first_same j e).0)
      ∙ (λ i. unless_free by (a.free i) (a.value i))
    where
      by_first : (o : Option ℕ) → ((j : ℕ) → o ≡ Some j → of j ≡ by j) → unless_free of o (value_of of n) ≡ unless_free by o (value_of of n)
      by_first None k = refl
      by_first (Some j) k = k j refl

  pub index_same : (a : Index) → AllSame (index_variables a) → index_under of a ≡ index_under by a
  index_same (I.Number t) h = size_same t h
  index_same (I.Truth c) h = refl

-- the first free variable of a number is free
all_itself : (of : ℕ → Constant) (is : List ℕ) → AllSame of of is
all_itself of [] = tt
all_itself of (i ∷ is) = (refl, all_itself of is)

pub free_there : (of : ℕ → Constant) (n : Num) (j : ℕ) → first_free of n ≡ Some j → is_free (of j) ≡ true
free_there of n j e = ((number_alike of of n (all_itself of (variables_of n))).first_same j e).1
