-- A number over variables of the function that stand for themselves is known to a run as it is to sizes.
use Rattle.std.proofs.Common.{◌≡◌, ℕ, ℤ, pos, ◌+ℤ◌, ◌*ℤ◌, Bool, true, List, [], ◌∷◌, map, Option, Some, None, slice_get, refl, sym, ap, ◌∙◌, subst}
use Rattle.std.proofs.lemmas.Bool.{and_parts}
use Rattle.sail_types.specs.Limits.{small_power}
use Rattle.sail_types.specs.Numbers.{Positive, number}
use Rattle.sail_types.specs.Sums.{and_then, variable}
use Rattle.sail_types.proofs.EqualAtoms.{eq_atom-Decides}
use Rattle.sail_types.specs.declared.numbers.Atom.{Atom, out-Atom, roll-Atom, fold-Atom}
use Rattle.sail_types.specs.declared.numbers.Atom.TheFolds.{map-Atom, map-Num, map-Term, fold-Term, fold-roll-Atom, fold-roll-Num, fold-roll-Term}
use Rattle.sail_types.specs.declared.numbers.Atom.TheFolds.{ind-Num}
use Rattle.sail_types.specs.declared.numbers.Atom.TheOpen as N
use Rattle.sail_types.specs.declared.numbers.Atom.TheOpen.{Atom-F, Num-F, Term-F}
use Rattle.sail_types.specs.declared.numbers.Atom.TheVariants as A
use Rattle.sail_types.specs.declared.numbers.Atom.TheViews.{out-roll-Atom}
use Rattle.sail_types.specs.declared.numbers.Index.{Index}
use Rattle.sail_types.specs.declared.numbers.Index.TheVariants as I
use Rattle.sail_types.specs.declared.numbers.Num.{Num, roll-Num}
use Rattle.sail_types.specs.declared.numbers.Term.{Term, roll-Term}
use Rattle.size_values.specs.Numbers as S
use Rattle.size_values.specs.declared.constants.Constant.{Constant}
use Rattle.size_values.specs.declared.constants.Constant.TheVariants as C
use Rattle.sail_core.specs.Numbers.{Givens, given_int, small, known_atom, known_term, added, known_sum, known}
use Rattle.value_laws.specs.Belonging.{Integers, standing}
use Rattle.value_laws.proofs.Basics.{no}
use Rattle.value_laws.proofs.Numbers.{variable_is}
use Rattle.pattern_laws.specs.Standing.{each_stands, atom_owns, is_variable, number_owns, same_num, sum_owns, term_owns}

-- ---- numbers that are the same

abbrev exponent_of : Num → Atom-F Atom Num Term → Num
exponent_of t (N.Power u) = u
exponent_of t (N.Variable i) = t

exponent_is : (t u : Num) → exponent_of t (out-Atom (A.Power u)) ≡ u
exponent_is t u = ap (exponent_of t) (ap out-Atom (sym (A.rolls-Power u)) ∙ out-roll-Atom (N.Power u))

pub nums_same : (t u : Num) → same_num t u ≡ true → t ≡ u
nums_same t u h =
    sym (exponent_is t t) ∙ ap (λ a. exponent_of t (out-Atom a)) ((eq_atom-Decides (A.Power t) (A.Power u)).0 h) ∙ exponent_is t u

variable_there : (i : ℕ) (o : Option Index) → is_variable i o ≡ true → o ≡ Some (I.Number (variable i))
variable_there i (Some (I.Number t)) h = ap (λ (u : Num). Some (I.Number u)) (nums_same t (variable i) h)
variable_there i (Some (I.Truth c)) h = no h
variable_there i None h = no h

-- ---- sums, term by term

added_same : (os : List (Option ℤ)) (z : ℤ) → added os z ≡ S.added z os
added_same [] z = refl
added_same (None ∷ os) z = refl
added_same (Some y ∷ os) z = by (λ x. added_same os x) (small (z +ℤ y))
  where
    by : ((x : ℤ) → added os x ≡ S.added x os) → (o : Option ℤ) → and_then o (added os) ≡ and_then o (λ x. S.added x os)
    by more None = refl
    by more (Some x) = more x

module _ (past : Positive) (numbers : List Index) (nu : Givens) (g : Integers)
    (given : (i : ℕ) (t : Num) → slice_get numbers i ≡ Some (I.Number t) → given_int (slice_get nu i) ≡ Some (number (standing past g) t)) where
  abbrev pub of : ℕ → Constant
  of v = C.Number (g v)

  abbrev known_in_atom : Atom → Option ℤ
  known_in_atom = fold-Atom (Option ℤ) (Option ℤ) (Option ℤ) (known_atom nu) known_sum known_term

  abbrev known_in_term : Term → Option ℤ
  known_in_term = fold-Term (Option ℤ) (Option ℤ) (Option ℤ) (known_atom nu) known_sum known_term

  abbrev own_atom : Atom → Bool
  own_atom = fold-Atom Bool Bool Bool (atom_owns numbers) (sum_owns numbers) (term_owns numbers)

  abbrev own_term : Term → Bool
  own_term = fold-Term Bool Bool Bool (atom_owns numbers) (sum_owns numbers) (term_owns numbers)

  abbrev KeepsA : Atom → Type 0
  KeepsA a = own_atom a ≡ true → known_in_atom a ≡ S.value_of_atom of a

  abbrev KeepsN : Num → Type 0
  KeepsN n = number_owns numbers n ≡ true → known nu n ≡ S.value_of of n

  abbrev KeepsT : Term → Type 0
  KeepsT t = own_term t ≡ true → known_in_term t ≡ S.value_of_term of t

  abbrev SuchA : Type 0
  SuchA = (a : Atom) × KeepsA a

  abbrev SuchN : Type 0
  SuchN = (n : Num) × KeepsN n

  abbrev SuchT : Type 0
  SuchT = (t : Term) × KeepsT t

  -- what a form is known to be, and whether it stands for itself
  atom_known : (x : Atom-F Atom Num Term)
      → known_in_atom (roll-Atom x) ≡ known_atom nu (map-Atom Atom Num Term (Option ℤ) (Option ℤ) (Option ℤ) known_in_atom (known nu) known_in_term x)
  atom_known x = fold-roll-Atom (Option ℤ) (Option ℤ) (Option ℤ) (known_atom nu) known_sum known_term x

  atom_worth : (x : Atom-F Atom Num Term) → S.value_of_atom of (roll-Atom x)
      ≡ S.atom_value of (map-Atom Atom Num Term (Option ℤ) (Option ℤ) (Option ℤ) (S.value_of_atom of) (S.value_of of) (S.value_of_term of) x)
  atom_worth x = fold-roll-Atom (Option ℤ) (Option ℤ) (Option ℤ) (S.atom_value of) S.sum_value S.term_value x

  atom_own : (x : Atom-F Atom Num Term)
      → own_atom (roll-Atom x) ≡ atom_owns numbers (map-Atom Atom Num Term Bool Bool Bool own_atom (number_owns numbers) own_term x)
  atom_own x = fold-roll-Atom Bool Bool Bool (atom_owns numbers) (sum_owns numbers) (term_owns numbers) x

  atom_step : (y : Atom-F SuchA SuchN SuchT) → KeepsA (roll-Atom (map-Atom SuchA SuchN SuchT Atom Num Term (λ p. p.0) (λ p. p.0) (λ p. p.0) y))
  atom_step (N.Variable i) h =
      atom_known (N.Variable i)
      ∙ given i (variable i) (variable_there i (slice_get numbers i) (sym (atom_own (N.Variable i)) ∙ h))
      ∙ ap Some (variable_is past g i)
      ∙ sym (atom_worth (N.Variable i))
  atom_step (N.Power t) h =
      atom_known (N.Power t.0)
      ∙ ap (λ o. and_then o small_power) (t.1 (sym (atom_own (N.Power t.0)) ∙ h))
      ∙ sym (atom_worth (N.Power t.0))

  abbrev bare : List SuchT → List Term
  bare ys = map (λ (p : SuchT). p.0) ys

  each_same : (ys : List SuchT) → each_stands (map own_term (bare ys)) ≡ true → map known_in_term (bare ys) ≡ map (S.value_of_term of) (bare ys)
  each_same [] h = refl
  each_same (y ∷ ys) h = let both = and_parts (own_term y.0) (each_stands (map own_term (bare ys))) h in λ j. y.1 both.0 j ∷ each_same ys both.1 j

  num_step : (y : Num-F SuchA SuchN SuchT) → KeepsN (roll-Num (map-Num SuchA SuchN SuchT Atom Num Term (λ p. p.0) (λ p. p.0) (λ p. p.0) y))
  num_step y h =
      let ts : List Term = bare y.terms in
      let f : Num-F Atom Num Term = record { terms = ts; constant = y.constant } in
      let own = sym (fold-roll-Num Bool Bool Bool (atom_owns numbers) (sum_owns numbers) (term_owns numbers) f) ∙ h in
      fold-roll-Num (Option ℤ) (Option ℤ) (Option ℤ) (known_atom nu) known_sum known_term f
      ∙ ap (λ os. and_then (added os (pos 0)) (λ z. small (z +ℤ y.constant))) (each_same y.terms own)
      ∙ ap (λ o. and_then o (λ z. small (z +ℤ y.constant))) (added_same (map (S.value_of_term of) ts) (pos 0))
      ∙ sym (fold-roll-Num (Option ℤ) (Option ℤ) (Option ℤ) (S.atom_value of) S.sum_value S.term_value f)

  term_step : (y : Term-F SuchA SuchN SuchT) → KeepsT (roll-Term (map-Term SuchA SuchN SuchT Atom Num Term (λ p. p.0) (λ p. p.0) (λ p. p.0) y))
  term_step y h =
      let f : Term-F Atom Num Term = record { coefficient = y.coefficient; atom = y.atom.0 } in
      fold-roll-Term (Option ℤ) (Option ℤ) (Option ℤ) (known_atom nu) known_sum known_term f
      ∙ ap (λ o. and_then o (λ z. small (y.coefficient *ℤ z)))
      (y.atom.1 (sym (fold-roll-Term Bool Bool Bool (atom_owns numbers) (sum_owns numbers) (term_owns numbers) f) ∙ h))
      ∙ sym (fold-roll-Term (Option ℤ) (Option ℤ) (Option ℤ) (S.atom_value of) S.sum_value S.term_value f)

  pub own_known : (n : Num) → number_owns numbers n ≡ true → known nu n ≡ S.value_of of n
  own_known = ind-Num KeepsA KeepsN KeepsT
      (λ e y is. subst (λ d. KeepsA (roll-Atom d)) is (atom_step y))
      (λ e y is. subst (λ d. KeepsN (roll-Num d)) is (num_step y))
      (λ e y is. subst (λ d. KeepsT (roll-Term d)) is (term_step y))
