-- What is constant where some variables are known is the same where all are.
use Rattle.std.proofs.Common.{◌≡◌, ◌∙◌, ap, sym, refl, subst, ℕ, Bool, true, false, List, [], ◌∷◌, map, pos}
use Rattle.std.specs.Prelude.{ℤ, ◌+ℤ◌, ◌*ℤ◌, Option, Some, None, if◌then◌else◌}
use Rattle.sail_types.specs.Limits.{small_power}
use Rattle.sail_types.specs.Places.{first}
use Rattle.sail_types.specs.Sums.{and_then}
use Rattle.sail_types.specs.declared.numbers.Num.{Num, roll-Num}
use Rattle.sail_types.specs.declared.numbers.Term.{Term, roll-Term}
use Rattle.sail_types.specs.declared.numbers.Atom.{Atom, roll-Atom}
use Rattle.sail_types.specs.declared.numbers.Atom.TheOpen as N
use Rattle.sail_types.specs.declared.numbers.Atom.TheOpen.{Atom-F, Num-F, Term-F}
use Rattle.sail_types.specs.declared.numbers.Atom.TheFolds.{fold-roll-Atom, fold-roll-Num, fold-roll-Term, map-Atom, map-Num, map-Term, ind-Num}
use Rattle.sail_types.proofs.SumNumbers.{some_same}
use Rattle.size_values.specs.declared.constants.Constant.{Constant}
use Rattle.size_values.specs.declared.constants.Constant.TheVariants as C
use Rattle.size_values.specs.Numbers.{Known, added, at_most_largest, atom_free, atom_value, constant_under, first_free, first_of, free_in_atom}
use Rattle.size_values.specs.Numbers.{free_in_term, free_variable, is_free, known_at, number_in, or_open, small, sum_free, sum_value, term_free}
use Rattle.size_values.specs.Numbers.{term_value, unless_free, value_of, value_of_atom, value_of_term}
use Rattle.value_laws.specs.Belonging.{Integers}
use Rattle.value_laws.proofs.Basics.{no}
use Rattle.split_laws.specs.Counted.{Agrees, ConstantsStand, all_known}
use Rattle.split_laws.proofs.Basics.{none}

first_none : {A : Type 0} (o p : Option A) → first o p ≡ None → (o ≡ None) × (p ≡ None)
first_none None p h = (refl, h)
first_none (Some x) p h = none (sym h)

both_none : {A : Type 0} (o p : Option A) → o ≡ None → p ≡ None → first o p ≡ None
both_none {A} o p h k = ap (λ (q : Option A). first q p) h ∙ k

first_some : {A : Type 0} (P : A → Type 0) (o p : Option A) (x : A) → first o p ≡ Some x → (o ≡ Some x → P x) → (p ≡ Some x → P x) → P x
first_some P None p x h f g = g h
first_some P (Some y) p x h f g = f h

small_more : (o : Option ℤ) (os ps : List (Option ℤ)) → ((x : ℤ) → added x os ≡ added x ps)
    → and_then o (λ x. added x os) ≡ and_then o (λ x. added x ps)
small_more None os ps g = refl
small_more (Some x) os ps g = g x

one_more : (z : ℤ) (o : Option ℤ) (os ps : List (Option ℤ)) → ((x : ℤ) → added x os ≡ added x ps) → added z (o ∷ os) ≡ added z (o ∷ ps)
one_more z None os ps g = refl
one_more z (Some x) os ps g = small_more (small (z +ℤ x)) os ps g

number_none : (c : Constant) → is_free c ≡ true → None ≡ number_in c
number_none (C.Number x) e = no e
number_none (C.Open v) e = refl
number_none (C.Bound name) e = refl

not_number : (c : Constant) (z : ℤ) → is_free c ≡ true → c ≡ C.Number z → None ≡ Some z
not_number c z e h = number_none c e ∙ ap number_in h

module _ (k : Known) (f : Integers) (agrees : Agrees k f) where
  abbrev of : ℕ → Constant
  of = known_at k

  abbrev with : ℕ → Constant
  with = all_known f

  abbrev IsFree : ℕ → Type 0
  IsFree i = is_free (of i) ≡ true

  -- where nothing is free the value is the same; nothing is free where all are known; what is free isn't known
  pub record Stands (free whole : Option ℕ) (value with_all : Option ℤ) : Type 0 where
    pub same : free ≡ None → value ≡ with_all
    pub full : whole ≡ None
    pub freed : (i : ℕ) → free ≡ Some i → IsFree i

  abbrev IsA : Atom → Type 0
  IsA a = Stands (free_in_atom of a) (free_in_atom with a) (value_of_atom of a) (value_of_atom with a)

  abbrev IsN : Num → Type 0
  IsN n = Stands (first_free of n) (first_free with n) (value_of of n) (value_of with n)

  abbrev IsT : Term → Type 0
  IsT t = Stands (free_in_term of t) (free_in_term with t) (value_of_term of t) (value_of_term with t)

  abbrev SuchA : Type 0
  SuchA = (a : Atom) × IsA a

  abbrev SuchN : Type 0
  SuchN = (n : Num) × IsN n

  abbrev SuchT : Type 0
  SuchT = (t : Term) × IsT t

  -- ---- by what each comes to

  same_stands : (a b : Option ℕ) (v w : Option ℤ) (c d : Option ℕ) (x y : Option ℤ) → c ≡ a → d ≡ b → x ≡ v → y ≡ w → Stands a b v w → Stands c d x y
  same_stands a b v w c d x y ca db xv yw s = record {
    same = λ h. xv ∙ (s.same (sym ca ∙ h) ∙ sym yw);
    full = db ∙ s.full;
    freed = λ i h. s.freed i (sym ca ∙ h);
  }

  free_atom : (by : ℕ → Constant) (y : Atom-F Atom Num Term) → free_in_atom by (roll-Atom y)
      ≡ atom_free by (map-Atom Atom Num Term (Option ℕ) (Option ℕ) (Option ℕ) (free_in_atom by) (first_free by) (free_in_term by) y)
  free_atom by y = fold-roll-Atom (Option ℕ) (Option ℕ) (Option ℕ) (atom_free by) sum_free term_free y

  valued_atom : (by : ℕ → Constant) (y : Atom-F Atom Num Term) → value_of_atom by (roll-Atom y)
      ≡ atom_value by (map-Atom Atom Num Term (Option ℤ) (Option ℤ) (Option ℤ) (value_of_atom by) (value_of by) (value_of_term by) y)
  valued_atom by y = fold-roll-Atom (Option ℤ) (Option ℤ) (Option ℤ) (atom_value by) sum_value term_value y

  known_same : (i : ℕ) (o : Option ℤ) → k i ≡ o → (if is_free (or_open i o) then Some i else None) ≡ None → number_in (or_open i o) ≡ Some (f i)
  known_same i None e h = none (sym h)
  known_same i (Some z) e h = ap (λ (x : ℤ). Some x) (sym (agrees i z e))

  known_open : (i j : ℕ) (b : Bool) → is_free (of i) ≡ b → (if b then Some i else None) ≡ Some j → IsFree j
  known_open i j true e h = subst IsFree (some_same i j h) e
  known_open i j false e h = none h

  variable_stands : (i : ℕ) → Stands (free_variable of i) (free_variable with i) (number_in (of i)) (number_in (with i))
  variable_stands i = record {
    same = λ h. known_same i (k i) refl h;
    full = refl;
    freed = λ j h. known_open i j (is_free (of i)) refl h;
  }

  power_stands : (a b : Option ℕ) (v w : Option ℤ) → Stands a b v w → Stands a b (and_then v small_power) (and_then w small_power)
  power_stands a b v w s = record {
    same = λ h. ap (λ (o : Option ℤ). and_then o small_power) (s.same h);
    full = s.full;
    freed = s.freed;
  }

  atom_step : (y : Atom-F SuchA SuchN SuchT) → IsA (roll-Atom (map-Atom SuchA SuchN SuchT Atom Num Term (λ p. p.0) (λ p. p.0) (λ p. p.0) y))
  atom_step (N.Variable i) =
      same_stands (free_variable of i) (free_variable with i) (number_in (of i)) (number_in (with i)) _ _ _ _ (free_atom of (N.Variable i))
      (free_atom with (N.Variable i)) (valued_atom of (N.Variable i)) (valued_atom with (N.Variable i)) (variable_stands i)
  atom_step (N.Power t) =
      same_stands (first_free of t.0) (first_free with t.0) (and_then (value_of of t.0) small_power) (and_then (value_of with t.0) small_power)
      _ _ _ _ (free_atom of (N.Power t.0)) (free_atom with (N.Power t.0)) (valued_atom of (N.Power t.0)) (valued_atom with (N.Power t.0))
      (power_stands (first_free of t.0) (first_free with t.0) (value_of of t.0) (value_of with t.0) t.1)

  -- ---- sums

  abbrev bare : List SuchT → List Term
  bare ys = map (λ p. p.0) ys

  each_same : (ys : List SuchT) → first_of (map (free_in_term of) (bare ys)) ≡ None → (z : ℤ)
      → added z (map (value_of_term of) (bare ys)) ≡ added z (map (value_of_term with) (bare ys))
  each_same [] h z = refl
  each_same (y ∷ ys) h z =
      let both = first_none (free_in_term of y.0) (first_of (map (free_in_term of) (bare ys))) h in
      ap (λ (o : Option ℤ). added z (o ∷ map (value_of_term of) (bare ys))) (y.1.same both.0)
      ∙ one_more z (value_of_term with y.0) (map (value_of_term of) (bare ys)) (map (value_of_term with) (bare ys)) (each_same ys both.1)

  each_full : (ys : List SuchT) → first_of (map (free_in_term with) (bare ys)) ≡ None
  each_full [] = refl
  each_full (y ∷ ys) = both_none (free_in_term with y.0) (first_of (map (free_in_term with) (bare ys))) y.1.full (each_full ys)

  each_open : (ys : List SuchT) (i : ℕ) → first_of (map (free_in_term of) (bare ys)) ≡ Some i → IsFree i
  each_open [] i h = none h
  each_open (y ∷ ys) i h =
      first_some IsFree (free_in_term of y.0) (first_of (map (free_in_term of) (bare ys))) i h (λ e. y.1.freed i e) (λ e. each_open ys i e)

  num_step : (y : Num-F SuchA SuchN SuchT) → IsN (roll-Num (map-Num SuchA SuchN SuchT Atom Num Term (λ p. p.0) (λ p. p.0) (λ p. p.0) y))
  num_step y =
      let form : Num-F Atom Num Term = record { terms = bare y.terms; constant = y.constant } in
      let ended : Option ℤ → Option ℤ = λ o. and_then o (λ z. small (z +ℤ y.constant)) in
      let sum : Stands (first_of (map (free_in_term of) (bare y.terms))) (first_of (map (free_in_term with) (bare y.terms)))
      (ended (added (pos 0) (map (value_of_term of) (bare y.terms)))) (ended (added (pos 0) (map (value_of_term with) (bare y.terms))))
      = record {
        same = λ h. ap ended (each_same y.terms h (pos 0));
        full = each_full y.terms;
        freed = each_open y.terms;
      } in
      same_stands (first_of (map (free_in_term of) (bare y.terms))) (first_of (map (free_in_term with) (bare y.terms)))
      (ended (added (pos 0) (map (value_of_term of) (bare y.terms)))) (ended (added (pos 0) (map (value_of_term with) (bare y.terms)))) _ _ _ _
      (fold-roll-Num (Option ℕ) (Option ℕ) (Option ℕ) (atom_free of) sum_free term_free form)
      (fold-roll-Num (Option ℕ) (Option ℕ) (Option ℕ) (atom_free with) sum_free term_free form)
      (fold-roll-Num (Option ℤ) (Option ℤ) (Option ℤ) (atom_value of) sum_value term_value form)
      (fold-roll-Num (Option ℤ) (Option ℤ) (Option ℤ) (atom_value with) sum_value term_value form) sum

  term_step : (y : Term-F SuchA SuchN SuchT) → IsT (roll-Term (map-Term SuchA SuchN SuchT Atom Num Term (λ p. p.0) (λ p. p.0) (λ p. p.0) y))
  term_step y =
      let form : Term-F Atom Num Term = record { coefficient = y.coefficient; atom = y.atom.0 } in
      let ended : Option ℤ → Option ℤ = λ o. and_then o (λ z. small (y.coefficient *ℤ z)) in
      let one : Stands (free_in_atom of y.atom.0) (free_in_atom with y.atom.0) (ended (value_of_atom of y.atom.0))
      (ended (value_of_atom with y.atom.0))
      = record { same = λ h. ap ended (y.atom.1.same h); full = y.atom.1.full; freed = y.atom.1.freed } in
      same_stands (free_in_atom of y.atom.0) (free_in_atom with y.atom.0) (ended (value_of_atom of y.atom.0)) (ended (value_of_atom with y.atom.0))
      _ _ _ _ (fold-roll-Term (Option ℕ) (Option ℕ) (Option ℕ) (atom_free of) sum_free term_free form)
      (fold-roll-Term (Option ℕ) (Option ℕ) (Option ℕ) (atom_free with) sum_free term_free form)
      (fold-roll-Term (Option ℤ) (Option ℤ) (Option ℤ) (atom_value of) sum_value term_value form)
      (fold-roll-Term (Option ℤ) (Option ℤ) (Option ℤ) (atom_value with) sum_value term_value form) one

  stands : (n : Num) → IsN n
  stands = ind-Num IsA IsN IsT (λ e y is. subst (λ d. IsA (roll-Atom d)) is (atom_step y))
      (λ e y is. subst (λ d. IsN (roll-Num d)) is (num_step y)) (λ e y is. subst (λ d. IsT (roll-Term d)) is (term_step y))

  -- ---- sizes

  under_stands : (free whole : Option ℕ) (value with_all : Option ℤ) (z : ℤ) → Stands free whole value with_all → unless_free of free value ≡ C.Number z
      → unless_free with whole with_all ≡ C.Number z
  under_stands None whole value with_all z s h =
      ap (λ (o : Option ℕ). unless_free with o with_all) s.full
      ∙ (ap (λ (o : Option ℤ). C.Number (at_most_largest o)) (sym (s.same refl)) ∙ h)
  under_stands (Some i) whole value with_all z s h = none (not_number (of i) z (s.freed i refl) h)

  constant_stands : (t : Num) (z : ℤ) → constant_under of t ≡ C.Number z → constant_under with t ≡ C.Number z
  constant_stands t z h = under_stands (first_free of t) (first_free with t) (value_of of t) (value_of with t) z (stands t) h

pub constants_stand : ConstantsStand
constants_stand k f agrees t z h = constant_stands k f agrees t z h
