-- A number that is known where some variables are is the same where more are, and so is what stands in the place of its variables.
use Rattle.std.proofs.Common.{◌≡◌, ◌∙◌, ap, sym, refl, subst, ℕ, ℤ, pos, ◌+ℤ◌, ◌*ℤ◌, ◌≤ℤ◌, true, List, [], ◌∷◌, map, arith}
use Rattle.std.specs.Prelude.{Option, Some, None, option_map, is_some, unwrap_or}
use Rattle.std.proofs.lemmas.Bool.Decides.{Decides-int_eq}
use Rattle.sail_types.specs.Limits.{largest, small_power}
use Rattle.sail_types.specs.Numbers.{Assignment, Positive, number}
use Rattle.sail_types.specs.Sums.{and_then, plus_constant, plus_each, power_num, zero_num, Became, atom_becomes, sum_becomes, term_becomes}
use Rattle.sail_types.specs.Sums.{became, substituted, substituted_atom, variable}
use Rattle.sail_types.specs.declared.numbers.Num.{Num, roll-Num}
use Rattle.sail_types.specs.declared.numbers.Term.{Term, roll-Term}
use Rattle.sail_types.specs.declared.numbers.Atom.{Atom, roll-Atom}
use Rattle.sail_types.specs.declared.numbers.Atom.TheOpen as N
use Rattle.sail_types.specs.declared.numbers.Atom.TheOpen.{Atom-F, Num-F, Term-F}
use Rattle.sail_types.specs.declared.numbers.Atom.TheFolds.{fold-roll-Atom, fold-roll-Num, fold-roll-Term, map-Atom, map-Num, map-Term, ind-Num}
use Rattle.sail_types.proofs.SumNumbers.{then_parts}
use Rattle.row_types.specs.laws.Formulas.{number_variable}
use Rattle.value_laws.proofs.Basics.{no}
use Rattle.size_values.specs.declared.constants.Constant.{Constant}
use Rattle.size_values.specs.declared.constants.Constant.TheVariants as C
use Rattle.size_values.specs.Numbers.{added, atom_value, constant_under, number_in, small, sum_value, term_value, value_of, value_of_atom, value_of_term}
use Rattle.size_values.specs.Sized.{integer_of}
use Rattle.size_laws.proofs.Numbers.{known_constant, known_number}
use Rattle.told_sizes.specs.Exact.{is_exact}
use Rattle.exact_sizes.specs.Laws.{More, Stands}

pub none : {A B : Type 0} {x : B} → None ≡ Some x → A
none h = absurd (cc)

pub some_there : {A : Type 0} (o : Option A) → is_some o ≡ true → (x : A) × (o ≡ Some x)
some_there None h = no h
some_there (Some x) h = (x, refl)

worth_atom : (by : ℕ → Constant) (y : Atom-F Atom Num Term) → value_of_atom by (roll-Atom y)
    ≡ atom_value by (map-Atom Atom Num Term (Option ℤ) (Option ℤ) (Option ℤ) (value_of_atom by) (value_of by) (value_of_term by) y)
worth_atom by y = fold-roll-Atom (Option ℤ) (Option ℤ) (Option ℤ) (atom_value by) sum_value term_value y

-- one of a sum that is worked out
one_found : (o : Option ℤ) (os : List (Option ℤ)) (s z : ℤ) → added s (o ∷ os) ≡ Some z
    → (x : ℤ) × (o ≡ Some x) × (t : ℤ) × (small (s +ℤ x) ≡ Some t) × (added t os ≡ Some z)
one_found None os s z h = none h
one_found (Some x) os s z h =
    let p = then_parts (small (s +ℤ x)) (λ w. added w os) z h in
    (x, refl, p.0, p.1, p.2)

module _ (of to : ℕ → Constant) (more : More of to) where
  abbrev KeepsA : Atom → Type 0
  KeepsA a = (z : ℤ) → value_of_atom of a ≡ Some z → value_of_atom to a ≡ Some z

  abbrev KeepsN : Num → Type 0
  KeepsN n = (z : ℤ) → value_of of n ≡ Some z → value_of to n ≡ Some z

  abbrev KeepsT : Term → Type 0
  KeepsT t = (z : ℤ) → value_of_term of t ≡ Some z → value_of_term to t ≡ Some z

  abbrev SuchA : Type 0
  SuchA = (a : Atom) × KeepsA a

  abbrev SuchN : Type 0
  SuchN = (n : Num) × KeepsN n

  abbrev SuchT : Type 0
  SuchT = (t : Term) × KeepsT t

  atom_step : (y : Atom-F SuchA SuchN SuchT) → KeepsA (roll-Atom (map-Atom SuchA SuchN SuchT Atom Num Term (λ p. p.0) (λ p. p.0) (λ p. p.0) y))
  atom_step (N.Variable i) z h = worth_atom to (N.Variable i) ∙ more i z (sym (worth_atom of (N.Variable i)) ∙ h)
  atom_step (N.Power t) z h =
      let p = then_parts (value_of of t.0) small_power z (sym (worth_atom of (N.Power t.0)) ∙ h) in
      worth_atom to (N.Power t.0) ∙ ap (λ (o : Option ℤ). and_then o small_power) (t.1 p.0 p.1) ∙ p.2

  abbrev bare : List SuchT → List Term
  bare ys = map (λ (p : SuchT). p.0) ys

  each_more : (ys : List SuchT) (s z : ℤ) → added s (map (value_of_term of) (bare ys)) ≡ Some z → added s (map (value_of_term to) (bare ys)) ≡ Some z
  each_more [] s z h = h
  each_more (y ∷ ys) s z h =
      let p = one_found (value_of_term of y.0) (map (value_of_term of) (bare ys)) s z h in
      ap (λ (o : Option ℤ). added s (o ∷ map (value_of_term to) (bare ys))) (y.1 p.0 p.1)
      ∙ ap (λ (o : Option ℤ). and_then o (λ w. added w (map (value_of_term to) (bare ys)))) p.3
      ∙ each_more ys p.2 z p.4

  num_step : (y : Num-F SuchA SuchN SuchT) → KeepsN (roll-Num (map-Num SuchA SuchN SuchT Atom Num Term (λ p. p.0) (λ p. p.0) (λ p. p.0) y))
  num_step y z h =
      let form : Num-F Atom Num Term = record { terms = bare y.terms; constant = y.constant } in
      let last : ℤ → Option ℤ = λ k. small (k +ℤ y.constant) in
      let p = then_parts (added (pos 0) (map (value_of_term of) (bare y.terms))) last z
      (sym (fold-roll-Num (Option ℤ) (Option ℤ) (Option ℤ) (atom_value of) sum_value term_value form) ∙ h) in
      fold-roll-Num (Option ℤ) (Option ℤ) (Option ℤ) (atom_value to) sum_value term_value form
      ∙ ap (λ (o : Option ℤ). and_then o last) (each_more y.terms (pos 0) p.0 p.1) ∙ p.2

  term_step : (y : Term-F SuchA SuchN SuchT) → KeepsT (roll-Term (map-Term SuchA SuchN SuchT Atom Num Term (λ p. p.0) (λ p. p.0) (λ p. p.0) y))
  term_step y z h =
      let form : Term-F Atom Num Term = record { coefficient = y.coefficient; atom = y.atom.0 } in
      let last : ℤ → Option ℤ = λ k. small (y.coefficient *ℤ k) in
      let p = then_parts (value_of_atom of y.atom.0) last z
      (sym (fold-roll-Term (Option ℤ) (Option ℤ) (Option ℤ) (atom_value of) sum_value term_value form) ∙ h) in
      fold-roll-Term (Option ℤ) (Option ℤ) (Option ℤ) (atom_value to) sum_value term_value form
      ∙ ap (λ (o : Option ℤ). and_then o last) (y.atom.1 p.0 p.1) ∙ p.2

  pub value_more : (n : Num) (z : ℤ) → value_of of n ≡ Some z → value_of to n ≡ Some z
  value_more = ind-Num KeepsA KeepsN KeepsT
      (λ e y is. subst (λ d. KeepsA (roll-Atom d)) is (atom_step y))
      (λ e y is. subst (λ d. KeepsN (roll-Num d)) is (num_step y))
      (λ e y is. subst (λ d. KeepsT (roll-Term d)) is (term_step y))

-- ---- the constant that it is

one_low : pos 1 ≤ℤ pos 1
one_low = omega arith

one_high : pos 1 ≤ℤ pos largest
unfolding largest
one_high = omega arith

abbrev one : Positive
one = record { value = pos 1; low = one_low; high = one_high }

abbrev standing_for : (ℕ → Constant) → Assignment
standing_for of = record { int = λ i. integer_of (of i); bool = λ i. true; beyond = λ t. one }

pub number_constant_is : (of : ℕ → Constant) (t : Num) (z : ℤ) → value_of of t ≡ Some z → constant_under of t ≡ C.Number z
number_constant_is of t z h =
    known_constant of (standing_for of) (λ i y e. ap (λ (o : Option ℤ). unwrap_or o (pos 0)) e) t z h

pub number_more : (of to : ℕ → Constant) → More of to → (t : Num) (z : ℤ) → value_of of t ≡ Some z → constant_under to t ≡ C.Number z
number_more of to more t z h = number_constant_is to t z (value_more of to more t z h)

pub number_stands : (of : ℕ → Constant) (nu : Assignment) → Stands of nu.int → (t : Num) (z : ℤ) → value_of of t ≡ Some z → number nu t ≡ z
number_stands of nu stands t z h = (known_number of nu stands t z h).0

pub exact_value : (of : ℕ → Constant) (t : Num) → is_exact of t ≡ true → (z : ℤ) × (value_of of t ≡ Some z)
exact_value of t h = some_there (value_of of t) h

-- a variable that is exact is known

abbrev standing_or : (ℕ → Constant) → ℤ → Assignment
standing_or of d = record { int = λ i. unwrap_or (number_in (of i)) d; bool = λ i. true; beyond = λ t. one }

variable_is : (of : ℕ → Constant) (i : ℕ) (z : ℤ) → value_of of (variable i) ≡ Some z → (d : ℤ) → unwrap_or (number_in (of i)) d ≡ z
variable_is of i z h d =
    sym (number_variable (standing_or of d) i)
    ∙ number_stands of (standing_or of d) (λ j y e. ap (λ (o : Option ℤ). unwrap_or o d) e) (variable i) z h

pub variable_known : (of : ℕ → Constant) (i : ℕ) (z : ℤ) → value_of of (variable i) ≡ Some z → number_in (of i) ≡ Some z
variable_known of i z h = by (number_in (of i)) refl
  where
    by : (o : Option ℤ) → number_in (of i) ≡ o → o ≡ Some z
    by (Some y) e = ap (λ (x : ℤ). Some x) (sym (ap (λ (o : Option ℤ). unwrap_or o (pos 0)) e) ∙ variable_is of i z h (pos 0))
    by None e =
        let zero : pos 0 ≡ z = sym (ap (λ (o : Option ℤ). unwrap_or o (pos 0)) e) ∙ variable_is of i z h (pos 0) in
        let first : pos 1 ≡ z = sym (ap (λ (o : Option ℤ). unwrap_or o (pos 1)) e) ∙ variable_is of i z h (pos 1) in
        no ((Decides-int_eq (pos 0) (pos 1)).1 (zero ∙ sym first))

-- ---- what stands in the place of variables

became_atom : (by : ℕ → Num) (y : Atom-F Atom Num Term) → substituted_atom by (roll-Atom y)
    ≡ atom_becomes by (map-Atom Atom Num Term (Option Num) (Option Num) Became (substituted_atom by) (substituted by) (became by) y)
became_atom by y = fold-roll-Atom (Option Num) (Option Num) Became (atom_becomes by) sum_becomes term_becomes y

module _ (of : ℕ → Constant) (by to : ℕ → Num) (same : (i : ℕ) (z : ℤ) → number_in (of i) ≡ Some z → by i ≡ to i) where
  abbrev SameA : Atom → Type 0
  SameA a = (z : ℤ) → value_of_atom of a ≡ Some z → substituted_atom by a ≡ substituted_atom to a

  abbrev SameN : Num → Type 0
  SameN n = (z : ℤ) → value_of of n ≡ Some z → substituted by n ≡ substituted to n

  abbrev SameT : Term → Type 0
  SameT t = (z : ℤ) → value_of_term of t ≡ Some z → became by t ≡ became to t

  abbrev OneA : Type 0
  OneA = (a : Atom) × SameA a

  abbrev OneN : Type 0
  OneN = (n : Num) × SameN n

  abbrev OneT : Type 0
  OneT = (t : Term) × SameT t

  atom_same : (y : Atom-F OneA OneN OneT) → SameA (roll-Atom (map-Atom OneA OneN OneT Atom Num Term (λ p. p.0) (λ p. p.0) (λ p. p.0) y))
  atom_same (N.Variable i) z h =
      became_atom by (N.Variable i)
      ∙ ap (λ (n : Num). Some n) (same i z (sym (worth_atom of (N.Variable i)) ∙ h)) ∙ sym (became_atom to (N.Variable i))
  atom_same (N.Power t) z h =
      let p = then_parts (value_of of t.0) small_power z (sym (worth_atom of (N.Power t.0)) ∙ h) in
      became_atom by (N.Power t.0) ∙ ap (λ (o : Option Num). option_map power_num o) (t.1 p.0 p.1) ∙ sym (became_atom to (N.Power t.0))

  abbrev plain : List OneT → List Term
  plain ys = map (λ (p : OneT). p.0) ys

  each_same : (ys : List OneT) (s z : ℤ) → added s (map (value_of_term of) (plain ys)) ≡ Some z → map (became by) (plain ys) ≡ map (became to) (plain ys)
  each_same [] s z h = refl
  each_same (y ∷ ys) s z h =
      let p = one_found (value_of_term of y.0) (map (value_of_term of) (plain ys)) s z h in
      let first : became by y.0 ≡ became to y.0 = y.1 p.0 p.1 in
      let rest : map (became by) (plain ys) ≡ map (became to) (plain ys) = each_same ys p.2 z p.4 in
      λ j. first j ∷ rest j

  num_same : (y : Num-F OneA OneN OneT) → SameN (roll-Num (map-Num OneA OneN OneT Atom Num Term (λ p. p.0) (λ p. p.0) (λ p. p.0) y))
  num_same y z h =
      let form : Num-F Atom Num Term = record { terms = plain y.terms; constant = y.constant } in
      let p = then_parts (added (pos 0) (map (value_of_term of) (plain y.terms))) (λ k. small (k +ℤ y.constant)) z
      (sym (fold-roll-Num (Option ℤ) (Option ℤ) (Option ℤ) (atom_value of) sum_value term_value form) ∙ h) in
      fold-roll-Num (Option Num) (Option Num) Became (atom_becomes by) sum_becomes term_becomes form
      ∙ ap (λ (bs : List Became). and_then (plus_each bs zero_num) (plus_constant y.constant)) (each_same y.terms (pos 0) p.0 p.1)
      ∙ sym (fold-roll-Num (Option Num) (Option Num) Became (atom_becomes to) sum_becomes term_becomes form)

  term_same : (y : Term-F OneA OneN OneT) → SameT (roll-Term (map-Term OneA OneN OneT Atom Num Term (λ p. p.0) (λ p. p.0) (λ p. p.0) y))
  term_same y z h =
      let form : Term-F Atom Num Term = record { coefficient = y.coefficient; atom = y.atom.0 } in
      let p = then_parts (value_of_atom of y.atom.0) (λ k. small (y.coefficient *ℤ k)) z
      (sym (fold-roll-Term (Option ℤ) (Option ℤ) (Option ℤ) (atom_value of) sum_value term_value form) ∙ h) in
      fold-roll-Term (Option Num) (Option Num) Became (atom_becomes by) sum_becomes term_becomes form
      ∙ ap (λ (o : Option Num). (y.coefficient, o)) (y.atom.1 p.0 p.1)
      ∙ sym (fold-roll-Term (Option Num) (Option Num) Became (atom_becomes to) sum_becomes term_becomes form)

  pub substituted_same : (n : Num) (z : ℤ) → value_of of n ≡ Some z → substituted by n ≡ substituted to n
  substituted_same = ind-Num SameA SameN SameT
      (λ e y is. subst (λ d. SameA (roll-Atom d)) is (atom_same y))
      (λ e y is. subst (λ d. SameN (roll-Num d)) is (num_same y))
      (λ e y is. subst (λ d. SameT (roll-Term d)) is (term_same y))
