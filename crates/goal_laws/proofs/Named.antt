-- Numbers and truths hang on the variables that they name alone.
use Rattle.std.proofs.Common.{◌≡◌, ◌∙◌, ap, sym, refl, subst, ℕ, nat_eq, ℤ, pos, int_le, Bool, true, List, [], ◌∷◌, map}
use Rattle.std.specs.Prelude.{◌+ℤ◌, ◌*ℤ◌, not, unwrap_or}
use Rattle.std.specs.List.{list_all, list_any}
use Rattle.std.specs.Ordering.{int_eq}
use Rattle.std.proofs.lemmas.Bool.{eq-eqb, or_left, or_right}
use Rattle.sail_types.specs.Limits.{small_power}
use Rattle.sail_types.specs.Numbers.{Positive, atom_number, compares, form_true, number, number_of_atom, number_of_term, sum_number, term_number, total}
use Rattle.sail_types.specs.Numbers.{true_in}
use Rattle.sail_types.specs.declared.numbers.Atom.{Atom, roll-Atom}
use Rattle.sail_types.specs.declared.numbers.Atom.TheOpen as N
use Rattle.sail_types.specs.declared.numbers.Atom.TheOpen.{Atom-F, Num-F, Term-F}
use Rattle.sail_types.specs.declared.numbers.Atom.TheFolds.{fold-roll-Atom, fold-roll-Num, fold-roll-Term, para-roll-Atom, map-Atom, map-Num, map-Term}
use Rattle.sail_types.specs.declared.numbers.Atom.TheFolds.{ind-Num}
use Rattle.sail_types.specs.declared.numbers.Con.{Con, Con-F, roll-Con, fold-roll-Con, map-Con, ind-Con}
use Rattle.sail_types.specs.declared.numbers.Con.TheOpen as C
use Rattle.sail_types.specs.declared.numbers.Num.{Num, roll-Num}
use Rattle.sail_types.specs.declared.numbers.Term.{Term, roll-Term}
use Rattle.sail_types.proofs.SumNumbers.{weights, number_num, number_term}
use Rattle.obligations.specs.Naming.{any_of, atom_has, atom_names, form_numbers, has_number, number_has, sum_names, term_has, term_names}
use Rattle.value_laws.specs.Belonging.{Integers, standing}

pub same_nat : (i : ℕ) → nat_eq i i ≡ true
same_nat i = eq-eqb i i refl

module _ (past : Positive) (f g : Integers) where
  -- one integer for each variable of which this is so
  abbrev Agree : (ℕ → Bool) → Type 0
  Agree named = (v : ℕ) → named v ≡ true → f v ≡ g v

  abbrev SameA : Atom → Type 0
  SameA a = Agree (λ v. atom_has v a) → number_of_atom (standing past f) a ≡ number_of_atom (standing past g) a

  abbrev SameN : Num → Type 0
  SameN n = Agree (λ v. number_has v n) → number (standing past f) n ≡ number (standing past g) n

  abbrev SameT : Term → Type 0
  SameT t = Agree (λ v. term_has v t) → number_of_term (standing past f) t ≡ number_of_term (standing past g) t

  abbrev SuchA : Type 0
  SuchA = (a : Atom) × SameA a

  abbrev SuchN : Type 0
  SuchN = (n : Num) × SameN n

  abbrev SuchT : Type 0
  SuchT = (t : Term) × SameT t

  has_atom : (v : ℕ) (y : Atom-F Atom Num Term) → atom_has v (roll-Atom y)
      ≡ atom_names v (map-Atom Atom Num Term Bool Bool Bool (atom_has v) (number_has v) (term_has v) y)
  has_atom v y = fold-roll-Atom Bool Bool Bool (atom_names v) sum_names term_names y

  atom_is : (h : Integers) (y : Atom-F Atom Num Term) → number_of_atom (standing past h) (roll-Atom y)
      ≡ atom_number (standing past h) (map-Atom Atom Num Term (Atom × ℤ) (Num × ℤ) (Term × ℤ) (λ a. (a, number_of_atom (standing past h) a))
      (λ n. (n, number (standing past h) n)) (λ t. (t, number_of_term (standing past h) t)) y)
  atom_is h y = para-roll-Atom ℤ ℤ ℤ (atom_number (standing past h)) sum_number term_number y

  atom_step : (y : Atom-F SuchA SuchN SuchT) → SameA (roll-Atom (map-Atom SuchA SuchN SuchT Atom Num Term (λ p. p.0) (λ p. p.0) (λ p. p.0) y))
  atom_step (N.Variable i) h =
      atom_is f (N.Variable i) ∙ h i (has_atom i (N.Variable i) ∙ same_nat i) ∙ sym (atom_is g (N.Variable i))
  atom_step (N.Power t) h =
      atom_is f (N.Power t.0) ∙ ap (λ z. unwrap_or (small_power z) past.value) (t.1 (λ v k. h v (has_atom v (N.Power t.0) ∙ k)))
      ∙ sym (atom_is g (N.Power t.0))

  each_same : (ys : List SuchT) → Agree (λ v. any_of (map (term_has v) (map (λ (p : SuchT). p.0) ys)))
      → total (weights (standing past f) (map (λ (p : SuchT). p.0) ys)) ≡ total (weights (standing past g) (map (λ (p : SuchT). p.0) ys))
  each_same [] h = refl
  each_same (y ∷ ys) h =
      let rest : Agree (λ v. any_of (map (term_has v) (map (λ (p : SuchT). p.0) ys))) =
      λ v k. h v (or_right (term_has v y.0) (any_of (map (term_has v) (map (λ (p : SuchT). p.0) ys))) k) in
      let one : Agree (λ v. term_has v y.0) = λ v k. h v (or_left (term_has v y.0) (any_of (map (term_has v) (map (λ (p : SuchT). p.0) ys))) k) in
      λ j. y.1 one j +ℤ each_same ys rest j

  num_step : (y : Num-F SuchA SuchN SuchT) → SameN (roll-Num (map-Num SuchA SuchN SuchT Atom Num Term (λ p. p.0) (λ p. p.0) (λ p. p.0) y))
  num_step y h =
      let ts : List Term = map (λ (p : SuchT). p.0) y.terms in
      let has = λ (v : ℕ). fold-roll-Num Bool Bool Bool (atom_names v) sum_names term_names (record { terms = ts; constant = y.constant }) in
      number_num (standing past f) ts y.constant ∙ ap (λ z. z +ℤ y.constant) (each_same y.terms (λ v k. h v (has v ∙ k)))
      ∙ sym (number_num (standing past g) ts y.constant)

  term_step : (y : Term-F SuchA SuchN SuchT) → SameT (roll-Term (map-Term SuchA SuchN SuchT Atom Num Term (λ p. p.0) (λ p. p.0) (λ p. p.0) y))
  term_step y h =
      let has = λ (v : ℕ). fold-roll-Term Bool Bool Bool (atom_names v) sum_names term_names
      (record { coefficient = y.coefficient; atom = y.atom.0 }) in
      number_term (standing past f) y.coefficient y.atom.0 ∙ ap (λ z. y.coefficient *ℤ z) (y.atom.1 (λ v k. h v (has v ∙ k)))
      ∙ sym (number_term (standing past g) y.coefficient y.atom.0)

  pub number_same : (n : Num) → SameN n
  number_same = ind-Num SameA SameN SameT (λ e y is. subst (λ d. SameA (roll-Atom d)) is (atom_step y))
      (λ e y is. subst (λ d. SameN (roll-Num d)) is (num_step y)) (λ e y is. subst (λ d. SameT (roll-Term d)) is (term_step y))

  -- ---- conditions, where each variable is the same truth

  module _ (truths : (v : ℕ) → int_le (pos 1) (f v) ≡ int_le (pos 1) (g v)) where
    abbrev SameC : Con → Type 0
    SameC c = Agree (λ v. has_number v c) → true_in (standing past f) c ≡ true_in (standing past g) c

    abbrev SuchC : Type 0
    SuchC = (c : Con) × SameC c

    abbrev conditions_of : List SuchC → List Con
    conditions_of ys = map (λ (p : SuchC). p.0) ys

    abbrev AllSame : List SuchC → Type 0
    AllSame ys = map (true_in (standing past f)) (conditions_of ys) ≡ map (true_in (standing past g)) (conditions_of ys)

    all_same : (ys : List SuchC) → Agree (λ v. any_of (map (has_number v) (conditions_of ys))) → AllSame ys
    all_same [] h = refl
    all_same (y ∷ ys) h =
        let rest : Agree (λ v. any_of (map (has_number v) (conditions_of ys))) =
        λ v k. h v (or_right (has_number v y.0) (any_of (map (has_number v) (conditions_of ys))) k) in
        let one : Agree (λ v. has_number v y.0) = λ v k. h v (or_left (has_number v y.0) (any_of (map (has_number v) (conditions_of ys))) k) in
        λ j. y.1 one j ∷ all_same ys rest j

    abbrev bare : Con-F SuchC → Con-F Con
    bare y = map-Con SuchC Con (λ p. p.0) y

    form_same : (y : Con-F SuchC) → Agree (λ v. form_numbers v (map-Con Con Bool (has_number v) (bare y)))
        → form_true (standing past f) (map-Con Con Bool (true_in (standing past f)) (bare y))
        ≡ form_true (standing past g) (map-Con Con Bool (true_in (standing past g)) (bare y))
    form_same (C.Truth b) h = refl
    form_same (C.Holds i) h = truths i
    form_same (C.Compare how t u) h =
        let left = number_same t (λ v k. h v (or_left (number_has v t) (number_has v u) k)) in
        let right = number_same u (λ v k. h v (or_right (number_has v t) (number_has v u) k)) in
        λ j. compares how (left j) (right j)
    form_same (C.OneOf t zs) h = ap (λ z. list_any (int_eq z) zs) (number_same t h)
    form_same (C.Not y) h = ap not (y.1 h)
    form_same (C.All ys) h = ap (list_all (λ b. b)) (all_same ys h)
    form_same (C.Any ys) h = ap (list_any (λ b. b)) (all_same ys h)

    rolled_same : (y : Con-F SuchC) → SameC (roll-Con (bare y))
    rolled_same y h =
        let has = λ (v : ℕ). fold-roll-Con Bool (form_numbers v) (bare y) in
        fold-roll-Con Bool (form_true (standing past f)) (bare y) ∙ form_same y (λ v k. h v (has v ∙ k))
        ∙ sym (fold-roll-Con Bool (form_true (standing past g)) (bare y))

    pub truth_same : (c : Con) → SameC c
    truth_same = ind-Con SameC (λ e y is. subst (λ d. SameC (roll-Con d)) is (rolled_same y))
