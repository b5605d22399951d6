-- Numbers and truths that name variables before one alone are the same where those stand for the same integers.
use Rattle.std.proofs.Common.{◌≡◌, ℕ, ◌<◌, ℤ, pos, int_le, Bool, true, List, [], ◌∷◌, map, refl, sym, ap, ◌∙◌, subst}
use Rattle.std.specs.Prelude.{◌+ℤ◌, ◌*ℤ◌, not, unwrap_or}
use Rattle.std.specs.List.{list_all, list_any}
use Rattle.std.specs.Ordering.{int_eq}
use Rattle.std.proofs.lemmas.Bool.{and_parts, ltb-true}
use Rattle.sail_types.specs.Limits.{small_power}
use Rattle.sail_types.specs.Numbers.{Assignment, Positive, number, number_of_atom, number_of_term, total, atom_number, term_number, sum_number}
use Rattle.sail_types.specs.Numbers.{compares, form_true, true_in}
use Rattle.sail_types.specs.declared.numbers.Num.{Num, roll-Num}
use Rattle.sail_types.specs.declared.numbers.Term.{Term, roll-Term}
use Rattle.sail_types.specs.declared.numbers.Atom.{Atom, roll-Atom}
use Rattle.sail_types.specs.declared.numbers.Atom.TheOpen as N
use Rattle.sail_types.specs.declared.numbers.Atom.TheOpen.{Atom-F, Num-F, Term-F}
use Rattle.sail_types.specs.declared.numbers.Atom.TheFolds.{fold-roll-Atom, fold-roll-Num, fold-roll-Term, para-roll-Atom, map-Atom, map-Num, map-Term, ind-Num}
use Rattle.sail_types.specs.declared.numbers.Con.{Con, Con-F, roll-Con, fold-roll-Con, map-Con, ind-Con}
use Rattle.sail_types.specs.declared.numbers.Con.TheOpen as E
use Rattle.sail_types.proofs.SumNumbers.{weights, number_num, number_term}
use Rattle.value_laws.specs.Belonging.{Integers, standing}
use Rattle.wide_types.specs.Widening.{atom_below, sum_below, term_below, is_below, is_atom_below, is_term_below, form_below, is_con_below}

module _ (past : Positive) (m : ℕ) (f g : Integers) (same : (i : ℕ) → i < m → f i ≡ g i) where
  abbrev one : Assignment
  one = standing past f

  abbrev other : Assignment
  other = standing past g

  abbrev SameA : Atom → Type 0
  SameA a = is_atom_below m a ≡ true → number_of_atom one a ≡ number_of_atom other a

  abbrev SameN : Num → Type 0
  SameN n = is_below m n ≡ true → number one n ≡ number other n

  abbrev SameT : Term → Type 0
  SameT t = is_term_below m t ≡ true → number_of_term one t ≡ number_of_term other t

  abbrev SuchA : Type 0
  SuchA = (a : Atom) × SameA a

  abbrev SuchN : Type 0
  SuchN = (n : Num) × SameN n

  abbrev SuchT : Type 0
  SuchT = (t : Term) × SameT t

  atom_is : (nu : Assignment) (x : Atom-F Atom Num Term) → number_of_atom nu (roll-Atom x)
      ≡ atom_number nu (map-Atom Atom Num Term (Atom × ℤ) (Num × ℤ) (Term × ℤ) (λ a. (a, number_of_atom nu a)) (λ n. (n, number nu n))
      (λ t. (t, number_of_term nu t)) x)
  atom_is nu x = para-roll-Atom ℤ ℤ ℤ (atom_number nu) sum_number term_number x

  atom_step : (y : Atom-F SuchA SuchN SuchT) → SameA (roll-Atom (map-Atom SuchA SuchN SuchT Atom Num Term (λ p. p.0) (λ p. p.0) (λ p. p.0) y))
  atom_step (N.Variable i) h =
      atom_is one (N.Variable i)
      ∙ same i (ltb-true i m (sym (fold-roll-Atom Bool Bool Bool (atom_below m) sum_below term_below (N.Variable i)) ∙ h))
      ∙ sym (atom_is other (N.Variable i))
  atom_step (N.Power t) h =
      atom_is one (N.Power t.0)
      ∙ ap (λ z. unwrap_or (small_power z) past.value)
      (t.1 (sym (fold-roll-Atom Bool Bool Bool (atom_below m) sum_below term_below (N.Power t.0)) ∙ h))
      ∙ sym (atom_is other (N.Power t.0))

  each_same : (ys : List SuchT) → list_all (λ b. b) (map (is_term_below m) (map (λ p. p.0) ys)) ≡ true
      → weights one (map (λ p. p.0) ys) ≡ weights other (map (λ p. p.0) ys)
  each_same [] h = refl
  each_same (y ∷ ys) h =
      let k = and_parts (is_term_below m y.0) (list_all (λ b. b) (map (is_term_below m) (map (λ (p : SuchT). p.0) ys))) h in
      λ j. y.1 k.0 j ∷ each_same ys k.1 j

  num_step : (y : Num-F SuchA SuchN SuchT) → SameN (roll-Num (map-Num SuchA SuchN SuchT Atom Num Term (λ p. p.0) (λ p. p.0) (λ p. p.0) y))
  num_step y h =
      let ts : List Term = map (λ p. p.0) y.terms in
      let x : Num-F Atom Num Term = record { terms = ts; constant = y.constant } in
      number_num one ts y.constant
      ∙ ap (λ zs. total zs +ℤ y.constant) (each_same y.terms (sym (fold-roll-Num Bool Bool Bool (atom_below m) sum_below term_below x) ∙ h))
      ∙ sym (number_num other ts y.constant)

  term_step : (y : Term-F SuchA SuchN SuchT) → SameT (roll-Term (map-Term SuchA SuchN SuchT Atom Num Term (λ p. p.0) (λ p. p.0) (λ p. p.0) y))
  term_step y h =
      let x : Term-F Atom Num Term = record { coefficient = y.coefficient; atom = y.atom.0 } in
      number_term one y.coefficient y.atom.0
      ∙ ap (λ z. y.coefficient *ℤ z) (y.atom.1 (sym (fold-roll-Term Bool Bool Bool (atom_below m) sum_below term_below x) ∙ h))
      ∙ sym (number_term other y.coefficient y.atom.0)

  pub number_below : (n : Num) → is_below m n ≡ true → number one n ≡ number other n
  number_below = ind-Num SameA SameN SameT (λ e y is. subst (λ d. SameA (roll-Atom d)) is (atom_step y))
      (λ e y is. subst (λ d. SameN (roll-Num d)) is (num_step y)) (λ e y is. subst (λ d. SameT (roll-Term d)) is (term_step y))

  -- ---- truths

  abbrev SameC : Con → Type 0
  SameC c = is_con_below m c ≡ true → true_in one c ≡ true_in other c

  abbrev SuchC : Type 0
  SuchC = (c : Con) × SameC c

  each_con : (ys : List SuchC) → list_all (λ b. b) (map (is_con_below m) (map (λ p. p.0) ys)) ≡ true
      → map (true_in one) (map (λ p. p.0) ys) ≡ map (true_in other) (map (λ p. p.0) ys)
  each_con [] h = refl
  each_con (y ∷ ys) h =
      let k = and_parts (is_con_below m y.0) (list_all (λ b. b) (map (is_con_below m) (map (λ (p : SuchC). p.0) ys))) h in
      λ j. y.1 k.0 j ∷ each_con ys k.1 j

  form_same : (y : Con-F SuchC) → form_below m (map-Con Con Bool (is_con_below m) (map-Con SuchC Con (λ p. p.0) y)) ≡ true
      → form_true one (map-Con Con Bool (true_in one) (map-Con SuchC Con (λ p. p.0) y))
      ≡ form_true other (map-Con Con Bool (true_in other) (map-Con SuchC Con (λ p. p.0) y))
  form_same (E.Truth b) h = refl
  form_same (E.Holds i) h = ap (int_le (pos 1)) (same i (ltb-true i m h))
  form_same (E.Compare how t u) h =
      let k = and_parts (is_below m t) (is_below m u) h in λ j. compares how (number_below t k.0 j) (number_below u k.1 j)
  form_same (E.OneOf t zs) h = ap (λ x. list_any (int_eq x) zs) (number_below t h)
  form_same (E.Not y) h = ap not (y.1 h)
  form_same (E.All ys) h = ap (list_all (λ b. b)) (each_con ys h)
  form_same (E.Any ys) h = ap (list_any (λ b. b)) (each_con ys h)

  rolled_same : (y : Con-F SuchC) → SameC (roll-Con (map-Con SuchC Con (λ p. p.0) y))
  rolled_same y h =
      fold-roll-Con Bool (form_true one) (map-Con SuchC Con (λ p. p.0) y)
      ∙ form_same y (sym (fold-roll-Con Bool (form_below m) (map-Con SuchC Con (λ p. p.0) y)) ∙ h)
      ∙ sym (fold-roll-Con Bool (form_true other) (map-Con SuchC Con (λ p. p.0) y))

  pub truth_below : (c : Con) → is_con_below m c ≡ true → true_in one c ≡ true_in other c
  truth_below = ind-Con SameC (λ e y is. subst (λ d. SameC (roll-Con d)) is (rolled_same y))
