-- Numbers and truths that name variables before one alone are the same where those stand for the same.
use Rattle.std.proofs.Common.{◌≡◌, ℕ, zero, suc, ◌<◌, ℤ, pos, Bool, true, false, ◌&&◌, List, [], ◌∷◌, map, Option, Some, None}
use Rattle.std.proofs.Common.{refl, sym, ap, ◌∙◌, subst, arith}
use Rattle.std.specs.Prelude.{◌+ℤ◌, ◌*ℤ◌, not, unwrap_or}
use Rattle.std.specs.List.{list_all, list_any}
use Rattle.std.specs.Ordering.{int_eq}
use Rattle.std.proofs.lemmas.Bool.{and_parts, ltb-true}
use Rattle.std.proofs.lemmas.Bool.Decides.{Decides-eqb}
use Rattle.sail_types.specs.Before.{beyond_of}
use Rattle.sail_types.specs.Belongs.{assigned, number_under, under}
use Rattle.sail_types.specs.Limits.{small_power}
use Rattle.sail_types.specs.Numbers.{Assignment, number, number_of_atom, number_of_term, total, atom_number, term_number, sum_number}
use Rattle.sail_types.specs.Numbers.{compares, form_true, true_in}
use Rattle.sail_types.specs.Places.{atom_is, form_is, is_variable, terms_are}
use Rattle.sail_types.specs.Readings.{truth_at}
use Rattle.sail_types.specs.Sums.{atom_of, coefficient_of, constant_of, number_at, read, substituted, terms_of}
use Rattle.sail_types.specs.declared.numbers.Num.{Num, roll-Num}
use Rattle.sail_types.specs.declared.numbers.Term.{Term, roll-Term}
use Rattle.sail_types.specs.declared.numbers.Atom.{Atom, out-Atom, roll-Atom}
use Rattle.sail_types.specs.declared.numbers.Atom.TheOpen as A
use Rattle.sail_types.specs.declared.numbers.Atom.TheOpen.{Atom-F, Num-F, Term-F}
use Rattle.sail_types.specs.declared.numbers.Atom.TheFolds.{fold-roll-Atom, fold-roll-Num, fold-roll-Term, para-roll-Atom, map-Atom, map-Num, map-Term, ind-Num}
use Rattle.sail_types.specs.declared.numbers.Atom.TheViews.{roll-out-Atom, roll-out-Num, roll-out-Term}
use Rattle.sail_types.specs.declared.numbers.Con.{Con, Con-F, out-Con, roll-Con, fold-roll-Con, map-Con, ind-Con}
use Rattle.sail_types.specs.declared.numbers.Con.TheOpen as E
use Rattle.sail_types.specs.declared.numbers.Con.TheViews.{roll-out-Con}
use Rattle.sail_types.specs.declared.numbers.Index.{Index}
use Rattle.sail_types.specs.declared.numbers.Index.TheVariants as N
use Rattle.sail_types.proofs.SumNumbers.{weights, number_num, number_term}
use Rattle.sail_types.proofs.Substituted.{number_constant}
use Rattle.wide_types.specs.Widening.{atom_below, sum_below, term_below, is_below, is_atom_below, is_term_below, form_below, is_con_below}
use Rattle.call_arguments.specs.Callees.{index_under}
use Rattle.value_laws.proofs.Basics.{no}
use Rattle.value_laws.proofs.Numbers.{truth_is}

-- the same of variables before one, and of powers past the largest integer
pub record SameBelow (m : ℕ) (mu nu : Assignment) : Type 0 where
  pub ints : (i : ℕ) → i < m → mu.int i ≡ nu.int i
  pub bools : (i : ℕ) → i < m → mu.bool i ≡ nu.bool i
  pub beyonds : (t u : Num) → mu.beyond t ≡ nu.beyond u

module _ (m : ℕ) (one other : Assignment) (same : SameBelow m one other) where
  abbrev SameA : Atom → Type 0
  SameA a = is_atom_below m a ≡ true → number_of_atom one a ≡ number_of_atom other a

  abbrev SameN : Num → Type 0
  SameN n = is_below m n ≡ true → number one n ≡ number other n

  abbrev SameT : Term → Type 0
  SameT t = is_term_below m t ≡ true → number_of_term one t ≡ number_of_term other t

  abbrev SuchA : Type 0
  SuchA = (a : Atom) × SameA a

  abbrev SuchN : Type 0
  SuchN = (n : Num) × SameN n

  abbrev SuchT : Type 0
  SuchT = (t : Term) × SameT t

  atom_as : (nu : Assignment) (x : Atom-F Atom Num Term) → number_of_atom nu (roll-Atom x)
      ≡ atom_number nu (map-Atom Atom Num Term (Atom × ℤ) (Num × ℤ) (Term × ℤ) (λ a. (a, number_of_atom nu a)) (λ n. (n, number nu n))
      (λ t. (t, number_of_term nu t)) x)
  atom_as nu x = para-roll-Atom ℤ ℤ ℤ (atom_number nu) sum_number term_number x

  atom_step : (y : Atom-F SuchA SuchN SuchT) → SameA (roll-Atom (map-Atom SuchA SuchN SuchT Atom Num Term (λ p. p.0) (λ p. p.0) (λ p. p.0) y))
  atom_step (A.Variable i) h =
      atom_as one (A.Variable i)
      ∙ same.ints i (ltb-true i m (sym (fold-roll-Atom Bool Bool Bool (atom_below m) sum_below term_below (A.Variable i)) ∙ h))
      ∙ sym (atom_as other (A.Variable i))
  atom_step (A.Power t) h =
      let e = t.1 (sym (fold-roll-Atom Bool Bool Bool (atom_below m) sum_below term_below (A.Power t.0)) ∙ h) in
      atom_as one (A.Power t.0)
      ∙ (λ j. unwrap_or (small_power (e j)) (same.beyonds t.0 t.0 j).value)
      ∙ sym (atom_as other (A.Power t.0))

  each_same : (ys : List SuchT) → list_all (λ b. b) (map (is_term_below m) (map (λ p. p.0) ys)) ≡ true
      → weights one (map (λ p. p.0) ys) ≡ weights other (map (λ p. p.0) ys)
  each_same [] h = refl
  each_same (y ∷ ys) h =
      let k = and_parts (is_term_below m y.0) (list_all (λ b. b) (map (is_term_below m) (map (λ (p : SuchT). p.0) ys))) h in
      λ j. y.1 k.0 j ∷ each_same ys k.1 j

  num_step : (y : Num-F SuchA SuchN SuchT) → SameN (roll-Num (map-Num SuchA SuchN SuchT Atom Num Term (λ p. p.0) (λ p. p.0) (λ p. p.0) y))
  num_step y h =
      let ts : List Term = map (λ p. p.0) y.terms in
      let x : Num-F Atom Num Term = record { terms = ts; constant = y.constant } in
      number_num one ts y.constant
      ∙ ap (λ zs. total zs +ℤ y.constant) (each_same y.terms (sym (fold-roll-Num Bool Bool Bool (atom_below m) sum_below term_below x) ∙ h))
      ∙ sym (number_num other ts y.constant)

  term_step : (y : Term-F SuchA SuchN SuchT) → SameT (roll-Term (map-Term SuchA SuchN SuchT Atom Num Term (λ p. p.0) (λ p. p.0) (λ p. p.0) y))
  term_step y h =
      let x : Term-F Atom Num Term = record { coefficient = y.coefficient; atom = y.atom.0 } in
      number_term one y.coefficient y.atom.0
      ∙ ap (λ z. y.coefficient *ℤ z) (y.atom.1 (sym (fold-roll-Term Bool Bool Bool (atom_below m) sum_below term_below x) ∙ h))
      ∙ sym (number_term other y.coefficient y.atom.0)

  pub number_below : (n : Num) → is_below m n ≡ true → number one n ≡ number other n
  number_below = ind-Num SameA SameN SameT (λ e y is. subst (λ d. SameA (roll-Atom d)) is (atom_step y))
      (λ e y is. subst (λ d. SameN (roll-Num d)) is (num_step y)) (λ e y is. subst (λ d. SameT (roll-Term d)) is (term_step y))

  -- ---- truths

  abbrev SameC : Con → Type 0
  SameC c = is_con_below m c ≡ true → true_in one c ≡ true_in other c

  abbrev SuchC : Type 0
  SuchC = (c : Con) × SameC c

  each_con : (ys : List SuchC) → list_all (λ b. b) (map (is_con_below m) (map (λ p. p.0) ys)) ≡ true
      → map (true_in one) (map (λ p. p.0) ys) ≡ map (true_in other) (map (λ p. p.0) ys)
  each_con [] h = refl
  each_con (y ∷ ys) h =
      let k = and_parts (is_con_below m y.0) (list_all (λ b. b) (map (is_con_below m) (map (λ (p : SuchC). p.0) ys))) h in
      λ j. y.1 k.0 j ∷ each_con ys k.1 j

  form_same : (y : Con-F SuchC) → form_below m (map-Con Con Bool (is_con_below m) (map-Con SuchC Con (λ p. p.0) y)) ≡ true
      → form_true one (map-Con Con Bool (true_in one) (map-Con SuchC Con (λ p. p.0) y))
      ≡ form_true other (map-Con Con Bool (true_in other) (map-Con SuchC Con (λ p. p.0) y))
  form_same (E.Truth b) h = refl
  form_same (E.Holds i) h = same.bools i (ltb-true i m h)
  form_same (E.Compare how t u) h =
      let k = and_parts (is_below m t) (is_below m u) h in λ j. compares how (number_below t k.0 j) (number_below u k.1 j)
  form_same (E.OneOf t zs) h = ap (λ x. list_any (int_eq x) zs) (number_below t h)
  form_same (E.Not y) h = ap not (y.1 h)
  form_same (E.All ys) h = ap (list_all (λ b. b)) (each_con ys h)
  form_same (E.Any ys) h = ap (list_any (λ b. b)) (each_con ys h)

  rolled_same : (y : Con-F SuchC) → SameC (roll-Con (map-Con SuchC Con (λ p. p.0) y))
  rolled_same y h =
      fold-roll-Con Bool (form_true one) (map-Con SuchC Con (λ p. p.0) y)
      ∙ form_same y (sym (fold-roll-Con Bool (form_below m) (map-Con SuchC Con (λ p. p.0) y)) ∙ h)
      ∙ sym (fold-roll-Con Bool (form_true other) (map-Con SuchC Con (λ p. p.0) y))

  pub truth_below : (c : Con) → is_con_below m c ≡ true → true_in one c ≡ true_in other c
  truth_below = ind-Con SameC (λ e y is. subst (λ d. SameC (roll-Con d)) is (rolled_same y))

  -- ---- what stands inside

  beyond_same : (o p : Option Num) → beyond_of one o ≡ beyond_of other p
  beyond_same (Some t) (Some u) = same.beyonds t u
  beyond_same (Some t) None = same.beyonds t _
  beyond_same None (Some u) = same.beyonds _ u
  beyond_same None None = same.beyonds _ _

  under_ints : (z : ℤ) (i : ℕ) → i < suc m → (under z one).int i ≡ (under z other).int i
  under_ints z zero l = refl
  under_ints z (suc i) l = same.ints i (let k : suc i < suc m = l in omega (arith, k))

  under_bools : (z : ℤ) (i : ℕ) → i < suc m → (under z one).bool i ≡ (under z other).bool i
  under_bools z zero l = refl
  under_bools z (suc i) l = same.bools i (let k : suc i < suc m = l in omega (arith, k))

  -- one binder further in
  pub under_same : (z : ℤ) → SameBelow (suc m) (under z one) (under z other)
  under_same z = record {
    ints = under_ints z;
    bools = under_bools z;
    beyonds = λ t u. beyond_same (substituted (number_under z) t) (substituted (number_under z) u);
  }

  ints_same : (is : List Index) (i : ℕ) → list_all (index_under m) is ≡ true → number one (number_at is i) ≡ number other (number_at is i)
  ints_same [] i h = number_constant one (pos 0) ∙ sym (number_constant other (pos 0))
  ints_same (N.Number t ∷ is) zero h = number_below t (and_parts (is_below m t) (list_all (index_under m) is) h).0
  ints_same (N.Truth c ∷ is) zero h = number_constant one (pos 0) ∙ sym (number_constant other (pos 0))
  ints_same (a ∷ is) (suc i) h = ints_same is i (and_parts (index_under m a) (list_all (index_under m) is) h).1

  bools_same : (is : List Index) (i : ℕ) → list_all (index_under m) is ≡ true → true_in one (truth_at is i) ≡ true_in other (truth_at is i)
  bools_same [] i h = truth_is one false ∙ sym (truth_is other false)
  bools_same (N.Truth c ∷ is) zero h = truth_below c (and_parts (is_con_below m c) (list_all (index_under m) is) h).0
  bools_same (N.Number t ∷ is) zero h = truth_is one false ∙ sym (truth_is other false)
  bools_same (a ∷ is) (suc i) h = bools_same is i (and_parts (index_under m a) (list_all (index_under m) is) h).1

  -- arguments of a named type
  pub assigned_same : (is : List Index) → list_all (index_under m) is ≡ true → assigned one is ≡ assigned other is
  assigned_same is h = λ j. record {
    int = λ i. ints_same is i h j;
    bool = λ i. bools_same is i h j;
    beyond = λ t. beyond_same (read is t) (read is t) j;
  }

-- ---- a number that is a variable alone names no other

form_less : (m : ℕ) (x : Atom-F Atom Num Term) (j : ℕ) → atom_is j x ≡ true → is_atom_below m (roll-Atom x) ≡ true → j < m
form_less m (A.Variable i) j h k =
    subst (λ n. n < m) ((Decides-eqb i j).0 h) (ltb-true i m (sym (fold-roll-Atom Bool Bool Bool (atom_below m) sum_below term_below (A.Variable i)) ∙ k))
form_less m (A.Power t) j h k = no h

term_less : (m : ℕ) (t : Term) (j : ℕ) → (int_eq (coefficient_of t) (pos 1) && atom_is j (out-Atom (atom_of t))) ≡ true → is_term_below m t ≡ true → j < m
term_less m t j h k =
    form_less m (out-Atom (atom_of t)) j (and_parts (int_eq (coefficient_of t) (pos 1)) (atom_is j (out-Atom (atom_of t))) h).1
    (ap (is_atom_below m) (roll-out-Atom (atom_of t))
    ∙ sym (ap (is_term_below m) (sym (roll-out-Term t))
    ∙ fold-roll-Term Bool Bool Bool (atom_below m) sum_below term_below (record { coefficient = coefficient_of t; atom = atom_of t })) ∙ k)

terms_less : (m : ℕ) (ts : List Term) (j : ℕ) → terms_are j ts ≡ true → list_all (λ b. b) (map (is_term_below m) ts) ≡ true → j < m
terms_less m [] j h k = no h
terms_less m (t ∷ []) j h k = term_less m t j h (and_parts (is_term_below m t) true k).0
terms_less m (t ∷ u ∷ ts) j h k = no h

pub variable_less : (m : ℕ) (t : Num) (j : ℕ) → is_variable j t ≡ true → is_below m t ≡ true → j < m
variable_less m t j h k =
    terms_less m (terms_of t) j (and_parts (int_eq (constant_of t) (pos 0)) (terms_are j (terms_of t)) h).1
    (sym (ap (is_below m) (sym (roll-out-Num t))
    ∙ fold-roll-Num Bool Bool Bool (atom_below m) sum_below term_below (record { terms = terms_of t; constant = constant_of t })) ∙ k)

form_con_less : (m : ℕ) (x : Con-F Con) (j : ℕ) → form_is j x ≡ true → is_con_below m (roll-Con x) ≡ true → j < m
form_con_less m (E.Holds i) j h k =
    subst (λ n. n < m) ((Decides-eqb i j).0 h) (ltb-true i m (sym (fold-roll-Con Bool (form_below m) (E.Holds i)) ∙ k))
form_con_less m x j h k = no h

pub truth_less : (m : ℕ) (c : Con) (j : ℕ) → form_is j (out-Con c) ≡ true → is_con_below m c ≡ true → j < m
truth_less m c j h k = form_con_less m (out-Con c) j h (ap (is_con_below m) (roll-out-Con c) ∙ k)
