-- A condition over a function's own variables hangs on what they stand for alone.
use Rattle.std.proofs.Common.{◌≡◌, ◌∙◌, ap, sym, refl, subst, ℕ, zero, suc, ◌+◌, arith, ℤ, Bool, true, List, [], ◌∷◌, map, Some}
use Rattle.std.specs.Prelude.{◌+ℤ◌, ◌*ℤ◌, not, unwrap_or}
use Rattle.std.specs.List.{list_all, list_any}
use Rattle.std.specs.Ordering.{int_eq}
use Rattle.std.proofs.lemmas.Bool.{and_parts}
use Rattle.sail_base.specs.declared.kind.Kind.{Kind}
use Rattle.sail_base.specs.declared.kind.Kind.TheVariants as K
use Rattle.sail_types.specs.Belongs.{assigned}
use Rattle.sail_types.specs.Limits.{small_power}
use Rattle.sail_types.specs.Numbers.{Assignment, Positive, atom_number, compares, form_true, number, number_of_atom, number_of_term, sum_number}
use Rattle.sail_types.specs.Numbers.{term_number, total, true_in}
use Rattle.sail_types.specs.Readings.{truth_at, truth_or_false}
use Rattle.sail_types.specs.Sums.{number_at, number_or_zero, read}
use Rattle.sail_types.specs.declared.numbers.Atom.{Atom, roll-Atom}
use Rattle.sail_types.specs.declared.numbers.Atom.TheOpen as N
use Rattle.sail_types.specs.declared.numbers.Atom.TheOpen.{Atom-F, Num-F, Term-F}
use Rattle.sail_types.specs.declared.numbers.Atom.TheFolds.{fold-roll-Atom, fold-roll-Num, fold-roll-Term, para-roll-Atom, map-Atom, map-Num, map-Term}
use Rattle.sail_types.specs.declared.numbers.Atom.TheFolds.{ind-Num}
use Rattle.sail_types.specs.declared.numbers.Con.{Con, Con-F, roll-Con, fold-roll-Con, map-Con, ind-Con}
use Rattle.sail_types.specs.declared.numbers.Con.TheOpen as C
use Rattle.sail_types.specs.declared.numbers.Num.{Num, roll-Num}
use Rattle.sail_types.specs.declared.numbers.Term.{Term, roll-Term}
use Rattle.sail_types.specs.declared.table.Parameter.{Parameter}
use Rattle.sail_types.proofs.SumNumbers.{weights, number_num, number_term}
use Rattle.sail_core.specs.declared.model.Function.{Function}
use Rattle.value_laws.specs.Belonging.{Integers, standing}
use Rattle.value_laws.proofs.Numbers.{beyond_past, holds_is, variable_is}
use Rattle.call_fits.specs.Calls.{own_variables, variable_index}
use Rattle.soundness_steps.specs.Works.{Setting}
use Rattle.soundness_steps.specs.Calls.{inside}
use Rattle.soundness_calls.specs.Premises.{OwnSame}
use Rattle.soundness_calls.proofs.Own.{own_assigned, same_from}
use Rattle.whole_runs.specs.Own.{all_of, atom_own, atom_owns, form_owns, is_integer, is_own, is_truth, kind_at, number_own, sum_owns, term_own, term_owns}

module _ (ps : List Parameter) (mu nu : Assignment) (ints : (v : ℕ) → is_integer (kind_at ps v) ≡ true → mu.int v ≡ nu.int v)
    (bools : (v : ℕ) → is_truth (kind_at ps v) ≡ true → mu.bool v ≡ nu.bool v) (far : (t : Num) → mu.beyond t ≡ nu.beyond t) where
  abbrev SameA : Atom → Type 0
  SameA a = atom_own ps a ≡ true → number_of_atom mu a ≡ number_of_atom nu a

  abbrev SameN : Num → Type 0
  SameN n = number_own ps n ≡ true → number mu n ≡ number nu n

  abbrev SameT : Term → Type 0
  SameT t = term_own ps t ≡ true → number_of_term mu t ≡ number_of_term nu t

  abbrev SuchA : Type 0
  SuchA = (a : Atom) × SameA a

  abbrev SuchN : Type 0
  SuchN = (n : Num) × SameN n

  abbrev SuchT : Type 0
  SuchT = (t : Term) × SameT t

  owns_atom : (y : Atom-F Atom Num Term)
      → atom_own ps (roll-Atom y) ≡ atom_owns ps (map-Atom Atom Num Term Bool Bool Bool (atom_own ps) (number_own ps) (term_own ps) y)
  owns_atom y = fold-roll-Atom Bool Bool Bool (atom_owns ps) (sum_owns ps) (term_owns ps) y

  atom_is : (ro : Assignment) (y : Atom-F Atom Num Term) → number_of_atom ro (roll-Atom y)
      ≡ atom_number ro (map-Atom Atom Num Term (Atom × ℤ) (Num × ℤ) (Term × ℤ) (λ a. (a, number_of_atom ro a)) (λ n. (n, number ro n))
      (λ t. (t, number_of_term ro t)) y)
  atom_is ro y = para-roll-Atom ℤ ℤ ℤ (atom_number ro) sum_number term_number y

  atom_step : (y : Atom-F SuchA SuchN SuchT) → SameA (roll-Atom (map-Atom SuchA SuchN SuchT Atom Num Term (λ p. p.0) (λ p. p.0) (λ p. p.0) y))
  atom_step (N.Variable i) e = atom_is mu (N.Variable i) ∙ ints i (sym (owns_atom (N.Variable i)) ∙ e) ∙ sym (atom_is nu (N.Variable i))
  atom_step (N.Power t) e =
      let one : number mu t.0 ≡ number nu t.0 = t.1 (sym (owns_atom (N.Power t.0)) ∙ e) in
      atom_is mu (N.Power t.0) ∙ (λ j. unwrap_or (small_power (one j)) (far t.0 j).value) ∙ sym (atom_is nu (N.Power t.0))

  each_same : (ys : List SuchT) → all_of (map (term_own ps) (map (λ (p : SuchT). p.0) ys)) ≡ true
      → total (weights mu (map (λ (p : SuchT). p.0) ys)) ≡ total (weights nu (map (λ (p : SuchT). p.0) ys))
  each_same [] e = refl
  each_same (y ∷ ys) e =
      let both = and_parts (term_own ps y.0) (all_of (map (term_own ps) (map (λ (p : SuchT). p.0) ys))) e in
      let one : number_of_term mu y.0 ≡ number_of_term nu y.0 = y.1 both.0 in
      let more : total (weights mu (map (λ (p : SuchT). p.0) ys)) ≡ total (weights nu (map (λ (p : SuchT). p.0) ys)) = each_same ys both.1 in
      λ j. one j +ℤ more j

  num_step : (y : Num-F SuchA SuchN SuchT) → SameN (roll-Num (map-Num SuchA SuchN SuchT Atom Num Term (λ p. p.0) (λ p. p.0) (λ p. p.0) y))
  num_step y e =
      let ts : List Term = map (λ (p : SuchT). p.0) y.terms in
      let has = fold-roll-Num Bool Bool Bool (atom_owns ps) (sum_owns ps) (term_owns ps) (record { terms = ts; constant = y.constant }) in
      number_num mu ts y.constant ∙ ap (λ z. z +ℤ y.constant) (each_same y.terms (sym has ∙ e)) ∙ sym (number_num nu ts y.constant)

  term_step : (y : Term-F SuchA SuchN SuchT) → SameT (roll-Term (map-Term SuchA SuchN SuchT Atom Num Term (λ p. p.0) (λ p. p.0) (λ p. p.0) y))
  term_step y e =
      let has = fold-roll-Term Bool Bool Bool (atom_owns ps) (sum_owns ps) (term_owns ps) (record { coefficient = y.coefficient; atom = y.atom.0 }) in
      number_term mu y.coefficient y.atom.0 ∙ ap (λ z. y.coefficient *ℤ z) (y.atom.1 (sym has ∙ e)) ∙ sym (number_term nu y.coefficient y.atom.0)

  number_same : (n : Num) → SameN n
  number_same = ind-Num SameA SameN SameT (λ e y is. subst (λ d. SameA (roll-Atom d)) is (atom_step y))
      (λ e y is. subst (λ d. SameN (roll-Num d)) is (num_step y)) (λ e y is. subst (λ d. SameT (roll-Term d)) is (term_step y))

  -- ---- conditions

  abbrev SameC : Con → Type 0
  SameC c = is_own ps c ≡ true → true_in mu c ≡ true_in nu c

  abbrev SuchC : Type 0
  SuchC = (c : Con) × SameC c

  abbrev conditions_of : List SuchC → List Con
  conditions_of ys = map (λ (p : SuchC). p.0) ys

  all_same : (ys : List SuchC) → all_of (map (is_own ps) (conditions_of ys)) ≡ true
      → map (true_in mu) (conditions_of ys) ≡ map (true_in nu) (conditions_of ys)
  all_same [] e = refl
  all_same (y ∷ ys) e =
      let both = and_parts (is_own ps y.0) (all_of (map (is_own ps) (conditions_of ys))) e in
      let one : true_in mu y.0 ≡ true_in nu y.0 = y.1 both.0 in
      let more : map (true_in mu) (conditions_of ys) ≡ map (true_in nu) (conditions_of ys) = all_same ys both.1 in
      λ j. one j ∷ more j

  abbrev bare : Con-F SuchC → Con-F Con
  bare y = map-Con SuchC Con (λ p. p.0) y

  form_same : (y : Con-F SuchC) → form_owns ps (map-Con Con Bool (is_own ps) (bare y)) ≡ true
      → form_true mu (map-Con Con Bool (true_in mu) (bare y)) ≡ form_true nu (map-Con Con Bool (true_in nu) (bare y))
  form_same (C.Truth b) e = refl
  form_same (C.Holds i) e = bools i e
  form_same (C.Compare how t u) e =
      let both = and_parts (number_own ps t) (number_own ps u) e in
      let left : number mu t ≡ number nu t = number_same t both.0 in
      let right : number mu u ≡ number nu u = number_same u both.1 in
      λ j. compares how (left j) (right j)
  form_same (C.OneOf t zs) e = ap (λ z. list_any (int_eq z) zs) (number_same t e)
  form_same (C.Not y) e = ap not (y.1 e)
  form_same (C.All ys) e = ap (list_all (λ b. b)) (all_same ys e)
  form_same (C.Any ys) e = ap (list_any (λ b. b)) (all_same ys e)

  rolled_same : (y : Con-F SuchC) → SameC (roll-Con (bare y))
  rolled_same y e =
      let has = fold-roll-Con Bool (form_owns ps) (bare y) in
      fold-roll-Con Bool (form_true mu) (bare y) ∙ form_same y (sym has ∙ e) ∙ sym (fold-roll-Con Bool (form_true nu) (bare y))

  truth_same : (c : Con) → SameC c
  truth_same = ind-Con SameC (λ e y is. subst (λ d. SameC (roll-Con d)) is (rolled_same y))

-- ---- what a function's variables stand for inside it

module _ (past : Positive) (g : Integers) where
  one_integer : (kind : Kind) (k : ℕ) → is_integer (Some kind) ≡ true → number (standing past g) (number_or_zero (Some (variable_index kind k))) ≡ g k
  one_integer K.Int k e = variable_is past g k
  one_integer K.Bool k e = absurd (cc)
  one_integer K.Type k e = absurd (cc)

  one_truth : (kind : Kind) (k : ℕ) → is_truth (Some kind) ≡ true
      → true_in (standing past g) (truth_or_false (Some (variable_index kind k))) ≡ (standing past g).bool k
  one_truth K.Int k e = absurd (cc)
  one_truth K.Bool k e = holds_is (standing past g) k
  one_truth K.Type k e = absurd (cc)

  integer_at : (ps : List Parameter) (k v : ℕ) → is_integer (kind_at ps v) ≡ true
      → number (standing past g) (number_at (own_variables k ps) v) ≡ g (k + v)
  integer_at [] k v e = absurd (cc)
  integer_at (p ∷ ps) k zero e = let same : k ≡ k + 0 = omega arith in one_integer p.kind k e ∙ ap g same
  integer_at (p ∷ ps) k (suc v) e = let same : suc k + v ≡ k + suc v = omega arith in integer_at ps (suc k) v e ∙ ap g same

  truth_in_place : (ps : List Parameter) (k v : ℕ) → is_truth (kind_at ps v) ≡ true
      → true_in (standing past g) (truth_at (own_variables k ps) v) ≡ (standing past g).bool (k + v)
  truth_in_place [] k v e = absurd (cc)
  truth_in_place (p ∷ ps) k zero e = let same : k ≡ k + 0 = omega arith in one_truth p.kind k e ∙ ap (standing past g).bool same
  truth_in_place (p ∷ ps) k (suc v) e =
      let same : suc k + v ≡ k + suc v = omega arith in truth_in_place ps (suc k) v e ∙ ap (standing past g).bool same

  from_first : (v : ℕ) → 0 + v ≡ v
  from_first v = omega arith

  outside_same : (ps : List Parameter) (c : Con) → is_own ps c ≡ true
      → true_in (assigned (standing past g) (own_variables 0 ps)) c ≡ true_in (standing past g) c
  outside_same ps c e =
      truth_same ps (assigned (standing past g) (own_variables 0 ps)) (standing past g) (λ v k. integer_at ps 0 v k ∙ ap g (from_first v))
      (λ v k. truth_in_place ps 0 v k ∙ ap (standing past g).bool (from_first v))
      (λ t. beyond_past past g (read (own_variables 0 ps) t)) c e

pub constraint_stands : (set : Setting) (f : Function) → is_own f.variables f.constraint ≡ true → (h g : Integers) → OwnSame f h g
    → true_in (inside set f h) f.constraint ≡ true → true_in (standing set.past g) f.constraint ≡ true
constraint_stands set f own h g same e =
    sym (outside_same set.past g f.variables f.constraint own)
    ∙ ap (λ mu. true_in mu f.constraint) (own_assigned set.past h g f.variables (same_from f h g same)) ∙ e
