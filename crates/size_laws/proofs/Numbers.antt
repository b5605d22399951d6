-- A number that is known where its variables are constants is that number, and no variable of it is free.
use Rattle.std.proofs.Common.{◌≡◌, ℕ, ℤ, pos, ◌+ℤ◌, ◌*ℤ◌, ◌≤ℤ◌, int_le, Bool, true, false, List, [], ◌∷◌, map, Option, Some, None, unwrap_or}
use Rattle.std.proofs.Common.{refl, sym, ap, ◌∙◌, subst, if◌then◌else◌, arith}
use Rattle.std.proofs.lemmas.Int.{ints}
use Rattle.sail_types.specs.Limits.{is_small, largest, small_power}
use Rattle.sail_types.specs.Numbers.{Assignment, number, number_of_atom, number_of_term, total, atom_number, term_number, sum_number}
use Rattle.sail_types.specs.Places.{first}
use Rattle.sail_types.proofs.SumNumbers.{some_same, then_parts, weights, number_num, number_term}
use Rattle.sail_types.proofs.Substituted.{atom_power}
use Rattle.sail_types.specs.declared.numbers.Atom.{Atom, roll-Atom}
use Rattle.sail_types.specs.declared.numbers.Atom.TheFolds.{map-Atom, map-Num, map-Term, fold-roll-Atom, fold-roll-Num, fold-roll-Term}
use Rattle.sail_types.specs.declared.numbers.Atom.TheFolds.{para-roll-Atom, ind-Num}
use Rattle.sail_types.specs.declared.numbers.Atom.TheOpen as N
use Rattle.sail_types.specs.declared.numbers.Atom.TheOpen.{Atom-F, Num-F, Term-F}
use Rattle.sail_types.specs.declared.numbers.Atom.TheVariants as A
use Rattle.sail_types.specs.declared.numbers.Num.{Num, roll-Num}
use Rattle.sail_types.specs.declared.numbers.Term.{Term, roll-Term}
use Rattle.value_laws.proofs.Basics.{no}
use Rattle.size_values.specs.declared.constants.Constant.{Constant}
use Rattle.size_values.specs.declared.constants.Constant.TheVariants as C
use Rattle.size_values.specs.Numbers.{added, atom_free, atom_value, constant_under, first_free, first_of, free_in_atom, free_in_term, is_free, number_in, small}
use Rattle.size_values.specs.Numbers.{sum_free, sum_value, term_free, term_value, unless_free, value_of, value_of_atom, value_of_term}

small_is : (x z : ℤ) → small x ≡ Some z → x ≡ z
small_is x z h = by (is_small x) h
  where
    by : (b : Bool) → (if b then Some x else None) ≡ Some z → x ≡ z
    by true e = some_same x z e
    by false e = absurd (cc)

not_free : (c : Constant) (z : ℤ) → number_in c ≡ Some z → is_free c ≡ false
not_free (C.Number y) z h = refl
not_free (C.Open v) z h = absurd (cc)
not_free (C.Bound name) z h = absurd (cc)

module _ (of : ℕ → Constant) (mu : Assignment) (says : (i : ℕ) (z : ℤ) → number_in (of i) ≡ Some z → mu.int i ≡ z) where
  abbrev KeepsA : Atom → Type 0
  KeepsA a = (z : ℤ) → value_of_atom of a ≡ Some z → (number_of_atom mu a ≡ z) × (free_in_atom of a ≡ None)

  abbrev KeepsN : Num → Type 0
  KeepsN n = (z : ℤ) → value_of of n ≡ Some z → (number mu n ≡ z) × (first_free of n ≡ None)

  abbrev KeepsT : Term → Type 0
  KeepsT t = (z : ℤ) → value_of_term of t ≡ Some z → (number_of_term mu t ≡ z) × (free_in_term of t ≡ None)

  abbrev SuchA : Type 0
  SuchA = (a : Atom) × KeepsA a

  abbrev SuchN : Type 0
  SuchN = (n : Num) × KeepsN n

  abbrev SuchT : Type 0
  SuchT = (t : Term) × KeepsT t

  -- what a form is worth, and its first free variable
  atom_worth : (x : Atom-F Atom Num Term) → value_of_atom of (roll-Atom x)
      ≡ atom_value of (map-Atom Atom Num Term (Option ℤ) (Option ℤ) (Option ℤ) (value_of_atom of) (value_of of) (value_of_term of) x)
  atom_worth x = fold-roll-Atom (Option ℤ) (Option ℤ) (Option ℤ) (atom_value of) sum_value term_value x

  atom_frees : (x : Atom-F Atom Num Term) → free_in_atom of (roll-Atom x)
      ≡ atom_free of (map-Atom Atom Num Term (Option ℕ) (Option ℕ) (Option ℕ) (free_in_atom of) (first_free of) (free_in_term of) x)
  atom_frees x = fold-roll-Atom (Option ℕ) (Option ℕ) (Option ℕ) (atom_free of) sum_free term_free x

  atom_step : (y : Atom-F SuchA SuchN SuchT) → KeepsA (roll-Atom (map-Atom SuchA SuchN SuchT Atom Num Term (λ p. p.0) (λ p. p.0) (λ p. p.0) y))
  atom_step (N.Variable i) z h =
      let is : number_in (of i) ≡ Some z = sym (atom_worth (N.Variable i)) ∙ h in (
        para-roll-Atom ℤ ℤ ℤ (atom_number mu) sum_number term_number (N.Variable i) ∙ says i z is,
        atom_frees (N.Variable i) ∙ ap (λ (b : Bool). if b then Some i else None) (not_free (of i) z is),
      )
  atom_step (N.Power t) z h =
      let p = then_parts (value_of of t.0) small_power z (sym (atom_worth (N.Power t.0)) ∙ h) in
      let inner = t.1 p.0 p.1 in (
        ap (number_of_atom mu) (A.rolls-Power t.0) ∙ atom_power mu t.0
            ∙ ap (λ k. unwrap_or (small_power k) (mu.beyond t.0).value) inner.0
            ∙ ap (λ o. unwrap_or o (mu.beyond t.0).value) p.2,
        atom_frees (N.Power t.0) ∙ inner.1,
      )

  abbrev bare : List SuchT → List Term
  bare ys = map (λ (p : SuchT). p.0) ys

  each_added : (ys : List SuchT) (sum z : ℤ) → added sum (map (value_of_term of) (bare ys)) ≡ Some z
      → (sum +ℤ total (weights mu (bare ys)) ≡ z) × (first_of (map (free_in_term of) (bare ys)) ≡ None)
  each_added [] sum z h = let e : sum ≡ z = some_same sum z h in (omega (arith, ints, e), refl)
  each_added (y ∷ ys) sum z h = by (λ s v k. each_added ys s v k) (value_of_term of y.0) refl h
    where
      by : ((s v : ℤ) → added s (map (value_of_term of) (bare ys)) ≡ Some v
          → (s +ℤ total (weights mu (bare ys)) ≡ v) × (first_of (map (free_in_term of) (bare ys)) ≡ None))
          → (o : Option ℤ) → value_of_term of y.0 ≡ o → added sum (o ∷ map (value_of_term of) (bare ys)) ≡ Some z
          → (sum +ℤ total (weights mu (bare (y ∷ ys))) ≡ z) × (first_of (map (free_in_term of) (bare (y ∷ ys))) ≡ None)
      by more None e k = absurd (cc)
      by more (Some x) e k =
          let s = then_parts (small (sum +ℤ x)) (λ w. added w (map (value_of_term of) (bare ys))) z k in
          let one = y.1 x e in
          let rest = more s.0 z s.2 in
          let now : sum +ℤ x ≡ s.0 = small_is (sum +ℤ x) s.0 s.1 in
          let is : number_of_term mu y.0 ≡ x = one.0 in
          let others : s.0 +ℤ total (weights mu (bare ys)) ≡ z = rest.0 in (
            omega (arith, ints, now, is, others),
            ap (λ o. first o (first_of (map (free_in_term of) (bare ys)))) one.1 ∙ rest.1,
          )

  num_step : (y : Num-F SuchA SuchN SuchT) → KeepsN (roll-Num (map-Num SuchA SuchN SuchT Atom Num Term (λ p. p.0) (λ p. p.0) (λ p. p.0) y))
  num_step y z h =
      let ts : List Term = bare y.terms in
      let f : Num-F Atom Num Term = record { terms = ts; constant = y.constant } in
      let p = then_parts (added (pos 0) (map (value_of_term of) ts)) (λ k. small (k +ℤ y.constant)) z
      (sym (fold-roll-Num (Option ℤ) (Option ℤ) (Option ℤ) (atom_value of) sum_value term_value f) ∙ h) in
      let all = each_added y.terms (pos 0) p.0 p.1 in
      let sums : pos 0 +ℤ total (weights mu ts) ≡ p.0 = all.0 in
      let last : p.0 +ℤ y.constant ≡ z = small_is (p.0 +ℤ y.constant) z p.2 in (
        number_num mu ts y.constant ∙ omega (arith, ints, sums, last),
        fold-roll-Num (Option ℕ) (Option ℕ) (Option ℕ) (atom_free of) sum_free term_free f ∙ all.1,
      )

  term_step : (y : Term-F SuchA SuchN SuchT) → KeepsT (roll-Term (map-Term SuchA SuchN SuchT Atom Num Term (λ p. p.0) (λ p. p.0) (λ p. p.0) y))
  term_step y z h =
      let f : Term-F Atom Num Term = record { coefficient = y.coefficient; atom = y.atom.0 } in
      let p = then_parts (value_of_atom of y.atom.0) (λ k. small (y.coefficient *ℤ k)) z
      (sym (fold-roll-Term (Option ℤ) (Option ℤ) (Option ℤ) (atom_value of) sum_value term_value f) ∙ h) in
      let inner = y.atom.1 p.0 p.1 in (
        number_term mu y.coefficient y.atom.0 ∙ ap (λ k. y.coefficient *ℤ k) inner.0 ∙ small_is (y.coefficient *ℤ p.0) z p.2,
        fold-roll-Term (Option ℕ) (Option ℕ) (Option ℕ) (atom_free of) sum_free term_free f ∙ inner.1,
      )

  pub known_number : (n : Num) (z : ℤ) → value_of of n ≡ Some z → (number mu n ≡ z) × (first_free of n ≡ None)
  known_number = ind-Num KeepsA KeepsN KeepsT
      (λ e y is. subst (λ d. KeepsA (roll-Atom d)) is (atom_step y))
      (λ e y is. subst (λ d. KeepsN (roll-Num d)) is (num_step y))
      (λ e y is. subst (λ d. KeepsT (roll-Term d)) is (term_step y))

  pub known_constant : (n : Num) (z : ℤ) → value_of of n ≡ Some z → constant_under of n ≡ C.Number z
  known_constant n z h =
      ap (λ o. unless_free of o (value_of of n)) (known_number n z h).1 ∙ ap (λ o. unless_free of None o) h

-- ---- the first free variable of a number is free

module _ (of : ℕ → Constant) where
  abbrev FreeA : Atom → Type 0
  FreeA a = (i : ℕ) → free_in_atom of a ≡ Some i → is_free (of i) ≡ true

  abbrev FreeN : Num → Type 0
  FreeN n = (i : ℕ) → first_free of n ≡ Some i → is_free (of i) ≡ true

  abbrev FreeT : Term → Type 0
  FreeT t = (i : ℕ) → free_in_term of t ≡ Some i → is_free (of i) ≡ true

  abbrev HasA : Type 0
  HasA = (a : Atom) × FreeA a

  abbrev HasN : Type 0
  HasN = (n : Num) × FreeN n

  abbrev HasT : Type 0
  HasT = (t : Term) × FreeT t

  variable_free : (j i : ℕ) → (if is_free (of j) then Some j else None) ≡ Some i → is_free (of i) ≡ true
  variable_free j i h = by (is_free (of j)) refl h
    where
      by : (b : Bool) → is_free (of j) ≡ b → (if b then Some j else None) ≡ Some i → is_free (of i) ≡ true
      by true e k = subst (λ v. is_free (of v) ≡ true) (some_same j i k) e
      by false e k = absurd (cc)

  free_atom : (y : Atom-F HasA HasN HasT) → FreeA (roll-Atom (map-Atom HasA HasN HasT Atom Num Term (λ p. p.0) (λ p. p.0) (λ p. p.0) y))
  free_atom (N.Variable j) i h =
      variable_free j i (sym (fold-roll-Atom (Option ℕ) (Option ℕ) (Option ℕ) (atom_free of) sum_free term_free (N.Variable j)) ∙ h)
  free_atom (N.Power t) i h =
      t.1 i (sym (fold-roll-Atom (Option ℕ) (Option ℕ) (Option ℕ) (atom_free of) sum_free term_free (N.Power t.0)) ∙ h)

  one_of_them : (ys : List HasT) (i : ℕ) → first_of (map (free_in_term of) (map (λ (p : HasT). p.0) ys)) ≡ Some i → is_free (of i) ≡ true
  one_of_them [] i h = absurd (cc)
  one_of_them (y ∷ ys) i h = by (λ k. one_of_them ys i k) (free_in_term of y.0) refl h
    where
      by : (first_of (map (free_in_term of) (map (λ (p : HasT). p.0) ys)) ≡ Some i → is_free (of i) ≡ true)
          → (o : Option ℕ) → free_in_term of y.0 ≡ o → first o (first_of (map (free_in_term of) (map (λ (p : HasT). p.0) ys))) ≡ Some i
          → is_free (of i) ≡ true
      by more None e k = more k
      by more (Some j) e k = y.1 i (e ∙ k)

  free_num : (y : Num-F HasA HasN HasT) → FreeN (roll-Num (map-Num HasA HasN HasT Atom Num Term (λ p. p.0) (λ p. p.0) (λ p. p.0) y))
  free_num y i h =
      let f : Num-F Atom Num Term = record { terms = map (λ (p : HasT). p.0) y.terms; constant = y.constant } in
      one_of_them y.terms i (sym (fold-roll-Num (Option ℕ) (Option ℕ) (Option ℕ) (atom_free of) sum_free term_free f) ∙ h)

  free_term : (y : Term-F HasA HasN HasT) → FreeT (roll-Term (map-Term HasA HasN HasT Atom Num Term (λ p. p.0) (λ p. p.0) (λ p. p.0) y))
  free_term y i h =
      let f : Term-F Atom Num Term = record { coefficient = y.coefficient; atom = y.atom.0 } in
      y.atom.1 i (sym (fold-roll-Term (Option ℕ) (Option ℕ) (Option ℕ) (atom_free of) sum_free term_free f) ∙ h)

  free_there : (n : Num) (i : ℕ) → first_free of n ≡ Some i → is_free (of i) ≡ true
  free_there = ind-Num FreeA FreeN FreeT
      (λ e y is. subst (λ d. FreeA (roll-Atom d)) is (free_atom y))
      (λ e y is. subst (λ d. FreeN (roll-Num d)) is (free_num y))
      (λ e y is. subst (λ d. FreeT (roll-Term d)) is (free_term y))

  -- a constant below the largest integer is known: one past it counts as that
  pub below_known : (t : Num) (z : ℤ) → constant_under of t ≡ C.Number z → int_le (pos largest) z ≡ false → (y : ℤ) × (value_of of t ≡ Some y)
  below_known t z h less = by (first_free of t) refl (value_of of t) refl h
    where
      by : (o : Option ℕ) → first_free of t ≡ o → (v : Option ℤ) → value_of of t ≡ v → unless_free of o v ≡ C.Number z → (y : ℤ) × (value_of of t ≡ Some y)
      by None e (Some y) k g = (y, k)
      by None e None k g =
          let q : pos largest ≡ z = some_same (pos largest) z (ap number_in g) in
          absurd (omega (arith, ints, q, less))
      by (Some i) e v k g = no (sym (ap is_free g) ∙ free_there t i e)

  -- a constant within the limits of sizes is known: one past the largest integer counts as that
  pub within_known : (t : Num) (z : ℤ) → constant_under of t ≡ C.Number z → z ≤ℤ pos 4096 → (y : ℤ) × (value_of of t ≡ Some y)
  unfolding largest
  within_known t z h most = by (first_free of t) refl (value_of of t) refl h
    where
      by : (o : Option ℕ) → first_free of t ≡ o → (v : Option ℤ) → value_of of t ≡ v → unless_free of o v ≡ C.Number z → (y : ℤ) × (value_of of t ≡ Some y)
      by None e (Some y) k g = (y, k)
      by None e None k g =
          let q : pos largest ≡ z = some_same (pos largest) z (ap number_in g) in
          absurd (omega (arith, ints, q, most))
      by (Some i) e v k g = no (sym (ap is_free g) ∙ free_there t i e)
