-- A condition with a variable that isn't constant has no truth.
use Rattle.std.proofs.Common.{◌≡◌, ◌∙◌, ap, sym, refl, subst, ℕ, Bool, true, false, ◌&&◌, ◌||◌, List, [], ◌∷◌, map, pos}
use Rattle.std.specs.Prelude.{ℤ, ◌+ℤ◌, ◌*ℤ◌, not, Option, Some, None, option_map, if◌then◌else◌}
use Rattle.std.specs.List.{list_all, list_any}
use Rattle.std.specs.Ordering.{int_eq}
use Rattle.sail_types.specs.Limits.{small_power}
use Rattle.sail_types.specs.Numbers.{compares}
use Rattle.sail_types.specs.Places.{first}
use Rattle.sail_types.specs.Sums.{and_then}
use Rattle.sail_types.specs.declared.numbers.Num.{Num, roll-Num}
use Rattle.sail_types.specs.declared.numbers.Term.{Term, roll-Term}
use Rattle.sail_types.specs.declared.numbers.Atom.{Atom, roll-Atom}
use Rattle.sail_types.specs.declared.numbers.Atom.TheOpen as N
use Rattle.sail_types.specs.declared.numbers.Atom.TheOpen.{Atom-F, Num-F, Term-F}
use Rattle.sail_types.specs.declared.numbers.Atom.TheFolds.{fold-roll-Atom, fold-roll-Num, fold-roll-Term, map-Atom, map-Num, map-Term, ind-Num}
use Rattle.sail_types.specs.declared.numbers.Con.{Con, Con-F, roll-Con, fold-roll-Con, map-Con, ind-Con}
use Rattle.sail_types.specs.declared.numbers.Con.TheOpen as E
use Rattle.size_values.specs.declared.constants.Constant.{Constant}
use Rattle.size_values.specs.Numbers.{added, atom_free, atom_value, every, first_free, first_of, form_truth, free_in_atom, free_in_term}
use Rattle.size_values.specs.Numbers.{is_free, number_in, small, some, sum_free, sum_value, term_free, term_value}
use Rattle.size_values.specs.Numbers.{truth_of, value_of, value_of_atom, value_of_term}
use Rattle.size_splits.specs.Telling.{all_constant, form_constant, is_constant, is_none}

chosen : (b : Bool) (i : ℕ) → is_none (if b then Some i else None) ≡ false → b ≡ true
chosen true i h = refl
chosen false i h = absurd (cc)

-- ---- sums

small_then : (o : Option ℤ) (os : List (Option ℤ)) → ((z : ℤ) → added z os ≡ None) → and_then o (λ z. added z os) ≡ None
small_then None os h = refl
small_then (Some z) os h = h z

one_before : (o : Option ℤ) (os : List (Option ℤ)) → ((z : ℤ) → added z os ≡ None) → (z : ℤ) → added z (o ∷ os) ≡ None
one_before None os h z = refl
one_before (Some y) os h z = small_then (small (z +ℤ y)) os h

one_or_rest : (o p : Option ℕ) (v : Option ℤ) (vs : List (Option ℤ)) → is_none (first o p) ≡ false → (is_none o ≡ false → v ≡ None)
    → (is_none p ≡ false → (z : ℤ) → added z vs ≡ None) → (z : ℤ) → added z (v ∷ vs) ≡ None
one_or_rest (Some i) p v vs h f g z = ap (λ (o : Option ℤ). added z (o ∷ vs)) (f refl)
one_or_rest None p v vs h f g z = one_before v vs (g h) z

-- ---- conditions

neither : {A B : Type 0} (b c : Bool) (o : Option A) (p : Option B) (f : A → B → Bool) → (b && c) ≡ false → (b ≡ false → o ≡ None)
    → (c ≡ false → p ≡ None) → and_then o (λ x. option_map (f x) p) ≡ None
neither false c o p f h g k = ap (λ q. and_then q (λ x. option_map (f x) p)) (g refl)
neither true c None p f h g k = refl
neither true c (Some x) p f h g k = ap (option_map (f x)) (k h)

both_before : (b c : Bool) (o : Option Bool) (os : List (Option Bool)) → (b && c) ≡ false → (b ≡ false → o ≡ None)
    → (c ≡ false → (d : Bool) → every d os ≡ None) → (d : Bool) → every d (o ∷ os) ≡ None
both_before false c o os h f g d = ap (λ q. every d (q ∷ os)) (f refl)
both_before true c None os h f g d = refl
both_before true c (Some e) os h f g d = g h (d && e)

one_of_before : (b c : Bool) (o : Option Bool) (os : List (Option Bool)) → (b && c) ≡ false → (b ≡ false → o ≡ None)
    → (c ≡ false → (d : Bool) → some d os ≡ None) → (d : Bool) → some d (o ∷ os) ≡ None
one_of_before false c o os h f g d = ap (λ q. some d (q ∷ os)) (f refl)
one_of_before true c None os h f g d = refl
one_of_before true c (Some e) os h f g d = g h (d || e)

-- where what isn't constant has no number
module _ (of with : ℕ → Constant) (unknown : (v : ℕ) → is_free (of v) ≡ true → number_in (with v) ≡ None) where
  abbrev SilentA : Atom → Type 0
  SilentA a = is_none (free_in_atom of a) ≡ false → value_of_atom with a ≡ None

  abbrev SilentN : Num → Type 0
  SilentN n = is_none (first_free of n) ≡ false → value_of with n ≡ None

  abbrev SilentT : Term → Type 0
  SilentT t = is_none (free_in_term of t) ≡ false → value_of_term with t ≡ None

  abbrev SuchA : Type 0
  SuchA = (a : Atom) × SilentA a

  abbrev SuchN : Type 0
  SuchN = (n : Num) × SilentN n

  abbrev SuchT : Type 0
  SuchT = (t : Term) × SilentT t

  free_atom : (f : Atom-F Atom Num Term) → free_in_atom of (roll-Atom f)
      ≡ atom_free of (map-Atom Atom Num Term (Option ℕ) (Option ℕ) (Option ℕ) (free_in_atom of) (first_free of) (free_in_term of) f)
  free_atom f = fold-roll-Atom (Option ℕ) (Option ℕ) (Option ℕ) (atom_free of) sum_free term_free f

  valued_atom : (f : Atom-F Atom Num Term) → value_of_atom with (roll-Atom f)
      ≡ atom_value with (map-Atom Atom Num Term (Option ℤ) (Option ℤ) (Option ℤ) (value_of_atom with) (value_of with) (value_of_term with) f)
  valued_atom f = fold-roll-Atom (Option ℤ) (Option ℤ) (Option ℤ) (atom_value with) sum_value term_value f

  atom_step : (y : Atom-F SuchA SuchN SuchT) → SilentA (roll-Atom (map-Atom SuchA SuchN SuchT Atom Num Term (λ p. p.0) (λ p. p.0) (λ p. p.0) y))
  atom_step (N.Variable i) h =
      valued_atom (N.Variable i) ∙ unknown i (chosen (is_free (of i)) i (sym (ap is_none (free_atom (N.Variable i))) ∙ h))
  atom_step (N.Power t) h =
      valued_atom (N.Power t.0) ∙ ap (λ o. and_then o small_power) (t.1 (sym (ap is_none (free_atom (N.Power t.0))) ∙ h))

  each_silent : (ys : List SuchT) → is_none (first_of (map (free_in_term of) (map (λ p. p.0) ys))) ≡ false
      → (z : ℤ) → added z (map (value_of_term with) (map (λ p. p.0) ys)) ≡ None
  each_silent [] h z = absurd (cc)
  each_silent (y ∷ ys) h z =
      one_or_rest (free_in_term of y.0) (first_of (map (free_in_term of) (map (λ (p : SuchT). p.0) ys))) (value_of_term with y.0)
      (map (value_of_term with) (map (λ (p : SuchT). p.0) ys)) h y.1 (each_silent ys) z

  num_step : (y : Num-F SuchA SuchN SuchT) → SilentN (roll-Num (map-Num SuchA SuchN SuchT Atom Num Term (λ p. p.0) (λ p. p.0) (λ p. p.0) y))
  num_step y h =
      let f : Num-F Atom Num Term = record { terms = map (λ p. p.0) y.terms; constant = y.constant } in
      fold-roll-Num (Option ℤ) (Option ℤ) (Option ℤ) (atom_value with) sum_value term_value f
      ∙ ap (λ o. and_then o (λ z. small (z +ℤ y.constant)))
      (each_silent y.terms (sym (ap is_none (fold-roll-Num (Option ℕ) (Option ℕ) (Option ℕ) (atom_free of) sum_free term_free f)) ∙ h) (pos 0))

  term_step : (y : Term-F SuchA SuchN SuchT) → SilentT (roll-Term (map-Term SuchA SuchN SuchT Atom Num Term (λ p. p.0) (λ p. p.0) (λ p. p.0) y))
  term_step y h =
      let f : Term-F Atom Num Term = record { coefficient = y.coefficient; atom = y.atom.0 } in
      fold-roll-Term (Option ℤ) (Option ℤ) (Option ℤ) (atom_value with) sum_value term_value f
      ∙ ap (λ o. and_then o (λ z. small (y.coefficient *ℤ z)))
      (y.atom.1 (sym (ap is_none (fold-roll-Term (Option ℕ) (Option ℕ) (Option ℕ) (atom_free of) sum_free term_free f)) ∙ h))

  silent_number : (n : Num) → SilentN n
  silent_number = ind-Num SilentA SilentN SilentT (λ e y is. subst (λ d. SilentA (roll-Atom d)) is (atom_step y))
      (λ e y is. subst (λ d. SilentN (roll-Num d)) is (num_step y)) (λ e y is. subst (λ d. SilentT (roll-Term d)) is (term_step y))

  -- ---- conditions

  abbrev SilentC : Con → Type 0
  SilentC c = all_constant of c ≡ false → truth_of with c ≡ None

  abbrev SuchC : Type 0
  SuchC = (c : Con) × SilentC c

  each_every : (ys : List SuchC) → list_all (λ b. b) (map (all_constant of) (map (λ p. p.0) ys)) ≡ false
      → (d : Bool) → every d (map (truth_of with) (map (λ p. p.0) ys)) ≡ None
  each_every [] h d = absurd (cc)
  each_every (y ∷ ys) h d =
      both_before (all_constant of y.0) (list_all (λ b. b) (map (all_constant of) (map (λ (p : SuchC). p.0) ys))) (truth_of with y.0)
      (map (truth_of with) (map (λ (p : SuchC). p.0) ys)) h y.1 (each_every ys) d

  each_some : (ys : List SuchC) → list_all (λ b. b) (map (all_constant of) (map (λ p. p.0) ys)) ≡ false
      → (d : Bool) → some d (map (truth_of with) (map (λ p. p.0) ys)) ≡ None
  each_some [] h d = absurd (cc)
  each_some (y ∷ ys) h d =
      one_of_before (all_constant of y.0) (list_all (λ b. b) (map (all_constant of) (map (λ (p : SuchC). p.0) ys))) (truth_of with y.0)
      (map (truth_of with) (map (λ (p : SuchC). p.0) ys)) h y.1 (each_some ys) d

  form_silent : (y : Con-F SuchC) → form_constant of (map-Con Con Bool (all_constant of) (map-Con SuchC Con (λ p. p.0) y)) ≡ false
      → form_truth with (map-Con Con (Option Bool) (truth_of with) (map-Con SuchC Con (λ p. p.0) y)) ≡ None
  form_silent (E.Truth b) h = absurd (cc)
  form_silent (E.Holds p) h = refl
  form_silent (E.Compare how t u) h =
      neither (is_constant of t) (is_constant of u) (value_of with t) (value_of with u) (compares how) h (silent_number t) (silent_number u)
  form_silent (E.OneOf t zs) h = ap (option_map (λ x. list_any (int_eq x) zs)) (silent_number t h)
  form_silent (E.Not y) h = ap (option_map not) (y.1 h)
  form_silent (E.All ys) h = each_every ys h true
  form_silent (E.Any ys) h = each_some ys h false

  rolled_silent : (y : Con-F SuchC) → SilentC (roll-Con (map-Con SuchC Con (λ p. p.0) y))
  rolled_silent y h =
      fold-roll-Con (Option Bool) (form_truth with) (map-Con SuchC Con (λ p. p.0) y)
      ∙ form_silent y (sym (fold-roll-Con Bool (form_constant of) (map-Con SuchC Con (λ p. p.0) y)) ∙ h)

  pub silent : (c : Con) → SilentC c
  silent = ind-Con SilentC (λ e y is. subst (λ d. SilentC (roll-Con d)) is (rolled_silent y))
