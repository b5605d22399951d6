-- What is known under the numbers of an instance is known under those of a call of it.
use Rattle.std.proofs.Common.{◌≡◌, ◌∙◌, ap, sym, refl, subst, ℕ, zero, suc, ℤ, pos, ◌+ℤ◌, ◌*ℤ◌, Bool, true, false, List, [], ◌∷◌, map, slice_get}
use Rattle.std.specs.Prelude.{Option, Some, None, option_map}
use Rattle.std.proofs.lemmas.Bool.{and_parts}
use Rattle.std.proofs.lemmas.Bool.Decides.{Decides-int_eq}
use Rattle.sail_types.specs.Limits.{small_power}
use Rattle.sail_types.specs.Places.{Given, a_bool, an_int}
use Rattle.sail_types.specs.Sums.{and_then}
use Rattle.sail_types.specs.declared.numbers.Num.{Num, roll-Num}
use Rattle.sail_types.specs.declared.numbers.Term.{Term, roll-Term}
use Rattle.sail_types.specs.declared.numbers.Atom.{Atom, roll-Atom}
use Rattle.sail_types.specs.declared.numbers.Atom.TheOpen as N
use Rattle.sail_types.specs.declared.numbers.Atom.TheOpen.{Atom-F, Num-F, Term-F}
use Rattle.sail_types.specs.declared.numbers.Atom.TheFolds.{fold-Atom, fold-Term, fold-roll-Atom, fold-roll-Num, fold-roll-Term, map-Atom, map-Num}
use Rattle.sail_types.specs.declared.numbers.Atom.TheFolds.{map-Term, ind-Num}
use Rattle.sail_types.proofs.SumNumbers.{then_parts}
use Rattle.sail_core.specs.Numbers.{Givens, agrees, all_agree, given_int, known, known_atom, known_sum, known_term}
use Rattle.sail_core.specs.Numbers as Core
use Rattle.value_laws.proofs.Basics.{no}
use Rattle.split_laws.proofs.Basics.{none}
use Rattle.size_values.specs.declared.constants.Constant.{Constant}
use Rattle.size_values.specs.Numbers.{added, atom_value, known_at, known_of, number_in, or_open, small, sum_value, term_value, value_of, value_of_atom}
use Rattle.size_values.specs.Numbers.{value_of_term}
use Rattle.lowered_laws.specs.KnownLaws.{SizesKnown}

-- ---- variables

one_known : (k : ℕ) (o : Option ℤ) (y : Given) (z : ℤ) → agrees (option_map an_int o) y ≡ true → number_in (or_open k o) ≡ Some z
    → given_int (Some y) ≡ Some z
one_known k None y z a h = none h
one_known k (Some x) (an_int y) z a h = ap (λ (w : ℤ). Some w) (sym ((Decides-int_eq x y).0 a)) ∙ h
one_known k (Some x) (a_bool b) z a h = no a

-- from one on that the instance has first
variable_known : (k : ℕ) (zs : List (Option ℤ)) (nu : Givens) → all_agree (map (option_map an_int) zs) nu ≡ true → (i : ℕ) (z : ℤ)
    → number_in (or_open k (known_of zs i)) ≡ Some z → given_int (slice_get nu i) ≡ Some z
variable_known k [] nu a i z h = none h
variable_known k (o ∷ zs) [] a i z h = no a
variable_known k (o ∷ zs) (y ∷ nu) a zero z h =
    one_known k o y z (and_parts (agrees (option_map an_int o) y) (all_agree (map (option_map an_int) zs) nu) a).0 h
variable_known k (o ∷ zs) (y ∷ nu) a (suc i) z h =
    variable_known k zs nu (and_parts (agrees (option_map an_int o) y) (all_agree (map (option_map an_int) zs) nu) a).1 i z h

-- ---- numbers

one_found : (o : Option ℤ) (os : List (Option ℤ)) (s z : ℤ) → added s (o ∷ os) ≡ Some z
    → (x : ℤ) × (o ≡ Some x) × (t : ℤ) × (small (s +ℤ x) ≡ Some t) × (added t os ≡ Some z)
one_found None os s z h = none h
one_found (Some x) os s z h =
    let p = then_parts (small (s +ℤ x)) (λ w. added w os) z h in
    (x, refl, p.0, p.1, p.2)

module _ (zs : List (Option ℤ)) (nu : Givens) (agree : all_agree (map (option_map an_int) zs) nu ≡ true) where
  abbrev of : ℕ → Constant
  of = known_at (known_of zs)

  abbrev atom_known : Atom → Option ℤ
  atom_known = fold-Atom (Option ℤ) (Option ℤ) (Option ℤ) (known_atom nu) known_sum known_term

  abbrev term_known : Term → Option ℤ
  term_known = fold-Term (Option ℤ) (Option ℤ) (Option ℤ) (known_atom nu) known_sum known_term

  abbrev KeepsA : Atom → Type 0
  KeepsA a = (z : ℤ) → value_of_atom of a ≡ Some z → atom_known a ≡ Some z

  abbrev KeepsN : Num → Type 0
  KeepsN n = (z : ℤ) → value_of of n ≡ Some z → known nu n ≡ Some z

  abbrev KeepsT : Term → Type 0
  KeepsT t = (z : ℤ) → value_of_term of t ≡ Some z → term_known t ≡ Some z

  abbrev SuchA : Type 0
  SuchA = (a : Atom) × KeepsA a

  abbrev SuchN : Type 0
  SuchN = (n : Num) × KeepsN n

  abbrev SuchT : Type 0
  SuchT = (t : Term) × KeepsT t

  worth_atom : (y : Atom-F Atom Num Term) → value_of_atom of (roll-Atom y)
      ≡ atom_value of (map-Atom Atom Num Term (Option ℤ) (Option ℤ) (Option ℤ) (value_of_atom of) (value_of of) (value_of_term of) y)
  worth_atom y = fold-roll-Atom (Option ℤ) (Option ℤ) (Option ℤ) (atom_value of) sum_value term_value y

  known_there : (y : Atom-F Atom Num Term) → atom_known (roll-Atom y)
      ≡ known_atom nu (map-Atom Atom Num Term (Option ℤ) (Option ℤ) (Option ℤ) atom_known (known nu) term_known y)
  known_there y = fold-roll-Atom (Option ℤ) (Option ℤ) (Option ℤ) (known_atom nu) known_sum known_term y

  atom_step : (y : Atom-F SuchA SuchN SuchT) → KeepsA (roll-Atom (map-Atom SuchA SuchN SuchT Atom Num Term (λ p. p.0) (λ p. p.0) (λ p. p.0) y))
  atom_step (N.Variable i) z h = known_there (N.Variable i) ∙ variable_known i zs nu agree i z (sym (worth_atom (N.Variable i)) ∙ h)
  atom_step (N.Power t) z h =
      let p = then_parts (value_of of t.0) small_power z (sym (worth_atom (N.Power t.0)) ∙ h) in
      known_there (N.Power t.0) ∙ ap (λ (o : Option ℤ). and_then o small_power) (t.1 p.0 p.1) ∙ p.2

  abbrev bare : List SuchT → List Term
  bare ys = map (λ (p : SuchT). p.0) ys

  each_known : (ys : List SuchT) (s z : ℤ) → added s (map (value_of_term of) (bare ys)) ≡ Some z → Core.added (map term_known (bare ys)) s ≡ Some z
  each_known [] s z h = h
  each_known (y ∷ ys) s z h =
      let p = one_found (value_of_term of y.0) (map (value_of_term of) (bare ys)) s z h in
      ap (λ (o : Option ℤ). Core.added (o ∷ map term_known (bare ys)) s) (y.1 p.0 p.1)
      ∙ ap (λ (o : Option ℤ). and_then o (Core.added (map term_known (bare ys)))) p.3
      ∙ each_known ys p.2 z p.4

  num_step : (y : Num-F SuchA SuchN SuchT) → KeepsN (roll-Num (map-Num SuchA SuchN SuchT Atom Num Term (λ p. p.0) (λ p. p.0) (λ p. p.0) y))
  num_step y z h =
      let form : Num-F Atom Num Term = record { terms = bare y.terms; constant = y.constant } in
      let last : ℤ → Option ℤ = λ k. small (k +ℤ y.constant) in
      let p = then_parts (added (pos 0) (map (value_of_term of) (bare y.terms))) last z
      (sym (fold-roll-Num (Option ℤ) (Option ℤ) (Option ℤ) (atom_value of) sum_value term_value form) ∙ h) in
      fold-roll-Num (Option ℤ) (Option ℤ) (Option ℤ) (known_atom nu) known_sum known_term form
      ∙ ap (λ (o : Option ℤ). and_then o last) (each_known y.terms (pos 0) p.0 p.1) ∙ p.2

  term_step : (y : Term-F SuchA SuchN SuchT) → KeepsT (roll-Term (map-Term SuchA SuchN SuchT Atom Num Term (λ p. p.0) (λ p. p.0) (λ p. p.0) y))
  term_step y z h =
      let form : Term-F Atom Num Term = record { coefficient = y.coefficient; atom = y.atom.0 } in
      let last : ℤ → Option ℤ = λ k. small (y.coefficient *ℤ k) in
      let p = then_parts (value_of_atom of y.atom.0) last z
      (sym (fold-roll-Term (Option ℤ) (Option ℤ) (Option ℤ) (atom_value of) sum_value term_value form) ∙ h) in
      fold-roll-Term (Option ℤ) (Option ℤ) (Option ℤ) (known_atom nu) known_sum known_term form
      ∙ ap (λ (o : Option ℤ). and_then o last) (y.atom.1 p.0 p.1) ∙ p.2

  pub number_known : (n : Num) (z : ℤ) → value_of of n ≡ Some z → known nu n ≡ Some z
  number_known = ind-Num KeepsA KeepsN KeepsT
      (λ e y is. subst (λ d. KeepsA (roll-Atom d)) is (atom_step y))
      (λ e y is. subst (λ d. KeepsN (roll-Num d)) is (num_step y))
      (λ e y is. subst (λ d. KeepsT (roll-Term d)) is (term_step y))

pub sizes_known : SizesKnown
sizes_known zs nu agree t z h = number_known zs nu agree t z h
