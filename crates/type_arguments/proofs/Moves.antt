-- One binder further in a number is, and a constraint is true, as it was outside.
use Rattle.std.proofs.Common.{◌≡◌, ℕ, ◌+◌, List, [], ◌∷◌, map, ap, sym, ◌∙◌, refl, subst, Bool, true, false}
use Rattle.std.specs.Prelude.{◌+ℤ◌, ◌*ℤ◌, nat_lt, Option, Some, None, option_map, unwrap_or, cond}
use Rattle.sail_types.specs.Before.{beyond_of}
use Rattle.sail_types.specs.Limits.{small_power}
use Rattle.sail_types.specs.Numbers.{Assignment, number, number_of_atom, number_of_term, total, true_in}
use Rattle.sail_types.specs.Readings.{together}
use Rattle.sail_types.specs.Sums.{num, term}
use Rattle.sail_types.specs.declared.numbers.Num.{Num, roll-Num}
use Rattle.sail_types.specs.declared.numbers.Term.{Term, roll-Term}
use Rattle.sail_types.specs.declared.numbers.Atom.{Atom, roll-Atom}
use Rattle.sail_types.specs.declared.numbers.Atom.TheOpen as N
use Rattle.sail_types.specs.declared.numbers.Atom.TheOpen.{Atom-F, Num-F, Term-F}
use Rattle.sail_types.specs.declared.numbers.Atom.TheVariants as A
use Rattle.sail_types.specs.declared.numbers.Atom.TheFolds.{fold-roll-Atom, fold-roll-Num, fold-roll-Term, map-Atom, map-Num, map-Term, ind-Num}
use Rattle.sail_types.specs.declared.numbers.Con.{Con, Con-F, fold-Con}
use Rattle.sail_types.specs.declared.numbers.Con.TheOpen as C
use Rattle.sail_types.specs.declared.numbers.Con.TheVariants as V
use Rattle.sail_types.proofs.SumNumbers.{weights, number_num, number_term}
use Rattle.sail_types.proofs.Substituted.{atom_power, atom_variable}
use Rattle.type_arguments.specs.Moved.{next, moved, atom_form_moved, num_form_moved, term_form_moved, moved_atom, moved_num, moved_term}
use Rattle.type_arguments.specs.Moved.{con_form_moved, moved_con}
use Rattle.type_arguments.specs.laws.Outside.{from_inside, outside}
use Rattle.type_arguments.proofs.Makings.{map_parts, more_parts, nothing_made}
use Rattle.type_arguments.proofs.Truths.{form_made, made_true, true_holds}

-- ---- variables

next_is : (b : Bool) (i j : ℕ) → cond b (Some (i + 1)) None ≡ Some j → j ≡ i + 1
next_is true i j h = cc
next_is false i j h = absurd (cc)

by_test : (b : Bool) (i j : ℕ) → cond b (Some i) (next i) ≡ Some j → j ≡ cond b i (i + 1)
by_test true i j h = cc
by_test false i j h = next_is (nat_lt i 4294967295) i j h

moved_is : (depth i j : ℕ) → moved depth i ≡ Some j → j ≡ from_inside depth i
moved_is depth i j h = by_test (nat_lt i depth) i j h

-- ---- numbers

module _ (depth : ℕ) (nu : Assignment) where
  abbrev mu : Assignment
  mu = outside depth nu

  abbrev KeepsA : Atom → Type 0
  KeepsA a = (b : Atom) → moved_atom depth a ≡ Some b → number_of_atom nu b ≡ number_of_atom mu a

  abbrev KeepsN : Num → Type 0
  KeepsN n = (m : Num) → moved_num depth n ≡ Some m → number nu m ≡ number mu n

  abbrev KeepsT : Term → Type 0
  KeepsT t = (s : Term) → moved_term depth t ≡ Some s → number_of_term nu s ≡ number_of_term mu t

  abbrev SuchA : Type 0
  SuchA = (a : Atom) × KeepsA a

  abbrev SuchN : Type 0
  SuchN = (n : Num) × KeepsN n

  abbrev SuchT : Type 0
  SuchT = (t : Term) × KeepsT t

  power_kept : (t : Num) → KeepsN t → (b : Atom) → option_map A.Power (moved_num depth t) ≡ Some b
      → number_of_atom nu b ≡ number_of_atom mu (A.Power t)
  power_kept t keeps b h =
      let k = map_parts A.Power (moved_num depth t) b h in
      ap (number_of_atom nu) (sym k.2) ∙ atom_power nu k.0
      ∙ (λ i. unwrap_or (small_power (keeps k.0 k.1 i)) (beyond_of nu (sym k.1 i)).value) ∙ sym (atom_power mu t)

  atom_step : (y : Atom-F SuchA SuchN SuchT) → KeepsA (roll-Atom (map-Atom SuchA SuchN SuchT Atom Num Term (λ p. p.0) (λ p. p.0) (λ p. p.0) y))
  atom_step (N.Variable i) b h =
      let k = map_parts A.Variable (moved depth i) b
      (sym (fold-roll-Atom (Option Atom) (Option Num) (Option Term) (atom_form_moved depth) num_form_moved term_form_moved (N.Variable i)) ∙ h) in
      ap (number_of_atom nu) (sym k.2) ∙ atom_variable nu k.0 ∙ ap nu.int (moved_is depth i k.0 k.1) ∙ sym (atom_variable mu i)
      ∙ ap (number_of_atom mu) (sym (A.rolls-Variable i))
  atom_step (N.Power t) b h =
      power_kept t.0 t.1 b
      (sym (fold-roll-Atom (Option Atom) (Option Num) (Option Term) (atom_form_moved depth) num_form_moved term_form_moved (N.Power t.0)) ∙ h)
      ∙ ap (number_of_atom mu) (sym (A.rolls-Power t.0))

  each_kept : (ys : List SuchT) (ss : List Term) → together (map (moved_term depth) (map (λ p. p.0) ys)) ≡ Some ss
      → weights nu ss ≡ weights mu (map (λ p. p.0) ys)
  each_kept [] ss h = ap (weights nu) (sym (nothing_made ss h))
  each_kept (y ∷ ys) ss h =
      let k = more_parts (moved_term depth y.0) (together (map (moved_term depth) (map (λ p. p.0) ys))) ss h in
      ap (weights nu) (sym k.4) ∙ (λ i. y.1 k.0 k.2 i ∷ each_kept ys k.1 k.3 i)

  num_step : (y : Num-F SuchA SuchN SuchT) → KeepsN (roll-Num (map-Num SuchA SuchN SuchT Atom Num Term (λ p. p.0) (λ p. p.0) (λ p. p.0) y))
  num_step y m h =
      let ts : List Term = map (λ p. p.0) y.terms in
      let f : Num-F Atom Num Term = record { terms = ts; constant = y.constant } in
      let k = map_parts (λ ss. num ss y.constant) (together (map (moved_term depth) ts)) m
      (sym (fold-roll-Num (Option Atom) (Option Num) (Option Term) (atom_form_moved depth) num_form_moved term_form_moved f) ∙ h) in
      ap (number nu) (sym k.2) ∙ number_num nu k.0 y.constant ∙ ap (λ ws. total ws +ℤ y.constant) (each_kept y.terms k.0 k.1)
      ∙ sym (number_num mu ts y.constant)

  term_step : (y : Term-F SuchA SuchN SuchT) → KeepsT (roll-Term (map-Term SuchA SuchN SuchT Atom Num Term (λ p. p.0) (λ p. p.0) (λ p. p.0) y))
  term_step y s h =
      let f : Term-F Atom Num Term = record { coefficient = y.coefficient; atom = y.atom.0 } in
      let k = map_parts (term y.coefficient) (moved_atom depth y.atom.0) s
      (sym (fold-roll-Term (Option Atom) (Option Num) (Option Term) (atom_form_moved depth) num_form_moved term_form_moved f) ∙ h) in
      ap (number_of_term nu) (sym k.2) ∙ number_term nu y.coefficient k.0 ∙ ap (λ z. y.coefficient *ℤ z) (y.atom.1 k.0 k.1)
      ∙ sym (number_term mu y.coefficient y.atom.0)

  pub moved_number : (n : Num) → KeepsN n
  moved_number = ind-Num KeepsA KeepsN KeepsT (λ e y is. subst (λ d. KeepsA (roll-Atom d)) is (atom_step y))
      (λ e y is. subst (λ d. KeepsN (roll-Num d)) is (num_step y)) (λ e y is. subst (λ d. KeepsT (roll-Term d)) is (term_step y))

-- ---- constraints

moved_form : (depth : ℕ) (y : Con-F (Option Con)) → con_form_moved depth y ≡ form_made (moved_num depth) (λ i. option_map V.Holds (moved depth i)) y
moved_form depth (C.Truth b) = refl
moved_form depth (C.Holds i) = refl
moved_form depth (C.Compare how t u) = refl
moved_form depth (C.OneOf t zs) = refl
moved_form depth (C.Not c) = refl
moved_form depth (C.All cs) = refl
moved_form depth (C.Any cs) = refl

variable_kept : (depth : ℕ) (nu : Assignment) (i : ℕ) (d : Con) → option_map V.Holds (moved depth i) ≡ Some d
    → true_in nu d ≡ (outside depth nu).bool i
variable_kept depth nu i d h =
    let k = map_parts V.Holds (moved depth i) d h in
    ap (true_in nu) (sym k.2) ∙ true_holds nu k.0 ∙ ap nu.bool (moved_is depth i k.0 k.1)

pub moved_true : (depth : ℕ) (nu : Assignment) (c d : Con) → moved_con depth c ≡ Some d → true_in nu d ≡ true_in (outside depth nu) c
moved_true depth nu c d e =
    made_true (moved_num depth) (λ i. option_map V.Holds (moved depth i)) (outside depth nu) nu (λ t m h. moved_number depth nu t m h)
    (variable_kept depth nu) c d ((λ i. fold-Con (Option Con) (λ y. sym (moved_form depth y) i) c) ∙ e)
