-- A number in which a variable isn't constant isn't constant.
use Rattle.std.proofs.Common.{◌≡◌, ℕ, nat_eq, Bool, true, false, ◌||◌, List, [], ◌∷◌, ◌++◌, map, Option, Some, None, if◌then◌else◌, refl, sym, ap, ◌∙◌, subst}
use Rattle.std.specs.Prelude.{is_some}
use Rattle.std.specs.List.{list_any}
use Rattle.std.proofs.lemmas.Bool.Decides.{Decides-eqb}
use Rattle.std.proofs.lemmas.List.Folds.{list_any-append}
use Rattle.sail_types.specs.Places.{first}
use Rattle.sail_types.specs.declared.numbers.Atom.{Atom, roll-Atom}
use Rattle.sail_types.specs.declared.numbers.Atom.TheFolds.{map-Atom, map-Num, map-Term, fold-roll-Atom, fold-roll-Num, fold-roll-Term, ind-Num}
use Rattle.sail_types.specs.declared.numbers.Atom.TheOpen as N
use Rattle.sail_types.specs.declared.numbers.Atom.TheOpen.{Atom-F, Num-F, Term-F}
use Rattle.sail_types.specs.declared.numbers.Index.{Index}
use Rattle.sail_types.specs.declared.numbers.Index.TheVariants as I
use Rattle.sail_types.specs.declared.numbers.Num.{Num, roll-Num}
use Rattle.sail_types.specs.declared.numbers.Term.{Term, roll-Term}
use Rattle.size_values.specs.Sizes.{joined}
use Rattle.size_values.specs.declared.constants.Constant.{Constant}
use Rattle.size_values.specs.Numbers.{atom_free, constant_under, first_free, first_of, free_in_atom, free_in_term, free_variable, index_under, is_free}
use Rattle.size_values.specs.Numbers.{sum_free, term_free, unless_free, value_of}
use Rattle.value_laws.proofs.Basics.{no}
use Rattle.hanging_sizes.proofs.Numbers.{free_there}
use Rattle.hanging_sizes.proofs.Variables.{atom_variables, index_variables, sum_variables, term_variables, variables_in_atom, variables_in_term, variables_of}

-- ---- what is among these

pub either : {A : Type 0} (b c : Bool) → (b || c) ≡ true → (b ≡ true → A) → (c ≡ true → A) → A
either true c h f g = f refl
either false c h f g = g h

abbrev pub among : ℕ → List ℕ → Bool
among i is = list_any (nat_eq i) is

pub in_either : {A : Type 0} (i : ℕ) (is js : List ℕ) → among i (is ++ js) ≡ true → (among i is ≡ true → A) → (among i js ≡ true → A) → A
in_either i is js h f g = either (among i is) (among i js) (sym (list_any-append (nat_eq i) is js) ∙ h) f g

-- ---- numbers

first_left : (o p : Option ℕ) → is_some o ≡ true → is_some (first o p) ≡ true
first_left (Some x) p h = refl
first_left None p h = no h

first_right : (o p : Option ℕ) → is_some p ≡ true → is_some (first o p) ≡ true
first_right (Some x) p h = refl
first_right None p h = h

module _ (of : ℕ → Constant) (i : ℕ) (free : is_free (of i) ≡ true) where
  abbrev ShowsA : Atom → Type 0
  ShowsA a = among i (variables_in_atom a) ≡ true → is_some (free_in_atom of a) ≡ true

  abbrev ShowsN : Num → Type 0
  ShowsN n = among i (variables_of n) ≡ true → is_some (first_free of n) ≡ true

  abbrev ShowsT : Term → Type 0
  ShowsT t = among i (variables_in_term t) ≡ true → is_some (free_in_term of t) ≡ true

  abbrev SuchA : Type 0
  SuchA = (a : Atom) × ShowsA a

  abbrev SuchN : Type 0
  SuchN = (n : Num) × ShowsN n

  abbrev SuchT : Type 0
  SuchT = (t : Term) × ShowsT t

  frees : (x : Atom-F Atom Num Term) → free_in_atom of (roll-Atom x)
      ≡ atom_free of (map-Atom Atom Num Term (Option ℕ) (Option ℕ) (Option ℕ) (free_in_atom of) (first_free of) (free_in_term of) x)
  frees x = fold-roll-Atom (Option ℕ) (Option ℕ) (Option ℕ) (atom_free of) sum_free term_free x

  variable_free : (j : ℕ) → i ≡ j → is_some (free_variable of j) ≡ true
  variable_free j e = ap (λ (b : Bool). is_some (if b then Some j else None)) (subst (λ k. is_free (of k) ≡ true) e free)

  atom_shows : (y : Atom-F SuchA SuchN SuchT) → ShowsA (roll-Atom (map-Atom SuchA SuchN SuchT Atom Num Term (λ p. p.0) (λ p. p.0) (λ p. p.0) y))
  atom_shows (N.Variable j) h =
      let there : among i (j ∷ []) ≡ true =
      sym (ap (among i) (fold-roll-Atom (List ℕ) (List ℕ) (List ℕ) atom_variables sum_variables term_variables (N.Variable j))) ∙ h in
      ap (λ (o : Option ℕ). is_some o) (frees (N.Variable j))
      ∙ variable_free j (either (nat_eq i j) false there (λ e. (Decides-eqb i j).0 e) (λ e. no e))
  atom_shows (N.Power t) h =
      let there : among i (variables_of t.0) ≡ true =
      sym (ap (among i) (fold-roll-Atom (List ℕ) (List ℕ) (List ℕ) atom_variables sum_variables term_variables (N.Power t.0))) ∙ h in
      ap (λ (o : Option ℕ). is_some o) (frees (N.Power t.0)) ∙ t.1 there

  abbrev bare : List SuchT → List Term
  bare ys = map (λ (p : SuchT). p.0) ys

  each_shows : (ys : List SuchT) → among i (joined (map variables_in_term (bare ys))) ≡ true → is_some (first_of (map (free_in_term of) (bare ys))) ≡ true
  each_shows [] h = no h
  each_shows (y ∷ ys) h =
      let rest = first_of (map (free_in_term of) (bare ys)) in
      in_either i (variables_in_term y.0) (joined (map variables_in_term (bare ys))) h (λ e. first_left (free_in_term of y.0) rest (y.1 e))
      (λ e. first_right (free_in_term of y.0) rest (each_shows ys e))

  num_shows : (y : Num-F SuchA SuchN SuchT) → ShowsN (roll-Num (map-Num SuchA SuchN SuchT Atom Num Term (λ p. p.0) (λ p. p.0) (λ p. p.0) y))
  num_shows y h =
      let f : Num-F Atom Num Term = record { terms = bare y.terms; constant = y.constant } in
      ap (λ (o : Option ℕ). is_some o) (fold-roll-Num (Option ℕ) (Option ℕ) (Option ℕ) (atom_free of) sum_free term_free f)
      ∙ each_shows y.terms (sym (ap (among i) (fold-roll-Num (List ℕ) (List ℕ) (List ℕ) atom_variables sum_variables term_variables f)) ∙ h)

  term_shows : (y : Term-F SuchA SuchN SuchT) → ShowsT (roll-Term (map-Term SuchA SuchN SuchT Atom Num Term (λ p. p.0) (λ p. p.0) (λ p. p.0) y))
  term_shows y h =
      let f : Term-F Atom Num Term = record { coefficient = y.coefficient; atom = y.atom.0 } in
      ap (λ (o : Option ℕ). is_some o) (fold-roll-Term (Option ℕ) (Option ℕ) (Option ℕ) (atom_free of) sum_free term_free f)
      ∙ y.atom.1 (sym (ap (among i) (fold-roll-Term (List ℕ) (List ℕ) (List ℕ) atom_variables sum_variables term_variables f)) ∙ h)

  number_shows : (n : Num) → ShowsN n
  number_shows = ind-Num ShowsA ShowsN ShowsT
      (λ e y is. subst (λ d. ShowsA (roll-Atom d)) is (atom_shows y))
      (λ e y is. subst (λ d. ShowsN (roll-Num d)) is (num_shows y))
      (λ e y is. subst (λ d. ShowsT (roll-Term d)) is (term_shows y))

  pub size_free : (n : Num) → among i (variables_of n) ≡ true → is_free (constant_under of n) ≡ true
  size_free n h = by (first_free of n) refl (number_shows n h)
    where
      by : (o : Option ℕ) → first_free of n ≡ o → is_some o ≡ true → is_free (unless_free of o (value_of of n)) ≡ true
      by None e k = no k
      by (Some j) e k = free_there of n j e

  pub index_free : (a : Index) → among i (index_variables a) ≡ true → is_free (index_under of a) ≡ true
  index_free (I.Number t) h = size_free t h
  index_free (I.Truth c) h = no h
