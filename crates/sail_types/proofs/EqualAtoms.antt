-- The test on atoms answers true exactly at equal ones.
use Rattle.std.proofs.Common.{◌≡◌, List, [], ◌∷◌, map, Bool, true, false, ◌&&◌, ◌∙◌, sym, ap, refl, subst}
use Rattle.std.specs.Prelude.{Decides}
use Rattle.std.specs.Ordering.{int_eq}
use Rattle.std.proofs.lemmas.Bool.Decides.{Decides-int_eq, Decides-eqb}
use Rattle.sail_types.specs.Sums.{each_eq, atom_form_eq, num_form_eq, term_form_eq, atom_eq_step, num_eq_step, term_eq_step, eq_atom}
use Rattle.sail_types.specs.declared.numbers.Num.{Num, out-Num, roll-Num}
use Rattle.sail_types.specs.declared.numbers.Term.{Term, out-Term, roll-Term}
use Rattle.sail_types.specs.declared.numbers.Atom.{Atom, out-Atom, roll-Atom}
use Rattle.sail_types.specs.declared.numbers.Atom.TheOpen as N
use Rattle.sail_types.specs.declared.numbers.Atom.TheOpen.{Atom-F, Num-F, Term-F}
use Rattle.sail_types.specs.declared.numbers.Atom.TheFolds.{fold-Num, fold-Term, fold-roll-Atom, fold-roll-Num, fold-roll-Term, map-Atom}
use Rattle.sail_types.specs.declared.numbers.Atom.TheFolds.{map-Num, map-Term, ind-Atom}
use Rattle.sail_types.specs.declared.numbers.Atom.TheViews.{roll-out-Atom, roll-out-Num, roll-out-Term, out-roll-Atom, out-roll-Num, out-roll-Term}

abbrev eq_num : Num → Num → Bool
eq_num = fold-Num (Atom → Bool) (Num → Bool) (Term → Bool) atom_eq_step num_eq_step term_eq_step

abbrev eq_term : Term → Term → Bool
eq_term = fold-Term (Atom → Bool) (Num → Bool) (Term → Bool) atom_eq_step num_eq_step term_eq_step

-- a test that is true at the thing itself, and nowhere else
abbrev IsTest : {A : Type 0} → (A → A → Bool) → A → Type 0
IsTest {A} eq a = (eq a a ≡ true) × ((b : A) → eq a b ≡ true → a ≡ b)

abbrev SuchA : Type 0
SuchA = (a : Atom) × IsTest eq_atom a

abbrev SuchN : Type 0
SuchN = (a : Num) × IsTest eq_num a

abbrev SuchT : Type 0
SuchT = (a : Term) × IsTest eq_term a

no : {A : Type 0} → false ≡ true → A
no h = absurd (cc)

both : (a b : Bool) → (a && b) ≡ true → (a ≡ true) × (b ≡ true)
both true b h = (refl, h)
both false b h = no h

two : (a b : Bool) → a ≡ true → b ≡ true → (a && b) ≡ true
two a b h k = ap (λ x. x && b) h ∙ k

each_refl : (ys : List SuchT) → each_eq (map eq_term (map (λ p. p.0) ys)) (map (λ p. p.0) ys) ≡ true
each_refl [] = refl
each_refl (y ∷ ys) = two (eq_term y.0 y.0) (each_eq (map eq_term (map (λ p. p.0) ys)) (map (λ p. p.0) ys)) y.1.0 (each_refl ys)

each_sound : (ys : List SuchT) (ts : List Term) → each_eq (map eq_term (map (λ p. p.0) ys)) ts ≡ true → map (λ p. p.0) ys ≡ ts
each_sound [] [] h = refl
each_sound [] (t ∷ ts) h = no h
each_sound (y ∷ ys) [] h = no h
each_sound (y ∷ ys) (t ∷ ts) h =
    let k = both (eq_term y.0 t) (each_eq (map eq_term (map (λ p. p.0) ys)) ts) h in
    λ i. y.1.1 t k.0 i ∷ each_sound ys ts k.1 i

-- ---- atoms

abbrev open_atom : Atom-F SuchA SuchN SuchT → Atom-F Atom Num Term
open_atom y = map-Atom SuchA SuchN SuchT Atom Num Term (λ p. p.0) (λ p. p.0) (λ p. p.0) y

abbrev asked_atom : Atom-F Atom Num Term → Atom-F (Atom → Bool) (Num → Bool) (Term → Bool)
asked_atom x = map-Atom Atom Num Term (Atom → Bool) (Num → Bool) (Term → Bool) eq_atom eq_num eq_term x

atom_refl : (y : Atom-F SuchA SuchN SuchT) → atom_form_eq (asked_atom (open_atom y)) (open_atom y) ≡ true
atom_refl (N.Variable i) = (Decides-eqb i i).1 refl
atom_refl (N.Power t) = t.1.0

atom_sound : (y : Atom-F SuchA SuchN SuchT) (x : Atom-F Atom Num Term) → atom_form_eq (asked_atom (open_atom y)) x ≡ true → open_atom y ≡ x
atom_sound (N.Variable i) (N.Variable j) h = ap N.Variable ((Decides-eqb i j).0 h)
atom_sound (N.Variable i) (N.Power t) h = no h
atom_sound (N.Power s) (N.Variable j) h = no h
atom_sound (N.Power s) (N.Power t) h = ap N.Power (s.1.1 t h)

atom_step : (y : Atom-F SuchA SuchN SuchT) → IsTest eq_atom (roll-Atom (open_atom y))
unfolding roll-Atom out-Atom
atom_step y =
    let f = open_atom y in
    let r = λ (b : Atom). ap (λ g. g b) (fold-roll-Atom (Atom → Bool) (Num → Bool) (Term → Bool) atom_eq_step num_eq_step term_eq_step f) in (
      (r (roll-Atom f) ∙ ap (atom_form_eq (asked_atom f)) (out-roll-Atom f) ∙ atom_refl y),
      (λ b h. ap roll-Atom (atom_sound y (out-Atom b) (sym (r b) ∙ h)) ∙ roll-out-Atom b),
    )

-- ---- numbers

abbrev open_num : Num-F SuchA SuchN SuchT → Num-F Atom Num Term
open_num y = map-Num SuchA SuchN SuchT Atom Num Term (λ p. p.0) (λ p. p.0) (λ p. p.0) y

abbrev asked_num : Num-F Atom Num Term → Num-F (Atom → Bool) (Num → Bool) (Term → Bool)
asked_num x = map-Num Atom Num Term (Atom → Bool) (Num → Bool) (Term → Bool) eq_atom eq_num eq_term x

num_step : (y : Num-F SuchA SuchN SuchT) → IsTest eq_num (roll-Num (open_num y))
unfolding roll-Num out-Num
num_step y =
    let f = open_num y in
    let r = λ (b : Num). ap (λ g. g b) (fold-roll-Num (Atom → Bool) (Num → Bool) (Term → Bool) atom_eq_step num_eq_step term_eq_step f) in (
      (r (roll-Num f) ∙ ap (num_form_eq (asked_num f)) (out-roll-Num f)
          ∙ two (each_eq (asked_num f).terms f.terms) (int_eq f.constant f.constant) (each_refl y.terms) ((Decides-int_eq f.constant f.constant).1 refl)),
      (λ b h.
          let k = both (each_eq (asked_num f).terms (out-Num b).terms) (int_eq f.constant (out-Num b).constant) (sym (r b) ∙ h) in
          (λ i. roll-Num (record { terms = each_sound y.terms (out-Num b).terms k.0 i; constant = (Decides-int_eq f.constant (out-Num b).constant).0 k.1 i }))
          ∙ roll-out-Num b),
    )

-- ---- terms

abbrev open_term : Term-F SuchA SuchN SuchT → Term-F Atom Num Term
open_term y = map-Term SuchA SuchN SuchT Atom Num Term (λ p. p.0) (λ p. p.0) (λ p. p.0) y

abbrev asked_term : Term-F Atom Num Term → Term-F (Atom → Bool) (Num → Bool) (Term → Bool)
asked_term x = map-Term Atom Num Term (Atom → Bool) (Num → Bool) (Term → Bool) eq_atom eq_num eq_term x

term_step : (y : Term-F SuchA SuchN SuchT) → IsTest eq_term (roll-Term (open_term y))
term_step y =
    let f = open_term y in
    let r = λ (b : Term). ap (λ g. g b) (fold-roll-Term (Atom → Bool) (Num → Bool) (Term → Bool) atom_eq_step num_eq_step term_eq_step f) in (
      (r (roll-Term f) ∙ ap (term_form_eq (asked_term f)) (out-roll-Term f)
          ∙ two (int_eq f.coefficient f.coefficient) (eq_atom y.atom.0 y.atom.0) ((Decides-int_eq f.coefficient f.coefficient).1 refl) y.atom.1.0),
      (λ b h.
          let k = both (int_eq f.coefficient (out-Term b).coefficient) (eq_atom y.atom.0 (out-Term b).atom) (sym (r b) ∙ h) in
          (λ i. roll-Term (record { coefficient = (Decides-int_eq f.coefficient (out-Term b).coefficient).0 k.0 i; atom = y.atom.1.1 (out-Term b).atom k.1 i }))
          ∙ roll-out-Term b),
    )

is_test : (a : Atom) → IsTest eq_atom a
is_test = ind-Atom (IsTest eq_atom) (IsTest eq_num) (IsTest eq_term)
    (λ e y is. subst (λ d. IsTest eq_atom (roll-Atom d)) is (atom_step y))
    (λ e y is. subst (λ d. IsTest eq_num (roll-Num d)) is (num_step y))
    (λ e y is. subst (λ d. IsTest eq_term (roll-Term d)) is (term_step y))

pub eq_atom-Decides : (a b : Atom) → Decides (eq_atom a b) (a ≡ b)
eq_atom-Decides a b = ((is_test a).1 b, λ e. subst (λ x. eq_atom a x ≡ true) e (is_test a).0)
