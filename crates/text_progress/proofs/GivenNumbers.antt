-- A number that is read under given ones is given: each type variable in it stands for a number.
use Rattle.std.proofs.Common.{◌≡◌, ℕ, zero, suc, List, [], ◌∷◌, ◌++◌, map, ap, sym, ◌∙◌, refl, subst, Bool, true, false, ◌&&◌, set, cond}
use Rattle.std.specs.Prelude.{ℤ, pos, ◌+ℤ◌, ◌*ℤ◌, Option, Some, None}
use Rattle.std.specs.List.{list_all, position, remove}
use Rattle.std.specs.Ordering.{int_eq}
use Rattle.std.proofs.lemmas.Bool.{and_parts}
use Rattle.sail_types.specs.Limits.{is_small, small_power}
use Rattle.sail_types.specs.Sums.{Became, atom_becomes, atom_of, became, coefficient_at, coefficient_of, constant, constant_of, constant_or_atom}
use Rattle.sail_types.specs.Sums.{eq_atom, is_constant, merged, num, number_at, of_atom, placed_term, plus, plus_became, plus_constant, plus_each}
use Rattle.sail_types.specs.Sums.{plus_term, plus_terms, power_num, read, substituted, substituted_atom, sum_becomes, term, term_becomes, terms_of}
use Rattle.sail_types.specs.Sums.{zero_num}
use Rattle.sail_types.specs.declared.numbers.Atom.{Atom, roll-Atom}
use Rattle.sail_types.specs.declared.numbers.Atom.TheFolds.{fold-Atom, fold-Term, fold-roll-Atom, fold-roll-Num, fold-roll-Term, ind-Num}
use Rattle.sail_types.specs.declared.numbers.Atom.TheFolds.{map-Atom, map-Num, map-Term}
use Rattle.sail_types.specs.declared.numbers.Atom.TheOpen as N
use Rattle.sail_types.specs.declared.numbers.Atom.TheOpen.{Atom-F, Num-F, Term-F}
use Rattle.sail_types.specs.declared.numbers.Atom.TheVariants as A
use Rattle.sail_types.specs.declared.numbers.Atom.TheViews.{roll-out-Num, roll-out-Term}
use Rattle.sail_types.specs.declared.numbers.Index.{Index}
use Rattle.sail_types.specs.declared.numbers.Index.TheVariants as I
use Rattle.sail_types.specs.declared.numbers.Num.{Num, roll-Num}
use Rattle.sail_types.specs.declared.numbers.Term.{Term, roll-Term}
use Rattle.type_arguments.proofs.Makings.{map_parts, then_parts}
use Rattle.sail_core.specs.Numbers.{Givens}
use Rattle.shape_joins.proofs.JoinsLeast.{none, some_same}
use Rattle.shape_joins.proofs.Order.{two}
use Rattle.shape_progress.specs.Conditions.{atom_given, given_in}
use Rattle.text_progress.specs.GivenTypes.{indices_given}

module _ (nu : Givens) where
  abbrev all_terms : Num-F Bool Bool Bool → Bool
  all_terms n = list_all (λ b. b) n.terms

  abbrev own_atom : Term-F Bool Bool Bool → Bool
  own_atom t = t.atom

  abbrev atom_is : Atom → Bool
  atom_is = fold-Atom Bool Bool Bool (atom_given nu) all_terms own_atom

  abbrev term_is : Term → Bool
  term_is = fold-Term Bool Bool Bool (atom_given nu) all_terms own_atom

  abbrev terms_are : List Term → Bool
  terms_are ts = list_all (λ b. b) (map term_is ts)

  pub given_num : (ts : List Term) (z : ℤ) → given_in nu (num ts z) ≡ terms_are ts
  given_num ts z = fold-roll-Num Bool Bool Bool (atom_given nu) all_terms own_atom (record { terms = ts; constant = z })

  pub given_parts : (n : Num) → given_in nu n ≡ terms_are (terms_of n)
  given_parts n = ap (given_in nu) (sym (roll-out-Num n)) ∙ given_num (terms_of n) (constant_of n)

  pub given_term : (c : ℤ) (a : Atom) → term_is (term c a) ≡ atom_is a
  given_term c a = fold-roll-Term Bool Bool Bool (atom_given nu) all_terms own_atom (record { coefficient = c; atom = a })

  pub term_parts : (t : Term) → term_is t ≡ atom_is (atom_of t)
  term_parts t = ap term_is (sym (roll-out-Term t)) ∙ given_term (coefficient_of t) (atom_of t)

  -- ---- lists of terms

  parts : (t : Term) (ts : List Term) → terms_are (t ∷ ts) ≡ true → (term_is t ≡ true) × (terms_are ts ≡ true)
  parts t ts h = and_parts (term_is t) (terms_are ts) h

  more : (t : Term) (ts : List Term) → term_is t ≡ true → terms_are ts ≡ true → terms_are (t ∷ ts) ≡ true
  more t ts h k = two (term_is t) (terms_are ts) h k

  appended : (ts : List Term) (t : Term) → terms_are ts ≡ true → term_is t ≡ true → terms_are (ts ++ t ∷ []) ≡ true
  appended [] t h k = more t [] k refl
  appended (u ∷ ts) t h k = let p = parts u ts h in more u (ts ++ t ∷ []) p.0 (appended ts t p.1 k)

  removed : (ts : List Term) (i : ℕ) → terms_are ts ≡ true → terms_are (remove ts i) ≡ true
  removed [] zero h = refl
  removed [] (suc i) h = refl
  removed (u ∷ ts) zero h = (parts u ts h).1
  removed (u ∷ ts) (suc i) h = let p = parts u ts h in more u (remove ts i) p.0 (removed ts i p.1)

  changed : (ts : List Term) (i : ℕ) (t : Term) → terms_are ts ≡ true → term_is t ≡ true → terms_are (set ts i t) ≡ true
  changed [] i t h k = refl
  changed (u ∷ ts) zero t h k = more t ts k (parts u ts h).1
  changed (u ∷ ts) (suc i) t h k = let p = parts u ts h in more u (set ts i t) p.0 (changed ts i t p.1 k)

  -- ---- sums

  placed : (b : Bool) (ts : List Term) (i : ℕ) (t : Term) → terms_are ts ≡ true → term_is t ≡ true
      → terms_are (cond b (remove ts i) (set ts i t)) ≡ true
  placed true ts i t h k = removed ts i h
  placed false ts i t h k = changed ts i t h k

  if_some : {A : Type 0} (b : Bool) (x y : A) → cond b (Some x) None ≡ Some y → x ≡ y
  if_some true x y e = some_same x y e
  if_some false x y e = none e

  kept_or_more : (b : Bool) (ts : List Term) (t : Term) → terms_are ts ≡ true → term_is t ≡ true → terms_are (cond b ts (ts ++ t ∷ [])) ≡ true
  kept_or_more true ts t h k = h
  kept_or_more false ts t h k = appended ts t h k

  merged_given : (ts us : List Term) (c : ℤ) (a : Atom) (o : Option ℕ) → terms_are ts ≡ true → atom_is a ≡ true → merged ts c a o ≡ Some us
      → terms_are us ≡ true
  merged_given ts us c a None h k e =
      subst (λ xs. terms_are xs ≡ true) (some_same (cond (int_eq c (pos 0)) ts (ts ++ term c a ∷ [])) us e)
      (kept_or_more (int_eq c (pos 0)) ts (term c a) h (given_term c a ∙ k))
  merged_given ts us c a (Some i) h k e =
      let d : ℤ = coefficient_at ts i +ℤ c in
      subst (λ xs. terms_are xs ≡ true) (if_some (is_small d) (placed_term ts i d a) us e)
      (placed (int_eq d (pos 0)) ts i (term d a) h (given_term d a ∙ k))

  by_small : (b : Bool) (x : Option (List Term)) (us : List Term) → cond b x None ≡ Some us → x ≡ Some us
  by_small true x us e = e
  by_small false x us e = none e

  one_more : (ts us : List Term) (c : ℤ) (a : Atom) → terms_are ts ≡ true → atom_is a ≡ true → plus_term ts c a ≡ Some us → terms_are us ≡ true
  one_more ts us c a h k e =
      let at_same : Option ℕ = position (λ t. eq_atom (atom_of t) a) ts in
      merged_given ts us c a at_same h k (by_small (is_small c) (merged ts c a at_same) us e)

  all_more : (times : ℤ) (us ts xs : List Term) → terms_are us ≡ true → terms_are ts ≡ true → plus_terms times us ts ≡ Some xs → terms_are xs ≡ true
  all_more times [] ts xs g h e = subst (λ ys. terms_are ys ≡ true) (some_same ts xs e) h
  all_more times (u ∷ us) ts xs g h e =
      let p = parts u us g in
      let k = then_parts (plus_term ts (times *ℤ coefficient_of u) (atom_of u)) (plus_terms times us) xs e in
      all_more times us k.0 xs p.1 (one_more ts k.0 (times *ℤ coefficient_of u) (atom_of u) h (sym (term_parts u) ∙ p.0) k.1) k.2

  constant_more : (c : ℤ) (n m : Num) → given_in nu n ≡ true → plus_constant c n ≡ Some m → given_in nu m ≡ true
  constant_more c n m h e =
      subst (λ x. given_in nu x ≡ true)
      (if_some (is_small c && is_small (constant_of n +ℤ c)) (num (terms_of n) (constant_of n +ℤ c)) m e)
      (given_num (terms_of n) (constant_of n +ℤ c) ∙ sym (given_parts n) ∙ h)

  pub sum_given : (times : ℤ) (b a m : Num) → given_in nu b ≡ true → given_in nu a ≡ true → plus times b a ≡ Some m → given_in nu m ≡ true
  sum_given times b a m g h e =
      let k = then_parts (plus_terms times (terms_of b) (terms_of a)) (λ ts. plus_constant (times *ℤ constant_of b) (num ts (constant_of a))) m e in
      constant_more (times *ℤ constant_of b) (num k.0 (constant_of a)) m
      (given_num k.0 (constant_of a) ∙ all_more times (terms_of b) (terms_of a) k.0 (sym (given_parts b) ∙ g) (sym (given_parts a) ∙ h) k.1) k.2

  pub constant_given : (z : ℤ) → given_in nu (constant z) ≡ true
  constant_given z = given_num [] z

  pub atom_alone : (a : Atom) → atom_is a ≡ true → given_in nu (of_atom a) ≡ true
  atom_alone a h = given_num (term (pos 1) a ∷ []) (pos 0) ∙ more (term (pos 1) a) [] (given_term (pos 1) a ∙ h) refl

  pub power_atom : (t : Num) → given_in nu t ≡ true → atom_is (A.Power t) ≡ true
  power_atom t h = ap atom_is (sym (A.rolls-Power t)) ∙ fold-roll-Atom Bool Bool Bool (atom_given nu) all_terms own_atom (N.Power t) ∙ h

  power_or : (t : Num) (o : Option ℤ) → given_in nu t ≡ true → given_in nu (constant_or_atom t o) ≡ true
  power_or t None h = atom_alone (A.Power t) (power_atom t h)
  power_or t (Some z) h = constant_given z

  pub power_given : (t : Num) → given_in nu t ≡ true → given_in nu (power_num t) ≡ true
  power_given t h = power_or t (cond (is_constant t) (small_power (constant_of t)) None) h

  -- ---- substitutions

  module _ (by : ℕ → Num) (all : (i : ℕ) → given_in nu (by i) ≡ true) where
    abbrev KeepsA : Atom → Type 0
    KeepsA a = (m : Num) → substituted_atom by a ≡ Some m → given_in nu m ≡ true

    abbrev KeepsN : Num → Type 0
    KeepsN n = (m : Num) → substituted by n ≡ Some m → given_in nu m ≡ true

    abbrev KeepsT : Term → Type 0
    KeepsT t = (s m : Num) → given_in nu s ≡ true → plus_became (became by t) s ≡ Some m → given_in nu m ≡ true

    abbrev SuchA : Type 0
    SuchA = (a : Atom) × KeepsA a

    abbrev SuchN : Type 0
    SuchN = (n : Num) × KeepsN n

    abbrev SuchT : Type 0
    SuchT = (t : Term) × KeepsT t

    atom_step : (y : Atom-F SuchA SuchN SuchT) → KeepsA (roll-Atom (map-Atom SuchA SuchN SuchT Atom Num Term (λ p. p.0) (λ p. p.0) (λ p. p.0) y))
    atom_step (N.Variable i) m h =
        subst (λ x. given_in nu x ≡ true)
        (some_same (by i) m (sym (fold-roll-Atom (Option Num) (Option Num) Became (atom_becomes by) sum_becomes term_becomes (N.Variable i)) ∙ h)) (all i)
    atom_step (N.Power t) m h =
        let k = map_parts power_num (substituted by t.0) m
        (sym (fold-roll-Atom (Option Num) (Option Num) Became (atom_becomes by) sum_becomes term_becomes (N.Power t.0)) ∙ h) in
        subst (λ x. given_in nu x ≡ true) k.2 (power_given k.0 (t.1 k.0 k.1))

    each_kept : (ys : List SuchT) (s m : Num) → given_in nu s ≡ true → plus_each (map (became by) (map (λ p. p.0) ys)) s ≡ Some m
        → given_in nu m ≡ true
    each_kept [] s m g h = subst (λ x. given_in nu x ≡ true) (some_same s m h) g
    each_kept (y ∷ ys) s m g h =
        let k = then_parts (plus_became (became by y.0) s) (plus_each (map (became by) (map (λ p. p.0) ys))) m h in
        each_kept ys k.0 m (y.1 s k.0 g k.1) k.2

    num_step : (y : Num-F SuchA SuchN SuchT) → KeepsN (roll-Num (map-Num SuchA SuchN SuchT Atom Num Term (λ p. p.0) (λ p. p.0) (λ p. p.0) y))
    num_step y m h =
        let ts : List Term = map (λ p. p.0) y.terms in
        let k = then_parts (plus_each (map (became by) ts) zero_num) (plus_constant y.constant) m
        (sym (fold-roll-Num (Option Num) (Option Num) Became (atom_becomes by) sum_becomes term_becomes
        (record { terms = ts; constant = y.constant })) ∙ h) in
        constant_more y.constant k.0 m (each_kept y.terms zero_num k.0 (constant_given (pos 0)) k.1) k.2

    term_step : (y : Term-F SuchA SuchN SuchT) → KeepsT (roll-Term (map-Term SuchA SuchN SuchT Atom Num Term (λ p. p.0) (λ p. p.0) (λ p. p.0) y))
    term_step y s m g h =
        let f : Term-F Atom Num Term = record { coefficient = y.coefficient; atom = y.atom.0 } in
        let k = then_parts (substituted_atom by y.atom.0) (λ n. plus y.coefficient n s) m
        (ap (λ b. plus_became b s) (sym (fold-roll-Term (Option Num) (Option Num) Became (atom_becomes by) sum_becomes term_becomes f)) ∙ h) in
        sum_given y.coefficient k.0 s m (y.atom.1 k.0 k.1) g k.2

    substituted_given : (n : Num) → KeepsN n
    substituted_given = ind-Num KeepsA KeepsN KeepsT
        (λ e y is. subst (λ d. KeepsA (roll-Atom d)) is (atom_step y))
        (λ e y is. subst (λ d. KeepsN (roll-Num d)) is (num_step y))
        (λ e y is. subst (λ d. KeepsT (roll-Term d)) is (term_step y))

  -- ---- under arguments

  at_given : (is : List Index) → indices_given nu is ≡ true → (i : ℕ) → given_in nu (number_at is i) ≡ true
  at_given [] h i = constant_given (pos 0)
  at_given (I.Number n ∷ is) h zero = (and_parts (given_in nu n) (indices_given nu is) h).0
  at_given (I.Truth c ∷ is) h zero = constant_given (pos 0)
  at_given (I.Number n ∷ is) h (suc i) = at_given is (and_parts (given_in nu n) (indices_given nu is) h).1 i
  at_given (I.Truth c ∷ is) h (suc i) = at_given is h i

  pub read_given : (is : List Index) (n m : Num) → indices_given nu is ≡ true → read is n ≡ Some m → given_in nu m ≡ true
  read_given is n m h e = substituted_given (number_at is) (at_given is h) n m e
