-- A substitution keeps what a number is: the result is, under an assignment, what the older one is under that which gives
-- each variable the number of what stands in its place.
use Rattle.std.proofs.Common.{◌≡◌, ℕ, List, [], ◌∷◌, map, ap, sym, ◌∙◌, refl, subst, arith, Bool, true, false}
use Rattle.std.specs.Prelude.{ℤ, pos, ◌+ℤ◌, ◌*ℤ◌, Option, Some, None, unwrap_or, option_map, cond}
use Rattle.std.proofs.Math.IntN.{*ℤ_comm}
use Rattle.std.proofs.lemmas.Int.{ints}
use Rattle.sail_types.specs.Limits.{small_power}
use Rattle.sail_types.specs.Numbers.{Assignment, number, number_of_atom, number_of_term, total, atom_number, term_number, sum_number}
use Rattle.sail_types.specs.Sums.{num, terms_of, constant_of, plus, plus_constant, product, constant, of_atom, no_terms, is_constant}
use Rattle.sail_types.specs.Sums.{constant_or_atom, power_num, Became, atom_becomes, term_becomes, sum_becomes, plus_became, plus_each}
use Rattle.sail_types.specs.Sums.{substituted, substituted_atom, became, zero_num}
use Rattle.sail_types.specs.Before.{before, beyond_of}
use Rattle.sail_types.specs.declared.numbers.Num.{Num, roll-Num}
use Rattle.sail_types.specs.declared.numbers.Term.{Term, roll-Term}
use Rattle.sail_types.specs.declared.numbers.Atom.{Atom, roll-Atom}
use Rattle.sail_types.specs.declared.numbers.Atom.TheOpen as N
use Rattle.sail_types.specs.declared.numbers.Atom.TheOpen.{Atom-F, Num-F, Term-F}
use Rattle.sail_types.specs.declared.numbers.Atom.TheVariants as A
use Rattle.sail_types.specs.declared.numbers.Atom.TheFolds.{fold-roll-Atom, fold-roll-Num, fold-roll-Term, para-roll-Atom, map-Atom}
use Rattle.sail_types.specs.declared.numbers.Atom.TheFolds.{map-Num, map-Term, ind-Num}
use Rattle.sail_types.specs.declared.numbers.Atom.TheViews.{roll-out-Num}
use Rattle.sail_types.proofs.Integers.{one_time}
use Rattle.sail_types.proofs.SumNumbers.{weights, number_num, number_term, plus_number, plus_constant_number, then_parts, some_same}

-- ---- what atoms are

pub number_atom : (nu : Assignment) (a : Atom) → number nu (of_atom a) ≡ number_of_atom nu a
number_atom nu a =
    let w : number nu (of_atom a) ≡ (number_of_term nu (roll-Term (record { coefficient = pos 1; atom = a })) +ℤ pos 0) +ℤ pos 0 = number_num nu _ (pos 0) in
    let t : number_of_term nu (roll-Term (record { coefficient = pos 1; atom = a })) ≡ number_of_atom nu a = number_term nu (pos 1) a
    ∙ one_time (number_of_atom nu a) in
    omega (arith, ints, w, t)

pub number_constant : (nu : Assignment) (z : ℤ) → number nu (constant z) ≡ z
number_constant nu z = number_num nu [] z ∙ omega (arith, ints)

pub atom_power : (nu : Assignment) (t : Num) → number_of_atom nu (A.Power t) ≡ unwrap_or (small_power (number nu t)) (nu.beyond t).value
atom_power nu t = ap (number_of_atom nu) (sym (A.rolls-Power t)) ∙ para-roll-Atom ℤ ℤ ℤ (atom_number nu) sum_number term_number (N.Power t)

pub atom_variable : (nu : Assignment) (i : ℕ) → number_of_atom nu (A.Variable i) ≡ nu.int i
atom_variable nu i = ap (number_of_atom nu) (sym (A.rolls-Variable i)) ∙ para-roll-Atom ℤ ℤ ℤ (atom_number nu) sum_number term_number (N.Variable i)

constant_is : (nu : Assignment) (ts : List Term) (z : ℤ) → no_terms ts ≡ true → number nu (num ts z) ≡ z
constant_is nu [] z h = number_constant nu z
constant_is nu (t ∷ ts) z h = absurd (cc)

number_of_constant : (nu : Assignment) (n : Num) → is_constant n ≡ true → number nu n ≡ constant_of n
number_of_constant nu n h = ap (number nu) (sym (roll-out-Num n)) ∙ constant_is nu (terms_of n) (constant_of n) h

by_power : (nu : Assignment) (u : Num) (o : Option ℤ) → ((z : ℤ) → o ≡ Some z → small_power (number nu u) ≡ Some z)
    → number nu (constant_or_atom u o) ≡ unwrap_or (small_power (number nu u)) (nu.beyond u).value
by_power nu u None h = number_atom nu (A.Power u) ∙ atom_power nu u
by_power nu u (Some z) h = number_constant nu z ∙ ap (λ p. unwrap_or p (nu.beyond u).value) (sym (h z refl))

where_constant : (nu : Assignment) (u : Num) (b : Bool) (z : ℤ) → is_constant u ≡ b → cond b (small_power (constant_of u)) None ≡ Some z
    → small_power (number nu u) ≡ Some z
where_constant nu u true z e h = ap small_power (number_of_constant nu u e) ∙ h
where_constant nu u false z e h = absurd (cc)

pub number_power : (nu : Assignment) (u : Num) → number nu (power_num u) ≡ unwrap_or (small_power (number nu u)) (nu.beyond u).value
number_power nu u = by_power nu u (cond (is_constant u) (small_power (constant_of u)) None) (λ z h. where_constant nu u (is_constant u) z refl h)

-- ---- the induction

abbrev KeepsA : (ℕ → Num) → Atom → Type 0
KeepsA by a = (nu : Assignment) (m : Num) → substituted_atom by a ≡ Some m → number nu m ≡ number_of_atom (before by nu) a

abbrev KeepsN : (ℕ → Num) → Num → Type 0
KeepsN by n = (nu : Assignment) (m : Num) → substituted by n ≡ Some m → number nu m ≡ number (before by nu) n

abbrev KeepsT : (ℕ → Num) → Term → Type 0
KeepsT by t = (nu : Assignment) (s m : Num) → plus_became (became by t) s ≡ Some m → number nu m ≡ number nu s +ℤ number_of_term (before by nu) t

abbrev SuchA : (ℕ → Num) → Type 0
SuchA by = (a : Atom) × KeepsA by a

abbrev SuchN : (ℕ → Num) → Type 0
SuchN by = (n : Num) × KeepsN by n

abbrev SuchT : (ℕ → Num) → Type 0
SuchT by = (t : Term) × KeepsT by t

power_kept : (by : ℕ → Num) (t : Num) → KeepsN by t → (nu : Assignment) (o : Option Num) (m : Num) → substituted by t ≡ o → option_map power_num o ≡ Some m
    → number nu m ≡ number_of_atom (before by nu) (A.Power t)
power_kept by t k nu None m e h = absurd (cc)
power_kept by t k nu (Some u) m e h =
    ap (number nu) (sym (some_same (power_num u) m h)) ∙ number_power nu u
    ∙ (λ i. unwrap_or (small_power (k nu u e i)) (beyond_of nu (sym e i)).value) ∙ sym (atom_power (before by nu) t)

atom_step : (by : ℕ → Num) (y : Atom-F (SuchA by) (SuchN by) (SuchT by))
    → KeepsA by (roll-Atom (map-Atom (SuchA by) (SuchN by) (SuchT by) Atom Num Term (λ p. p.0) (λ p. p.0) (λ p. p.0) y))
atom_step by (N.Variable i) nu m h =
    ap (number nu) (sym (some_same (by i) m (sym (fold-roll-Atom (Option Num) (Option Num) Became (atom_becomes by) sum_becomes
    term_becomes (N.Variable i)) ∙ h)))
    ∙ sym (para-roll-Atom ℤ ℤ ℤ (atom_number (before by nu)) sum_number term_number (N.Variable i))
atom_step by (N.Power t) nu m h =
    power_kept by t.0 t.1 nu (substituted by t.0) m refl
    (sym (fold-roll-Atom (Option Num) (Option Num) Became (atom_becomes by) sum_becomes term_becomes (N.Power t.0)) ∙ h)
    ∙ ap (number_of_atom (before by nu)) (sym (A.rolls-Power t.0))

each_kept : (by : ℕ → Num) (ys : List (SuchT by)) (nu : Assignment) (s m : Num) → plus_each (map (became by) (map (λ p. p.0) ys)) s ≡ Some m
    → number nu m ≡ number nu s +ℤ total (weights (before by nu) (map (λ p. p.0) ys))
each_kept by [] nu s m h = ap (number nu) (sym (some_same s m h)) ∙ omega (arith, ints)
each_kept by (y ∷ ys) nu s m h =
    let k = then_parts (plus_became (became by y.0) s) (plus_each (map (became by) (map (λ p. p.0) ys))) m h in
    let first : number nu k.0 ≡ number nu s +ℤ number_of_term (before by nu) y.0 = y.1 nu s k.0 k.1 in
    let rest : number nu m ≡ number nu k.0 +ℤ total (weights (before by nu) (map (λ p. p.0) ys)) = each_kept by ys nu k.0 m k.2 in
    omega (arith, ints, first, rest)

num_step : (by : ℕ → Num) (y : Num-F (SuchA by) (SuchN by) (SuchT by))
    → KeepsN by (roll-Num (map-Num (SuchA by) (SuchN by) (SuchT by) Atom Num Term (λ p. p.0) (λ p. p.0) (λ p. p.0) y))
num_step by y nu m h =
    let ts : List Term = map (λ p. p.0) y.terms in
    let k = then_parts (plus_each (map (became by) ts) zero_num) (plus_constant y.constant) m
    (sym (fold-roll-Num (Option Num) (Option Num) Became (atom_becomes by) sum_becomes term_becomes (record { terms = ts; constant = y.constant })) ∙ h) in
    let first : number nu k.0 ≡ number nu zero_num +ℤ total (weights (before by nu) ts) = each_kept by y.terms nu zero_num k.0 k.1 in
    let nothing : number nu zero_num ≡ pos 0 = number_constant nu (pos 0) in
    let last : number nu m ≡ number nu k.0 +ℤ y.constant = plus_constant_number nu y.constant k.0 m k.2 in
    omega (arith, ints, first, nothing, last) ∙ sym (number_num (before by nu) ts y.constant)

term_kept : (by : ℕ → Num) (c : ℤ) (a : Atom) → KeepsA by a → (nu : Assignment) (s m : Num) → plus_became (c, substituted_atom by a) s ≡ Some m
    → number nu m ≡ number nu s +ℤ c *ℤ number_of_atom (before by nu) a
term_kept by c a k nu s m h =
    let p = then_parts (substituted_atom by a) (λ n. plus c n s) m h in
    plus_number nu c p.0 s m p.2 ∙ ap (λ z. number nu s +ℤ c *ℤ z) (k nu p.0 p.1)

term_step : (by : ℕ → Num) (y : Term-F (SuchA by) (SuchN by) (SuchT by))
    → KeepsT by (roll-Term (map-Term (SuchA by) (SuchN by) (SuchT by) Atom Num Term (λ p. p.0) (λ p. p.0) (λ p. p.0) y))
term_step by y nu s m h =
    let f : Term-F Atom Num Term = record { coefficient = y.coefficient; atom = y.atom.0 } in
    term_kept by y.coefficient y.atom.0 y.atom.1 nu s m
    (ap (λ b. plus_became b s) (sym (fold-roll-Term (Option Num) (Option Num) Became (atom_becomes by) sum_becomes term_becomes f)) ∙ h)
    ∙ ap (λ z. number nu s +ℤ z) (sym (number_term (before by nu) y.coefficient y.atom.0))

pub substituted_number : (by : ℕ → Num) (n : Num) → KeepsN by n
substituted_number by = ind-Num (KeepsA by) (KeepsN by) (KeepsT by)
    (λ e y is. subst (λ d. KeepsA by (roll-Atom d)) is (atom_step by y))
    (λ e y is. subst (λ d. KeepsN by (roll-Num d)) is (num_step by y))
    (λ e y is. subst (λ d. KeepsT by (roll-Term d)) is (term_step by y))

-- ---- products

by_constant : (nu : Assignment) (a b m : Num) → is_constant a ≡ true → plus (constant_of a) b zero_num ≡ Some m → number nu m ≡ number nu a *ℤ number nu b
by_constant nu a b m e h =
    let k : number nu m ≡ number nu zero_num +ℤ constant_of a *ℤ number nu b = plus_number nu (constant_of a) b zero_num m h in
    let nothing : number nu zero_num ≡ pos 0 = number_constant nu (pos 0) in
    let w : number nu m ≡ constant_of a *ℤ number nu b = omega (arith, ints, k, nothing) in
    w ∙ ap (λ z. z *ℤ number nu b) (sym (number_of_constant nu a e))

by_either : (nu : Assignment) (a b m : Num) (p q : Bool) → is_constant a ≡ p → is_constant b ≡ q
    → cond p (plus (constant_of a) b zero_num) (cond q (plus (constant_of b) a zero_num) None) ≡ Some m → number nu m ≡ number nu a *ℤ number nu b
by_either nu a b m true q e f h = by_constant nu a b m e h
by_either nu a b m false true e f h = by_constant nu b a m f h ∙ *ℤ_comm (number nu b) (number nu a)
by_either nu a b m false false e f h = absurd (cc)

pub product_number : (nu : Assignment) (a b m : Num) → product a b ≡ Some m → number nu m ≡ number nu a *ℤ number nu b
product_number nu a b m h = by_either nu a b m (is_constant a) (is_constant b) refl refl h
