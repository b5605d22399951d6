-- Sums, products and substitutions of numbers in normal form. They are made term by term from the left; there is none where
-- a number past the largest integer stands on the way.
use Rattle.std.specs.Prelude.{ℕ, ℤ, pos, negsuc, ◌+ℤ◌, ◌*ℤ◌, nat_eq, Bool, true, false, ◌&&◌, List, [], ◌∷◌, ◌++◌, slice_get, slice_set}
use Rattle.std.specs.Prelude.{Option, Some, None, option_map, if◌then◌else◌}
use Rattle.std.specs.List.{position, remove}
use Rattle.std.specs.Ordering.{int_eq}
use Rattle.sail_types.specs.Limits.{is_small, small_power}
use Rattle.sail_types.specs.declared.numbers.Index.{Index}
use Rattle.sail_types.specs.declared.numbers.Index.TheVariants as I
use Rattle.sail_types.specs.declared.numbers.Num.{Num, out-Num, roll-Num}
use Rattle.sail_types.specs.declared.numbers.Term.{Term, out-Term, roll-Term}
use Rattle.sail_types.specs.declared.numbers.Atom.{Atom, out-Atom}
use Rattle.sail_types.specs.declared.numbers.Atom.TheOpen as N
use Rattle.sail_types.specs.declared.numbers.Atom.TheVariants as A
use Rattle.sail_types.specs.declared.numbers.Atom.TheOpen.{Atom-F, Num-F, Term-F}
use Rattle.sail_types.specs.declared.numbers.Atom.TheFolds.{fold-Num, fold-Atom, fold-Term}

abbrev pub num : List Term → ℤ → Num
num terms constant = roll-Num (record { terms = terms; constant = constant })

abbrev pub term : ℤ → Atom → Term
term coefficient atom = roll-Term (record { coefficient = coefficient; atom = atom })

abbrev pub terms_of : Num → List Term
terms_of n = (out-Num n).terms

abbrev pub constant_of : Num → ℤ
constant_of n = (out-Num n).constant

abbrev pub coefficient_of : Term → ℤ
coefficient_of t = (out-Term t).coefficient

abbrev pub atom_of : Term → Atom
atom_of t = (out-Term t).atom

-- ---- which atoms are one

abbrev pub each_eq : List (Term → Bool) → List Term → Bool
each_eq [] [] = true
each_eq (f ∷ fs) (t ∷ ts) = f t && each_eq fs ts
each_eq fs ts = false

abbrev pub atom_form_eq : Atom-F (Atom → Bool) (Num → Bool) (Term → Bool) → Atom-F Atom Num Term → Bool
atom_form_eq (N.Variable i) (N.Variable j) = nat_eq i j
atom_form_eq (N.Power f) (N.Power t) = f t
atom_form_eq f a = false

abbrev pub num_form_eq : Num-F (Atom → Bool) (Num → Bool) (Term → Bool) → Num-F Atom Num Term → Bool
num_form_eq f n = each_eq f.terms n.terms && int_eq f.constant n.constant

abbrev pub term_form_eq : Term-F (Atom → Bool) (Num → Bool) (Term → Bool) → Term-F Atom Num Term → Bool
term_form_eq f t = int_eq f.coefficient t.coefficient && f.atom t.atom

abbrev pub atom_eq_step : Atom-F (Atom → Bool) (Num → Bool) (Term → Bool) → Atom → Bool
atom_eq_step f a = atom_form_eq f (out-Atom a)

abbrev pub num_eq_step : Num-F (Atom → Bool) (Num → Bool) (Term → Bool) → Num → Bool
num_eq_step f n = num_form_eq f (out-Num n)

abbrev pub term_eq_step : Term-F (Atom → Bool) (Num → Bool) (Term → Bool) → Term → Bool
term_eq_step f t = term_form_eq f (out-Term t)

-- whether two atoms are the same variable, or powers with the same exponent
abbrev pub eq_atom : Atom → Atom → Bool
eq_atom = fold-Atom (Atom → Bool) (Num → Bool) (Term → Bool) atom_eq_step num_eq_step term_eq_step

-- ---- sums

-- what is made of the one before, or none
abbrev pub and_then : {A B : Type 0} → Option A → (A → Option B) → Option B
and_then None f = None
and_then (Some x) f = f x

-- a list with that term at an index, without it where its coefficient is 0
abbrev pub placed_term : List Term → ℕ → ℤ → Atom → List Term
placed_term ts i c atom = if int_eq c (pos 0) then remove ts i else slice_set ts i (term c atom)

abbrev pub with_term : List Term → ℕ → ℤ → Atom → Option (List Term)
with_term ts i c atom = if is_small c then Some (placed_term ts i c atom) else None

abbrev pub coefficient_or : Option Term → ℤ
coefficient_or None = pos 0
coefficient_or (Some t) = coefficient_of t

abbrev pub coefficient_at : List Term → ℕ → ℤ
coefficient_at ts i = coefficient_or (slice_get ts i)

abbrev pub merged : List Term → ℤ → Atom → Option ℕ → Option (List Term)
merged ts c atom None = Some (if int_eq c (pos 0) then ts else ts ++ term c atom ∷ [])
merged ts c atom (Some i) = with_term ts i (coefficient_at ts i +ℤ c) atom

-- terms with one more: merged with the first of the same atom, else behind them
abbrev pub plus_term : List Term → ℤ → Atom → Option (List Term)
plus_term ts c atom = if is_small c then merged ts c atom (position (λ t. eq_atom (atom_of t) atom) ts) else None

abbrev pub plus_constant : ℤ → Num → Option Num
plus_constant c n = if is_small c && is_small (constant_of n +ℤ c) then Some (num (terms_of n) (constant_of n +ℤ c)) else None

-- with so many times these terms, one after another
abbrev pub plus_terms : ℤ → List Term → List Term → Option (List Term)
plus_terms times [] ts = Some ts
plus_terms times (u ∷ us) ts = and_then (plus_term ts (times *ℤ coefficient_of u) (atom_of u)) (plus_terms times us)

-- a number with so many times another
abbrev pub plus : ℤ → Num → Num → Option Num
plus times b a = and_then (plus_terms times (terms_of b) (terms_of a)) (λ ts. plus_constant (times *ℤ constant_of b) (num ts (constant_of a)))

abbrev pub constant : ℤ → Num
constant z = num [] z

abbrev pub of_atom : Atom → Num
of_atom atom = num (term (pos 1) atom ∷ []) (pos 0)

abbrev pub variable : ℕ → Num
variable i = of_atom (A.Variable i)

abbrev pub zero_num : Num
zero_num = constant (pos 0)

abbrev pub sum : Num → Num → Option Num
sum a b = plus (pos 1) b a

abbrev pub difference : Num → Num → Option Num
difference a b = plus (negsuc 0) b a

abbrev pub no_terms : List Term → Bool
no_terms [] = true
no_terms ts = false

abbrev pub is_constant : Num → Bool
is_constant n = no_terms (terms_of n)

-- a product, which has a constant factor
abbrev pub product : Num → Num → Option Num
product a b = if is_constant a then plus (constant_of a) b zero_num else (if is_constant b then plus (constant_of b) a zero_num else None)

abbrev pub constant_or_atom : Num → Option ℤ → Num
constant_or_atom t (Some z) = constant z
constant_or_atom t None = of_atom (A.Power t)

-- 2 to a number: a constant where that is one from 0 to 126, elsewhere an atom
abbrev pub power_num : Num → Num
power_num t = constant_or_atom t (if is_constant t then small_power (constant_of t) else None)

-- ---- substitutions

-- a term with what its atom becomes
abbrev pub Became : Type 0
Became = ℤ × Option Num

abbrev pub atom_becomes : (ℕ → Num) → Atom-F (Option Num) (Option Num) Became → Option Num
atom_becomes by (N.Variable i) = Some (by i)
atom_becomes by (N.Power t) = option_map power_num t

abbrev pub term_becomes : Term-F (Option Num) (Option Num) Became → Became
term_becomes t = (t.coefficient, t.atom)

abbrev pub plus_became : Became → Num → Option Num
plus_became t n = and_then t.1 (λ m. plus t.0 m n)

abbrev pub plus_each : List Became → Num → Option Num
plus_each [] n = Some n
plus_each (t ∷ ts) n = and_then (plus_became t n) (plus_each ts)

abbrev pub sum_becomes : Num-F (Option Num) (Option Num) Became → Option Num
sum_becomes n = and_then (plus_each n.terms zero_num) (plus_constant n.constant)

-- a number with others in the place of its variables
abbrev pub substituted : (ℕ → Num) → Num → Option Num
substituted by = fold-Num (Option Num) (Option Num) Became (atom_becomes by) sum_becomes term_becomes

-- what an atom becomes
abbrev pub substituted_atom : (ℕ → Num) → Atom → Option Num
substituted_atom by = fold-Atom (Option Num) (Option Num) Became (atom_becomes by) sum_becomes term_becomes

-- a term with what its atom becomes
abbrev pub became : (ℕ → Num) → Term → Became
became by = fold-Term (Option Num) (Option Num) Became (atom_becomes by) sum_becomes term_becomes

abbrev pub only_for : ℕ → Num → ℕ → Num
only_for x n i = if nat_eq i x then n else variable i

-- a number with another in the place of one variable
abbrev pub subst : Num → ℕ → Num → Option Num
subst n x by = substituted (only_for x by) n

-- ---- a number read under what its variables stand for

abbrev pub number_or_zero : Option Index → Num
number_or_zero (Some (I.Number n)) = n
number_or_zero index = zero_num

-- what that variable stands for; 0 where it is no Int variable of the list
abbrev pub number_at : List Index → ℕ → Num
number_at indices i = number_or_zero (slice_get indices i)

-- a number with these in the place of its variables
abbrev pub read : List Index → Num → Option Num
read indices n = substituted (number_at indices) n

-- ---- for contracts

-- what was made, where all went well
abbrev pub kept : {A : Type 0} → Bool → A → Option A
kept true x = Some x
kept false x = None
