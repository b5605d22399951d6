-- Numbers and conditions of which some variables are known (Sail language manual, "Type variables").
use Rattle.std.specs.Prelude.{ℕ, ℤ, pos, ◌+ℤ◌, ◌*ℤ◌, nat_eq, nat_lt, Bool, true, false, not, ◌&&◌, ◌||◌, List, [], ◌∷◌, Option, Some, None}
use Rattle.std.specs.Prelude.{option_map, slice_get, if◌then◌else◌}
use Rattle.std.specs.List.{list_any}
use Rattle.std.specs.Ordering.{int_eq}
use Rattle.sail_types.specs.Limits.{is_small, largest, small_power}
use Rattle.sail_types.specs.Numbers.{compares}
use Rattle.sail_types.specs.Places.{first}
use Rattle.sail_types.specs.Sums.{and_then}
use Rattle.sail_types.specs.declared.numbers.Atom.{Atom}
use Rattle.sail_types.specs.declared.numbers.Atom.TheFolds.{fold-Atom, fold-Num, fold-Term}
use Rattle.sail_types.specs.declared.numbers.Atom.TheOpen as A
use Rattle.sail_types.specs.declared.numbers.Atom.TheOpen.{Atom-F, Num-F, Term-F}
use Rattle.sail_types.specs.declared.numbers.Comparison.{Comparison}
use Rattle.sail_types.specs.declared.numbers.Con.{Con, Con-F, fold-Con}
use Rattle.sail_types.specs.declared.numbers.Con.TheOpen as E
use Rattle.sail_types.specs.declared.numbers.Index.{Index}
use Rattle.sail_types.specs.declared.numbers.Index.TheVariants as N
use Rattle.sail_types.specs.declared.numbers.Num.{Num}
use Rattle.sail_types.specs.declared.numbers.Term.{Term}
use Rattle.size_values.specs.declared.constants.Constant.{Constant}
use Rattle.size_values.specs.declared.constants.Constant.TheVariants as C
use Rattle.size_values.specs.declared.constants.Picked.{Picked}
use Rattle.size_values.specs.declared.variables.Variables.{Variables}
use Rattle.size_values.specs.declared.variables.Variables.TheVariants as V

-- ---- what is known of the variables of a walk

abbrev pub Known : Type 0
Known = ℕ → Option ℤ

abbrev pub nothing_known : Known
nothing_known v = None

abbrev pub or_nothing : Option (Option ℤ) → Option ℤ
or_nothing None = None
or_nothing (Some o) = o

-- the numbers of the variables in order; of those past the end nothing is known
abbrev pub known_of : List (Option ℤ) → Known
known_of zs v = or_nothing (slice_get zs v)

abbrev pub picked_over : Picked → Known → Known
picked_over p k v = if nat_eq p.variable v then Some p.number else k v

-- what is known where these numbers are taken
abbrev pub with_picked : Known → List Picked → Known
with_picked k [] = k
with_picked k (p ∷ ps) = picked_over p (with_picked k ps)

-- all variables are known but this one
abbrev pub all_but : ℕ → Known
all_but v w = if nat_eq v w then None else Some (pos 0)

-- all variables before this one are known
abbrev pub all_before : ℕ → Known
all_before v w = if nat_lt w v then Some (pos 0) else None

-- ---- what variables are: constants, or open

abbrev pub or_open : ℕ → Option ℤ → Constant
or_open v None = C.Open v
or_open v (Some z) = C.Number z

-- those of a walk
abbrev pub known_at : Known → ℕ → Constant
known_at k v = or_open v (k v)

abbrev pub or_zero : Option Constant → Constant
or_zero None = C.Number (pos 0)
or_zero (Some c) = c

-- those of a type, by its arguments; a Bool variable is in no number
abbrev pub argument_of : List Constant → ℕ → Constant
argument_of cs i = or_zero (slice_get cs i)

-- as code has them
abbrev pub meant : Variables → ℕ → Constant
meant (V.Known zs ps) = known_at (with_picked (known_of zs.now) ps.now)
meant (V.AllBut v) = known_at (all_but v)
meant (V.Before v) = known_at (all_before v)
meant (V.Arguments cs) = argument_of cs.now

abbrev pub is_free : Constant → Bool
is_free (C.Number z) = false
is_free c = true

abbrev pub number_in : Constant → Option ℤ
number_in (C.Number z) = Some z
number_in c = None

-- ---- the first variable of a number that isn't known, from the left

abbrev pub first_of : List (Option ℕ) → Option ℕ
first_of [] = None
first_of (o ∷ os) = first o (first_of os)

abbrev pub free_variable : (ℕ → Constant) → ℕ → Option ℕ
free_variable of i = if is_free (of i) then Some i else None

abbrev pub atom_free : (ℕ → Constant) → Atom-F (Option ℕ) (Option ℕ) (Option ℕ) → Option ℕ
atom_free of (A.Variable i) = free_variable of i
atom_free of (A.Power o) = o

abbrev pub sum_free : Num-F (Option ℕ) (Option ℕ) (Option ℕ) → Option ℕ
sum_free n = first_of n.terms

abbrev pub term_free : Term-F (Option ℕ) (Option ℕ) (Option ℕ) → Option ℕ
term_free t = t.atom

abbrev pub first_free : (ℕ → Constant) → Num → Option ℕ
first_free of = fold-Num (Option ℕ) (Option ℕ) (Option ℕ) (atom_free of) sum_free term_free

-- of what a coefficient multiplies, and of a term
abbrev pub free_in_atom : (ℕ → Constant) → Atom → Option ℕ
free_in_atom of = fold-Atom (Option ℕ) (Option ℕ) (Option ℕ) (atom_free of) sum_free term_free

abbrev pub free_in_term : (ℕ → Constant) → Term → Option ℕ
free_in_term of = fold-Term (Option ℕ) (Option ℕ) (Option ℕ) (atom_free of) sum_free term_free

-- ---- the integer that a number is: none where a variable isn't known, where a number past the largest integer stands on the way,
-- or a power of an exponent outside 0 to 126

abbrev pub small : ℤ → Option ℤ
small z = if is_small z then Some z else None

abbrev pub atom_value : (ℕ → Constant) → Atom-F (Option ℤ) (Option ℤ) (Option ℤ) → Option ℤ
atom_value of (A.Variable i) = number_in (of i)
atom_value of (A.Power o) = and_then o small_power

abbrev pub term_value : Term-F (Option ℤ) (Option ℤ) (Option ℤ) → Option ℤ
term_value t = and_then t.atom (λ z. small (t.coefficient *ℤ z))

-- from the left
abbrev pub added : ℤ → List (Option ℤ) → Option ℤ
added z [] = Some z
added z (None ∷ os) = None
added z (Some y ∷ os) = and_then (small (z +ℤ y)) (λ x. added x os)

abbrev pub sum_value : Num-F (Option ℤ) (Option ℤ) (Option ℤ) → Option ℤ
sum_value n = and_then (added (pos 0) n.terms) (λ z. small (z +ℤ n.constant))

abbrev pub value_of : (ℕ → Constant) → Num → Option ℤ
value_of of = fold-Num (Option ℤ) (Option ℤ) (Option ℤ) (atom_value of) sum_value term_value

-- of what a coefficient multiplies, and of a term
abbrev pub value_of_atom : (ℕ → Constant) → Atom → Option ℤ
value_of_atom of = fold-Atom (Option ℤ) (Option ℤ) (Option ℤ) (atom_value of) sum_value term_value

abbrev pub value_of_term : (ℕ → Constant) → Term → Option ℤ
value_of_term of = fold-Term (Option ℤ) (Option ℤ) (Option ℤ) (atom_value of) sum_value term_value

-- ---- a number, where its variables are these

-- one past the largest integer counts as that
abbrev pub at_most_largest : Option ℤ → ℤ
at_most_largest None = pos largest
at_most_largest (Some z) = z

abbrev pub unless_free : (ℕ → Constant) → Option ℕ → Option ℤ → Constant
unless_free of None o = C.Number (at_most_largest o)
unless_free of (Some i) o = of i

abbrev pub constant_under : (ℕ → Constant) → Num → Constant
constant_under of t = unless_free of (first_free of t) (value_of of t)

abbrev pub index_under : (ℕ → Constant) → Index → Constant
index_under of (N.Number t) = constant_under of t
index_under of (N.Truth c) = C.Number (pos 0)

-- whether a variable of a walk is in a number: it is no constant where all others are known
abbrev pub names_variable : ℕ → Index → Bool
names_variable v i = is_free (index_under (known_at (all_but v)) i)

-- ---- conditions: none, where not all of it is constant, and where a number past the largest integer would be in it

-- each of them, or one of them, with those before
abbrev pub every : Bool → List (Option Bool) → Option Bool
every b [] = Some b
every b (None ∷ os) = None
every b (Some c ∷ os) = every (b && c) os

abbrev pub some : Bool → List (Option Bool) → Option Bool
some b [] = Some b
some b (None ∷ os) = None
some b (Some c ∷ os) = some (b || c) os

abbrev pub compared : (ℕ → Constant) → Comparison → Num → Num → Option Bool
compared of how t u = and_then (value_of of t) (λ x. option_map (compares how x) (value_of of u))

abbrev pub form_truth : (ℕ → Constant) → Con-F (Option Bool) → Option Bool
form_truth of (E.Truth b) = Some b
form_truth of (E.Holds p) = None
form_truth of (E.Compare how t u) = compared of how t u
form_truth of (E.OneOf t zs) = option_map (λ x. list_any (int_eq x) zs) (value_of of t)
form_truth of (E.Not o) = option_map not o
form_truth of (E.All os) = every true os
form_truth of (E.Any os) = some false os

abbrev pub truth_of : (ℕ → Constant) → Con → Option Bool
truth_of of = fold-Con (Option Bool) (form_truth of)

abbrev pub not_false : Option Bool → Bool
not_false None = true
not_false (Some b) = b

-- whether no condition is constant and false
abbrev pub may_hold : (ℕ → Constant) → List Con → Bool
may_hold of [] = true
may_hold of (c ∷ cs) = not_false (truth_of of c) && may_hold of cs
