-- `sizeof` and `constraint` (Sail language manual, "Type variables in expressions", "Constraints").
use Rattle.std.specs.List.{list_any}
use Rattle.std.specs.Ordering.{int_eq}
use Rattle.std.specs.Prelude.{Bool, List, None, Option, Some, false, if◌then◌else◌, map, not, option_map, pos, true, ℤ, [], ◌&&◌, ◌++◌, ◌∷◌}
use Rattle.sail_base.specs.declared.place.Place.{Place}
use Rattle.sail_types.specs.Readings.{read_con}
use Rattle.sail_types.specs.Sums.{and_then, constant, eq_atom, is_constant, num, read, sum}
use Rattle.sail_types.specs.declared.numbers.Atom.{Atom}
use Rattle.sail_types.specs.declared.numbers.Atom.TheFolds.{para-Atom, para-Num, para-Term}
use Rattle.sail_types.specs.declared.numbers.Atom.TheOpen as A
use Rattle.sail_types.specs.declared.numbers.Atom.TheOpen.{Atom-F, Num-F, Term-F}
use Rattle.sail_types.specs.declared.numbers.Atom.TheVariants as P
use Rattle.sail_types.specs.declared.numbers.Con.{Con, Con-F, fold-Con}
use Rattle.sail_types.specs.declared.numbers.Con.TheOpen as C
use Rattle.sail_types.specs.declared.numbers.Index.{Index}
use Rattle.sail_types.specs.declared.numbers.Num.{Num}
use Rattle.sail_types.specs.declared.numbers.Term.{Term}
use Rattle.sail_core.specs.declared.written.Role.{Role}
use Rattle.sail_core.specs.declared.written.Role.TheVariants as Size
use Rattle.sail_core.specs.declared.written.WrittenNumber.{WrittenNumber}
use Rattle.value_indices.specs.Opening.{at_most, largest_num, least_num, number_or_fresh, truth_or_fresh}
use Rattle.value_indices.specs.Steps.{Conditions, Walk, bind, give, owe}
use Rattle.value_indices.specs.declared.indices.Indices.{Indices}
use Rattle.value_indices.specs.declared.indices.Indices.TheVariants as I
use Rattle.pattern_leaves.specs.Settings.{Around, exponents_owed, fine_exponent, number_owed}

-- from the least to the largest integer
abbrev pub in_bounds : Option Num → Conditions
in_bounds t = option_map (at_most least_num) t ∷ option_map (λ u. at_most u largest_num) t ∷ []

abbrev pub single : Term → Num
single t = num (t ∷ []) (pos 0)

-- a sum with its constant, the last
abbrev pub with_constant : ℤ → Option Num → Option Num
with_constant c total = and_then total (λ s. sum s (constant c))

abbrev pub constant_bounded : Option Num → ℤ → Conditions
constant_bounded total c = if int_eq c (pos 0) then [] else in_bounds (with_constant c total)

abbrev pub with_term : Option Num → Option Num → Option Num
with_term total t = and_then total (λ s. and_then t (λ u. sum s u))

-- of what can be read
abbrev pub owed_if : {A : Type 0} → Option A → Conditions → Conditions
owed_if None cs = None ∷ []
owed_if (Some x) cs = cs

-- of several conditions
abbrev pub all_owed : List Conditions → Conditions
all_owed [] = []
all_owed (cs ∷ more) = cs ++ all_owed more

-- ---- a number, each part of it read under what the variables stand for: for each term from the left those in its exponent, the term, and from the
-- second on the sum so far

module _ (numbers : List Index) where
  abbrev pub term_read : Term → Option Num
  term_read t = read numbers (single t)

  -- what is owed of a term: what stands in its exponent, and the term
  abbrev pub term_owed : Term × Conditions → Conditions
  term_owed t = t.1 ++ in_bounds (term_read t.0)

  abbrev pub more_bounded : Option Num → List (Term × Conditions) → ℤ → Conditions
  more_bounded total [] c = constant_bounded total c
  more_bounded total (t ∷ ts) c =
      term_owed t ++ in_bounds (with_term total (term_read t.0)) ++ more_bounded (with_term total (term_read t.0)) ts c

  -- nothing is owed of a constant
  abbrev pub terms_bounded : List (Term × Conditions) → ℤ → Conditions
  terms_bounded [] c = []
  terms_bounded (t ∷ ts) c = term_owed t ++ more_bounded (term_read t.0) ts c

  abbrev pub atom_bounded : Atom-F (Atom × Conditions) (Num × Conditions) (Term × Conditions) → Conditions
  atom_bounded (A.Variable i) = []
  atom_bounded (A.Power t) = t.1

  abbrev pub term_bounded : Term-F (Atom × Conditions) (Num × Conditions) (Term × Conditions) → Conditions
  term_bounded t = t.atom.1

  abbrev pub num_bounded : Num-F (Atom × Conditions) (Num × Conditions) (Term × Conditions) → Conditions
  num_bounded n = terms_bounded n.terms n.constant

  abbrev pub bounded : Num → Conditions
  bounded = para-Num Conditions Conditions Conditions atom_bounded num_bounded term_bounded

  -- what is owed of the exponent in a term
  abbrev pub bounded_atom : Atom → Conditions
  bounded_atom = para-Atom Conditions Conditions Conditions atom_bounded num_bounded term_bounded

  -- a term with it
  abbrev pub with_owed : Term → Term × Conditions
  with_owed t = (t, para-Term Conditions Conditions Conditions atom_bounded num_bounded term_bounded t)

  abbrev pub size_owed : Num → Conditions
  size_owed t = owed_if (read numbers t) (bounded t)

-- ---- what is written at an expression owes at its own place; what comes through a named number or condition owes at the expression

-- two numbers are one where 2 to them is
abbrev pub same_number : Num → Num → Bool
same_number t u = eq_atom (P.Power t) (P.Power u)

abbrev pub is_exponent : Role → Bool
is_exponent Size.Exponent = true
is_exponent role = false

abbrev pub is_side : Role → Bool
is_side Size.Side = true
is_side role = false

abbrev pub exponent_is : Num → WrittenNumber → Bool
exponent_is t n = is_exponent n.role && same_number n.number t

abbrev pub side_is : Num → WrittenNumber → Bool
side_is t n = is_side n.role && same_number n.number t

-- a constant exponent owes nothing at its `^`
abbrev pub varies : Option Num → Bool
varies None = true
varies (Some t) = not (is_constant t)

-- an exponent, as it is read
abbrev pub owes_there : List WrittenNumber → Num → Option Num → Bool
owes_there ns t o = varies o && list_any (exponent_is t) ns

module _ (numbers : List Index) (ns : List WrittenNumber) where
  -- exponents that don't owe there are from 0 to 126
  abbrev pub exponent_through : Num → Conditions
  exponent_through t = if owes_there ns t (read numbers t) then [] else fine_exponent (read numbers t)

  abbrev pub atom_through : Atom-F (Atom × Conditions) (Num × Conditions) (Term × Conditions) → Conditions
  atom_through (A.Variable i) = []
  atom_through (A.Power t) = t.1 ++ exponent_through t.0

  abbrev pub term_through : Term-F (Atom × Conditions) (Num × Conditions) (Term × Conditions) → Conditions
  term_through t = t.atom.1

  abbrev pub num_through : Num-F (Atom × Conditions) (Num × Conditions) (Term × Conditions) → Conditions
  num_through n = all_owed (map (λ t. t.1) n.terms)

  abbrev pub through : Num → Conditions
  through = para-Num Conditions Conditions Conditions atom_through num_through term_through

  abbrev pub through_atom : Atom → Conditions
  through_atom = para-Atom Conditions Conditions Conditions atom_through num_through term_through

  abbrev pub through_term : Term → Conditions
  through_term = para-Term Conditions Conditions Conditions atom_through num_through term_through

  -- nor are sides of comparisons, which are from the least to the largest integer
  abbrev pub side_through : Num → Conditions
  side_through t = if list_any (side_is t) ns then through t else through t ++ size_owed numbers t

  abbrev pub compared_form : Con-F Conditions → Conditions
  compared_form (C.Compare how t u) = side_through t ++ side_through u
  compared_form (C.OneOf t zs) = side_through t
  compared_form (C.Not cs) = cs
  compared_form (C.All parts) = all_owed parts
  compared_form (C.Any parts) = all_owed parts
  compared_form form = []

  abbrev pub compared : Con → Conditions
  compared = fold-Con Conditions compared_form

  abbrev pub truth_owed : Con → Conditions
  truth_owed c = owed_if (read_con numbers c) (compared c)

-- ---- the walks

-- a number of a type, as a value
abbrev pub sized_integer : Option Num → Walk Indices
sized_integer t = bind (number_or_fresh t) (λ n. give (I.Integer n))

abbrev pub size_walk : Place → Num → List WrittenNumber → Around → Walk Indices
size_walk place t numbers around =
    bind (exponents_owed around numbers) (λ x.
    bind (owe place (through around.numbers numbers t ++ size_owed around.numbers t)) (λ y. sized_integer (read around.numbers t)))

-- the sides of comparisons, each at its place
abbrev pub side_owed : Around → WrittenNumber → Role → Conditions
side_owed around n Size.Side = size_owed around.numbers n.number
side_owed around n Size.Exponent = number_owed around n Size.Exponent
side_owed around n role = []

abbrev pub sides_owed : Around → List WrittenNumber → Walk (Unit {0})
sides_owed around [] = give tt
sides_owed around (n ∷ ns) = bind (owe n.place (side_owed around n n.role)) (λ t. sides_owed around ns)

abbrev pub constraint_walk : Place → Con → List WrittenNumber → Around → Walk Indices
constraint_walk place c numbers around =
    bind (sides_owed around numbers) (λ t.
    bind (owe place (truth_owed around.numbers numbers c)) (λ x. bind (truth_or_fresh (read_con around.numbers c)) (λ d. give (I.Truth d))))
