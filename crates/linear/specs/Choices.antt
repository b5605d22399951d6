-- What makes a constraint true, as rows: the numbers of a problem's variables, and the alternatives of a constraint.
use Rattle.std.specs.Prelude.{
  ℕ,
  zero,
  suc,
  ◌+ℤ◌,
  ◌-ℤ◌,
  ◌*ℤ◌,
  Bool,
  true,
  false,
  not,
  List,
  [],
  ◌∷◌,
  ◌++◌,
  map,
  ℤ,
  pos,
  negsuc,
  Option,
  Some,
  None,
  if◌then◌else◌,
  int_lt,
  ◌&&◌,
}
use Rattle.std.specs.List.{fold, list_any, position_or_len, flat_map}
use Rattle.sail_types.specs.declared.numbers.Atom.{Atom}
use Rattle.sail_types.specs.declared.numbers.Comparison.{Comparison}
use Rattle.sail_types.specs.declared.numbers.Comparison.TheVariants as Is
use Rattle.sail_types.specs.declared.numbers.Con.{Con, Con-F, fold-Con}
use Rattle.sail_types.specs.declared.numbers.Con.TheOpen as C
use Rattle.sail_types.specs.declared.numbers.Num.{Num}
use Rattle.sail_types.specs.declared.numbers.Term.{Term}
use Rattle.sail_types.specs.Sums.{num, terms_of, constant_of, coefficient_of, atom_of, eq_atom}
use Rattle.sail_types.specs.declared.numbers.Atom.TheVariants as A
use Rattle.linear.specs.declared.choice.Choice.{Choice}
use Rattle.linear.specs.declared.choice.Choice.TheVariants as V
use Rattle.linear.specs.declared.row.Row.{Row}
use Rattle.linear.specs.Numbers.{is_within, are_within}
use Rattle.linear.specs.Rows.{added, is_constant}

-- a function of what there is
abbrev pub then_do : {A B : Type 0} → Option A → (A → Option B) → Option B
then_do None f = None
then_do (Some a) f = f a

-- all of several, if each is there
abbrev pub all_of : {A : Type 0} → List (Option A) → Option (List A)
all_of [] = Some []
all_of (o ∷ os) = then_do o (λ a. then_do (all_of os) (λ rest. Some (a ∷ rest)))

-- a number, and numbers, within the limit
abbrev pub limited : ℤ → Option ℤ
limited z = if is_within z then Some z else None

abbrev pub all_limited : List ℤ → Option (List ℤ)
all_limited numbers = if are_within numbers then Some numbers else None

-- ---- variables

-- the variables of a number, and of a constraint, from left to right
abbrev pub atoms_of : Num → List Atom
atoms_of n = map atom_of (terms_of n)

-- several lists as one
abbrev pub joined : {A : Type 0} → List (List A) → List A
joined [] = []
joined (first ∷ rest) = first ++ joined rest

abbrev pub occurring : Con-F (List Atom) → List Atom
occurring (C.Truth b) = []
occurring (C.Holds p) = A.Variable p ∷ []
occurring (C.Compare how t u) = atoms_of t ++ atoms_of u
occurring (C.OneOf t zs) = atoms_of t
occurring (C.Not atoms) = atoms
occurring (C.All lists) = joined lists
occurring (C.Any lists) = joined lists

abbrev pub variables_in : Con → List Atom
variables_in = fold-Con (List Atom) occurring

-- one variable more, where it isn't there
abbrev pub with_atom : List Atom → Atom → List Atom
with_atom atoms a = if list_any (eq_atom a) atoms then atoms else atoms ++ a ∷ []

-- the place of a variable
abbrev pub place_of : List Atom → Atom → ℕ
place_of atoms a = position_or_len (eq_atom a) atoms

-- ---- rows

-- a list that is zero but for one place
abbrev pub only : ℕ → ℤ → List ℤ
only zero c = c ∷ []
only (suc i) c = pos 0 ∷ only i c

-- coefficients with a term more, times 1 or -1
abbrev pub with_term : List Atom → ℤ → List ℤ → Term → Option (List ℤ)
with_term atoms sign coefficients term = then_do (limited (coefficient_of term)) (λ c. all_limited (added coefficients (only (place_of atoms (atom_of
    term)) (sign *ℤ c))))

abbrev pub with_terms : List Atom → ℤ → List ℤ → List Term → Option (List ℤ)
with_terms atoms sign coefficients [] = Some coefficients
with_terms atoms sign coefficients (term ∷ terms) = then_do (with_term atoms sign coefficients term) (λ more. with_terms atoms sign more terms)

-- 1, or -1 where a number is taken away
abbrev pub sign_of : Bool → ℤ
sign_of negative = if negative then negsuc 0 else pos 1

-- 1 where a comparison is strict
abbrev pub gap_of : Bool → ℤ
gap_of strict = if strict then pos 1 else pos 0

-- the right constant less the left one and k
abbrev pub bound_of : ℤ → ℤ → ℤ → Option ℤ
bound_of k left right = then_do (limited left) (λ first. then_do (limited (first +ℤ k)) (λ whole. then_do (limited right) (λ second. limited (second
    -ℤ whole))))

-- `t + k <= u`: the terms of t less those of u, and the constant of u less that of t and k
abbrev pub at_most : List Atom → ℤ → Num → Num → Option Row
at_most atoms k t u =
    then_do (with_terms atoms (pos 1) [] (terms_of t)) (λ half.
    then_do (with_terms atoms (negsuc 0) half (terms_of u)) (λ coefficients.
    then_do (bound_of k (constant_of t) (constant_of u)) (λ bound. Some (record { coefficients = coefficients; bound = bound }))))

-- rows that are true together
abbrev pub row_choice : Option Row → Option Choice
row_choice row = then_do row (λ r. Some (V.Rows (r ∷ [])))

abbrev pub two_rows : Option Row → Option Row → Option Choice
two_rows first second = then_do first (λ r. then_do second (λ s. Some (V.Rows (r ∷ s ∷ []))))

abbrev pub either_row : Option Row → Option Row → Option Choice
either_row first second = then_do first (λ r. then_do second (λ s. Some (V.Any (V.Rows (r ∷ []) ∷ V.Rows (s ∷ []) ∷ []))))

-- what makes a comparison true: `<=` before `>=` of an equality, `<` before `>` of an inequality
abbrev pub compared : List Atom → Comparison → Num → Num → Option Choice
compared atoms Is.Less t u = row_choice (at_most atoms (pos 1) t u)
compared atoms Is.LessEqual t u = row_choice (at_most atoms (pos 0) t u)
compared atoms Is.Equal t u = two_rows (at_most atoms (pos 0) t u) (at_most atoms (pos 0) u t)
compared atoms Is.NotEqual t u = either_row (at_most atoms (pos 1) t u) (at_most atoms (pos 1) u t)
compared atoms Is.GreaterEqual t u = row_choice (at_most atoms (pos 0) u t)
compared atoms Is.Greater t u = row_choice (at_most atoms (pos 1) u t)

abbrev pub opposite : Comparison → Comparison
opposite Is.Less = Is.GreaterEqual
opposite Is.LessEqual = Is.Greater
opposite Is.Equal = Is.NotEqual
opposite Is.NotEqual = Is.Equal
opposite Is.GreaterEqual = Is.Less
opposite Is.Greater = Is.LessEqual

-- a row without variables that is true, or that isn't
abbrev pub truth_row : Bool → Row
truth_row b = record { coefficients = []; bound = if b then pos 0 else negsuc 0 }

-- a Bool variable is an integer, true where it is 1 or more
abbrev pub holds_row : ℕ → Bool → Row
holds_row i true = record { coefficients = only i (negsuc 0); bound = negsuc 0 }
holds_row i false = record { coefficients = only i (pos 1); bound = pos 0 }

abbrev pub all_parts : Option (List Choice) → Option Choice
all_parts parts = then_do parts (λ choices. Some (V.All choices))

abbrev pub any_part : Option (List Choice) → Option Choice
any_part parts = then_do parts (λ choices. Some (V.Any choices))

-- all of several, or one of them
abbrev pub joined_choice : Bool → Option (List Choice) → Option Choice
joined_choice all parts = if all then all_parts parts else any_part parts

-- what makes a number one of a set, or none of it
abbrev pub among : List Atom → Num → List ℤ → Bool → Option Choice
among atoms t zs true = any_part (all_of (map (λ z. compared atoms Is.Equal t (num [] z)) zs))
among atoms t zs false = all_parts (all_of (map (λ z. compared atoms Is.NotEqual t (num [] z)) zs))

-- what makes a constraint true, or false
abbrev pub choice_step : List Atom → Con-F (Bool → Option Choice) → Bool → Option Choice
choice_step atoms (C.Truth b) truth = Some (V.Rows (truth_row (if truth then b else not b) ∷ []))
choice_step atoms (C.Holds p) truth = Some (V.Rows (holds_row (place_of atoms (A.Variable p)) truth ∷ []))
choice_step atoms (C.Compare how t u) truth = compared atoms (if truth then how else opposite how) t u
choice_step atoms (C.OneOf t zs) truth = among atoms t zs truth
choice_step atoms (C.Not part) truth = part (not truth)
choice_step atoms (C.All parts) truth = joined_choice truth (all_of (map (λ (part : Bool → Option Choice). part truth) parts))
choice_step atoms (C.Any parts) truth = joined_choice (not truth) (all_of (map (λ (part : Bool → Option Choice). part truth) parts))

abbrev pub choice_of : List Atom → Con → Bool → Option Choice
choice_of atoms = fold-Con (Bool → Option Choice) (choice_step atoms)
