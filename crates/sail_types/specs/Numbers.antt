-- What numbers of types are and when constraints are true, under an assignment to their variables, over
-- unbounded integers (Sail language manual, "Numeric types" and "Type variables").
use Rattle.std.specs.Prelude.{unwrap_or, ℕ, ℤ, pos, ◌+ℤ◌, ◌*ℤ◌, ◌≤ℤ◌, int_le, int_lt, Bool, not, List, [], ◌∷◌, map}
use Rattle.std.specs.Ordering.{int_eq}
use Rattle.std.specs.List.{list_all, list_any}
use Rattle.sail_types.specs.Limits.{largest, small_power}
use Rattle.sail_types.specs.declared.numbers.Num.{Num}
use Rattle.sail_types.specs.declared.numbers.Term.{Term}
use Rattle.sail_types.specs.declared.numbers.Atom.{Atom}
use Rattle.sail_types.specs.declared.numbers.Atom.TheOpen as N
use Rattle.sail_types.specs.declared.numbers.Atom.TheOpen.{Atom-F, Num-F, Term-F}
use Rattle.sail_types.specs.declared.numbers.Atom.TheFolds.{para-Num, para-Term, para-Atom}
use Rattle.sail_types.specs.declared.numbers.Comparison.{Comparison}
use Rattle.sail_types.specs.declared.numbers.Comparison.TheVariants as Is
use Rattle.sail_types.specs.declared.numbers.Con.{Con, Con-F, fold-Con}
use Rattle.sail_types.specs.declared.numbers.Con.TheOpen as C

-- an integer from 1 to the largest
pub record Positive : Type 0 where
  pub value : ℤ
  pub low : pos 1 ≤ℤ value
  pub high : value ≤ℤ pos largest

-- an integer for each Int variable, a truth for each Bool variable, and the number of each power of two
-- whose exponent is not from 0 to 126, which is known by its exponent alone
pub record Assignment : Type 0 where
  pub int : ℕ → ℤ
  pub bool : ℕ → Bool
  pub beyond : Num → Positive

abbrev pub total : List ℤ → ℤ
total [] = pos 0
total (z ∷ zs) = z +ℤ total zs

abbrev pub atom_number : Assignment → Atom-F (Atom × ℤ) (Num × ℤ) (Term × ℤ) → ℤ
atom_number nu (N.Variable i) = nu.int i
atom_number nu (N.Power (t, z)) = unwrap_or (small_power z) (nu.beyond t).value

abbrev pub term_number : Term-F (Atom × ℤ) (Num × ℤ) (Term × ℤ) → ℤ
term_number term = term.coefficient *ℤ term.atom.1

abbrev pub sum_number : Num-F (Atom × ℤ) (Num × ℤ) (Term × ℤ) → ℤ
sum_number n = total (map (λ t. t.1) n.terms) +ℤ n.constant

-- the integer that a number is
abbrev pub number : Assignment → Num → ℤ
number nu = para-Num ℤ ℤ ℤ (atom_number nu) sum_number term_number

-- the integer that an atom is
abbrev pub number_of_atom : Assignment → Atom → ℤ
number_of_atom nu = para-Atom ℤ ℤ ℤ (atom_number nu) sum_number term_number

-- the integer that a term is
abbrev pub number_of_term : Assignment → Term → ℤ
number_of_term nu = para-Term ℤ ℤ ℤ (atom_number nu) sum_number term_number

-- whether two integers compare so
abbrev pub compares : Comparison → ℤ → ℤ → Bool
compares Is.Less x y = int_lt x y
compares Is.LessEqual x y = int_le x y
compares Is.Equal x y = int_eq x y
compares Is.NotEqual x y = not (int_eq x y)
compares Is.GreaterEqual x y = int_le y x
compares Is.Greater x y = int_lt y x

abbrev pub form_true : Assignment → Con-F Bool → Bool
form_true nu (C.Truth b) = b
form_true nu (C.Holds i) = nu.bool i
form_true nu (C.Compare how t u) = compares how (number nu t) (number nu u)
form_true nu (C.OneOf t zs) = list_any (int_eq (number nu t)) zs
form_true nu (C.Not b) = not b
form_true nu (C.All bs) = list_all (λ b. b) bs
form_true nu (C.Any bs) = list_any (λ b. b) bs

-- whether a constraint is true
abbrev pub true_in : Assignment → Con → Bool
true_in nu = fold-Con Bool (form_true nu)
