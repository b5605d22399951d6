-- Which variables conditions name as numbers, in exponents too.
use Rattle.std.specs.Prelude.{ℕ, nat_eq, Bool, false, ◌||◌, List, map}
use Rattle.std.specs.List.{list_any}
use Rattle.sail_types.specs.declared.numbers.Atom.{Atom}
use Rattle.sail_types.specs.declared.numbers.Atom.TheOpen as N
use Rattle.sail_types.specs.declared.numbers.Atom.TheOpen.{Atom-F, Num-F, Term-F}
use Rattle.sail_types.specs.declared.numbers.Atom.TheFolds.{fold-Atom, fold-Num, fold-Term}
use Rattle.sail_types.specs.declared.numbers.Con.{Con, Con-F, fold-Con}
use Rattle.sail_types.specs.declared.numbers.Con.TheOpen as C
use Rattle.sail_types.specs.declared.numbers.Num.{Num}
use Rattle.sail_types.specs.declared.numbers.Term.{Term}

abbrev pub any_of : List Bool → Bool
any_of bs = list_any (λ b. b) bs

abbrev pub atom_names : ℕ → Atom-F Bool Bool Bool → Bool
atom_names v (N.Variable i) = nat_eq i v
atom_names v (N.Power b) = b

abbrev pub sum_names : Num-F Bool Bool Bool → Bool
sum_names n = any_of n.terms

abbrev pub term_names : Term-F Bool Bool Bool → Bool
term_names t = t.atom

abbrev pub atom_has : ℕ → Atom → Bool
atom_has v = fold-Atom Bool Bool Bool (atom_names v) sum_names term_names

abbrev pub number_has : ℕ → Num → Bool
number_has v = fold-Num Bool Bool Bool (atom_names v) sum_names term_names

abbrev pub term_has : ℕ → Term → Bool
term_has v = fold-Term Bool Bool Bool (atom_names v) sum_names term_names

abbrev pub form_numbers : ℕ → Con-F Bool → Bool
form_numbers v (C.Truth b) = false
form_numbers v (C.Holds i) = false
form_numbers v (C.Compare how t u) = number_has v t || number_has v u
form_numbers v (C.OneOf t zs) = number_has v t
form_numbers v (C.Not b) = b
form_numbers v (C.All bs) = any_of bs
form_numbers v (C.Any bs) = any_of bs

-- whether a condition names it as a number
abbrev pub has_number : ℕ → Con → Bool
has_number v = fold-Con Bool (form_numbers v)

-- whether one of these does
abbrev pub any_number : ℕ → List Con → Bool
any_number v cs = any_of (map (has_number v) cs)
