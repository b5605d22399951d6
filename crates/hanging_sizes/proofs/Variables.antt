-- The variables on which the sizes in a type hang.
use Rattle.std.proofs.Common.{ℕ, zero, suc, Bool, List, [], ◌∷◌, ◌++◌, length, if◌then◌else◌}
use Rattle.sail_types.specs.declared.numbers.Atom.TheFolds.{fold-Atom, fold-Num, fold-Term}
use Rattle.sail_types.specs.declared.numbers.Atom.TheOpen as N
use Rattle.sail_types.specs.declared.numbers.Atom.TheOpen.{Atom-F, Num-F, Term-F}
use Rattle.sail_types.specs.declared.numbers.Atom.{Atom}
use Rattle.sail_types.specs.declared.numbers.Index.{Index}
use Rattle.sail_types.specs.declared.numbers.Index.TheVariants as I
use Rattle.sail_types.specs.declared.numbers.Num.{Num}
use Rattle.sail_types.specs.declared.numbers.Term.{Term}
use Rattle.sail_types.specs.declared.table.Types.{Types}
use Rattle.sail_types.specs.declared.types.Typ.{Typ, Typ-F, fold-Typ}
use Rattle.sail_types.specs.declared.types.Typ.TheOpen as T
use Rattle.size_values.specs.Sizes.{joined}
use Rattle.size_values.specs.Sized.{hangs_on}

-- ---- the variables in a number

abbrev pub atom_variables : Atom-F (List ℕ) (List ℕ) (List ℕ) → List ℕ
atom_variables (N.Variable i) = i ∷ []
atom_variables (N.Power is) = is

abbrev pub sum_variables : Num-F (List ℕ) (List ℕ) (List ℕ) → List ℕ
sum_variables n = joined n.terms

abbrev pub term_variables : Term-F (List ℕ) (List ℕ) (List ℕ) → List ℕ
term_variables t = t.atom

abbrev pub variables_of : Num → List ℕ
variables_of = fold-Num (List ℕ) (List ℕ) (List ℕ) atom_variables sum_variables term_variables

-- of what a coefficient multiplies, and of a term
abbrev pub variables_in_atom : Atom → List ℕ
variables_in_atom = fold-Atom (List ℕ) (List ℕ) (List ℕ) atom_variables sum_variables term_variables

abbrev pub variables_in_term : Term → List ℕ
variables_in_term = fold-Term (List ℕ) (List ℕ) (List ℕ) atom_variables sum_variables term_variables

-- no condition is in a size
abbrev pub index_variables : Index → List ℕ
index_variables (I.Number t) = variables_of t
index_variables (I.Truth c) = []

-- ---- the variables on which the sizes in a type hang

-- those around a type that binds one
abbrev pub outside : List ℕ → List ℕ
outside [] = []
outside (zero ∷ is) = outside is
outside (suc i ∷ is) = i ∷ outside is

module _ (types : Types) where
  -- the arguments of a named type from one on, on which a size of it hangs
  abbrev pub arguments_hanging : ℕ → ℕ → ℕ → List Index → List ℕ
  arguments_hanging u n k [] = []
  arguments_hanging u n k (a ∷ args) = (if hangs_on types u n k then index_variables a else []) ++ arguments_hanging u n (suc k) args

  abbrev pub form_hanging : Typ-F (List ℕ) → List ℕ
  form_hanging (T.Bits t) = variables_of t
  form_hanging (T.List is) = is
  form_hanging (T.Vector t is) = variables_of t ++ is
  form_hanging (T.Tuple fs) = joined fs
  form_hanging (T.Named u args fs) = arguments_hanging u (length args) 0 args ++ joined fs
  form_hanging (T.Exists name c is) = outside is
  form_hanging form = []

  abbrev pub hanging : Typ → List ℕ
  hanging = fold-Typ (List ℕ) form_hanging
