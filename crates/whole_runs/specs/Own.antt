-- Conditions that name a function's own variables alone, each by its kind.
use Rattle.std.specs.Prelude.{◌&&◌, ℕ, Bool, true, false, List, Option, Some, option_map, slice_get}
use Rattle.std.specs.List.{list_all}
use Rattle.sail_base.specs.declared.kind.Kind.{Kind}
use Rattle.sail_base.specs.declared.kind.Kind.TheVariants as K
use Rattle.sail_types.specs.declared.numbers.Atom.{Atom}
use Rattle.sail_types.specs.declared.numbers.Atom.TheOpen as N
use Rattle.sail_types.specs.declared.numbers.Atom.TheOpen.{Atom-F, Num-F, Term-F}
use Rattle.sail_types.specs.declared.numbers.Atom.TheFolds.{fold-Atom, fold-Num, fold-Term}
use Rattle.sail_types.specs.declared.numbers.Con.{Con, Con-F, fold-Con}
use Rattle.sail_types.specs.declared.numbers.Con.TheOpen as C
use Rattle.sail_types.specs.declared.numbers.Num.{Num}
use Rattle.sail_types.specs.declared.numbers.Term.{Term}
use Rattle.sail_types.specs.declared.table.Parameter.{Parameter}

-- the kind of a variable, where the function has it
abbrev pub kind_at : List Parameter → ℕ → Option Kind
kind_at ps v = option_map (λ p. p.kind) (slice_get ps v)

abbrev pub is_integer : Option Kind → Bool
is_integer (Some K.Int) = true
is_integer o = false

abbrev pub is_truth : Option Kind → Bool
is_truth (Some K.Bool) = true
is_truth o = false

abbrev pub all_of : List Bool → Bool
all_of bs = list_all (λ b. b) bs

module _ (ps : List Parameter) where
  -- numbers, in exponents too

  abbrev pub atom_owns : Atom-F Bool Bool Bool → Bool
  atom_owns (N.Variable i) = is_integer (kind_at ps i)
  atom_owns (N.Power b) = b

  abbrev pub sum_owns : Num-F Bool Bool Bool → Bool
  sum_owns n = all_of n.terms

  abbrev pub term_owns : Term-F Bool Bool Bool → Bool
  term_owns t = t.atom

  abbrev pub atom_own : Atom → Bool
  atom_own = fold-Atom Bool Bool Bool atom_owns sum_owns term_owns

  abbrev pub number_own : Num → Bool
  number_own = fold-Num Bool Bool Bool atom_owns sum_owns term_owns

  abbrev pub term_own : Term → Bool
  term_own = fold-Term Bool Bool Bool atom_owns sum_owns term_owns

  -- conditions

  abbrev pub form_owns : Con-F Bool → Bool
  form_owns (C.Truth b) = true
  form_owns (C.Holds i) = is_truth (kind_at ps i)
  form_owns (C.Compare how t u) = number_own t && number_own u
  form_owns (C.OneOf t zs) = number_own t
  form_owns (C.Not b) = b
  form_owns (C.All bs) = all_of bs
  form_owns (C.Any bs) = all_of bs

  abbrev pub is_own : Con → Bool
  is_own = fold-Con Bool form_owns
