-- What is asked of a number or a condition that an expression reads: its variables are the function's own, each by its kind.
use Rattle.std.specs.Prelude.{ℕ, Bool, true, false, ◌&&◌, List, slice_get, Option, Some}
use Rattle.std.specs.List.{list_all}
use Rattle.sail_types.specs.declared.numbers.Atom.{Atom}
use Rattle.sail_types.specs.declared.numbers.Atom.TheFolds.{fold-Atom, fold-Num, fold-Term}
use Rattle.sail_types.specs.declared.numbers.Atom.TheOpen as N
use Rattle.sail_types.specs.declared.numbers.Atom.TheOpen.{Atom-F, Num-F, Term-F}
use Rattle.sail_types.specs.declared.numbers.Con.{Con, Con-F, fold-Con}
use Rattle.sail_types.specs.declared.numbers.Con.TheOpen as C
use Rattle.sail_types.specs.declared.numbers.Index.{Index}
use Rattle.sail_types.specs.declared.numbers.Index.TheVariants as I
use Rattle.sail_types.specs.declared.numbers.Num.{Num}
use Rattle.sail_types.specs.declared.numbers.Term.{Term}

abbrev pub is_integer : Option Index → Bool
is_integer (Some (I.Number n)) = true
is_integer o = false

abbrev pub is_truth : Option Index → Bool
is_truth (Some (I.Truth c)) = true
is_truth o = false

module _ (numbers : List Index) where
  -- numbers, in exponents too

  abbrev pub atom_owns : Atom-F Bool Bool Bool → Bool
  atom_owns (N.Variable i) = is_integer (slice_get numbers i)
  atom_owns (N.Power b) = b

  abbrev pub sum_owns : Num-F Bool Bool Bool → Bool
  sum_owns n = list_all (λ b. b) n.terms

  abbrev pub term_owns : Term-F Bool Bool Bool → Bool
  term_owns t = t.atom

  abbrev pub number_own : Num → Bool
  number_own = fold-Num Bool Bool Bool atom_owns sum_owns term_owns

  abbrev pub atom_own : Atom → Bool
  atom_own = fold-Atom Bool Bool Bool atom_owns sum_owns term_owns

  abbrev pub term_own : Term → Bool
  term_own = fold-Term Bool Bool Bool atom_owns sum_owns term_owns

  -- conditions

  abbrev pub form_owns : Con-F Bool → Bool
  form_owns (C.Truth b) = true
  form_owns (C.Holds i) = is_truth (slice_get numbers i)
  form_owns (C.Compare how t u) = number_own t && number_own u
  form_owns (C.OneOf t zs) = number_own t
  form_owns (C.Not b) = b
  form_owns (C.All bs) = list_all (λ b. b) bs
  form_owns (C.Any bs) = list_all (λ b. b) bs

  abbrev pub con_own : Con → Bool
  con_own = fold-Con Bool form_owns
