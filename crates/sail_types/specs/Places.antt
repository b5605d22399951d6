-- The number that a value gives to a variable of its type: the integer, truth or length at the variable's place.
use Rattle.std.specs.Prelude.{ℕ, suc, nat_eq, ℤ, pos, Bool, true, false, ◌&&◌, List, [], ◌∷◌, length, Option, Some, None}
use Rattle.std.specs.Ordering.{int_eq}
use Rattle.sail_types.specs.declared.numbers.Num.{Num}
use Rattle.sail_types.specs.declared.numbers.Term.{Term}
use Rattle.sail_types.specs.declared.numbers.Atom.{Atom, out-Atom}
use Rattle.sail_types.specs.declared.numbers.Atom.TheOpen as N
use Rattle.sail_types.specs.declared.numbers.Atom.TheOpen.{Atom-F, Num-F, Term-F}
use Rattle.sail_types.specs.declared.numbers.Num.{out-Num}
use Rattle.sail_types.specs.declared.numbers.Term.{out-Term}
use Rattle.sail_types.specs.declared.numbers.Con.{Con, Con-F, out-Con}
use Rattle.sail_types.specs.declared.numbers.Con.TheOpen as C
use Rattle.sail_types.specs.declared.types.Typ.{Typ, Typ-F, fold-Typ}
use Rattle.sail_types.specs.declared.types.Typ.TheOpen as T
use Rattle.sail_types.specs.declared.values.Value.{Value, Value-F, out-Value}
use Rattle.sail_types.specs.declared.values.Value.TheOpen as W

-- what a variable stands for
pub data Given : Type 0 where
  an_int : ℤ → Given
  a_bool : Bool → Given

abbrev pub atom_is : ℕ → Atom-F Atom Num Term → Bool
atom_is j (N.Variable i) = nat_eq i j
atom_is j (N.Power t) = false

abbrev pub term_is : ℕ → Term-F Atom Num Term → Bool
term_is j term = int_eq term.coefficient (pos 1) && atom_is j (out-Atom term.atom)

abbrev pub terms_are : ℕ → List Term → Bool
terms_are j (term ∷ []) = term_is j (out-Term term)
terms_are j terms = false

abbrev pub sum_is : ℕ → Num-F Atom Num Term → Bool
sum_is j n = int_eq n.constant (pos 0) && terms_are j n.terms

-- whether a number is that variable alone
abbrev pub is_variable : ℕ → Num → Bool
is_variable j n = sum_is j (out-Num n)

abbrev pub form_is : ℕ → Con-F Con → Bool
form_is j (C.Holds i) = nat_eq i j
form_is j c = false

abbrev pub only : {A : Type 0} → Bool → A → Option A
only true x = Some x
only false x = None

abbrev pub first : {A : Type 0} → Option A → Option A → Option A
first None o = o
first (Some x) o = Some x

-- a type, asked for the number that a value gives to a variable
abbrev pub Placed : Type 0
Placed = ℕ → Value → Option Given

abbrev pub among : List Placed → ℕ → List Value → Option Given
among (f ∷ fs) j (v ∷ vs) = first (f j v) (among fs j vs)
among fs j vs = None

abbrev pub form_place : Typ-F Placed → ℕ → Value-F Value → Option Given
form_place (T.Int t) j (W.Integer z) = only (is_variable j t) (an_int z)
form_place (T.Truth c) j (W.Truth b) = only (form_is j (out-Con c)) (a_bool b)
form_place (T.Bits t) j (W.Bits bits) = only (is_variable j t) (an_int (pos (length bits)))
form_place (T.Vector t f) j (W.Vector vs) = only (is_variable j t) (an_int (pos (length vs)))
form_place (T.Tuple fs) j (W.Tuple vs) = among fs j vs
form_place t j v = None

abbrev pub placed_form : Typ-F Placed → Placed
placed_form (T.Exists name c f) j v = f (suc j) v
placed_form t j v = form_place t j (out-Value v)

-- the number that a value of this type gives to that variable, at its first place: `int('n)`, `bool('p)`, `bits('n)` or
-- `vector('n, T)`, whole or a part of a tuple
abbrev pub placed : Typ → Placed
placed = fold-Typ Placed placed_form
