-- Keys of variables: a variable has one key, and some variables may share one.
use Rattle.std.specs.Prelude.{ℕ, List, [], ◌∷◌, ◌++◌, map, Option, Some, None, slice_get}
use Rattle.std.specs.List.{fold}
use Rattle.sail_types.specs.Sums.{terms_of, atom_of}
use Rattle.sail_types.specs.declared.numbers.Atom.{Atom, out-Atom}
use Rattle.sail_types.specs.declared.numbers.Atom.TheOpen as A
use Rattle.sail_types.specs.declared.numbers.Atom.TheOpen.{Atom-F}
use Rattle.sail_types.specs.declared.numbers.Con.{Con}
use Rattle.sail_types.specs.declared.numbers.Num.{Num}
use Rattle.sail_types.specs.declared.numbers.Term.{Term}
use Rattle.linear.specs.Choices.{variables_in, with_atom}
use Rattle.value_indices.specs.declared.notes.Fact.{Fact}
use Rattle.value_indices.specs.declared.notes.Fact.TheVariants as Y

-- the number of a variable; 0 for a power of two
abbrev pub number_form : Atom-F Atom Num Term → ℕ
number_form (A.Variable v) = v
number_form (A.Power t) = 0

-- that of the first of these terms; 0 where there is none
abbrev pub first_number : List Term → ℕ
first_number [] = 0
first_number (t ∷ ts) = number_form (out-Atom (atom_of t))

abbrev pub key_form : Atom-F Atom Num Term → ℕ
key_form (A.Variable v) = v
key_form (A.Power t) = first_number (terms_of t)

-- a variable's number, and for a power of two that of the first variable of its exponent
abbrev pub key_of : Atom → ℕ
key_of a = key_form (out-Atom a)

-- the keys of a condition's variables
abbrev pub keys_of : Con → List ℕ
keys_of c = map key_of (fold with_atom [] (variables_in c))

abbrev pub fact_keys : Fact → List ℕ
fact_keys (Y.Holds c) = keys_of c
fact_keys (Y.IsGiven v) = []

abbrev pub keys_of_option : Option Fact → List ℕ
keys_of_option None = []
keys_of_option (Some f) = fact_keys f

-- the keys of the fact at a position, and of those at several
abbrev pub keys_at : List Fact → ℕ → List ℕ
keys_at facts position = keys_of_option (slice_get facts position)

abbrev pub keys_at_each : List Fact → List ℕ → List ℕ
keys_at_each facts [] = []
keys_at_each facts (position ∷ positions) = keys_at facts position ++ keys_at_each facts positions
