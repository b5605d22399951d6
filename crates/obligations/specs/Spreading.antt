-- How the variables of connected facts are gathered: each once.
use Rattle.std.specs.Prelude.{◌≡◌, Bool, List, [], ◌∷◌, if◌then◌else◌}
use Rattle.std.specs.List.{fold, list_any}
use Rattle.sail_types.specs.declared.numbers.Atom.{Atom}
use Rattle.sail_types.specs.declared.numbers.Con.{Con}
use Rattle.linear.specs.Choices.{variables_in, with_atom}
use Rattle.obligations.specs.Connected.{shares}

-- variables with those of each fact that shares one, each once
abbrev pub spread_once : List Con → List Atom → List Atom
spread_once [] atoms = atoms
spread_once (c ∷ cs) atoms = spread_once cs (if shares (variables_in c) atoms then fold with_atom atoms (variables_in c) else atoms)

-- lists with the same variables
abbrev pub AreSame : List Atom → List Atom → Type 0
AreSame xs ys = (f : Atom → Bool) → list_any f xs ≡ list_any f ys
