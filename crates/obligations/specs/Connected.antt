-- The facts that count for a goal: those that share a variable with it, directly or through other facts.
use Rattle.std.specs.Prelude.{ℕ, zero, suc, Bool, List, [], ◌∷◌, ◌++◌, length, if◌then◌else◌}
use Rattle.std.specs.List.{list_any}
use Rattle.sail_types.specs.Sums.{eq_atom}
use Rattle.sail_types.specs.declared.numbers.Atom.{Atom}
use Rattle.sail_types.specs.declared.numbers.Con.{Con}
use Rattle.linear.specs.Choices.{variables_in}

abbrev pub has_atom : List Atom → Atom → Bool
has_atom atoms a = list_any (eq_atom a) atoms

abbrev pub shares : List Atom → List Atom → Bool
shares atoms others = list_any (has_atom others) atoms

-- variables with those of each fact that shares one
abbrev pub spread : List Con → List Atom → List Atom
spread [] atoms = atoms
spread (c ∷ cs) atoms = spread cs (if shares (variables_in c) atoms then variables_in c ++ atoms else atoms)

-- so often that nothing more comes to them
abbrev pub spread_for : ℕ → List Con → List Atom → List Atom
spread_for zero cs atoms = atoms
spread_for (suc times) cs atoms = spread_for times cs (spread cs atoms)

-- the facts that share one of these variables
abbrev pub sharing : List Atom → List Con → List Con
sharing atoms [] = []
sharing atoms (c ∷ cs) = if shares (variables_in c) atoms then c ∷ sharing atoms cs else sharing atoms cs

-- those connected to a goal of these variables; where it has none, all facts
abbrev pub connected : List Con → List Atom → List Con
connected cs [] = cs
connected cs (a ∷ atoms) = sharing (spread_for (length cs) cs (a ∷ atoms)) cs
