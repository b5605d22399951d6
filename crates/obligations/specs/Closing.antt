-- The facts that close an obligation: of each power of two whose exponent isn't constant, then of each Bool variable.
use Rattle.std.specs.Prelude.{ℤ, pos, Bool, true, ◌||◌, List, [], ◌∷◌, ◌++◌, map, if◌then◌else◌}
use Rattle.std.specs.List.{fold}
use Rattle.sail_types.specs.Sums.{constant, is_constant, of_atom}
use Rattle.sail_types.specs.declared.numbers.Atom.{Atom, out-Atom}
use Rattle.sail_types.specs.declared.numbers.Atom.TheOpen as A
use Rattle.sail_types.specs.declared.numbers.Atom.TheOpen.{Atom-F}
use Rattle.sail_types.specs.declared.numbers.Atom.TheVariants as V
use Rattle.sail_types.specs.declared.numbers.Con.{Con, Con-F, fold-Con}
use Rattle.sail_types.specs.declared.numbers.Con.TheOpen as E
use Rattle.sail_types.specs.declared.numbers.Num.{Num}
use Rattle.sail_types.specs.declared.numbers.Term.{Term}
use Rattle.row_types.specs.Formulas.{at_most, most}
use Rattle.linear.specs.Choices.{joined, with_atom}
use Rattle.linear.specs.Cases.{variables_of}
use Rattle.obligations.specs.Naming.{any_number, has_number}

-- a variable is from one integer to another
abbrev pub between : ℤ → Atom → ℤ → List Con
between low a high = at_most (constant low) (of_atom a) ∷ at_most (of_atom a) (constant high) ∷ []

-- a power is from 1 to the largest integer
abbrev pub power_form : Atom → Atom-F Atom Num Term → List Con
power_form a (A.Variable i) = []
power_form a (A.Power t) = if is_constant t then [] else between (pos 1) a most

abbrev pub power_facts : List Atom → List Con
power_facts [] = []
power_facts (a ∷ atoms) = power_form a (out-Atom a) ++ power_facts atoms

abbrev pub truths_form : Con-F (List Atom) → List Atom
truths_form (E.Truth b) = []
truths_form (E.Holds p) = V.Variable p ∷ []
truths_form (E.Compare how t u) = []
truths_form (E.OneOf t zs) = []
truths_form (E.Not atoms) = atoms
truths_form (E.All lists) = joined lists
truths_form (E.Any lists) = joined lists

-- the Bool variables of a condition, from left to right
abbrev pub truths_in : Con → List Atom
truths_in = fold-Con (List Atom) truths_form

-- those of facts and a goal, each once, in order of first appearance
abbrev pub truths_of : List Con → Con → List Atom
truths_of facts goal = fold with_atom [] (joined (map truths_in facts) ++ truths_in goal)

-- whether a number of facts or a goal names a variable; a power is a number
abbrev pub is_numbered : List Con → Con → Atom-F Atom Num Term → Bool
is_numbered facts goal (A.Variable i) = any_number i facts || has_number i goal
is_numbered facts goal (A.Power t) = true

-- of Bool variables those that no number names, which are all of them where each variable is of one kind
abbrev pub unnumbered : List Con → Con → List Atom → List Atom
unnumbered facts goal [] = []
unnumbered facts goal (a ∷ atoms) =
    if is_numbered facts goal (out-Atom a) then unnumbered facts goal atoms else a ∷ unnumbered facts goal atoms

-- a Bool variable is an integer from 0 to 1
abbrev pub truth_facts : List Atom → List Con
truth_facts [] = []
truth_facts (p ∷ ps) = between (pos 0) p (pos 1) ++ truth_facts ps

abbrev pub with_closing : List Con → Con → List Con
with_closing facts goal =
    facts ++ power_facts (variables_of (record { facts = facts; goal = goal })) ++ truth_facts (unnumbered facts goal (truths_of facts goal))
