-- Obligations: the goals that the walk notes, each with the facts that are connected to it.
use Rattle.std.specs.Prelude.{ℕ, zero, suc, nat_eq, pos, codes, List, [], ◌∷◌, ◌++◌, map, Option, Some, None, if◌then◌else◌}
use Rattle.std.specs.Fmt.{signed_decimal}
use Rattle.linear.specs.Choices.{joined}
use Rattle.sail_core.specs.declared.model.CoreModel.{CoreModel}
use Rattle.value_indices.specs.Steps.{Note, goal_note, name_note, conditions, Went}
use Rattle.obligations.specs.declared.obligation.Obligation.{Obligation}
use Rattle.obligations.specs.Owed.{owed}
use Rattle.constraint_gen.specs.Models.{definitions, from_nothing}

-- ---- names of variables: their own, else `#k`, the k-th without one

abbrev pub named : ℕ → List Note → Option (List ℕ)
named v [] = None
named v (name_note w name ∷ notes) = if nat_eq v w then Some name else named v notes
named v (note ∷ notes) = named v notes

abbrev pub numbered_name : ℕ → List ℕ
numbered_name k = codes "#" ++ signed_decimal (pos k)

abbrev pub also_name : Option (List ℕ) → ℕ → (ℕ → List (List ℕ)) → List (List ℕ)
also_name (Some name) k more = name ∷ more k
also_name None k more = numbered_name (suc k) ∷ more (suc k)

-- so many from this variable on, behind so many without a name
abbrev pub names_from : ℕ → ℕ → ℕ → List Note → List (List ℕ)
names_from zero v k notes = []
names_from (suc count) v k notes = also_name (named v notes) k (λ n. names_from count (suc v) n notes)

abbrev pub names_of : ℕ → List Note → List (List ℕ)
names_of count notes = names_from count 0 0 notes

-- ---- obligations

abbrev pub goals_in : List (List ℕ) → List Note → List Obligation
goals_in names [] = []
goals_in names (goal_note facts place goal ∷ notes) = owed names (conditions facts) goal place ∷ goals_in names notes
goals_in names (note ∷ notes) = goals_in names notes

abbrev pub obligations_in : Went (Unit {0}) → List Obligation
obligations_in r = goals_in (names_of r.next r.notes) r.notes

-- the obligations of a model, in the order of the text
abbrev pub obligations : CoreModel → List Obligation
obligations m = joined (map (λ d. obligations_in (from_nothing d)) (definitions m))
