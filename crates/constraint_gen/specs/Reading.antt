-- Obligations and notes, read off the steps that a walk has written down.
use Rattle.std.specs.Prelude.{ℕ, zero, suc, nat_eq, Bool, true, false, List, [], ◌∷◌, Option, Some, None, if◌then◌else◌}
use Rattle.value_indices.specs.declared.notes.Step.{Step}
use Rattle.value_indices.specs.declared.notes.Step.TheVariants as S
use Rattle.value_indices.specs.Steps.{Note, conditions}
use Rattle.value_indices.specs.Walking.{Written, recalled, seen}
use Rattle.value_indices.specs.declared.walking.Walking.{Walking}
use Rattle.obligations.specs.declared.obligation.Obligation.{Obligation}
use Rattle.obligations.specs.Owed.{owed}
use Rattle.constraint_gen.specs.Obligations.{numbered_name, names_of, goals_in}

-- the name that a step gives a variable
abbrev pub given_by : ℕ → Step → Option (List ℕ)
given_by v (S.Names w name) = if nat_eq v w then Some name else None
given_by v step = None

-- the first that is there
abbrev pub first_of : Option (List ℕ) → Option (List ℕ) → Option (List ℕ)
first_of (Some name) other = Some name
first_of None other = other

-- the name that the first of these steps gives a variable
abbrev pub named_by : ℕ → List Step → Option (List ℕ)
named_by v [] = None
named_by v (step ∷ steps) = first_of (given_by v step) (named_by v steps)

-- a variable's name, behind so many without one
abbrev pub name_or : Option (List ℕ) → ℕ → List ℕ
name_or (Some name) k = name
name_or None k = numbered_name (suc k)

-- how many have none, with this variable
abbrev pub counted : Option (List ℕ) → ℕ → ℕ
counted (Some name) k = k
counted None k = suc k

-- the variable at this place has this name, unless it has one
abbrev pub put_name : ℕ → List ℕ → List (Option (List ℕ)) → List (Option (List ℕ))
put_name w name [] = []
put_name zero name (own ∷ names) = first_of own (Some name) ∷ names
put_name (suc w) name (own ∷ names) = own ∷ put_name w name names

abbrev pub name_step : Step → List (Option (List ℕ)) → List (Option (List ℕ))
name_step (S.Names w name) names = put_name w name names
name_step step names = names

-- one step after the other
abbrev pub name_steps : List Step → List (Option (List ℕ)) → List (Option (List ℕ))
name_steps [] names = names
name_steps (step ∷ steps) names = name_steps steps (name_step step names)

-- whether there is a variable, and it has no name
abbrev pub is_unnamed : Option (Option (List ℕ)) → Bool
is_unnamed (Some None) = true
is_unnamed own = false

-- the names of variables, behind so many without one
abbrev pub names_behind : ℕ → List (Option (List ℕ)) → List (List ℕ)
names_behind k [] = []
names_behind k (own ∷ names) = name_or own k ∷ names_behind (counted own k) names

-- what a step owes behind what is written down
abbrev pub step_goals : List (List ℕ) → Written → Step → List Obligation
step_goals names w (S.Owes place c) = owed names (conditions w.facts) c place ∷ []
step_goals names w (S.OwesEarlier place recent c) = owed names (conditions (recalled recent w)) c place ∷ []
step_goals names w step = []

-- the obligations of what a walk has written down
abbrev pub obligations_of : Written → List Obligation
obligations_of w = goals_in (names_of w.next w.notes) w.notes

-- the notes that a walk has written down
abbrev pub notes_of : Walking → List Note
notes_of w = (seen w).notes
