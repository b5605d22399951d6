-- What code is made by: the cases, leads and indices that are said of each node (Sail language manual, "Type variables").
use Rattle.std.specs.Prelude.{ℕ, nat_eq, Bool, true, false, ◌&&◌, ◌||◌, List, [], ◌∷◌, Option}
use Rattle.sail_types.specs.Places.{Given}
use Rattle.value_indices.specs.declared.indices.Indices.{Indices}
use Rattle.size_values.specs.Sized.{sized_eq}
use Rattle.size_values.specs.declared.sized.Sized.{Sized}
use Rattle.sized_meanings.specs.Case.{Case}
use Rattle.sized_meanings.specs.Lead.{Lead}

-- by the numbers of nodes: a target's stands where it is read and where it is written, so cases also go by how many operands they take; what an arm's
-- names give also goes by how many arms or statements stand behind it
pub record Tables : Type 0 where
  pub cases : ℕ → ℕ → List Case
  pub leads : ℕ → List Lead
  pub gives : ℕ → List Indices
  pub named : ℕ → ℕ → List Indices
  -- the types at which variables of a name are read in the function
  pub reads : List ℕ → List Sized
  -- the types that have a number
  pub known : Sized → Bool
  -- of the instance at a place: its function, and its numbers; no numbers where there is no instance
  pub of : ℕ → ℕ
  pub awaits : ℕ → Option (List (Option Given))

-- whether leads all lead to instances of one function
abbrev pub leads_to : (ℕ → ℕ) → ℕ → List Lead → Bool
leads_to of f [] = true
leads_to of f (x ∷ xs) = nat_eq (of x.instance) f && leads_to of f xs

-- a variable is read at types that are known to be, by the cases of its node
abbrev pub is_among : Sized → List Sized → Bool
is_among t [] = false
is_among t (u ∷ us) = sized_eq t u || is_among t us

abbrev pub cases_among : List Sized → List Case → Bool
cases_among us [] = true
cases_among us (c ∷ cs) = is_among c.gives us && cases_among us cs
