-- Which variables' numbers the cases of a node ask for, and the leads of a call.
use Rattle.std.specs.Prelude.{◌≡◌, ℕ, List, [], ◌∷◌, map}
use Rattle.size_values.specs.declared.constants.Picked.{Picked}
use Rattle.sized_nodes.specs.declared.trees.Case.{Case}
use Rattle.sized_nodes.specs.declared.trees.Lead.{Lead}

abbrev pub Each : {A : Type 0} → (A → Type 0) → List A → Type 0
Each P [] = Unit {0}
Each P (x ∷ xs) = P x × Each P xs

abbrev pub asked : List Picked → List ℕ
asked ps = map (λ p. p.variable) ps

abbrev pub CaseAsks : List ℕ → Case → Type 0
CaseAsks vs c = asked c.picked ≡ vs

abbrev pub LeadAsks : List ℕ → Lead → Type 0
LeadAsks vs l = asked l.picked ≡ vs
