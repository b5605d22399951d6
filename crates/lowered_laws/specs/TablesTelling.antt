-- What is asked of the tables of a body: the types of all that nodes make have numbers, and of one node and count of operands nothing else is said.
use Rattle.std.specs.Prelude.{◌≡◌, ℕ, nat_eq, Bool, true, ◌&&◌, List, [], ◌∷◌}
use Rattle.size_values.specs.declared.sized.Sized.{Sized}
use Rattle.sized_nodes.specs.declared.trees.Case.{Case}
use Rattle.sized_nodes.specs.declared.trees.Lead.{Lead}
use Rattle.sized_nodes.specs.declared.trees.NodeSizes.{NodeSizes}
use Rattle.sized_nodes.specs.declared.trees.NodeSizes.TheVariants as Z
use Rattle.lowered_pieces.specs.Nodes.{takes_many}

-- the types of all values that nodes make have numbers
abbrev pub cases_known : (Sized → Bool) → List Case → Bool
cases_known known [] = true
cases_known known (c ∷ cs) = known c.gives && cases_known known cs

abbrev pub all_known : (Sized → Bool) → List NodeSizes → Bool
all_known known [] = true
all_known known (Z.Makes j is cs ∷ nodes) = cases_known known cs && all_known known nodes
all_known known (node ∷ nodes) = all_known known nodes

-- ---- of one number and count no others are said

abbrev pub NoOtherCases : ℕ → List Case → List NodeSizes → Type 0
NoOtherCases j cs [] = Unit {0}
NoOtherCases j cs (Z.Makes i is ds ∷ nodes) =
    ((n : ℕ) → nat_eq j i ≡ true → takes_many n cs ≡ true → takes_many n ds ≡ true → ds ≡ cs) × NoOtherCases j cs nodes
NoOtherCases j cs (node ∷ nodes) = NoOtherCases j cs nodes

abbrev pub NoOtherLeads : ℕ → List Lead → List NodeSizes → Type 0
NoOtherLeads j ls [] = Unit {0}
NoOtherLeads j ls (Z.Calls i ms ∷ nodes) = (nat_eq j i ≡ true → ms ≡ ls) × NoOtherLeads j ls nodes
NoOtherLeads j ls (node ∷ nodes) = NoOtherLeads j ls nodes

abbrev pub EachAlone : List NodeSizes → Type 0
EachAlone [] = Unit {0}
EachAlone (Z.Makes j is cs ∷ nodes) = NoOtherCases j cs nodes × EachAlone nodes
EachAlone (Z.Calls j ls ∷ nodes) = NoOtherLeads j ls nodes × EachAlone nodes
EachAlone (node ∷ nodes) = EachAlone nodes
