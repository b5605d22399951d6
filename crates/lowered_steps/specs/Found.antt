-- What is said of the node of a number, or of a giver, in one tree.
use Rattle.std.specs.Prelude.{ℕ, nat_eq, ◌&&◌, List, [], ◌∷◌, Option, Some, None, if◌then◌else◌}
use Rattle.std.specs.Borrow.{Bor}
use Rattle.sail_types.specs.Places.{first}
use Rattle.value_indices.specs.declared.indices.Indices.{Indices}
use Rattle.sized_nodes.specs.declared.trees.Case.{Case}
use Rattle.sized_nodes.specs.declared.trees.Lead.{Lead}
use Rattle.sized_nodes.specs.declared.trees.NodeSizes.{NodeSizes}
use Rattle.sized_nodes.specs.declared.trees.NodeSizes.TheVariants as Z
use Rattle.lowered_pieces.specs.Nodes.{takes_many}

abbrev pub cases_here : ℕ → ℕ → NodeSizes → Option (List Case)
cases_here k n (Z.Makes j i cs) = if nat_eq j k && takes_many n cs then Some cs else None
cases_here k n node = None

abbrev pub cases_found : ℕ → ℕ → List NodeSizes → Option (List Case)
cases_found k n [] = None
cases_found k n (node ∷ nodes) = first (cases_here k n node) (cases_found k n nodes)

abbrev pub leads_here : ℕ → NodeSizes → Option (List Lead)
leads_here k (Z.Calls j ls) = if nat_eq j k then Some ls else None
leads_here k node = None

abbrev pub leads_found : ℕ → List NodeSizes → Option (List Lead)
leads_found k [] = None
leads_found k (node ∷ nodes) = first (leads_here k node) (leads_found k nodes)

-- what a reference leads to
abbrev pub indices_of : Bor Indices → Indices
indices_of r = r.now
