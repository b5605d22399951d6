-- Bodies in which of one node's number no two notes of what is called are there.
use Rattle.std.specs.Prelude.{◌≡◌, ℕ, Bool, true, ◌&&◌, List, [], ◌∷◌, Some, slice_get}
use Rattle.sized_nodes.specs.declared.trees.NodeSizes.{NodeSizes}
use Rattle.sized_nodes.specs.declared.trees.NodeSizes.TheVariants as N
use Rattle.sized_nodes.specs.declared.trees.SizedInstance.{SizedInstance}
use Rattle.sized_meanings.specs.Sized.{joined_nodes}
use Rattle.jib_lower.specs.Instances.{leads_alone, no_other_leads}

-- none of some nodes is a call of the number of one that is behind it, among them and among others
abbrev pub heads_alone : List NodeSizes → List NodeSizes → Bool
heads_alone [] ms = true
heads_alone (N.Calls j ls ∷ ns) ms = (no_other_leads j ns && no_other_leads j ms) && heads_alone ns ms
heads_alone (n ∷ ns) ms = heads_alone ns ms

abbrev pub AllAlone : List SizedInstance → Type 0
AllAlone xs = (p : ℕ) (x : SizedInstance) → slice_get xs p ≡ Some x → leads_alone (joined_nodes x.bodies) ≡ true

abbrev pub EachAlone : List (List NodeSizes) → Type 0
EachAlone bodies = (i : ℕ) (nodes : List NodeSizes) → slice_get bodies i ≡ Some nodes → leads_alone nodes ≡ true
