-- What holds of a model with constant sizes.
use Rattle.std.specs.Prelude.{◌≡◌, ◌<◌, ℕ, List, length, Ok}
use Rattle.sail_core.specs.declared.model.CoreModel.{CoreModel}
use Rattle.sized_nodes.specs.Asked.{CaseAsks, Each, LeadAsks}
use Rattle.sized_nodes.specs.declared.trees.Lead.{Lead}
use Rattle.sized_nodes.specs.declared.trees.NodeSizes.{NodeSizes}
use Rattle.sized_nodes.specs.declared.trees.NodeSizes.TheVariants as Z
use Rattle.sized_nodes.specs.declared.trees.SizedInstance.{SizedInstance}
use Rattle.sized_nodes.specs.declared.trees.SizedCore.{SizedCore}
use Rattle.sized_trees.specs.Trees.{sized_core}

-- ---- of each node

abbrev pub EachInBodies : (NodeSizes → Type 0) → List (List NodeSizes) → Type 0
EachInBodies P bodies = Each (Each P) bodies

abbrev pub EachInInstance : (NodeSizes → Type 0) → SizedInstance → Type 0
EachInInstance P x = EachInBodies P x.bodies

pub record EachNode (P : NodeSizes → Type 0) (c : SizedCore) : Type 0 where
  pub instances : Each (EachInInstance P) c.instances
  pub mappings : EachInBodies P c.mappings
  pub openings : EachInBodies P c.openings

-- ---- every call leads to an instance, of so many

abbrev pub IsThere : ℕ → Lead → Type 0
IsThere n lead = lead.instance < n

abbrev pub LeadsAreThere : ℕ → NodeSizes → Type 0
LeadsAreThere n (Z.Calls k leads) = Each (IsThere n) leads
LeadsAreThere n node = Unit {0}

abbrev pub CallsLeadToInstances : Type 0
CallsLeadToInstances = (core : CoreModel) (made : SizedCore) → sized_core core ≡ Ok made → EachNode (LeadsAreThere (length made.instances)) made

-- ---- the cases of a node ask for the numbers of the same variables, and so do its leads

abbrev pub AsksAlike : NodeSizes → Type 0
AsksAlike (Z.Makes k i cases) = (vs : List ℕ) × Each (CaseAsks vs) cases
AsksAlike (Z.Calls k leads) = (vs : List ℕ) × Each (LeadAsks vs) leads
AsksAlike node = Unit {0}

abbrev pub NodesAskAlike : Type 0
NodesAskAlike = (core : CoreModel) (made : SizedCore) → sized_core core ≡ Ok made → EachNode AsksAlike made
