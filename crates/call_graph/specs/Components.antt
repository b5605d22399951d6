-- The strongly connected components of a graph, numbered, and which nodes lie in a cycle.
use Rattle.std.specs.Prelude.{◌≡◌, ℕ, ◌<◌, ◌≤◌, false, List, length, slice_index, slice_index_or, Option, Some, None, if◌then◌else◌}
use Rattle.call_graph.specs.declared.found.Cycles.{Cycles}
use Rattle.call_graph.specs.declared.found.Member.{Member}
use Rattle.call_graph.specs.Graphs.{HasEdge, LeadsToNodes, AreConnected}

-- how many nodes the graph had
abbrev pub node_count : Cycles → ℕ
node_count cycles = length cycles.members

abbrev pub member_of : Cycles → ℕ → Member
member_of cycles node = slice_index_or cycles.members node (record { component = 0; in_cycle = false })

-- the number of a node's component
abbrev pub component_of : Cycles → ℕ → ℕ
component_of cycles node = (member_of cycles node).component

-- the number of the cycle in which a node lies: that of its component
abbrev pub cycle_of : Cycles → ℕ → Option ℕ
cycle_of cycles node = if (member_of cycles node).in_cycle then Some (component_of cycles node) else None

-- a number for each node, at its place: two nodes with one number are connected, and no edge leads to a higher number;
-- each is below the count of the nodes, and each edge leads to a node
pub record AreComponents (graph : List (List ℕ)) (numbers : List ℕ) : Type 0 where
  pub every : length numbers ≡ length graph
  pub within : LeadsToNodes graph
  pub below : (node : ℕ) → node < length graph → slice_index numbers node < length graph
  pub same : (left right : ℕ) → left < length graph → right < length graph → slice_index numbers left ≡ slice_index numbers right →
      AreConnected graph left right
  pub order : (from to : ℕ) → HasEdge graph from to → slice_index numbers to ≤ slice_index numbers from

-- an edge leads from the node to a node of the same number
abbrev pub StaysInComponent : List (List ℕ) → List ℕ → ℕ → Type 0
StaysInComponent graph numbers node = (to : ℕ) × HasEdge graph node to × (slice_index numbers to ≡ slice_index numbers node)
