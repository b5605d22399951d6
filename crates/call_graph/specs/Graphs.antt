-- Finite directed graphs: which nodes reach which, and which lie in one cycle.
use Rattle.std.specs.Prelude.{◌≡◌, ℕ, ◌<◌, ◌⊎◌, List, [], length, slice_index_or, Contains}

-- A graph is a list. At each node's number it holds the numbers of the nodes to which an edge leads from there.
abbrev pub successors : List (List ℕ) → ℕ → List ℕ
successors graph node = slice_index_or graph node []

abbrev pub HasEdge : List (List ℕ) → ℕ → ℕ → Type 0
HasEdge graph from to = Contains (successors graph from) to

-- each edge leads to a node
abbrev pub LeadsToNodes : List (List ℕ) → Type 0
LeadsToNodes graph = (from to : ℕ) → HasEdge graph from to → to < length graph

-- a path of one edge or more leads from one node to the other
pub data Reaches (graph : List (List ℕ)) : ℕ → ℕ → Type 0 where
  by_edge : {from to : ℕ} → HasEdge graph from to → Reaches graph from to
  by_edge_and : {from to : ℕ} (next : ℕ) → HasEdge graph from next → Reaches graph next to → Reaches graph from to

-- the node reaches itself
abbrev pub IsInCycle : List (List ℕ) → ℕ → Type 0
IsInCycle graph node = Reaches graph node node

-- each of the nodes reaches the other
abbrev pub AreInOneCycle : List (List ℕ) → ℕ → ℕ → Type 0
AreInOneCycle graph left right = Reaches graph left right × Reaches graph right left

-- the nodes are one, or each reaches the other: they are of one strongly connected component
abbrev pub AreConnected : List (List ℕ) → ℕ → ℕ → Type 0
AreConnected graph left right = (left ≡ right) ⊎ AreInOneCycle graph left right
