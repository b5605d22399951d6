-- Ranks of the nodes of a finite graph without cycles: lower at the end of each edge.
use Rattle.std.specs.Prelude.{◌≡◌, ℕ, zero, suc, ◌<◌, Bool, true, if◌then◌else◌, List, length}
use Rattle.call_graph.specs.Graphs.{HasEdge, IsInCycle, LeadsToNodes}

-- how many numbers below this one pass a test
abbrev pub count : (ℕ → Bool) → ℕ → ℕ
count test zero = 0
count test (suc n) = if test n then suc (count test n) else count test n

-- a rank for each node, by how many of the nodes that count it reaches: one that counts itself has fewer below it than count
pub record RanksOf (graph : List (List ℕ)) (counts : ℕ → Bool) : Type 0 where
  pub rank : ℕ → ℕ
  pub lower : (from to : ℕ) → HasEdge graph from to → rank to < rank from
  pub few : (node : ℕ) → node < length graph → counts node ≡ true → rank node < count counts (length graph)

-- a graph without cycles has ranks, where edges lead to nodes that count
abbrev pub GraphsHaveRanks : Type 0
GraphsHaveRanks =
    (graph : List (List ℕ)) (counts : ℕ → Bool) → LeadsToNodes graph → ((node : ℕ) → IsInCycle graph node → ⊥)
    → ((from to : ℕ) → HasEdge graph from to → counts to ≡ true) → RanksOf graph counts
