-- Whether a node of a graph reaches another can be told, by how far up the nodes between may lie.
use Rattle.std.proofs.Common.{◌≡◌, ℕ, zero, suc, ◌<◌, Bool, ◌&&◌, ◌||◌, ◌⊎◌, List, [], length, nat_eq, subst, inl, inr, arith}
use Rattle.std.specs.Bool.{Decides}
use Rattle.std.specs.Prelude.{Contains}
use Rattle.std.specs.Set.{is_member}
use Rattle.std.proofs.lemmas.Bool.{cases_lt}
use Rattle.std.proofs.lemmas.Bool.Decides.{Decides-eqb, Decides-and, Decides-or, Decides-like}
use Rattle.std.proofs.lemmas.List.{get_or_past}
use Rattle.std.proofs.lemmas.Map.Made.{is_member-Decides}
use Rattle.call_graph.specs.Graphs.{successors, HasEdge, Reaches, IsInCycle, by_edge, by_edge_and}
use Rattle.call_graph.proofs.Moving.{reaches_on}

module _ (graph : List (List ℕ)) where
  -- a path leads from one node to another, and each node between is below a number
  abbrev PassesBelow : ℕ → ℕ → ℕ → Type 0
  PassesBelow zero from to = HasEdge graph from to
  PassesBelow (suc n) from to = PassesBelow n from to ⊎ (PassesBelow n from n × PassesBelow n n to)

  abbrev passes_below : ℕ → ℕ → ℕ → Bool
  passes_below zero from to = is_member nat_eq (successors graph from) to
  passes_below (suc n) from to = passes_below n from to || (passes_below n from n && passes_below n n to)

  tells_passing : (n from to : ℕ) → Decides (passes_below n from to) (PassesBelow n from to)
  tells_passing zero from to = is_member-Decides Decides-eqb (successors graph from) to
  tells_passing (suc n) from to =
      Decides-or (passes_below n from to) (passes_below n from n && passes_below n n to) (tells_passing n from to)
      (Decides-and (passes_below n from n) (passes_below n n to) (tells_passing n from n) (tells_passing n n to))

  passes_reach : (n from to : ℕ) → PassesBelow n from to → Reaches graph from to
  passes_reach zero from to edge = by_edge edge
  passes_reach (suc n) from to (inl path) = passes_reach n from to path
  passes_reach (suc n) from to (inr paths) = reaches_on (passes_reach n from n paths.0) (passes_reach n n to paths.1)

  edge_passes : (n from to : ℕ) → HasEdge graph from to → PassesBelow n from to
  edge_passes zero from to edge = edge
  edge_passes (suc n) from to edge = inl (edge_passes n from to edge)

  -- a path to or from the highest node between need not come to it before its end
  up_to_last : (n from : ℕ) → PassesBelow (suc n) from n → PassesBelow n from n
  up_to_last n from (inl path) = path
  up_to_last n from (inr paths) = paths.0

  from_last : (n to : ℕ) → PassesBelow (suc n) n to → PassesBelow n n to
  from_last n to (inl path) = path
  from_last n to (inr paths) = paths.1

  passes_through : (n : ℕ) → ((from mid to : ℕ) → mid < n → PassesBelow n from mid → PassesBelow n mid to → PassesBelow n from to)
      → (from mid to : ℕ) → mid < n → PassesBelow (suc n) from mid → PassesBelow (suc n) mid to → PassesBelow (suc n) from to
  passes_through n on from mid to lt (inl p) (inl q) = inl (on from mid to lt p q)
  passes_through n on from mid to lt (inl p) (inr q) = inr (on from mid n lt p q.0, q.1)
  passes_through n on from mid to lt (inr p) (inl q) = inr (p.0, on n mid to lt p.1 q)
  passes_through n on from mid to lt (inr p) (inr q) = inr (p.0, q.1)

  passes_on : (n from mid to : ℕ) → mid < n → PassesBelow n from mid → PassesBelow n mid to → PassesBelow n from to
  passes_on zero from mid to lt p q = absurd (omega arith)
  passes_on (suc n) from mid to lt p q = elim (cases_lt mid n) [
    | inl below ↦ passes_through n (passes_on n) from mid to below p q
    | inr above ↦ (let last : mid ≡ n = omega arith in
        inr (up_to_last n from (subst (λ m. PassesBelow (suc n) from m) last p), from_last n to (subst (λ m. PassesBelow (suc n) m to) last q)))
  ]

  edge_from_node : (from to : ℕ) → HasEdge graph from to → from < length graph
  edge_from_node from to edge = elim (cases_lt from (length graph)) [
    | inl inside ↦ inside
    | inr past ↦ (let none : Contains [] to = subst (λ nodes. Contains nodes to) (get_or_past graph from [] past) edge in
        absurd (omega (arith, none.1)))
  ]

  path_from_node : (from to : ℕ) → Reaches graph from to → from < length graph
  path_from_node from to (by_edge edge) = edge_from_node from to edge
  path_from_node from to (by_edge_and next edge rest) = edge_from_node from next edge

  reach_passes : (from to : ℕ) → Reaches graph from to → PassesBelow (length graph) from to
  reach_passes from to (by_edge edge) = edge_passes (length graph) from to edge
  reach_passes from to (by_edge_and next edge rest) =
      passes_on (length graph) from next to (path_from_node next to rest) (edge_passes (length graph) from next edge) (reach_passes next to rest)

  -- whether a node reaches itself
  pub is_in_cycle : ℕ → Bool
  is_in_cycle node = passes_below (length graph) node node

  pub tells_cycles : (node : ℕ) → Decides (is_in_cycle node) (IsInCycle graph node)
  unfolding is_in_cycle
  tells_cycles node =
      Decides-like (passes_below (length graph) node node) (passes_reach (length graph) node node) (reach_passes node node)
      (tells_passing (length graph) node node)
