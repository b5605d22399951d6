-- The numbers of cycles tell which nodes reach themselves.
use Rattle.std.proofs.Common.{◌≡◌, ℕ, zero, suc, ◌<◌, Bool, true, false, ◌&&◌, List, [], ◌∷◌, length, refl, sym, subst, nat_lt, arith}
use Rattle.std.specs.Prelude.{is_some}
use Rattle.std.proofs.lemmas.Bool.{and_from}
use Rattle.std.proofs.lemmas.Bool.Decides.{Decides-ltb}
use Rattle.call_graph.specs.declared.found.Cycles.{Cycles}
use Rattle.call_graph.specs.Components.{node_count, cycle_of}
use Rattle.call_graph.specs.Graphs.{HasEdge, Reaches, by_edge, by_edge_and}
use Rattle.sail_cycles.specs.Cycles.{AreCyclesOf, TellsCycles, is_cyclic_at}

both_true : (x y : Bool) → (x && y) ≡ true → (x ≡ true) × (y ≡ true)
both_true true y h = (refl, h)
both_true false y h = absurd (let no : false ≡ true = h in cc)

-- an edge leads from a node
starts_inside : (graph : List (List ℕ)) (from to : ℕ) → HasEdge graph from to → from < length graph
starts_inside [] from to h = omega (arith, h.1)
starts_inside (ns ∷ graph) zero to h = omega arith
starts_inside (ns ∷ graph) (suc from) to h = let rest : from < length graph = starts_inside graph from to h in omega (arith, rest)

reaches_inside : (graph : List (List ℕ)) (from to : ℕ) → Reaches graph from to → from < length graph
reaches_inside graph from to (by_edge h) = starts_inside graph from to h
reaches_inside graph from to (by_edge_and next h rest) = starts_inside graph from next h

pub tells : (graph : List (List ℕ)) (cycles : Cycles) → AreCyclesOf graph cycles → TellsCycles graph (is_cyclic_at cycles)
tells graph cycles is node = (
  λ h. let both = both_true (nat_lt node (node_count cycles)) (is_some (cycle_of cycles node)) h in
      (is.some node (subst (λ n. node < n) is.nodes ((Decides-ltb node (node_count cycles)).0 both.0))).0 both.1,
  λ h. let inside : node < length graph = reaches_inside graph node node h in
      and_from (nat_lt node (node_count cycles)) (is_some (cycle_of cycles node))
      ((Decides-ltb node (node_count cycles)).1 (subst (λ n. node < n) (sym is.nodes) inside)) ((is.some node inside).1 h),
)
