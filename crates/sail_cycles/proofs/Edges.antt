-- A graph that has edges, once one more is added.
use Rattle.std.proofs.Common.{◌≡◌, ◌≢◌, ℕ, suc, ◌+◌, ◌<◌, ◌⊎◌, inl, inr, Bool, true, false, cond, nat_lt, nat_eq, List, [], ◌∷◌, ◌++◌, length, get_or, take}
use Rattle.std.proofs.Common.{map, filter, refl, sym, ap, ◌∙◌, subst, append_assoc, append-nil, add-zero, zero-add, arith}
use Rattle.std.specs.Prelude.{slice_set}
use Rattle.sail_syntax.specs.declared.definitions.Def.{Def}
use Rattle.sail_cycles.specs.declared.expressions.Which.{Which}
use Rattle.sail_names.specs.Known.{Known}
use Rattle.std.proofs.lemmas.Bool.Decides.{eqb_tells, Decides-ltb}
use Rattle.std.proofs.lemmas.List.{map-append, take_more, flat_map_more, get_or-set_same, get_or-set_other, length-set}
use Rattle.std.proofs.lemmas.List.Elements.{filter-append}
use Rattle.call_graph.specs.Graphs.{successors}
use Rattle.sail_cycles.specs.Cycles.{Edge, HasEdges, targets, nodes_from, edges, all_edges}

module _ (count : ℕ) (node : ℕ) where
  targets_more : (all more : List Edge) → targets count (all ++ more) node ≡ targets count all node ++ targets count more node
  targets_more all more =
      ap (λ (es : List Edge). filter (λ to. nat_lt to count) (map (λ (edge : Edge). edge.1) es)) (filter-append (λ (edge : Edge). nat_eq edge.0 node) all more)
      ∙ ap (filter (λ to. nat_lt to count))
      (map-append (λ (edge : Edge). edge.1) (filter (λ (edge : Edge). nat_eq edge.0 node) all) (filter (λ (edge : Edge). nat_eq edge.0 node) more))
      ∙ filter-append (λ to. nat_lt to count) (map (λ (edge : Edge). edge.1) (filter (λ (edge : Edge). nat_eq edge.0 node) all))
      (map (λ (edge : Edge). edge.1) (filter (λ (edge : Edge). nat_eq edge.0 node) more))

  abbrev chosen : Bool → ℕ → ℕ → List ℕ
  chosen t from to = filter (λ n. nat_lt n count) (map (λ (edge : Edge). edge.1) (cond t ((from, to) ∷ []) []))

  led : (from to : ℕ) (t : Bool) → nat_eq from node ≡ t → targets count ((from, to) ∷ []) node ≡ chosen t from to
  led from to t h = ap (λ b. chosen b from to) h

  no_node : (from to : ℕ) (t : Bool) → nat_lt to count ≡ false → chosen t from to ≡ []
  no_node from to true h = ap (λ b. cond b (to ∷ []) []) h
  no_node from to false h = refl

  one_more : (all : List Edge) (from to : ℕ) → nat_eq from node ≡ true → nat_lt to count ≡ true
      → targets count (all ++ (from, to) ∷ []) node ≡ targets count all node ++ to ∷ []
  one_more all from to h k =
      targets_more all ((from, to) ∷ []) ∙ ap (λ ts. targets count all node ++ ts) (led from to true h ∙ ap (λ b. cond b (to ∷ []) []) k)

  none_from : (all : List Edge) (from to : ℕ) → nat_eq from node ≡ false → targets count (all ++ (from, to) ∷ []) node ≡ targets count all node
  none_from all from to h =
      targets_more all ((from, to) ∷ []) ∙ ap (λ ts. targets count all node ++ ts) (led from to false h) ∙ append-nil (targets count all node)

  none_to : (all : List Edge) (from to : ℕ) → nat_lt to count ≡ false → targets count (all ++ (from, to) ∷ []) node ≡ targets count all node
  none_to all from to h =
      targets_more all ((from, to) ∷ []) ∙ ap (λ ts. targets count all node ++ ts) (no_node from to (nat_eq from node) h)
      ∙ append-nil (targets count all node)

added_at : (graph : List (List ℕ)) (all : List Edge) (from to node : ℕ) → from < length graph → nat_lt to (length graph) ≡ true
    → successors graph node ≡ targets (length graph) all node
    → ((nat_eq from node ≡ true) × (from ≡ node)) ⊎ ((nat_eq from node ≡ false) × (from ≢ node))
    → successors (slice_set graph from (successors graph from ++ to ∷ [])) node ≡ targets (length graph) (all ++ (from, to) ∷ []) node
added_at graph all from to node l inside h (inl own) =
    let more = successors graph from ++ to ∷ [] in
    let there : successors (slice_set graph from more) from ≡ more = get_or-set_same graph from more [] l in
    subst (λ n. successors (slice_set graph from more) n ≡ more) own.1 there
    ∙ ap (λ ns. ns ++ to ∷ []) (ap (successors graph) own.1 ∙ h)
    ∙ sym (one_more (length graph) node all from to own.0 inside)
added_at graph all from to node l inside h (inr other) =
    get_or-set_other graph from node (successors graph from ++ to ∷ []) [] (λ same. other.1 (sym same)) ∙ h
    ∙ sym (none_from (length graph) node all from to other.0)

-- an edge between two nodes
pub added : (graph : List (List ℕ)) (all : List Edge) (from to : ℕ) → from < length graph → nat_lt to (length graph) ≡ true
    → HasEdges all graph → HasEdges (all ++ (from, to) ∷ []) (slice_set graph from (successors graph from ++ to ∷ []))
added graph all from to l inside h =
    λ node below. let more = successors graph from ++ to ∷ [] in
    let long : length (slice_set graph from more) ≡ length graph = length-set graph from more in
    added_at graph all from to node l inside (h node (subst (λ n. node < n) long below)) (eqb_tells from node)
    ∙ ap (λ n. targets n (all ++ (from, to) ∷ []) node) (sym long)

-- an edge to no node
pub past_to : (graph : List (List ℕ)) (all : List Edge) (from to : ℕ) → nat_lt to (length graph) ≡ false
    → HasEdges all graph → HasEdges (all ++ (from, to) ∷ []) graph
past_to graph all from to outside h = λ node below. h node below ∙ sym (none_to (length graph) node all from to outside)

past_at : (graph : List (List ℕ)) (all : List Edge) (from to node : ℕ) → nat_lt from (length graph) ≡ false → node < length graph
    → successors graph node ≡ targets (length graph) all node
    → ((nat_eq from node ≡ true) × (from ≡ node)) ⊎ ((nat_eq from node ≡ false) × (from ≢ node))
    → successors graph node ≡ targets (length graph) (all ++ (from, to) ∷ []) node
past_at graph all from to node outside below h (inl own) =
    let inside : nat_lt from (length graph) ≡ true = (Decides-ltb from (length graph)).1 (subst (λ n. n < length graph) (sym own.1) below) in cc
past_at graph all from to node outside below h (inr other) = h ∙ sym (none_from (length graph) node all from to other.0)

-- an edge from no node
pub past_from : (graph : List (List ℕ)) (all : List Edge) (from to : ℕ) → nat_lt from (length graph) ≡ false
    → HasEdges all graph → HasEdges (all ++ (from, to) ∷ []) graph
past_from graph all from to outside h = λ node below. past_at graph all from to node outside below (h node below) (eqb_tells from node)

-- one edge more of those to a list of numbers
pub edges_to_more : (all : List Edge) (from : ℕ) (numbers : List ℕ) (index : ℕ) → index < length numbers
    → (all ++ map (λ to. (from, to)) (take index numbers)) ++ (from, get_or numbers index 0) ∷ []
    ≡ all ++ map (λ to. (from, to)) (take (index + 1) numbers)
edges_to_more all from numbers index l = let lead : ℕ → Edge = λ to. (from, to) in
    append_assoc all (map lead (take index numbers)) (lead (get_or numbers index 0) ∷ [])
    ∙ ap (λ es. all ++ es)
    (sym (map-append lead (take index numbers) (get_or numbers index 0 ∷ [])) ∙ ap (map lead) (sym (take_more numbers index 0 l)))

-- the edges of one definition more of a text
pub all_edges_more : (which : Which) (known : Known) (text : List Def) (index : ℕ) (d : Def) → index < length text
    → all_edges which known (take index text) ++ edges which known (get_or text index d) ≡ all_edges which known (take (index + 1) text)
all_edges_more which known text index d l =
    flat_map_more (edges which known) [] (take index text) (get_or text index d) ∙ ap (all_edges which known) (sym (take_more text index d l))

-- a graph that has edges is the one of them
same_from : {A : Type 0} (count : ℕ) (all : List Edge) (at : ℕ) (xs : List A) (graph : List (List ℕ)) → length graph ≡ length xs
    → ((k : ℕ) → k < length graph → successors graph k ≡ targets count all (at + k)) → graph ≡ nodes_from count all at xs
same_from count all at [] [] long h = refl
same_from count all at [] (ns ∷ graph) long h = cc
same_from count all at (x ∷ xs) [] long h = cc
same_from count all at (x ∷ xs) (ns ∷ graph) long h =
    let first : ns ≡ targets count all at = h 0 (omega arith) ∙ ap (targets count all) (add-zero at) in
    let shorter : length graph ≡ length xs = omega (arith, long) in
    let rest : (k : ℕ) → k < length graph → successors graph k ≡ targets count all (at + 1 + k) =
    λ k below. h (suc k) (omega (arith, below)) ∙ ap (targets count all) (omega arith) in
    (λ i. first i ∷ same_from count all (at + 1) xs graph shorter rest i)

pub same_graph : {A : Type 0} (all : List Edge) (xs : List A) (graph : List (List ℕ)) → length graph ≡ length xs → HasEdges all graph
    → graph ≡ nodes_from (length xs) all 0 xs
same_graph all xs graph long h =
    same_from (length xs) all 0 xs graph long
    (λ k below. h k below ∙ (λ i. targets (long i) all (sym (zero-add k) i)))
