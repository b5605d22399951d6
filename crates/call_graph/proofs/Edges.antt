-- More nodes and edges.
use Rattle.std.proofs.Common.{◌≡◌, ℕ, ◌<◌, ◌⊎◌, List, [], ◌∷◌, ◌++◌, length, get_or, set, Result, Ok, Err, sym, ap, ◌∙◌, subst, inl, inr, arith, length-set}
use Rattle.std.specs.Prelude.{All, Contains, OnOk, OnErr}
use Rattle.std.proofs.lemmas.Bool.{cases_lt, cases_eq}
use Rattle.std.proofs.lemmas.List.{get_or_append_left, get_or_push, get_or_past, length_push, get_or-set_same, get_or-set_other, get_or_read, set-get_or}
use Rattle.std.proofs.lemmas.List.Elements.{Contains-push_cases, Contains-get_or}
use Rattle.call_graph.specs.Graphs.{successors, LeadsToNodes}

-- one of two clauses holds
either : {A E P Q : Type 0} (result : Result A E) → OnOk result P → OnErr result Q → P ⊎ Q
either (Ok x) p q = inl p
either (Err e) p q = inr q

pub more_nodes : (graph : List (List ℕ)) → LeadsToNodes graph → LeadsToNodes (graph ++ [] ∷ [])
more_nodes graph h from to edge = elim (cases_lt from (length graph)) [
  | inl old ↦ (let before : to < length graph =
      h from to (subst (λ nodes. Contains nodes to) (get_or_append_left graph ([] ∷ []) [] from old) edge) in
      omega (arith, length_push graph []))
  | inr behind ↦ (elim (cases_eq from (length graph)) [
    | inl last ↦ (let none : Contains [] to = subst (λ nodes. Contains nodes to) (get_or_push graph [] [] from (sym last)) edge in
        absurd (omega (arith, none.1)))
    | inr past ↦ (let none : Contains [] to = subst (λ nodes. Contains nodes to)
        (get_or_past (graph ++ [] ∷ []) from [] (omega (arith, length_push graph []))) edge in
        absurd (omega (arith, none.1)))
  ])
]

more_edges : (graph : List (List ℕ)) (from to : ℕ) → from < length graph → to < length graph → LeadsToNodes graph →
    LeadsToNodes (set graph from (successors graph from ++ to ∷ []))
more_edges graph from to inside within h u v edge = elim (cases_eq u from) [
  | inl same ↦ (let edges : Contains (successors graph from ++ to ∷ []) v = subst (λ nodes. Contains nodes v)
      (ap (λ n. successors (set graph from (successors graph from ++ to ∷ [])) n) same
      ∙ get_or-set_same graph from (successors graph from ++ to ∷ []) [] inside) edge in
      elim (Contains-push_cases (successors graph from) to v edges) [
        | inl old ↦ (let before : v < length graph = h from v old in omega (arith, length-set graph from (successors graph from ++ to ∷ [])))
        | inr new ↦ omega (arith, length-set graph from (successors graph from ++ to ∷ []))
      ])
  | inr other ↦ (let before : v < length graph = h u v (subst (λ nodes. Contains nodes v)
      (get_or-set_other graph from u (successors graph from ++ to ∷ []) [] other) edge) in
      omega (arith, length-set graph from (successors graph from ++ to ∷ [])))
]

pub nodes_within : (graph : List (List ℕ)) (node : ℕ) (nodes : List ℕ) → nodes ≡ successors graph node → LeadsToNodes graph → All
    (λ to. to < length graph) nodes
nodes_within graph node nodes e h k d within =
    h node (get_or nodes k d) (subst (λ xs. Contains xs (get_or nodes k d)) e (Contains-get_or nodes k d within))

-- the list that a read of a place gave
pub read_successors : (graph : List (List ℕ)) (node : ℕ) (nodes : List ℕ) → node < length graph → nodes ≡ get_or graph node nodes →
    nodes ≡ successors graph node
read_successors graph node nodes within e = get_or_read graph node nodes within e []

-- the graph after a push to the nodes at a place, which may have failed
pub pushed : {A E : Type 0} (result : Result A E) (graph : List (List ℕ)) (from to : ℕ) (nodes more : List ℕ) →
    from < length graph → to < length graph → LeadsToNodes graph → nodes ≡ get_or graph from nodes →
    OnOk result (more ≡ nodes ++ to ∷ []) → OnErr result (more ≡ nodes) → LeadsToNodes (set graph from more)
pushed result graph from to nodes more inside within h read ok err =
    let is : nodes ≡ successors graph from = read_successors graph from nodes inside read in
    elim (either result ok err) [
      | inl long ↦ subst (λ xs. LeadsToNodes (set graph from xs)) (ap (λ xs. xs ++ to ∷ []) (sym is) ∙ sym long) (more_edges graph from to inside within h)
      | inr same ↦ subst (λ xs. LeadsToNodes (set graph from xs)) (sym (same ∙ is)) (subst LeadsToNodes (sym (set-get_or graph from [])) h)
    ]
