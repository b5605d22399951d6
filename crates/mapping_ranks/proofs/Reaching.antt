-- Which nodes of a finite graph reach which can be told: node by node, the nodes that paths may go through become more.
use Rattle.std.proofs.Common.{◌≡◌, ℕ, zero, suc, ◌<◌, ◌≤◌, nat_eq, List, [], ◌∷◌, length, sym, subst, Bool, true, false, ◌&&◌, ◌||◌, arith}
use Rattle.std.proofs.Common.{inl, inr}
use Rattle.std.specs.Prelude.{◌⊎◌, Contains, slice_index_or}
use Rattle.std.proofs.lemmas.Bool.{and_from, and_parts, cases_lt, or_cases, or_left, or_right}
use Rattle.call_graph.specs.Graphs.{HasEdge, LeadsToNodes, Reaches, by_edge, by_edge_and, successors}
use Rattle.shape_joins.proofs.Order.{equal, no, same_nat}

-- a number is one of some
abbrev pub held : List ℕ → ℕ → Bool
held [] x = false
held (y ∷ ys) x = nat_eq y x || held ys x

held_by : (y x : ℕ) (ys : List ℕ) → (held ys x ≡ true → Contains ys x) → (nat_eq y x ≡ true) ⊎ (held ys x ≡ true) → Contains (y ∷ ys) x
held_by y x ys later (inl e) = (0, omega arith, equal y x e)
held_by y x ys later (inr e) = let c = later e in let lt = c.1 in (suc c.0, omega (arith, lt), c.2)

held_there : (xs : List ℕ) (x : ℕ) → held xs x ≡ true → Contains xs x
held_there [] x h = no h
held_there (y ∷ ys) x h = held_by y x ys (λ e. held_there ys x e) (or_cases (nat_eq y x) (held ys x) h)

there_at : (xs : List ℕ) (x k : ℕ) → k < length xs → slice_index_or xs k x ≡ x → held xs x ≡ true
there_at [] x k lt e = absurd (omega (arith, lt))
there_at (y ∷ ys) x zero lt e = or_left (nat_eq y x) (held ys x) (subst (λ z. nat_eq z x ≡ true) (sym e) (same_nat x))
there_at (y ∷ ys) x (suc k) lt e = or_right (nat_eq y x) (held ys x) (there_at ys x k (omega (arith, lt)) e)

module _ (graph : List (List ℕ)) where
  -- a path leads from the one node to the other through nodes below this one
  abbrev pub reach_below : ℕ → ℕ → ℕ → Bool
  reach_below zero i j = held (successors graph i) j
  reach_below (suc k) i j = reach_below k i j || (reach_below k i k && reach_below k k j)

  reaches_then : (i j k : ℕ) → Reaches graph i j → Reaches graph j k → Reaches graph i k
  reaches_then i j k (by_edge e) r = by_edge_and j e r
  reaches_then i j k (by_edge_and next e q) r = by_edge_and next e (reaches_then next j k q r)

  sound_by : (n i j : ℕ) → ((a b : ℕ) → reach_below n a b ≡ true → Reaches graph a b)
      → (reach_below n i j ≡ true) ⊎ ((reach_below n i n && reach_below n n j) ≡ true) → Reaches graph i j
  sound_by n i j again (inl e) = again i j e
  sound_by n i j again (inr e) =
      let both = and_parts (reach_below n i n) (reach_below n n j) e in
      reaches_then i n j (again i n both.0) (again n j both.1)

  pub reach_sound : (n i j : ℕ) → reach_below n i j ≡ true → Reaches graph i j
  reach_sound zero i j h = by_edge (held_there (successors graph i) j h)
  reach_sound (suc n) i j h =
      sound_by n i j (λ a b e. reach_sound n a b e) (or_cases (reach_below n i j) (reach_below n i n && reach_below n n j) h)

  -- to and from the last node nothing is new
  to_last : (n i : ℕ) → reach_below (suc n) i n ≡ true → reach_below n i n ≡ true
  to_last n i h = by (or_cases (reach_below n i n) (reach_below n i n && reach_below n n n) h)
    where
      by : (reach_below n i n ≡ true) ⊎ ((reach_below n i n && reach_below n n n) ≡ true) → reach_below n i n ≡ true
      by (inl e) = e
      by (inr e) = (and_parts (reach_below n i n) (reach_below n n n) e).0

  from_last : (n j : ℕ) → reach_below (suc n) n j ≡ true → reach_below n n j ≡ true
  from_last n j h = by (or_cases (reach_below n n j) (reach_below n n n && reach_below n n j) h)
    where
      by : (reach_below n n j ≡ true) ⊎ ((reach_below n n n && reach_below n n j) ≡ true) → reach_below n n j ≡ true
      by (inl e) = e
      by (inr e) = (and_parts (reach_below n n n) (reach_below n n j) e).1

  through_last : (n i j : ℕ) → reach_below n i n ≡ true → reach_below n n j ≡ true → reach_below (suc n) i j ≡ true
  through_last n i j h k = or_right (reach_below n i j) (reach_below n i n && reach_below n n j) (and_from (reach_below n i n) (reach_below n n j) h k)

  -- what goes through a node below is there
  abbrev Through : ℕ → Type 0
  Through n = (i m j : ℕ) → m < n → reach_below n i m ≡ true → reach_below n m j ≡ true → reach_below n i j ≡ true

  through_older : (n i m j : ℕ) → Through n → m < n → (reach_below n i m ≡ true) ⊎ ((reach_below n i n && reach_below n n m) ≡ true)
      → (reach_below n m j ≡ true) ⊎ ((reach_below n m n && reach_below n n j) ≡ true) → reach_below (suc n) i j ≡ true
  through_older n i m j again below (inl a) (inl b) =
      or_left (reach_below n i j) (reach_below n i n && reach_below n n j) (again i m j below a b)
  through_older n i m j again below (inl a) (inr b) =
      let both = and_parts (reach_below n m n) (reach_below n n j) b in
      through_last n i j (again i m n below a both.0) both.1
  through_older n i m j again below (inr a) (inl b) =
      let both = and_parts (reach_below n i n) (reach_below n n m) a in
      through_last n i j both.0 (again n m j below both.1 b)
  through_older n i m j again below (inr a) (inr b) =
      through_last n i j (and_parts (reach_below n i n) (reach_below n n m) a).0 (and_parts (reach_below n m n) (reach_below n n j) b).1

  through_newest : (n i m j : ℕ) → m ≡ n → reach_below (suc n) i m ≡ true → reach_below (suc n) m j ≡ true → reach_below (suc n) i j ≡ true
  through_newest n i m j same h k =
      through_last n i j (to_last n i (subst (λ x. reach_below (suc n) i x ≡ true) same h))
      (from_last n j (subst (λ x. reach_below (suc n) x j ≡ true) same k))

  through_place : (n i m j : ℕ) → Through n → m < suc n → reach_below (suc n) i m ≡ true → reach_below (suc n) m j ≡ true → (m < n) ⊎ (n ≤ m)
      → reach_below (suc n) i j ≡ true
  through_place n i m j again lt h k (inl below) =
      through_older n i m j again below (or_cases (reach_below n i m) (reach_below n i n && reach_below n n m) h)
      (or_cases (reach_below n m j) (reach_below n m n && reach_below n n j) k)
  through_place n i m j again lt h k (inr above) = through_newest n i m j (omega (arith, lt, above)) h k

  through : (n : ℕ) → Through n
  through zero = λ i m j lt h k. absurd (omega (arith, lt))
  through (suc n) = λ i m j lt h k. through_place n i m j (through n) lt h k (cases_lt m n)

  by_edges : (n i j : ℕ) → held (successors graph i) j ≡ true → reach_below n i j ≡ true
  by_edges zero i j h = h
  by_edges (suc n) i j h = or_left (reach_below n i j) (reach_below n i n && reach_below n n j) (by_edges n i j h)

  -- where edges lead to nodes, through all nodes each reaches what it reaches
  abbrev pub reach : ℕ → ℕ → Bool
  reach i j = reach_below (length graph) i j

  pub edge_reach : (i j : ℕ) → HasEdge graph i j → reach i j ≡ true
  edge_reach i j e = by_edges (length graph) i j (there_at (successors graph i) j e.0 e.1 e.2)

  pub reach_all : LeadsToNodes graph → (i j : ℕ) → Reaches graph i j → reach i j ≡ true
  reach_all leads i j (by_edge e) = edge_reach i j e
  reach_all leads i j (by_edge_and next e r) = through (length graph) i next j (leads i next e) (edge_reach i next e) (reach_all leads next j r)
