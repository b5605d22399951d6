-- A graph without cycles has a rank at each node, which is lower at the end of each edge: how many of the nodes that count it reaches.
use Rattle.std.proofs.Common.{◌≡◌, ℕ, zero, suc, ◌<◌, ◌≤◌, List, length, refl, sym, ◌∙◌, Bool, true, false, ◌&&◌, cond, arith}
use Rattle.std.proofs.Common.{inl, inr}
use Rattle.std.specs.Prelude.{◌⊎◌}
use Rattle.std.proofs.lemmas.Bool.{and_from, and_parts, cases_lt}
use Rattle.call_graph.specs.Graphs as E
use Rattle.call_graph.specs.Graphs.{HasEdge, IsInCycle, LeadsToNodes}
use Rattle.shape_joins.proofs.Order.{no}
use Rattle.mapping_ranks.specs.Ranks.{RanksOf, count}
use Rattle.mapping_ranks.proofs.Reaching.{edge_reach, reach, reach_all, reach_sound}

one_more : (b c : Bool) (m n : ℕ) → (b ≡ true → c ≡ true) → m ≤ n → cond b (suc m) m ≤ cond c (suc n) n
one_more true true m n f le = omega (arith, le)
one_more true false m n f le = no (f refl)
one_more false true m n f le = omega (arith, le)
one_more false false m n f le = le

count_most : (p q : ℕ → Bool) (n : ℕ) → ((k : ℕ) → p k ≡ true → q k ≡ true) → count p n ≤ count q n
count_most p q zero f = omega arith
count_most p q (suc n) f = one_more (p n) (q n) (count p n) (count q n) (f n) (count_most p q n f)

one_less : (b c : Bool) (m n : ℕ) → b ≡ false → c ≡ true → m ≤ n → cond b (suc m) m < cond c (suc n) n
one_less true c m n h k le = no (sym h)
one_less false true m n h k le = omega (arith, le)
one_less false false m n h k le = no k

still_less : (b c : Bool) (m n : ℕ) → (b ≡ true → c ≡ true) → m < n → cond b (suc m) m < cond c (suc n) n
still_less true true m n f lt = omega (arith, lt)
still_less true false m n f lt = no (f refl)
still_less false true m n f lt = omega (arith, lt)
still_less false false m n f lt = lt

-- one that the second test takes and the first doesn't makes it less
abbrev Less : (ℕ → Bool) → (ℕ → Bool) → ℕ → Type 0
Less p q n = (k : ℕ) → k < n → p k ≡ false → q k ≡ true → count p n < count q n

last_less : (p q : ℕ → Bool) (n k : ℕ) → ((i : ℕ) → p i ≡ true → q i ≡ true) → k ≡ n → p k ≡ false → q k ≡ true → count p (suc n) < count q (suc n)
last_less p q n k f same h g =
    one_less (p n) (q n) (count p n) (count q n) ((λ i. p (sym same i)) ∙ h) ((λ i. q (sym same i)) ∙ g) (count_most p q n f)

less_place : (p q : ℕ → Bool) (n k : ℕ) → ((i : ℕ) → p i ≡ true → q i ≡ true) → Less p q n → k < suc n → p k ≡ false → q k ≡ true → (k < n) ⊎ (n ≤ k)
    → count p (suc n) < count q (suc n)
less_place p q n k f again lt h g (inl below) = still_less (p n) (q n) (count p n) (count q n) (f n) (again k below h g)
less_place p q n k f again lt h g (inr above) = last_less p q n k f (omega (arith, lt, above)) h g

count_less : (p q : ℕ → Bool) (n : ℕ) → ((i : ℕ) → p i ≡ true → q i ≡ true) → Less p q n
count_less p q zero f = λ k lt h g. absurd (omega (arith, lt))
count_less p q (suc n) f = λ k lt h g. less_place p q n k f (count_less p q n f) lt h g (cases_lt k n)

module _ (graph : List (List ℕ)) (leads : LeadsToNodes graph) (acyclic : (node : ℕ) → IsInCycle graph node → ⊥) (kept : ℕ → Bool)
    (edges_kept : (from to : ℕ) → HasEdge graph from to → kept to ≡ true) where
  abbrev reached : ℕ → ℕ → Bool
  reached node j = kept j && reach graph node j

  abbrev rank : ℕ → ℕ
  rank node = count (reached node) (length graph)

  not_itself : (node : ℕ) (b : Bool) → reach graph node node ≡ b → b ≡ false
  not_itself node true h = absurd (acyclic node (reach_sound graph (length graph) node node h))
  not_itself node false h = refl

  itself_out : (node : ℕ) → reached node node ≡ false
  itself_out node = by (kept node) (reach graph node node) (not_itself node (reach graph node node) refl)
    where
      by : (a b : Bool) → b ≡ false → (a && b) ≡ false
      by true b h = h
      by false b h = refl

  further : (from to : ℕ) → HasEdge graph from to → (j : ℕ) → reached to j ≡ true → reached from j ≡ true
  further from to e j h =
      let both = and_parts (kept j) (reach graph to j) h in
      and_from (kept j) (reach graph from j) both.0
      (reach_all graph leads from j (E.by_edge_and to e (reach_sound graph (length graph) to j both.1)))

  pub ranks : RanksOf graph kept
  ranks = record {
    rank = rank;
    lower = λ from to e.
        count_less (reached to) (reached from) (length graph) (further from to e) to (leads from to e) (itself_out to)
        (and_from (kept to) (reach graph from to) (edges_kept from to e) (edge_reach graph from to e));
    few = λ node lt k.
        count_less (reached node) kept (length graph) (λ j h. (and_parts (kept j) (reach graph node j) h).0) node lt (itself_out node) k;
  }
