-- What the search for components keeps true. Its open nodes stand on a stack, which falls into parts: all nodes of a part reach one another,
-- and each node reaches those of the parts behind its own.
use Rattle.std.specs.Prelude.{◌≡◌, ◌≢◌, ℕ, ◌+◌, ◌-◌, ◌*◌, ◌<◌, ◌≤◌, ◌⊎◌, List, [], ◌∷◌}
use Rattle.std.specs.Prelude.{◌++◌, length, take, drop, slice_index, slice_index_or, slice_set, Contains}
use Rattle.call_graph.specs.declared.search.Mark.{Mark}
use Rattle.call_graph.specs.declared.search.Mark.TheVariants.{New, Open, Numbered}
use Rattle.call_graph.specs.declared.search.Search.{Search}
use Rattle.call_graph.specs.Graphs.{successors, HasEdge, Reaches, AreConnected}

abbrev pub mark_of : List Mark → ℕ → Mark
mark_of marks node = slice_index_or marks node New

abbrev pub IsAscending : List ℕ → Type 0
IsAscending xs = (i j : ℕ) → i < j → j < length xs → slice_index xs i < slice_index xs j

abbrev pub EndsIn : List ℕ → ℕ → Type 0
EndsIn xs x = (front : List ℕ) × (xs ≡ front ++ x ∷ [])

-- no part that starts at or before the first place starts behind the second: the second stands in the part of the first, or behind it
abbrev pub LeadsTo : List ℕ → ℕ → ℕ → Type 0
LeadsTo starts first second = (start : ℕ) → Contains starts start → start ≤ first → start ≤ second

abbrev pub ReachesOrIs : List (List ℕ) → ℕ → ℕ → Type 0
ReachesOrIs graph from to = (from ≡ to) ⊎ Reaches graph from to

abbrev pub IsNumbered : List Mark → ℕ → Type 0
IsNumbered marks node = (number : ℕ) × (mark_of marks node ≡ Numbered number)

-- the node has a number, or is open in the part of the place or behind it
abbrev pub GoesOn : List Mark → List ℕ → ℕ → ℕ → Type 0
GoesOn marks starts place node = IsNumbered marks node ⊎ ((other : ℕ) × (mark_of marks node ≡ Open other) × LeadsTo starts place other)

abbrev pub IsNumberedUpTo : List Mark → ℕ → ℕ → Type 0
IsNumberedUpTo marks most node = (number : ℕ) × (mark_of marks node ≡ Numbered number) × (number ≤ most)

-- how many nodes have a number
abbrev pub one_if_numbered : Mark → ℕ
one_if_numbered (Numbered number) = 1
one_if_numbered New = 0
one_if_numbered (Open place) = 0

abbrev pub numbered_count : List Mark → ℕ
numbered_count [] = 0
numbered_count (mark ∷ marks) = one_if_numbered mark + numbered_count marks

pub record IsSound (graph : List (List ℕ)) (marks : List Mark) (next stack starts path : List ℕ) (count : ℕ) : Type 0 where
  pub marked : length marks ≡ length graph
  pub counted : length next ≡ length graph
  -- each open node stands at its place of the stack, and no other node stands there
  pub stacked : (p : ℕ) → p < length stack → mark_of marks (slice_index stack p) ≡ Open p
  pub placed : (u p : ℕ) → mark_of marks u ≡ Open p → (p < length stack) × (slice_index stack p ≡ u)
  -- no edge of a new node has been followed
  pub fresh : (u : ℕ) → mark_of marks u ≡ New → slice_index next u ≡ 0
  -- the path has places of the stack, and parts start at some of them
  pub path_ascends : IsAscending path
  pub path_within : (p : ℕ) → Contains path p → p < length stack
  pub starts_ascend : IsAscending starts
  pub starts_on_path : (s : ℕ) → Contains starts s → Contains path s
  pub first_start : 0 < length stack → Contains starts 0
  -- of each other place all edges have been followed
  pub exhausted : (p : ℕ) → p < length stack →
      Contains path p ⊎ (length (successors graph (slice_index stack p)) ≤ slice_index next (slice_index stack p))
  pub joined : (p q : ℕ) → p < length stack → q < length stack → LeadsTo starts p q →
      ReachesOrIs graph (slice_index stack p) (slice_index stack q)
  pub followed : (p k : ℕ) → p < length stack → k < slice_index next (slice_index stack p) →
      GoesOn marks starts p (slice_index (successors graph (slice_index stack p)) k)
  -- numbered nodes: the edges lead to numbered nodes, and nodes of one number are connected
  pub below : (u c : ℕ) → mark_of marks u ≡ Numbered c → c < count
  pub closed : (u c v : ℕ) → mark_of marks u ≡ Numbered c → HasEdge graph u v → IsNumberedUpTo marks c v
  pub same : (u v c : ℕ) → mark_of marks u ≡ Numbered c → mark_of marks v ≡ Numbered c → AreConnected graph u v
  -- each number was given to a node
  pub few : count ≤ numbered_count marks

-- what stays true from step to step
abbrev pub Sound : List (List ℕ) → Search → Type 0
Sound graph s = IsSound graph s.marks.items s.next.items s.stack.items s.starts.items s.path.items s.count

-- no node became new
abbrev pub NoneIsNew : List Mark → List Mark → Type 0
NoneIsNew old new = (u : ℕ) → mark_of new u ≡ New → mark_of old u ≡ New

-- how the search is after a new node was opened, at the end of the stack
pub record IsOpened (old new : Search) (node : ℕ) : Type 0 where
  pub marks : new.marks.items ≡ slice_set old.marks.items node (Open (length old.stack.items))
  pub next : new.next.items ≡ old.next.items
  pub stack : new.stack.items ≡ old.stack.items ++ node ∷ []
  pub starts : new.starts.items ≡ old.starts.items ++ length old.stack.items ∷ []
  pub path : new.path.items ≡ old.path.items ++ length old.stack.items ∷ []
  pub count : new.count ≡ old.count

-- the starts behind a place are gone: the parts from that of the place to the last are one
pub record IsCut (starts cut : List ℕ) (place : ℕ) : Type 0 where
  pub ascends : IsAscending cut
  pub within : (s : ℕ) → Contains cut s → s ≤ place
  pub kept : (s : ℕ) → Contains cut s → Contains starts s
  pub keeps : (s : ℕ) → Contains starts s → s ≤ place → Contains cut s

-- the nodes have the number, and all others keep their marks
pub record AreNumbered (old new : List Mark) (nodes : List ℕ) (number : ℕ) : Type 0 where
  pub long : length new ≡ length old
  pub inside : (k : ℕ) → k < length nodes → mark_of new (slice_index nodes k) ≡ Numbered number
  pub outside : (u : ℕ) → ((k : ℕ) → k < length nodes → slice_index nodes k ≢ u) → mark_of new u ≡ mark_of old u

-- how the search is after the last part, which starts at a place, got its number
pub record IsClosed (old new : Search) (place : ℕ) : Type 0 where
  pub marks : AreNumbered old.marks.items new.marks.items (drop place old.stack.items) old.count
  pub next : new.next.items ≡ old.next.items
  pub stack : new.stack.items ≡ take place old.stack.items
  pub starts : (front : List ℕ) → old.starts.items ≡ front ++ place ∷ [] → new.starts.items ≡ front
  pub path : new.path.items ≡ old.path.items
  pub count : new.count ≡ old.count + 1

-- what is left to do: two steps for each edge that hasn't been followed, and one for each node of the path
abbrev pub edges_left : List (List ℕ) → List ℕ → ℕ
edges_left [] counts = 0
edges_left (nodes ∷ graph) [] = 0
edges_left (nodes ∷ graph) (count ∷ counts) = (length nodes - count) + edges_left graph counts

abbrev pub steps_left : List (List ℕ) → Search → ℕ
steps_left graph s = 2 * edges_left graph s.next.items + length s.path.items
