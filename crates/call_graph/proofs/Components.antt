-- What the numbers of components say of reach and cycles.
use Rattle.std.proofs.Common.{◌≡◌, ℕ, ◌+◌, ◌<◌, ◌≤◌, Bool, true, false, List, [], ◌∷◌, ◌++◌, length, get_or, Some, None}
use Rattle.std.proofs.Common.{Result, Ok, Err, refl, sym, ap, ◌∙◌, subst, inl, inr, arith}
use Rattle.std.specs.Prelude.{◌↔◌, Contains, slice_index, IsSome, IfOk, if◌then◌else◌}
use Rattle.std.proofs.lemmas.Bool.{cases_lt}
use Rattle.std.proofs.lemmas.List.{get_or_past, get_or_append_left, get_or_push, length_push}
use Rattle.call_graph.specs.declared.search.Mark.{Mark}
use Rattle.call_graph.specs.declared.search.Mark.TheVariants.{Numbered}
use Rattle.call_graph.specs.declared.found.Cycles.{Cycles}
use Rattle.call_graph.specs.declared.found.Member.{Member}
use Rattle.call_graph.specs.Graphs.{HasEdge, LeadsToNodes, Reaches, by_edge, by_edge_and, IsInCycle, AreInOneCycle, AreConnected}
use Rattle.call_graph.specs.Components.{AreComponents, StaysInComponent, member_of, component_of, cycle_of}
use Rattle.call_graph.specs.Search.{mark_of, IsNumberedUpTo, IsSound}
use Rattle.call_graph.proofs.Marks.{is_node, number_of}
use Rattle.call_graph.proofs.Moving.{reaches_on}
use Rattle.call_graph.proofs.Counting.{count_within}

-- edges lead from nodes
edge_from_node : (graph : List (List ℕ)) (from to : ℕ) → HasEdge graph from to → from < length graph
edge_from_node graph from to edge = elim (cases_lt from (length graph)) [
  | inl inside ↦ inside
  | inr past ↦ (let none : Contains [] to = subst (λ nodes. Contains nodes to) (get_or_past graph from [] past) edge in absurd (omega (arith, none.1)))
]

-- the numbers at the end of the search
pub components_from : {graph : List (List ℕ)} {marks : List Mark} {next stack starts path : List ℕ} {count : ℕ} (numbers : List ℕ) →
    IsSound graph marks next stack starts path count → length numbers ≡ length marks →
    ((node : ℕ) → node < length marks → mark_of marks node ≡ Numbered (slice_index numbers node)) → AreComponents graph numbers
components_from {graph = graph} {marks = marks} {count = count} numbers s long all =
    let at : (node : ℕ) → node < length graph → mark_of marks node ≡ Numbered (slice_index numbers node) =
    (λ node less. all node (omega (arith, s.marked))) in
    let target : (from to : ℕ) → HasEdge graph from to → IsNumberedUpTo marks (slice_index numbers from) to =
    (λ from to edge. s.closed from (slice_index numbers from) to (at from (edge_from_node graph from to edge)) edge) in
    let within : LeadsToNodes graph = (λ from to edge. subst (λ n. to < n) s.marked
    (is_node marks to (Numbered (target from to edge).0) (target from to edge).1 (λ same. cc))) in
    record {
      every = long ∙ s.marked;
      within = within;
      below = λ node less.
          let number : slice_index numbers node < count = s.below node (slice_index numbers node) (at node less) in
          omega (arith, number, s.few, count_within marks, s.marked);
      same = λ left right less less' e. s.same left right (slice_index numbers left) (at left less) (at right less' ∙ ap Numbered (sym e));
      order = λ from to edge.
          let t : IsNumberedUpTo marks (slice_index numbers from) to = target from to edge in
          let one : t.0 ≡ slice_index numbers to = number_of (sym t.1 ∙ at to (within from to edge)) in omega (arith, t.2);
    }

reach_order : {graph : List (List ℕ)} {numbers : List ℕ} {from to : ℕ} → AreComponents graph numbers → Reaches graph from to →
    slice_index numbers to ≤ slice_index numbers from
reach_order {from = from} {to = to} c (by_edge edge) = c.order from to edge
reach_order {from = from} c (by_edge_and next edge rest) = let first = c.order from next edge in let then' = reach_order c rest in omega (arith, first, then')

same_number : {graph : List (List ℕ)} {numbers : List ℕ} {left right : ℕ} → AreComponents graph numbers → AreConnected graph left right →
    slice_index numbers left ≡ slice_index numbers right
same_number {numbers = numbers} c (inl same) = ap (λ u. slice_index numbers u) same
same_number c (inr both) = let there = reach_order c both.0 in let back = reach_order c both.1 in omega (arith, there, back)

-- a node reaches itself where an edge leads from it into its component
cycle_from : {graph : List (List ℕ)} {numbers : List ℕ} (node : ℕ) → AreComponents graph numbers → node < length graph →
    StaysInComponent graph numbers node → IsInCycle graph node
cycle_from {graph = graph} node c less stays = elim (c.same stays.0 node (c.within node stays.0 stays.1) less stays.2) [
  | inl same ↦ by_edge (subst (λ v. HasEdge graph node v) same stays.1)
  | inr both ↦ by_edge_and stays.0 stays.1 both.0
]

stays_from : {graph : List (List ℕ)} {numbers : List ℕ} {from to : ℕ} → AreComponents graph numbers → Reaches graph from to → from ≡ to →
    StaysInComponent graph numbers from
stays_from {numbers = numbers} {to = to} c (by_edge edge) same = (to, edge, ap (λ u. slice_index numbers u) (sym same))
stays_from {graph = graph} {numbers = numbers} {from = from} {to = to} c (by_edge_and next edge rest) same =
    let first : slice_index numbers next ≤ slice_index numbers from = c.order from next edge in
    let back : slice_index numbers to ≤ slice_index numbers next = reach_order c rest in
    let one : slice_index numbers from ≡ slice_index numbers to = ap (λ u. slice_index numbers u) same in
    (next, edge, omega arith)

-- what was found of the nodes below a count, by the numbers
pub record ShowsBelow (graph : List (List ℕ)) (numbers : List ℕ) (members : List Member) (count : ℕ) : Type 0 where
  pub every : length members ≡ count
  pub numbered : (node : ℕ) → node < count → component_of (record { members = members }) node ≡ slice_index numbers node
  pub flagged : (node : ℕ) → node < count → ((member_of (record { members = members }) node).in_cycle ≡ true) ↔ StaysInComponent graph numbers node

abbrev no_member : Member
no_member = record { component = 0; in_cycle = false }

pub shows_more : (graph : List (List ℕ)) (numbers : List ℕ) (members : List Member) (count component : ℕ) (flag : Bool) →
    ShowsBelow graph numbers members count → component ≡ slice_index numbers count → (flag ≡ true) ↔ StaysInComponent graph numbers count →
    ShowsBelow graph numbers (members ++ record { component = component; in_cycle = flag } ∷ []) (count + 1)
shows_more graph numbers members count component flag s number stays =
    let member : Member = record { component = component; in_cycle = flag } in
    let old : (node : ℕ) → node < count → get_or (members ++ member ∷ []) node no_member ≡ get_or members node no_member =
    (λ node less. get_or_append_left members (member ∷ []) no_member node (omega (arith, s.every))) in
    let new : get_or (members ++ member ∷ []) count no_member ≡ member = get_or_push members member no_member count s.every in
    record {
      every = length_push members member ∙ ap (λ n. n + 1) s.every;
      numbered = λ node less. elim (cases_lt node count) [
        | inl before ↦ ap (λ (m : Member). m.component) (old node before) ∙ s.numbered node before
        | inr from ↦ (let one : count ≡ node = omega arith in
            subst (λ n. (get_or (members ++ member ∷ []) n no_member).component ≡ slice_index numbers n) one (ap (λ (m : Member). m.component) new ∙ number))
      ];
      flagged = λ node less. elim (cases_lt node count) [
        | inl before ↦ subst (λ (m : Member). (m.in_cycle ≡ true) ↔ StaysInComponent graph numbers node) (sym (old node before)) (s.flagged node before)
        | inr from ↦ (let one : count ≡ node = omega arith in
            subst (λ n. ((get_or (members ++ member ∷ []) n no_member).in_cycle ≡ true) ↔ StaysInComponent graph numbers n) one
            (subst (λ (m : Member). (m.in_cycle ≡ true) ↔ StaysInComponent graph numbers count) (sym new) stays))
      ];
    }

-- what was found, by the numbers
pub record Shows (graph : List (List ℕ)) (numbers : List ℕ) (c : Cycles) : Type 0 where
  pub numbered : (node : ℕ) → node < length graph → component_of c node ≡ slice_index numbers node
  pub flagged : (node : ℕ) → node < length graph → ((member_of c node).in_cycle ≡ true) ↔ StaysInComponent graph numbers node

pub shows_all : {graph : List (List ℕ)} {numbers : List ℕ} (members : List Member) (count : ℕ) → ShowsBelow graph numbers members count → length graph ≤ count →
    Shows graph numbers (record { members = members })
shows_all members count s all = record {
  numbered = λ node less. s.numbered node (omega arith);
  flagged = λ node less. s.flagged node (omega arith);
}

flag_says : (flag : Bool) (number : ℕ) (P : Type 0) → (flag ≡ true → P) → (P → flag ≡ true) → IsSome (if flag then Some number else None) ↔ P
flag_says true number P f g = ((λ some. f refl), (λ p. refl))
flag_says false number P f g = ((λ some. f some), (λ p. g p))

flag_of : {graph : List (List ℕ)} {numbers : List ℕ} {c : Cycles} (node : ℕ) → AreComponents graph numbers → Shows graph numbers c → node < length graph →
    IsInCycle graph node → (member_of c node).in_cycle ≡ true
flag_of node a s less cycle = (s.flagged node less).1 (stays_from a cycle refl)

pub components_shown : {graph : List (List ℕ)} {numbers : List ℕ} {c : Cycles} → AreComponents graph numbers → Shows graph numbers c →
    (left right : ℕ) → left < length graph → right < length graph → (component_of c left ≡ component_of c right) ↔ AreConnected graph left right
components_shown a s left right less less' = (
  (λ e. a.same left right less less' (sym (s.numbered left less) ∙ e ∙ s.numbered right less')),
  (λ connected. s.numbered left less ∙ same_number a connected ∙ sym (s.numbered right less')),
)

pub below_shown : {graph : List (List ℕ)} {numbers : List ℕ} {c : Cycles} → AreComponents graph numbers → Shows graph numbers c →
    (node : ℕ) → node < length graph → component_of c node < length graph
below_shown a s node less = let number = s.numbered node less in let below = a.below node less in omega (arith, number, below)

pub order_shown : {graph : List (List ℕ)} {numbers : List ℕ} {c : Cycles} → AreComponents graph numbers → Shows graph numbers c →
    (from to : ℕ) → HasEdge graph from to → component_of c to ≤ component_of c from
order_shown {graph = graph} a s from to edge =
    let there = s.numbered to (a.within from to edge) in
    let here = s.numbered from (edge_from_node graph from to edge) in
    let order = a.order from to edge in omega (arith, there, here, order)

pub cycles_shown : {graph : List (List ℕ)} {numbers : List ℕ} {c : Cycles} → AreComponents graph numbers → Shows graph numbers c →
    (node : ℕ) → node < length graph → IsSome (cycle_of c node) ↔ IsInCycle graph node
cycles_shown {graph = graph} {c = c} a s node less =
    flag_says (member_of c node).in_cycle (component_of c node) (IsInCycle graph node)
    (λ flag. cycle_from node a less ((s.flagged node less).0 flag)) (flag_of node a s less)

one_cycle : {graph : List (List ℕ)} (left right : ℕ) → IsInCycle graph left → AreConnected graph left right → AreInOneCycle graph left right
one_cycle {graph = graph} left right cycle (inl same) = (subst (λ v. Reaches graph left v) same cycle, subst (λ v. Reaches graph v left) same cycle)
one_cycle left right cycle (inr both) = both

same_flag : (flag : Bool) (m n : ℕ) → Some m ≡ (if flag then Some n else None) → m ≡ n
same_flag true m n e = cc
same_flag false m n e = cc

pub same_cycle_shown : {graph : List (List ℕ)} {numbers : List ℕ} {c : Cycles} → AreComponents graph numbers → Shows graph numbers c →
    (left right : ℕ) → left < length graph → right < length graph → IsInCycle graph left → (cycle_of c left ≡ cycle_of c right) ↔ AreInOneCycle graph left right
same_cycle_shown {graph = graph} {c = c} a s left right less less' cycle =
    let here : cycle_of c left ≡ Some (component_of c left) =
    ap (λ flag. if flag then Some (component_of c left) else None) (flag_of left a s less cycle) in (
      (λ e. one_cycle left right cycle ((components_shown a s left right less less').0
          (same_flag (member_of c right).in_cycle (component_of c left) (component_of c right) (sym here ∙ e)))),
      (λ both.
          let there : cycle_of c right ≡ Some (component_of c right) =
          ap (λ flag. if flag then Some (component_of c right) else None) (flag_of right a s less' (reaches_on both.1 both.0)) in
          here ∙ ap Some ((components_shown a s left right less less').1 (inr both)) ∙ sym there),
    )

-- two clauses on what a call gave, as one
pub both_ok : {A E : Type 0} {P Q R : A → Type 0} (result : Result A E) → IfOk result P → IfOk result Q → ((x : A) → P x → Q x → R x) → IfOk result R
both_ok (Ok x) p q f = f x p q
both_ok (Err e) p q f = tt
