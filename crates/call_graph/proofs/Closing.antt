-- The last part of the stack gets a number.
use Rattle.std.proofs.Common.{◌≡◌, ℕ, ◌+◌, ◌<◌, ◌≤◌, ◌≢◌, ◌⊎◌, List, [], ◌∷◌, ◌++◌, length, take, sym, ap, ◌∙◌, subst, inl, inr, arith}
use Rattle.std.specs.Prelude.{Contains, slice_index}
use Rattle.std.proofs.lemmas.Bool.{cases_lt}
use Rattle.std.proofs.lemmas.List.{get_or-take, length-take-le}
use Rattle.std.proofs.lemmas.List.Elements.{Contains-push, Contains-append_left, Contains-push_cases}
use Rattle.call_graph.specs.declared.search.Mark.{Mark}
use Rattle.call_graph.specs.declared.search.Mark.TheVariants.{New, Open, Numbered}
use Rattle.call_graph.specs.Graphs.{successors, HasEdge, AreConnected}
use Rattle.call_graph.specs.Search.{mark_of, LeadsTo, ReachesOrIs, GoesOn, IsNumberedUpTo, IsSound, NoneIsNew, numbered_count}
use Rattle.call_graph.proofs.Lists.{at_place, ascending_pop, ascending_last}
use Rattle.call_graph.proofs.Marks.{Marked, is_new, is_open, is_numbered, marked_as, open_place, number_of, led, leads}
use Rattle.call_graph.proofs.Counting.{count_more}

-- the nodes of the last part, which starts at p, get the number that comes next
pub record Closes (graph : List (List ℕ)) (marks after : List Mark) (next stack starts path : List ℕ) (p count : ℕ) : Type 0 where
  pub sound : IsSound graph marks next stack (starts ++ p ∷ []) (path ++ p ∷ []) count
  pub done : length (successors graph (slice_index stack p)) ≤ slice_index next (slice_index stack p)
  pub long : length after ≡ length marks
  pub inside : (q : ℕ) → p ≤ q → q < length stack → mark_of after (slice_index stack q) ≡ Numbered count
  pub outside : (u : ℕ) → ((q : ℕ) → p ≤ q → q < length stack → slice_index stack q ≢ u) → mark_of after u ≡ mark_of marks u

-- what becomes of a node
data Became (marks after : List Mark) (p count u : ℕ) : Type 0 where
  still_new : mark_of marks u ≡ New → mark_of after u ≡ New → Became marks after p count u
  still_open : (q : ℕ) → q < p → mark_of marks u ≡ Open q → mark_of after u ≡ Open q → Became marks after p count u
  now_numbered : (q : ℕ) → p ≤ q → mark_of marks u ≡ Open q → mark_of after u ≡ Numbered count → Became marks after p count u
  still_numbered : (c : ℕ) → mark_of marks u ≡ Numbered c → mark_of after u ≡ Numbered c → Became marks after p count u

-- a node that stands at no place of the last part keeps its mark
keeps : {graph : List (List ℕ)} {marks after : List Mark} {next stack starts path : List ℕ} {p count : ℕ} →
    Closes graph marks after next stack starts path p count → (u : ℕ) (m : Mark) → mark_of marks u ≡ m →
    ((q : ℕ) → p ≤ q → Open q ≢ m) → mark_of after u ≡ m
keeps {marks = marks} c u m e other =
    c.outside u (λ q from within at. other q from (sym (c.sound.stacked q within) ∙ ap (λ v. mark_of marks v) at ∙ e)) ∙ e

became_as : {graph : List (List ℕ)} {marks after : List Mark} {next stack starts path : List ℕ} {p count : ℕ} →
    Closes graph marks after next stack starts path p count → (u : ℕ) → Marked marks u → Became marks after p count u
became_as c u (is_new e) = still_new e (keeps c u New e (λ q from same. cc))
became_as c u (is_numbered n e) = still_numbered n e (keeps c u (Numbered n) e (λ q from same. cc))
became_as {after = after} {stack = stack} {p = p} {count = count} c u (is_open q e) =
    elim (cases_lt q p) [
      | inl before ↦ still_open q before e (keeps c u (Open q) e (λ r from same. let one : r ≡ q = cc in absurd (omega arith)))
      | inr behind ↦ now_numbered q behind e (let at : (q < length stack) × (slice_index stack q ≡ u) = c.sound.placed u q e in
          sym (ap (λ v. mark_of after v) at.1) ∙ c.inside q behind at.0)
    ]

became : {graph : List (List ℕ)} {marks after : List Mark} {next stack starts path : List ℕ} {p count : ℕ} →
    Closes graph marks after next stack starts path p count → (u : ℕ) → Became marks after p count u
became {marks = marks} c u = became_as c u (marked_as marks u)

place_within : {graph : List (List ℕ)} {marks after : List Mark} {next stack starts path : List ℕ} {p count : ℕ} →
    Closes graph marks after next stack starts path p count → p < length stack
place_within {path = path} {p = p} c = c.sound.path_within p (Contains-push path p)

shorter : {graph : List (List ℕ)} {marks after : List Mark} {next stack starts path : List ℕ} {p count : ℕ} →
    Closes graph marks after next stack starts path p count → length (take p stack) ≡ p
shorter {stack = stack} {p = p} c = let within : p < length stack = place_within c in length-take-le p stack (omega arith)

closed_stacked : {graph : List (List ℕ)} {marks after : List Mark} {next stack starts path : List ℕ} {p count : ℕ} →
    Closes graph marks after next stack starts path p count → (q : ℕ) → q < length (take p stack) →
    mark_of after (slice_index (take p stack) q) ≡ Open q
closed_stacked {after = after} {stack = stack} {p = p} c q within =
    let long : length (take p stack) ≡ p = shorter c in
    let before : q < p = omega arith in
    let place : p < length stack = place_within c in
    let old : mark_of after (slice_index stack q) ≡ Open q =
    keeps c (slice_index stack q) (Open q) (c.sound.stacked q (omega arith)) (λ r from same. let one : r ≡ q = cc in absurd (omega arith)) in
    ap (λ u. mark_of after u) (get_or-take p stack q 0 before) ∙ old

closed_placed : {graph : List (List ℕ)} {marks after : List Mark} {next stack starts path : List ℕ} {p count : ℕ} →
    Closes graph marks after next stack starts path p count → (u q : ℕ) → mark_of after u ≡ Open q → Became marks after p count u →
    (q < length (take p stack)) × (slice_index (take p stack) q ≡ u)
closed_placed c u q e (still_new was is) = cc
closed_placed {stack = stack} {p = p} c u q e (still_open r before was is) =
    let one : q ≡ r = cc in
    let old : (r < length stack) × (slice_index stack r ≡ u) = c.sound.placed u r was in
    let long : length (take p stack) ≡ p = shorter c in
    (omega arith, ap (λ n. slice_index (take p stack) n) one ∙ get_or-take p stack r 0 before ∙ old.1)
closed_placed c u q e (now_numbered r behind was is) = cc
closed_placed c u q e (still_numbered n was is) = cc

closed_fresh : {graph : List (List ℕ)} {marks after : List Mark} {next stack starts path : List ℕ} {p count : ℕ} →
    Closes graph marks after next stack starts path p count → (u : ℕ) → mark_of after u ≡ New → Became marks after p count u → slice_index next u ≡ 0
closed_fresh c u e (still_new was is) = c.sound.fresh u was
closed_fresh c u e (still_open r before was is) = cc
closed_fresh c u e (now_numbered r behind was is) = cc
closed_fresh c u e (still_numbered n was is) = cc

closed_within : {graph : List (List ℕ)} {marks after : List Mark} {next stack starts path : List ℕ} {p count : ℕ} →
    Closes graph marks after next stack starts path p count → (q : ℕ) → Contains path q → q < length (take p stack)
closed_within {stack = stack} {path = path} {p = p} c q among =
    let long : length (take p stack) ≡ p = shorter c in
    let before : q < p = ascending_last path p c.sound.path_ascends q among in omega arith

closed_on_path : {graph : List (List ℕ)} {marks after : List Mark} {next stack starts path : List ℕ} {p count : ℕ} →
    Closes graph marks after next stack starts path p count → (s : ℕ) → Contains starts s → Contains path s
closed_on_path {starts = starts} {path = path} {p = p} c s among =
    let before : s < p = ascending_last starts p c.sound.starts_ascend s among in
    elim (Contains-push_cases path p s (c.sound.starts_on_path s (Contains-append_left starts (p ∷ []) s among))) [
      | inl old ↦ old
      | inr last ↦ absurd (omega arith)
    ]

closed_first : {graph : List (List ℕ)} {marks after : List Mark} {next stack starts path : List ℕ} {p count : ℕ} →
    Closes graph marks after next stack starts path p count → 0 < length (take p stack) → Contains starts 0
closed_first {stack = stack} {starts = starts} {p = p} c some =
    let long : length (take p stack) ≡ p = shorter c in
    let place : p < length stack = place_within c in
    elim (Contains-push_cases starts p 0 (c.sound.first_start (omega arith))) [
      | inl old ↦ old
      | inr last ↦ absurd (omega arith)
    ]

closed_exhausted : {graph : List (List ℕ)} {marks after : List Mark} {next stack starts path : List ℕ} {p count : ℕ} →
    Closes graph marks after next stack starts path p count → (q : ℕ) → q < length (take p stack) →
    Contains path q ⊎ (length (successors graph (slice_index (take p stack) q)) ≤ slice_index next (slice_index (take p stack) q))
closed_exhausted {graph = graph} {next = next} {stack = stack} {path = path} {p = p} c q within =
    let long : length (take p stack) ≡ p = shorter c in
    let before : q < p = omega arith in
    let place : p < length stack = place_within c in
    let same : slice_index (take p stack) q ≡ slice_index stack q = get_or-take p stack q 0 before in
    elim (c.sound.exhausted q (omega arith)) [
      | inl among ↦ (elim (Contains-push_cases path p q among) [
        | inl old ↦ inl old
        | inr last ↦ absurd (omega arith)
      ])
      | inr all ↦ inr (subst (λ u. length (successors graph u) ≤ slice_index next u) (sym same) all)
    ]

closed_joined : {graph : List (List ℕ)} {marks after : List Mark} {next stack starts path : List ℕ} {p count : ℕ} →
    Closes graph marks after next stack starts path p count → (q r : ℕ) → q < length (take p stack) → r < length (take p stack) → LeadsTo starts q r →
    ReachesOrIs graph (slice_index (take p stack) q) (slice_index (take p stack) r)
closed_joined {graph = graph} {stack = stack} {starts = starts} {p = p} c q r first second h =
    let long : length (take p stack) ≡ p = shorter c in
    let place : p < length stack = place_within c in
    let left : q < p = omega arith in
    let right : r < p = omega arith in
    let old : ReachesOrIs graph (slice_index stack q) (slice_index stack r) =
    c.sound.joined q r (omega arith) (omega arith) (led starts p q r left h) in
    subst (λ u. ReachesOrIs graph u (slice_index (take p stack) r)) (sym (get_or-take p stack q 0 left))
    (subst (λ v. ReachesOrIs graph (slice_index stack q) v) (sym (get_or-take p stack r 0 right)) old)

closed_goes_on : {graph : List (List ℕ)} {marks after : List Mark} {next stack starts path : List ℕ} {p count : ℕ} →
    Closes graph marks after next stack starts path p count → (q v : ℕ) → q < p → GoesOn marks (starts ++ p ∷ []) q v → Became marks after p count v →
    GoesOn after starts q v
closed_goes_on c q v before h (still_new was is) = elim h [ inl number ↦ cc | inr place ↦ cc ]
closed_goes_on {starts = starts} {p = p} c q v before h (still_open r behind was is) = elim h [
  | inl number ↦ cc
  | inr place ↦ inr (
    r,
    is,
    leads starts p q r (let one : place.0 ≡ r = open_place (sym place.1 ∙ was) in
        subst (λ n. LeadsTo (starts ++ p ∷ []) q n) one place.2),
  )
]
closed_goes_on {count = count} c q v before h (now_numbered r behind was is) = inl (count, is)
closed_goes_on c q v before h (still_numbered n was is) = inl (n, is)

closed_followed : {graph : List (List ℕ)} {marks after : List Mark} {next stack starts path : List ℕ} {p count : ℕ} →
    Closes graph marks after next stack starts path p count → (q k : ℕ) → q < length (take p stack) → k < slice_index next (slice_index (take p stack) q) →
    GoesOn after starts q (slice_index (successors graph (slice_index (take p stack) q)) k)
closed_followed {graph = graph} {after = after} {next = next} {stack = stack} {starts = starts} {p = p} c q k within more =
    let long : length (take p stack) ≡ p = shorter c in
    let before : q < p = omega arith in
    let place : p < length stack = place_within c in
    let same : slice_index (take p stack) q ≡ slice_index stack q = get_or-take p stack q 0 before in
    let old : k < slice_index next (slice_index stack q) = subst (λ u. k < slice_index next u) same more in
    subst (λ u. GoesOn after starts q (slice_index (successors graph u) k)) (sym same)
    (closed_goes_on c q (slice_index (successors graph (slice_index stack q)) k) before (c.sound.followed q k (omega arith) old)
    (became c (slice_index (successors graph (slice_index stack q)) k)))

closed_below : {graph : List (List ℕ)} {marks after : List Mark} {next stack starts path : List ℕ} {p count : ℕ} →
    Closes graph marks after next stack starts path p count → (u n : ℕ) → mark_of after u ≡ Numbered n → Became marks after p count u → n < count + 1
closed_below c u n e (still_new was is) = cc
closed_below c u n e (still_open r before was is) = cc
closed_below c u n e (now_numbered r behind was is) = let one : n ≡ _ = number_of (sym e ∙ is) in omega arith
closed_below c u n e (still_numbered m was is) =
    let one : n ≡ m = number_of (sym e ∙ is) in
    let old : m < _ = c.sound.below u m was in omega arith

-- all edges of a node of the last part have been followed
all_followed : {graph : List (List ℕ)} {marks after : List Mark} {next stack starts path : List ℕ} {p count : ℕ} →
    Closes graph marks after next stack starts path p count → (q : ℕ) → p ≤ q → q < length stack → length
    (successors graph (slice_index stack q)) ≤ slice_index next (slice_index stack q)
all_followed {graph = graph} {next = next} {stack = stack} {path = path} {p = p} c q behind within = elim (c.sound.exhausted q within) [
  | inl among ↦ (elim (Contains-push_cases path p q among) [
    | inl old ↦ (let before : q < p = ascending_last path p c.sound.path_ascends q old in absurd (omega arith))
    | inr last ↦ subst (λ r. length (successors graph (slice_index stack r)) ≤ slice_index next (slice_index stack r)) last c.done
  ])
  | inr all ↦ all
]

-- an edge from the last part leads to a node with a number
closed_target : {graph : List (List ℕ)} {marks after : List Mark} {next stack starts path : List ℕ} {p count : ℕ} →
    Closes graph marks after next stack starts path p count → (q v : ℕ) → p ≤ q → GoesOn marks (starts ++ p ∷ []) q v → IsNumberedUpTo after count v
closed_target {after = after} {stack = stack} {starts = starts} {p = p} {count = count} c q v behind h = elim h [
  | inl number ↦ (let less : number.0 < count = c.sound.below v number.0 number.1 in
      (number.0, keeps c v (Numbered number.0) number.1 (λ r from same. cc), omega arith))
  | inr place ↦ (let from : p ≤ place.0 = place.2 p (Contains-push starts p) behind in
      let at : (place.0 < length stack) × (slice_index stack place.0 ≡ v) = c.sound.placed v place.0 place.1 in
      (count, sym (ap (λ u. mark_of after u) at.1) ∙ c.inside place.0 from at.0, omega arith))
]

closed_closed : {graph : List (List ℕ)} {marks after : List Mark} {next stack starts path : List ℕ} {p count : ℕ} →
    Closes graph marks after next stack starts path p count → (u n v : ℕ) → mark_of after u ≡ Numbered n → HasEdge graph u v →
    Became marks after p count u → IsNumberedUpTo after n v
closed_closed c u n v e edge (still_new was is) = cc
closed_closed c u n v e edge (still_open r before was is) = cc
closed_closed {graph = graph} {marks = marks} {after = after} {next = next} {stack = stack} {starts = starts} {p = p} c u n v e edge
    (now_numbered q behind was is) =
    let at : (q < length stack) × (slice_index stack q ≡ u) = c.sound.placed u q was in
    let all : length (successors graph u) ≤ slice_index next u =
    subst (λ w. length (successors graph w) ≤ slice_index next w) at.1 (all_followed c q behind at.0) in
    let more : edge.0 < slice_index next (slice_index stack q) = subst (λ w. edge.0 < slice_index next w) (sym at.1) (omega (arith, edge.1)) in
    let there : slice_index (successors graph u) edge.0 ≡ v = at_place (successors graph u) v edge.0 edge.1 edge.2 in
    let goes : GoesOn marks (starts ++ p ∷ []) q v =
    subst (λ w. GoesOn marks (starts ++ p ∷ []) q w) there
    (subst (λ w. GoesOn marks (starts ++ p ∷ []) q (slice_index (successors graph w) edge.0)) at.1 (c.sound.followed q edge.0 at.0 more)) in
    subst (λ m. IsNumberedUpTo after m v) (number_of (sym is ∙ e)) (closed_target c q v behind goes)
closed_closed {after = after} c u n v e edge (still_numbered m was is) =
    let old : IsNumberedUpTo _ m v = c.sound.closed u m v was edge in
    let one : m ≡ n = number_of (sym is ∙ e) in
    (old.0, keeps c v (Numbered old.0) old.1 (λ r from same. cc), omega (arith, old.2))

-- all nodes of the last part reach one another
one_part : {graph : List (List ℕ)} {marks after : List Mark} {next stack starts path : List ℕ} {p count : ℕ} →
    Closes graph marks after next stack starts path p count → (q r : ℕ) → p ≤ q → p ≤ r → q < length stack → r < length stack → ReachesOrIs graph
    (slice_index stack q) (slice_index stack r)
one_part {starts = starts} {p = p} c q r left right within within' =
    c.sound.joined q r within within' (λ s among least. elim (Contains-push_cases starts p s among) [
      | inl old ↦ (let before : s < p = ascending_last starts p c.sound.starts_ascend s old in omega arith)
      | inr last ↦ omega arith
    ])

connected : {graph : List (List ℕ)} {u v : ℕ} → ReachesOrIs graph u v → ReachesOrIs graph v u → AreConnected graph u v
connected (inl same) back = inl same
connected (inr there) (inl same) = inl (sym same)
connected (inr there) (inr back) = inr (there, back)

closed_same : {graph : List (List ℕ)} {marks after : List Mark} {next stack starts path : List ℕ} {p count : ℕ} →
    Closes graph marks after next stack starts path p count → (u v n : ℕ) → mark_of after u ≡ Numbered n → mark_of after v ≡ Numbered n →
    Became marks after p count u → Became marks after p count v → AreConnected graph u v
closed_same c u v n e f (still_new was is) right = cc
closed_same c u v n e f (still_open r before was is) right = cc
closed_same c u v n e f left (still_new was is) = cc
closed_same c u v n e f left (still_open r before was is) = cc
closed_same c u v n e f (still_numbered m was is) (still_numbered m' was' is') = c.sound.same u v m was (was' ∙ (sym is' ∙ f ∙ sym e ∙ is))
closed_same {count = count} c u v n e f (still_numbered m was is) (now_numbered q behind was' is') =
    let one : m ≡ count = number_of (sym is ∙ e ∙ sym f ∙ is') in
    let less : m < count = c.sound.below u m was in absurd (omega arith)
closed_same {count = count} c u v n e f (now_numbered q behind was is) (still_numbered m was' is') =
    let one : m ≡ count = number_of (sym is' ∙ f ∙ sym e ∙ is) in
    let less : m < count = c.sound.below v m was' in absurd (omega arith)
closed_same {graph = graph} {stack = stack} c u v n e f (now_numbered q behind was is) (now_numbered r behind' was' is') =
    let left : (q < length stack) × (slice_index stack q ≡ u) = c.sound.placed u q was in
    let right : (r < length stack) × (slice_index stack r ≡ v) = c.sound.placed v r was' in
    subst (λ w. AreConnected graph w v) left.1 (subst (λ w. AreConnected graph (slice_index stack q) w) right.1
    (connected (one_part c q r behind behind' left.0 right.0) (one_part c r q behind' behind right.0 left.0)))

closed_few : {graph : List (List ℕ)} {marks after : List Mark} {next stack starts path : List ℕ} {p count : ℕ} →
    Closes graph marks after next stack starts path p count → count + 1 ≤ numbered_count after
closed_few {marks = marks} {after = after} {stack = stack} {p = p} {count = count} c =
    let place : p < length stack = place_within c in
    let more = count_more marks after (slice_index stack p) (sym c.long) (λ u n e. (n, keeps c u (Numbered n) e (λ r from same. cc)))
    p (c.sound.stacked p place) count (c.inside p (omega arith) place) in
    let few = c.sound.few in omega (arith, more, few)

-- the search goes on without the last part
pub closed : {graph : List (List ℕ)} {marks after : List Mark} {next stack starts path : List ℕ} {p count : ℕ} →
    Closes graph marks after next stack starts path p count → IsSound graph after next (take p stack) starts path (count + 1)
closed {starts = starts} {path = path} {p = p} c = record {
  marked = c.long ∙ c.sound.marked;
  counted = c.sound.counted;
  stacked = closed_stacked c;
  placed = λ u q e. closed_placed c u q e (became c u);
  fresh = λ u e. closed_fresh c u e (became c u);
  path_ascends = ascending_pop path p c.sound.path_ascends;
  path_within = closed_within c;
  starts_ascend = ascending_pop starts p c.sound.starts_ascend;
  starts_on_path = closed_on_path c;
  first_start = closed_first c;
  exhausted = closed_exhausted c;
  joined = closed_joined c;
  followed = closed_followed c;
  below = λ u n e. closed_below c u n e (became c u);
  closed = λ u n v e edge. closed_closed c u n v e edge (became c u);
  same = λ u v n e f. closed_same c u v n e f (became c u) (became c v);
  few = closed_few c;
}

pub closed_none_new : {graph : List (List ℕ)} {marks after : List Mark} {next stack starts path : List ℕ} {p count : ℕ} →
    Closes graph marks after next stack starts path p count → NoneIsNew marks after
closed_none_new {marks = marks} {after = after} {p = p} {count = count} c u e = new_before e (became c u)
  where
    new_before : mark_of after u ≡ New → Became marks after p count u → mark_of marks u ≡ New
    new_before e (still_new was is) = was
    new_before e (still_open r before was is) = cc
    new_before e (now_numbered r behind was is) = cc
    new_before e (still_numbered m was is) = cc
