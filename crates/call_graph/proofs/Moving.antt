-- Parts are joined, an edge has been followed, and a node whose edges have all been followed leaves the path.
use Rattle.std.proofs.Common.{◌≡◌, ℕ, ◌+◌, ◌<◌, ◌≤◌, List, [], ◌∷◌, ◌++◌, length, set, sym, ap, ◌∙◌, subst, inl, inr, arith, length-set}
use Rattle.std.specs.Prelude.{Contains, slice_index}
use Rattle.std.proofs.lemmas.Bool.{cases_lt, cases_eq}
use Rattle.std.proofs.lemmas.List.{get_or-set_same, get_or-set_other}
use Rattle.std.proofs.lemmas.List.Elements.{Contains-push, Contains-append_left, Contains-push_cases}
use Rattle.call_graph.specs.declared.search.Mark.{Mark}
use Rattle.call_graph.specs.declared.search.Mark.TheVariants.{New, Open}
use Rattle.call_graph.specs.Graphs.{successors, HasEdge, Reaches, by_edge, by_edge_and}
use Rattle.call_graph.specs.Search.{mark_of, LeadsTo, ReachesOrIs, GoesOn, IsSound, IsCut}
use Rattle.call_graph.proofs.Lists.{ascending_pop, ascending_last}
use Rattle.call_graph.proofs.Marks.{open_place}

pub reaches_on : {graph : List (List ℕ)} {u v w : ℕ} → Reaches graph u v → Reaches graph v w → Reaches graph u w
reaches_on (by_edge edge) after = by_edge_and _ edge after
reaches_on (by_edge_and next edge rest) after = by_edge_and next edge (reaches_on rest after)

-- first a path that may be empty, then one that isn't
pub reaches_behind : {graph : List (List ℕ)} {u v w : ℕ} → ReachesOrIs graph u v → Reaches graph v w → Reaches graph u w
reaches_behind {graph = graph} {w = w} (inl same) after = subst (λ n. Reaches graph n w) (sym same) after
reaches_behind (inr path) after = reaches_on path after

reaches_before : {graph : List (List ℕ)} {u v w : ℕ} → Reaches graph u v → ReachesOrIs graph v w → Reaches graph u w
reaches_before {graph = graph} {u = u} path (inl same) = subst (λ n. Reaches graph u n) same path
reaches_before path (inr after) = reaches_on path after

-- all open nodes reach the last one of the path
pub reaches_last : {graph : List (List ℕ)} {marks : List Mark} {next stack starts : List ℕ} {count : ℕ} (path : List ℕ) (place : ℕ) →
    IsSound graph marks next stack starts (path ++ place ∷ []) count → (p : ℕ) → p < length stack →
    ReachesOrIs graph (slice_index stack p) (slice_index stack place)
reaches_last {starts = starts} path place s p within =
    s.joined p place within (s.path_within place (Contains-push path place)) (λ start among least.
    elim (Contains-push_cases path place start (s.starts_on_path start among)) [
      | inl old ↦ (let before : start < place = ascending_last path place s.path_ascends start old in omega arith)
      | inr last ↦ omega arith
    ])

cut_joined : {graph : List (List ℕ)} {marks : List Mark} {next stack starts : List ℕ} {count : ℕ} (path : List ℕ) (cut : List ℕ) (place to : ℕ) →
    IsSound graph marks next stack starts (path ++ place ∷ []) count → IsCut starts cut to → to < length stack →
    HasEdge graph (slice_index stack place) (slice_index stack to) →
    (p q : ℕ) → p < length stack → q < length stack → LeadsTo cut p q → ReachesOrIs graph (slice_index stack p) (slice_index stack q)
cut_joined {graph = graph} {stack = stack} {starts = starts} path cut place to s c there edge p q within within' h =
    elim (cases_lt to p) [
      | inl behind ↦ inr (reaches_behind (reaches_last path place s p within) (reaches_before (by_edge edge)
          (s.joined to q there within' (λ start among least. h start (c.keeps start among least) (omega arith)))))
      | inr before ↦ s.joined p q within within' (λ start among least. h start (c.keeps start among (omega arith)) least)
    ]

goes_on_cut : (marks : List Mark) (starts cut : List ℕ) (to p v : ℕ) → IsCut starts cut to → GoesOn marks starts p v → GoesOn marks cut p v
goes_on_cut marks starts cut to p v c h = elim h [
  | inl number ↦ inl number
  | inr place ↦ inr (place.0, place.1, λ start among least. place.2 start (c.kept start among) least)
]

pub joined : {graph : List (List ℕ)} {marks : List Mark} {next stack starts : List ℕ} {count : ℕ} (path : List ℕ) (cut : List ℕ) (place to : ℕ) →
    IsSound graph marks next stack starts (path ++ place ∷ []) count → IsCut starts cut to → to < length stack →
    HasEdge graph (slice_index stack place) (slice_index stack to) →
    IsSound graph marks next stack cut (path ++ place ∷ []) count
joined {graph = graph} {marks = marks} {stack = stack} {starts = starts} path cut place to s c there edge = record {
  marked = s.marked;
  counted = s.counted;
  stacked = s.stacked;
  placed = s.placed;
  fresh = s.fresh;
  path_ascends = s.path_ascends;
  path_within = s.path_within;
  starts_ascend = c.ascends;
  starts_on_path = λ start among. s.starts_on_path start (c.kept start among);
  first_start = λ some. c.keeps 0 (s.first_start some) (omega arith);
  exhausted = s.exhausted;
  joined = cut_joined path cut place to s c there edge;
  followed = λ p k within more. goes_on_cut marks starts cut to p (slice_index (successors graph (slice_index stack p)) k) c (s.followed p k within more);
  below = s.below;
  closed = s.closed;
  same = s.same;
  few = s.few;
}

-- the node whose edge was followed stands in the part of that edge's end or behind it
pub joined_there : (marks : List Mark) (starts cut : List ℕ) (place to v : ℕ) → IsCut starts cut to → mark_of marks v ≡ Open to → GoesOn marks cut place v
joined_there marks starts cut place to v c e = inr (to, e, λ start among least. c.within start among)

-- one more edge of a node has been followed
advanced_fresh : {graph : List (List ℕ)} {marks : List Mark} {next stack starts path : List ℕ} {count : ℕ} (node place at : ℕ) →
    IsSound graph marks next stack starts path count → mark_of marks node ≡ Open place →
    (u : ℕ) → mark_of marks u ≡ New → slice_index (set next node at) u ≡ 0
advanced_fresh {marks = marks} {next = next} node place at s e u new = elim (cases_eq u node) [
  | inl same ↦ (let is : Open place ≡ New = sym e ∙ ap (λ v. mark_of marks v) (sym same) ∙ new in cc)
  | inr other ↦ get_or-set_other next node u at 0 other ∙ s.fresh u new
]

advanced_next : (next : List ℕ) (node u : ℕ) → node < length next → slice_index next u ≤ slice_index (set next node (slice_index next node + 1)) u
advanced_next next node u within = elim (cases_eq u node) [
  | inl same ↦ (let is : slice_index (set next node (slice_index next node + 1)) u ≡ slice_index next node + 1 =
      ap (λ v. slice_index (set next node (slice_index next node + 1)) v) same ∙ get_or-set_same next node (slice_index next node + 1) 0 within in
      omega (arith, ap (λ v. slice_index next v) same))
  | inr other ↦ (let is : slice_index (set next node (slice_index next node + 1)) u ≡ slice_index next u =
      get_or-set_other next node u (slice_index next node + 1) 0 other in omega arith)
]

advanced_followed : {graph : List (List ℕ)} {marks : List Mark} {next stack starts path : List ℕ} {count : ℕ} (node place : ℕ) →
    IsSound graph marks next stack starts path count → node < length next → mark_of marks node ≡ Open place →
    GoesOn marks starts place (slice_index (successors graph node) (slice_index next node)) →
    (p k : ℕ) → p < length stack → k < slice_index (set next node (slice_index next node + 1)) (slice_index stack p) →
    GoesOn marks starts p (slice_index (successors graph (slice_index stack p)) k)
advanced_followed {graph = graph} {marks = marks} {next = next} {stack = stack} {starts = starts} node place s inside e goes p k within more =
    elim (cases_eq (slice_index stack p) node) [
      | inr other ↦ s.followed p k within (subst (λ n. k < n) (get_or-set_other next node (slice_index stack p) (slice_index next node + 1) 0 other) more)
      | inl same ↦ (let one : p ≡ place = open_place (sym (s.stacked p within) ∙ ap (λ v. mark_of marks v) same ∙ e) in
          let upto : k < slice_index next node + 1 = subst (λ n. k < n)
          (ap (λ v. slice_index (set next node (slice_index next node + 1)) v) same ∙ get_or-set_same next node (slice_index next node + 1) 0 inside) more in
          elim (cases_lt k (slice_index next node)) [
            | inl old ↦ s.followed p k within (subst (λ u. k < slice_index next u) (sym same) old)
            | inr last ↦ (let this : k ≡ slice_index next node = omega arith in
                subst (λ u. GoesOn marks starts p (slice_index (successors graph u) k)) (sym same)
                (subst (λ n. GoesOn marks starts p (slice_index (successors graph node) n)) (sym this)
                (subst (λ q. GoesOn marks starts q (slice_index (successors graph node) (slice_index next node))) (sym one) goes)))
          ])
    ]

pub advanced : {graph : List (List ℕ)} {marks : List Mark} {next stack starts path : List ℕ} {count : ℕ} (node place : ℕ) →
    IsSound graph marks next stack starts path count → node < length next → mark_of marks node ≡ Open place →
    GoesOn marks starts place (slice_index (successors graph node) (slice_index next node)) →
    IsSound graph marks (set next node (slice_index next node + 1)) stack starts path count
advanced {graph = graph} {next = next} {stack = stack} node place s inside e goes = record {
  marked = s.marked;
  counted = length-set next node (slice_index next node + 1) ∙ s.counted;
  stacked = s.stacked;
  placed = s.placed;
  fresh = advanced_fresh node place (slice_index next node + 1) s e;
  path_ascends = s.path_ascends;
  path_within = s.path_within;
  starts_ascend = s.starts_ascend;
  starts_on_path = s.starts_on_path;
  first_start = s.first_start;
  exhausted = λ p within. elim (s.exhausted p within) [
    | inl among ↦ inl among
    | inr all ↦ inr (let more : slice_index next (slice_index stack p) ≤ slice_index (set next node (slice_index next node + 1)) (slice_index stack p) =
        advanced_next next node (slice_index stack p) inside in omega arith)
  ];
  joined = s.joined;
  followed = advanced_followed node place s inside e goes;
  below = s.below;
  closed = s.closed;
  same = s.same;
  few = s.few;
}

-- a node that starts no part leaves the path
pub left : {graph : List (List ℕ)} {marks : List Mark} {next stack starts path : List ℕ} {count : ℕ} (place : ℕ) →
    IsSound graph marks next stack starts (path ++ place ∷ []) count →
    length (successors graph (slice_index stack place)) ≤ slice_index next (slice_index stack place) →
    (Contains starts place → ⊥) → IsSound graph marks next stack starts path count
left {graph = graph} {next = next} {stack = stack} {starts = starts} {path = path} place s done none = record {
  marked = s.marked;
  counted = s.counted;
  stacked = s.stacked;
  placed = s.placed;
  fresh = s.fresh;
  path_ascends = ascending_pop path place s.path_ascends;
  path_within = λ p among. s.path_within p (Contains-append_left path (place ∷ []) p among);
  starts_ascend = s.starts_ascend;
  starts_on_path = λ start among. elim (Contains-push_cases path place start (s.starts_on_path start among)) [
    | inl old ↦ old
    | inr last ↦ absurd (none (subst (λ n. Contains starts n) (sym last) among))
  ];
  first_start = s.first_start;
  exhausted = λ p within. elim (s.exhausted p within) [
    | inl among ↦ (elim (Contains-push_cases path place p among) [
      | inl old ↦ inl old
      | inr last ↦ inr (subst (λ n. length (successors graph (slice_index stack n)) ≤ slice_index next (slice_index stack n)) last done)
    ])
    | inr all ↦ inr all
  ];
  joined = s.joined;
  followed = s.followed;
  below = s.below;
  closed = s.closed;
  same = s.same;
  few = s.few;
}
