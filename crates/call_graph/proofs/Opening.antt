-- A new node is opened, at the end of the stack.
use Rattle.std.proofs.Common.{◌≡◌, ℕ, ◌<◌, ◌≤◌, ◌≢◌, ◌⊎◌, List, [], ◌∷◌, ◌++◌, length, set, sym, ap, ◌∙◌, subst, inl, inr, arith, length-set}
use Rattle.std.specs.Prelude.{Contains, slice_index}
use Rattle.std.proofs.lemmas.Bool.{cases_lt, cases_eq}
use Rattle.std.proofs.lemmas.List.{get_or_append_left, get_or_push, length_push, get_or-set_same, get_or-set_other}
use Rattle.std.proofs.lemmas.List.Elements.{Contains-push, Contains-append_left, Contains-push_cases}
use Rattle.call_graph.specs.declared.search.Mark.{Mark}
use Rattle.call_graph.specs.declared.search.Mark.TheVariants.{New, Open, Numbered}
use Rattle.call_graph.specs.Graphs.{successors, HasEdge, Reaches}
use Rattle.call_graph.specs.Search.{mark_of, LeadsTo, ReachesOrIs, GoesOn, IsNumberedUpTo, IsSound, numbered_count}
use Rattle.call_graph.proofs.Lists.{ascending_push}
use Rattle.call_graph.proofs.Marks.{open_place, led, leads}
use Rattle.call_graph.proofs.Counting.{count_kept}

-- a new node that all open nodes reach
pub record Opens (graph : List (List ℕ)) (marks : List Mark) (next stack starts path : List ℕ) (node count : ℕ) : Type 0 where
  pub sound : IsSound graph marks next stack starts path count
  pub new : mark_of marks node ≡ New
  pub within : node < length graph
  pub reached : (p : ℕ) → p < length stack → Reaches graph (slice_index stack p) node

abbrev pub opened_marks : List Mark → ℕ → List ℕ → List Mark
opened_marks marks node stack = set marks node (Open (length stack))

mark_there : {graph : List (List ℕ)} {marks : List Mark} {next stack starts path : List ℕ} {node count : ℕ} →
    Opens graph marks next stack starts path node count → mark_of (opened_marks marks node stack) node ≡ Open (length stack)
mark_there {marks = marks} {stack = stack} {node = node} c =
    let within : node < length marks = subst (λ n. node < n) (sym c.sound.marked) c.within in
    get_or-set_same marks node (Open (length stack)) New within

mark_elsewhere : {graph : List (List ℕ)} {marks : List Mark} {next stack starts path : List ℕ} {node count : ℕ} →
    Opens graph marks next stack starts path node count → (u : ℕ) → u ≢ node → mark_of (opened_marks marks node stack) u ≡ mark_of marks u
mark_elsewhere {marks = marks} {stack = stack} {node = node} c u other = get_or-set_other marks node u (Open (length stack)) New other

-- a node that isn't new keeps its mark
pub mark_kept : {graph : List (List ℕ)} {marks : List Mark} {next stack starts path : List ℕ} {node count : ℕ} →
    Opens graph marks next stack starts path node count → (u : ℕ) (m : Mark) → m ≢ New → mark_of marks u ≡ m → mark_of (opened_marks marks node stack) u ≡ m
mark_kept {marks = marks} c u m other e =
    mark_elsewhere c u (λ same. other (sym e ∙ ap (λ v. mark_of marks v) same ∙ c.new)) ∙ e

place_before : (stack : List ℕ) (node p : ℕ) → p < length stack → slice_index (stack ++ node ∷ []) p ≡ slice_index stack p
place_before stack node p within = get_or_append_left stack (node ∷ []) 0 p within

place_last : (stack : List ℕ) (node p : ℕ) → p ≡ length stack → slice_index (stack ++ node ∷ []) p ≡ node
place_last stack node p e = get_or_push stack node 0 p (sym e)

longer : (stack : List ℕ) (node p : ℕ) → p < length (stack ++ node ∷ []) → length stack ≤ p → p ≡ length stack
longer stack node p within from = omega (arith, length_push stack node)

opened_stacked : {graph : List (List ℕ)} {marks : List Mark} {next stack starts path : List ℕ} {node count : ℕ} →
    Opens graph marks next stack starts path node count → (p : ℕ) → p < length (stack ++ node ∷ []) →
    mark_of (opened_marks marks node stack) (slice_index (stack ++ node ∷ []) p) ≡ Open p
opened_stacked {marks = marks} {stack = stack} {node = node} c p within = elim (cases_lt p (length stack)) [
  | inl before ↦ ap (λ u. mark_of (opened_marks marks node stack) u) (place_before stack node p before)
      ∙ mark_kept c (slice_index stack p) (Open p) (λ same. cc) (c.sound.stacked p before)
  | inr from ↦ (let one : p ≡ length stack = longer stack node p within from in
      ap (λ u. mark_of (opened_marks marks node stack) u) (place_last stack node p one) ∙ mark_there c ∙ ap Open (sym one))
]

opened_placed : {graph : List (List ℕ)} {marks : List Mark} {next stack starts path : List ℕ} {node count : ℕ} →
    Opens graph marks next stack starts path node count → (u p : ℕ) → mark_of (opened_marks marks node stack) u ≡ Open p →
    (p < length (stack ++ node ∷ [])) × (slice_index (stack ++ node ∷ []) p ≡ u)
opened_placed {marks = marks} {stack = stack} {node = node} c u p e = elim (cases_eq u node) [
  | inl same ↦ (let one : p ≡ length stack = open_place (sym e ∙ ap (λ v. mark_of (opened_marks marks node stack) v) same ∙ mark_there c) in
      (omega (arith, length_push stack node), place_last stack node p one ∙ sym same))
  | inr other ↦ (let old : (p < length stack) × (slice_index stack p ≡ u) = c.sound.placed u p (sym (mark_elsewhere c u other) ∙ e) in
      (omega (arith, length_push stack node), place_before stack node p old.0 ∙ old.1))
]

opened_fresh : {graph : List (List ℕ)} {marks : List Mark} {next stack starts path : List ℕ} {node count : ℕ} →
    Opens graph marks next stack starts path node count → (u : ℕ) → mark_of (opened_marks marks node stack) u ≡ New → slice_index next u ≡ 0
opened_fresh {marks = marks} {stack = stack} {node = node} c u e = elim (cases_eq u node) [
  | inl same ↦ (let is : Open (length stack) ≡ New = sym (mark_there c) ∙ ap (λ v. mark_of (opened_marks marks node stack) v) (sym same) ∙ e in cc)
  | inr other ↦ c.sound.fresh u (sym (mark_elsewhere c u other) ∙ e)
]

opened_within : {graph : List (List ℕ)} {marks : List Mark} {next stack starts path : List ℕ} {node count : ℕ} →
    Opens graph marks next stack starts path node count → (p : ℕ) → Contains (path ++ length stack ∷ []) p → p < length (stack ++ node ∷ [])
opened_within {stack = stack} {path = path} {node = node} c p among = elim (Contains-push_cases path (length stack) p among) [
  | inl old ↦ (let before : p < length stack = c.sound.path_within p old in omega (arith, length_push stack node))
  | inr last ↦ omega (arith, length_push stack node)
]

opened_on_path : {graph : List (List ℕ)} {marks : List Mark} {next stack starts path : List ℕ} {node count : ℕ} →
    Opens graph marks next stack starts path node count → (s : ℕ) → Contains (starts ++ length stack ∷ []) s → Contains (path ++ length stack ∷ []) s
opened_on_path {stack = stack} {starts = starts} {path = path} c s among = elim (Contains-push_cases starts (length stack) s among) [
  | inl old ↦ Contains-append_left path (length stack ∷ []) s (c.sound.starts_on_path s old)
  | inr last ↦ subst (λ n. Contains (path ++ length stack ∷ []) n) last (Contains-push path (length stack))
]

opened_first : {graph : List (List ℕ)} {marks : List Mark} {next stack starts path : List ℕ} {node count : ℕ} →
    Opens graph marks next stack starts path node count → 0 < length (stack ++ node ∷ []) → Contains (starts ++ length stack ∷ []) 0
opened_first {stack = stack} {starts = starts} c some = elim (cases_lt 0 (length stack)) [
  | inl more ↦ Contains-append_left starts (length stack ∷ []) 0 (c.sound.first_start more)
  | inr none ↦ (let zero : length stack ≡ 0 = omega arith in subst (λ n. Contains (starts ++ length stack ∷ []) n) zero (Contains-push starts (length stack)))
]

opened_exhausted : {graph : List (List ℕ)} {marks : List Mark} {next stack starts path : List ℕ} {node count : ℕ} →
    Opens graph marks next stack starts path node count → (p : ℕ) → p < length (stack ++ node ∷ []) → Contains (path ++ length stack ∷ []) p ⊎
    (length (successors graph (slice_index (stack ++ node ∷ []) p)) ≤ slice_index next (slice_index (stack ++ node ∷ []) p))
opened_exhausted {graph = graph} {next = next} {stack = stack} {path = path} {node = node} c p within = elim (cases_lt p (length stack)) [
  | inl before ↦ (elim (c.sound.exhausted p before) [
    | inl among ↦ inl (Contains-append_left path (length stack ∷ []) p among)
    | inr all ↦ inr (subst (λ u. length (successors graph u) ≤ slice_index next u) (sym (place_before stack node p before)) all)
  ])
  | inr from ↦ inl (subst (λ n. Contains (path ++ length stack ∷ []) n) (sym (longer stack node p within from)) (Contains-push path (length stack)))
]

opened_joined : {graph : List (List ℕ)} {marks : List Mark} {next stack starts path : List ℕ} {node count : ℕ} →
    Opens graph marks next stack starts path node count → (p q : ℕ) → p < length (stack ++ node ∷ []) → q < length (stack ++ node ∷ []) →
    LeadsTo (starts ++ length stack ∷ []) p q → ReachesOrIs graph (slice_index (stack ++ node ∷ []) p) (slice_index (stack ++ node ∷ []) q)
opened_joined {graph = graph} {stack = stack} {starts = starts} {node = node} c p q within within' h = elim (cases_lt p (length stack)) [
  | inl before ↦ subst (λ u. ReachesOrIs graph u (slice_index (stack ++ node ∷ []) q)) (sym (place_before stack node p before))
      (elim (cases_lt q (length stack)) [
        | inl before' ↦ subst (λ v. ReachesOrIs graph (slice_index stack p) v) (sym (place_before stack node q before'))
            (c.sound.joined p q before before' (leads starts (length stack) p q h))
        | inr from' ↦ subst (λ v. ReachesOrIs graph (slice_index stack p) v) (sym (place_last stack node q (longer stack node q within' from')))
            (inr (c.reached p before))
      ])
  | inr from ↦ (let least : length stack ≤ q = h (length stack) (Contains-push starts (length stack)) from in
      inl (place_last stack node p (longer stack node p within from) ∙ sym (place_last stack node q (longer stack node q within' least))))
]

opened_goes_on : {graph : List (List ℕ)} {marks : List Mark} {next stack starts path : List ℕ} {node count : ℕ} →
    Opens graph marks next stack starts path node count → (p v : ℕ) → p < length stack → GoesOn marks starts p v →
    GoesOn (opened_marks marks node stack) (starts ++ length stack ∷ []) p v
opened_goes_on {stack = stack} {starts = starts} c p v before h = elim h [
  | inl number ↦ inl (number.0, mark_kept c v (Numbered number.0) (λ same. cc) number.1)
  | inr place ↦ inr (place.0, mark_kept c v (Open place.0) (λ same. cc) place.1, led starts (length stack) p place.0 before place.2)
]

opened_followed : {graph : List (List ℕ)} {marks : List Mark} {next stack starts path : List ℕ} {node count : ℕ} →
    Opens graph marks next stack starts path node count → (p k : ℕ) → p < length (stack ++ node ∷ []) → k < slice_index next
    (slice_index (stack ++ node ∷ []) p) →
    GoesOn (opened_marks marks node stack) (starts ++ length stack ∷ []) p (slice_index (successors graph (slice_index (stack ++ node ∷ []) p)) k)
opened_followed {graph = graph} {marks = marks} {next = next} {stack = stack} {starts = starts} {node = node} c p k within more = elim
    (cases_lt p (length stack)) [
      | inl before ↦ (let old : k < slice_index next (slice_index stack p) = subst (λ u. k < slice_index next u) (place_before stack node p before) more in
          subst (λ u. GoesOn (opened_marks marks node stack) (starts ++ length stack ∷ []) p (slice_index (successors graph u) k))
          (sym (place_before stack node p before))
          (opened_goes_on c p (slice_index (successors graph (slice_index stack p)) k) before (c.sound.followed p k before old)))
      | inr from ↦ (let zero : slice_index next node ≡ 0 = c.sound.fresh node c.new in
          let none : k < slice_index next node = subst (λ u. k < slice_index next u) (place_last stack node p (longer stack node p within from)) more in
          absurd (omega arith))
    ]

-- a number stands where it stood
opened_number : {graph : List (List ℕ)} {marks : List Mark} {next stack starts path : List ℕ} {node count : ℕ} →
    Opens graph marks next stack starts path node count → (u n : ℕ) → mark_of (opened_marks marks node stack) u ≡ Numbered n → mark_of marks u ≡ Numbered n
opened_number {marks = marks} {stack = stack} {node = node} c u n e = elim (cases_eq u node) [
  | inl same ↦ (let is : Open (length stack) ≡ Numbered n = sym (mark_there c) ∙ ap (λ v. mark_of (opened_marks marks node stack) v) (sym same) ∙ e in cc)
  | inr other ↦ sym (mark_elsewhere c u other) ∙ e
]

opened_closed : {graph : List (List ℕ)} {marks : List Mark} {next stack starts path : List ℕ} {node count : ℕ} →
    Opens graph marks next stack starts path node count → (u n v : ℕ) → mark_of (opened_marks marks node stack) u ≡ Numbered n → HasEdge graph u v →
    IsNumberedUpTo (opened_marks marks node stack) n v
opened_closed {marks = marks} c u n v e edge =
    let old : IsNumberedUpTo marks n v = c.sound.closed u n v (opened_number c u n e) edge in
    (old.0, mark_kept c v (Numbered old.0) (λ same. cc) old.1, old.2)

opened_few : {graph : List (List ℕ)} {marks : List Mark} {next stack starts path : List ℕ} {node count : ℕ} →
    Opens graph marks next stack starts path node count → count ≤ numbered_count (opened_marks marks node stack)
opened_few {marks = marks} {stack = stack} {node = node} c =
    let more = count_kept marks (opened_marks marks node stack) (sym (length-set marks node (Open (length stack))))
    (λ u n e. (n, mark_kept c u (Numbered n) (λ same. cc) e)) in
    let few = c.sound.few in omega (arith, more, few)

-- the search goes on from the new node
pub opened : {graph : List (List ℕ)} {marks : List Mark} {next stack starts path : List ℕ} {node count : ℕ} →
    Opens graph marks next stack starts path node count → IsSound graph (opened_marks marks node stack) next (stack ++ node ∷ [])
    (starts ++ length stack ∷ []) (path ++ length stack ∷ []) count
opened {marks = marks} {stack = stack} {starts = starts} {path = path} {node = node} c = record {
  marked = length-set marks node (Open (length stack)) ∙ c.sound.marked;
  counted = c.sound.counted;
  stacked = opened_stacked c;
  placed = opened_placed c;
  fresh = opened_fresh c;
  path_ascends = ascending_push path (length stack) c.sound.path_ascends c.sound.path_within;
  path_within = opened_within c;
  starts_ascend = ascending_push starts (length stack) c.sound.starts_ascend (λ s among. c.sound.path_within s (c.sound.starts_on_path s among));
  starts_on_path = opened_on_path c;
  first_start = opened_first c;
  exhausted = opened_exhausted c;
  joined = opened_joined c;
  followed = opened_followed c;
  below = λ u n e. c.sound.below u n (opened_number c u n e);
  closed = opened_closed c;
  same = λ u v n e f. c.sound.same u v n (opened_number c u n e) (opened_number c v n f);
  few = opened_few c;
}

-- the new node stands in the part of each place or behind it
pub opened_there : {graph : List (List ℕ)} {marks : List Mark} {next stack starts path : List ℕ} {node count : ℕ} →
    Opens graph marks next stack starts path node count → (p : ℕ) → p < length stack → GoesOn (opened_marks marks node stack)
    (starts ++ length stack ∷ []) p node
opened_there {stack = stack} {starts = starts} c p within = inr (length stack, mark_there c, (λ start among least. omega arith))
