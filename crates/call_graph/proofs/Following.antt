-- An edge of the last node of the path is followed.
use Rattle.std.proofs.Common.{◌≡◌, ℕ, ◌+◌, ◌*◌, ◌<◌, List, [], ◌∷◌, ◌++◌, length, get_or, set, sym, ap, ◌∙◌, subst, inl, arith, suc, zero}
use Rattle.std.specs.Prelude.{All, Contains, slice_index}
use Rattle.std.proofs.lemmas.List.{get_or_read, get_or_default, length_push}
use Rattle.std.proofs.lemmas.List.Elements.{Contains-push, Contains-get_or}
use Rattle.call_graph.specs.declared.search.Mark.{Mark}
use Rattle.call_graph.specs.declared.search.Mark.TheVariants.{New, Open, Numbered}
use Rattle.call_graph.specs.Graphs.{successors, HasEdge, by_edge}
use Rattle.call_graph.specs.Search.{mark_of, EndsIn, GoesOn, IsSound, IsCut, edges_left}
use Rattle.call_graph.proofs.Marks.{is_node}
use Rattle.call_graph.proofs.Opening.{Opens, opened, opened_there, mark_kept, opened_marks}
use Rattle.call_graph.proofs.Moving.{reaches_last, reaches_behind, joined, joined_there, advanced}

-- the last place of the path is one of the stack
pub place_within : {graph : List (List ℕ)} {marks : List Mark} {next stack starts path : List ℕ} {count : ℕ} (place : ℕ) →
    IsSound graph marks next stack starts path count → EndsIn path place → place < length stack
place_within place s last = s.path_within place (subst (λ xs. Contains xs place) (sym last.1) (Contains-push last.0 place))

-- the nodes of the stack are nodes
node_within : {graph : List (List ℕ)} {marks : List Mark} {next stack starts path : List ℕ} {count : ℕ} (p : ℕ) →
    IsSound graph marks next stack starts path count → p < length stack → slice_index stack p < length graph
node_within {marks = marks} {stack = stack} p s within =
    subst (λ n. slice_index stack p < n) s.marked (is_node marks (slice_index stack p) (Open p) (s.stacked p within) (λ same. cc))

pub stack_within : {graph : List (List ℕ)} {marks : List Mark} {next stack starts path : List ℕ} {count : ℕ} →
    IsSound graph marks next stack starts path count → All (λ node. node < length marks) stack
stack_within {marks = marks} {stack = stack} s p d within =
    is_node marks (get_or stack p d) (Open p) (ap (λ u. mark_of marks u) (get_or_default stack p d 0 within) ∙ s.stacked p within) (λ same. cc)

-- what was read of the last place of the path
pub read_node : {graph : List (List ℕ)} {marks : List Mark} {next stack starts path : List ℕ} {count : ℕ} (place node : ℕ) →
    IsSound graph marks next stack starts path count → EndsIn path place → node ≡ get_or stack place node → node ≡ slice_index stack place
read_node {stack = stack} place node s last read = get_or_read stack place node (place_within place s last) read 0

pub read_within : {graph : List (List ℕ)} {marks : List Mark} {next stack starts path : List ℕ} {count : ℕ} (place node : ℕ) →
    IsSound graph marks next stack starts path count → EndsIn path place → node ≡ get_or stack place node → node < length graph
read_within {graph = graph} place node s last read =
    subst (λ n. n < length graph) (sym (read_node place node s last read)) (node_within place s (place_within place s last))

pub read_at : {graph : List (List ℕ)} {marks : List Mark} {next stack starts path : List ℕ} {count : ℕ} (place node at : ℕ) →
    IsSound graph marks next stack starts path count → EndsIn path place → node ≡ get_or stack place node → at ≡ get_or next node at →
    at ≡ slice_index next node
read_at {graph = graph} {next = next} place node at s last read read' =
    get_or_read next node at (subst (λ n. node < n) (sym s.counted) (read_within place node s last read)) read' 0

-- the edge that is followed
pub record Follows (graph : List (List ℕ)) (marks : List Mark) (next stack starts path : List ℕ) (count place node at to : ℕ) : Type 0 where
  pub sound : IsSound graph marks next stack starts path count
  pub last : EndsIn path place
  pub node_read : node ≡ get_or stack place node
  pub at_read : at ≡ get_or next node at
  pub more : at < length (successors graph node)
  pub to_read : to ≡ slice_index (successors graph node) at
  pub within : to < length graph

the_edge : {graph : List (List ℕ)} {marks : List Mark} {next stack starts path : List ℕ} {count place node at to : ℕ} →
    Follows graph marks next stack starts path count place node at to → HasEdge graph node to
the_edge {graph = graph} {node = node} {at = at} f =
    subst (λ v. HasEdge graph node v) (sym f.to_read) (Contains-get_or (successors graph node) at 0 f.more)

edge_from : {graph : List (List ℕ)} {marks : List Mark} {next stack starts path : List ℕ} {count place node at to : ℕ} →
    Follows graph marks next stack starts path count place node at to → HasEdge graph (slice_index stack place) to
edge_from {graph = graph} {place = place} {node = node} {to = to} f =
    subst (λ u. HasEdge graph u to) (read_node place node f.sound f.last f.node_read) (the_edge f)

sound_at_last : {graph : List (List ℕ)} {marks : List Mark} {next stack starts path : List ℕ} {count place node at to : ℕ} →
    (f : Follows graph marks next stack starts path count place node at to) → IsSound graph marks next stack starts (f.last.0 ++ place ∷ []) count
sound_at_last {graph = graph} {marks = marks} {next = next} {stack = stack} {starts = starts} {count = count} f =
    subst (λ path. IsSound graph marks next stack starts path count) f.last.1 f.sound

mark_of_node : {graph : List (List ℕ)} {marks : List Mark} {next stack starts path : List ℕ} {count place node at to : ℕ} →
    Follows graph marks next stack starts path count place node at to → mark_of marks node ≡ Open place
mark_of_node {marks = marks} {place = place} {node = node} f =
    ap (λ u. mark_of marks u) (read_node place node f.sound f.last f.node_read) ∙ f.sound.stacked place (place_within place f.sound f.last)

node_counted : {graph : List (List ℕ)} {marks : List Mark} {next stack starts path : List ℕ} {count place node at to : ℕ} →
    Follows graph marks next stack starts path count place node at to → node < length next
node_counted {place = place} {node = node} f =
    subst (λ n. node < n) (sym f.sound.counted) (read_within place node f.sound f.last f.node_read)

-- the count of the edges followed from the node grows by one, in a search that may have gone on to the edge's end
counts : {graph : List (List ℕ)} {marks after : List Mark} {next stack stack' starts starts' path path' : List ℕ} {count place node at to : ℕ} →
    Follows graph marks next stack starts path count place node at to → IsSound graph after next stack' starts' path' count →
    mark_of after node ≡ Open place → GoesOn after starts' place to →
    IsSound graph after (set next node (at + 1)) stack' starts' path' count
counts {graph = graph} {after = after} {next = next} {stack' = stack'} {starts' = starts'} {path' = path'} {count = count} {place = place} {node = node}
    {at = at} {to = to} f s e goes =
    let here : at ≡ slice_index next node = read_at place node at f.sound f.last f.node_read f.at_read in
    subst (λ n. IsSound graph after (set next node (n + 1)) stack' starts' path' count) (sym here)
    (advanced node place s (node_counted f) e
    (subst (λ n. GoesOn after starts' place (slice_index (successors graph node) n)) here (subst (λ v. GoesOn after starts' place v) f.to_read goes)))

opens : {graph : List (List ℕ)} {marks : List Mark} {next stack starts path : List ℕ} {count place node at to : ℕ} →
    Follows graph marks next stack starts path count place node at to → mark_of marks to ≡ New → Opens graph marks next stack starts path to count
opens {place = place} f new = record {
  sound = f.sound;
  new = new;
  within = f.within;
  reached = λ p within. reaches_behind (reaches_last f.last.0 place (sound_at_last f) p within) (by_edge (edge_from f));
}

pub follows_new : {graph : List (List ℕ)} {marks : List Mark} {next stack starts path : List ℕ} {count place node at to : ℕ} →
    Follows graph marks next stack starts path count place node at to → mark_of marks to ≡ New →
    IsSound graph (opened_marks marks to stack) (set next node (at + 1)) (stack ++ to ∷ []) (starts ++ length stack ∷ []) (path ++ length stack ∷ []) count
follows_new {place = place} {node = node} f new =
    counts f (opened (opens f new)) (mark_kept (opens f new) node (Open place) (λ same. cc) (mark_of_node f))
    (opened_there (opens f new) place (place_within place f.sound f.last))

pub follows_open : {graph : List (List ℕ)} {marks : List Mark} {next stack starts path : List ℕ} {count place node at to : ℕ} (cut : List ℕ) (first : ℕ) →
    Follows graph marks next stack starts path count place node at to → mark_of marks to ≡ Open first → IsCut starts cut first →
    IsSound graph marks (set next node (at + 1)) stack cut path count
follows_open {graph = graph} {marks = marks} {next = next} {stack = stack} {starts = starts} {count = count} {place = place} {to = to} cut first f e c =
    let there : (first < length stack) × (slice_index stack first ≡ to) = f.sound.placed to first e in
    let edge : HasEdge graph (slice_index stack place) (slice_index stack first) =
    subst (λ v. HasEdge graph (slice_index stack place) v) (sym there.1) (edge_from f) in
    counts f (subst (λ path. IsSound graph marks next stack cut path count) (sym f.last.1) (joined f.last.0 cut place first (sound_at_last f) c there.0 edge))
    (mark_of_node f) (joined_there marks starts cut place first to c e)

pub follows_numbered : {graph : List (List ℕ)} {marks : List Mark} {next stack starts path : List ℕ} {count place node at to : ℕ} (number : ℕ) →
    Follows graph marks next stack starts path count place node at to → mark_of marks to ≡ Numbered number →
    IsSound graph marks (set next node (at + 1)) stack starts path count
follows_numbered number f e = counts f f.sound (mark_of_node f) (inl (number, e))

-- one edge less is left
edges_less : (graph : List (List ℕ)) (next : List ℕ) (node : ℕ) → length next ≡ length graph → node < length graph →
    slice_index next node < length (successors graph node) → edges_left graph (set next node (slice_index next node + 1)) + 1 ≡ edges_left graph next
edges_less [] next node e within more = absurd (omega arith)
edges_less (nodes ∷ graph) [] node e within more = absurd (omega arith)
edges_less (nodes ∷ graph) (n ∷ next) zero e within more = omega arith
edges_less (nodes ∷ graph) (n ∷ next) (suc node) e within more =
    let rest : edges_left graph (set next node (slice_index next node + 1)) + 1 ≡ edges_left graph next =
    edges_less graph next node (omega arith) (omega arith) more in omega arith

pub one_edge_less : {graph : List (List ℕ)} {marks : List Mark} {next stack starts path : List ℕ} {count place node at to : ℕ} →
    Follows graph marks next stack starts path count place node at to → edges_left graph (set next node (at + 1)) + 1 ≡ edges_left graph next
one_edge_less {graph = graph} {next = next} {place = place} {node = node} {at = at} f =
    let here : at ≡ slice_index next node = read_at place node at f.sound f.last f.node_read f.at_read in
    subst (λ n. edges_left graph (set next node (n + 1)) + 1 ≡ edges_left graph next) (sym here)
    (edges_less graph next node f.sound.counted (read_within place node f.sound f.last f.node_read)
    (subst (λ n. n < length (successors graph node)) here f.more))

-- the same of equal lists
pub sound_at : {graph : List (List ℕ)} {marks marks' : List Mark} {next next' stack stack' starts starts' path path' : List ℕ} {count count' : ℕ} →
    IsSound graph marks next stack starts path count → marks' ≡ marks → next' ≡ next → stack' ≡ stack → starts' ≡ starts → path' ≡ path → count' ≡ count →
    IsSound graph marks' next' stack' starts' path' count'
sound_at {graph = graph} {marks = marks} {marks' = marks'} {next = next} {next' = next'} {stack = stack} {stack' = stack'} {starts = starts}
    {starts' = starts'} {path = path} {path' = path'} {count = count} s m n k t p c =
    subst (λ x. IsSound graph marks' next' stack' starts' path' x) (sym c)
    (subst (λ x. IsSound graph marks' next' stack' starts' x count) (sym p)
    (subst (λ x. IsSound graph marks' next' stack' x path count) (sym t)
    (subst (λ x. IsSound graph marks' next' x starts path count) (sym k)
    (subst (λ x. IsSound graph marks' x stack starts path count) (sym n)
    (subst (λ x. IsSound graph x next stack starts path count) (sym m) s)))))

-- there is an edge left where there is one by the places
pub more_left : {graph : List (List ℕ)} {marks : List Mark} {next stack starts path : List ℕ} {count : ℕ} (place node at : ℕ) (nodes : List ℕ) →
    IsSound graph marks next stack starts path count → EndsIn path place → node ≡ get_or stack place node → at ≡ get_or next node at →
    slice_index next (slice_index stack place) < length (successors graph (slice_index stack place)) → nodes ≡ successors graph node → at < length nodes
more_left {graph = graph} {next = next} place node at nodes s last read read' left e =
    let here : at ≡ slice_index next node = read_at place node at s last read read' in
    let at_node : slice_index next node < length (successors graph node) =
    subst (λ u. slice_index next u < length (successors graph u)) (sym (read_node place node s last read)) left in
    let long : length nodes ≡ length (successors graph node) = ap length e in omega arith

pub follows_from : {graph : List (List ℕ)} {marks : List Mark} {next stack starts path : List ℕ} {count : ℕ} (place node at : ℕ) (nodes : List ℕ) →
    IsSound graph marks next stack starts path count → EndsIn path place → node ≡ get_or stack place node → at ≡ get_or next node at →
    slice_index next (slice_index stack place) < length (successors graph (slice_index stack place)) → nodes ≡ successors graph node →
    All (λ to. to < length graph) nodes → Follows graph marks next stack starts path count place node at (get_or nodes at 0)
follows_from place node at nodes s last read read' left e all =
    let less : at < length nodes = more_left place node at nodes s last read read' left e in
    record {
      sound = s;
      last = last;
      node_read = read;
      at_read = read';
      more = subst (λ xs. at < length xs) e less;
      to_read = ap (λ xs. get_or xs at 0) e;
      within = all at 0 less;
    }

-- the mark of the edge's end
pub end_mark : {graph : List (List ℕ)} {marks : List Mark} {next stack starts path : List ℕ} {count place node at to : ℕ} (m mark : Mark) →
    Follows graph marks next stack starts path count place node at to → m ≡ get_or marks to m → m ≡ mark → mark_of marks to ≡ mark
end_mark {marks = marks} {to = to} m mark f read is =
    sym (get_or_read marks to m (subst (λ n. to < n) (sym f.sound.marked) f.within) read New) ∙ is

-- fewer steps are left, though the path is longer by one
pub smaller_opened : (graph : List (List ℕ)) (next after next' path path' : List ℕ) (last : ℕ) →
    edges_left graph after + 1 ≡ edges_left graph next → next' ≡ after → path' ≡ path ++ last ∷ [] →
    2 * edges_left graph next' + length path' < 2 * edges_left graph next + length path
smaller_opened graph next after next' path path' last less same longer =
    let one : edges_left graph next' ≡ edges_left graph after = ap (edges_left graph) same in
    let long : length path' ≡ length (path ++ last ∷ []) = ap length longer in
    omega (arith, length_push path last)
