-- The last node leaves the path, and with it the last part the stack where the part starts there.
use Rattle.std.proofs.Common.{◌≡◌, ℕ, ◌+◌, ◌-◌, ◌<◌, ◌≤◌, List, [], ◌∷◌, ◌++◌, length, get_or, drop, Option}
use Rattle.std.proofs.Common.{Some, None, refl, sym, ap, ◌∙◌, subst, inl, inr, arith}
use Rattle.std.specs.Prelude.{Contains, slice_index, IsSome}
use Rattle.std.specs.Option.{option_to_list}
use Rattle.std.proofs.lemmas.List.{get_or-drop, length-drop, same_from_push, length_push}
use Rattle.std.proofs.lemmas.List.Elements.{Contains-push, Contains-push_cases}
use Rattle.call_graph.specs.declared.search.Mark.{Mark}
use Rattle.call_graph.specs.Graphs.{successors}
use Rattle.call_graph.specs.Search.{mark_of, EndsIn, IsAscending, IsSound, AreNumbered}
use Rattle.call_graph.proofs.Lists.{ascending_last, ends_in}
use Rattle.call_graph.proofs.Closing.{Closes}
use Rattle.call_graph.proofs.Following.{read_node, read_at}

pub some_last : (xs : List ℕ) (x : ℕ) → EndsIn xs x → 0 < length xs
some_last xs x ends = omega (arith, ap length ends.1, length_push ends.0 x)

-- a pop took off the last element
pub popped_last : (xs ys : List ℕ) (taken : Option ℕ) (x : ℕ) → EndsIn xs x → xs ≡ ys ++ option_to_list taken → IsSome taken → xs ≡ ys ++ x ∷ []
popped_last xs ys None x ends e some = cc
popped_last xs ys (Some y) x ends e some = e ∙ ap (λ z. ys ++ z ∷ []) (same_from_push ys ends.0 y x (sym e ∙ ends.1)).1

-- where the last part doesn't start at the last place of the path, no part does
pub starts_nowhere : {graph : List (List ℕ)} {marks : List Mark} {next stack starts : List ℕ} {count : ℕ} (path : List ℕ) (place : ℕ) →
    IsSound graph marks next stack starts (path ++ place ∷ []) count → (EndsIn starts place → ⊥) → Contains starts place → ⊥
starts_nowhere {starts = starts} path place s other among =
    let ends : EndsIn starts (get_or starts (length starts - 1) 0) = ends_in starts (get_or starts (length starts - 1) 0) (omega (arith, among.1)) refl in
    let last : ℕ = get_or starts (length starts - 1) 0 in
    let there : Contains starts last = subst (λ xs. Contains xs last) (sym ends.1) (Contains-push ends.0 last) in
    elim (Contains-push_cases ends.0 last place (subst (λ xs. Contains xs place) ends.1 among)) [
      | inr same ↦ other (subst (λ x. EndsIn starts x) same ends)
      | inl front ↦ (
          let before : place < last = ascending_last ends.0 last (subst IsAscending ends.1 s.starts_ascend) place front in
          elim (Contains-push_cases path place last (s.starts_on_path last there)) [
            | inr same ↦ absurd (omega arith)
            | inl old ↦ (let behind : last < place = ascending_last path place s.path_ascends last old in absurd (omega arith))
          ])
    ]

-- all edges of the last node have been followed
pub none_left : {graph : List (List ℕ)} {marks : List Mark} {next stack starts path : List ℕ} {count : ℕ} (place node at : ℕ) (nodes : List ℕ) →
    IsSound graph marks next stack starts path count → EndsIn path place → node ≡ get_or stack place node → at ≡ get_or next node at →
    nodes ≡ successors graph node → length nodes ≤ at →
    length (successors graph (slice_index stack place)) ≤ slice_index next (slice_index stack place)
none_left {graph = graph} {next = next} place node at nodes s last read read' e done =
    let here : at ≡ slice_index next node = read_at place node at s last read read' in
    let long : length nodes ≡ length (successors graph node) = ap length e in
    subst (λ u. length (successors graph u) ≤ slice_index next u) (read_node place node s last read) (omega arith)

-- an edge is left
pub some_left : {graph : List (List ℕ)} {marks : List Mark} {next stack starts path : List ℕ} {count : ℕ} (place node at : ℕ) (nodes : List ℕ) →
    IsSound graph marks next stack starts path count → EndsIn path place → node ≡ get_or stack place node → at ≡ get_or next node at →
    nodes ≡ successors graph node → at < length nodes →
    slice_index next (slice_index stack place) < length (successors graph (slice_index stack place))
some_left {graph = graph} {next = next} place node at nodes s last read read' e more =
    let here : at ≡ slice_index next node = read_at place node at s last read read' in
    let long : length nodes ≡ length (successors graph node) = ap length e in
    subst (λ u. slice_index next u < length (successors graph u)) (read_node place node s last read) (omega arith)

-- the last part is numbered
pub closes_from : {graph : List (List ℕ)} {marks after : List Mark} {next stack starts path : List ℕ} {count : ℕ} (front rest : List ℕ) (place : ℕ) →
    IsSound graph marks next stack starts path count → path ≡ front ++ place ∷ [] → starts ≡ rest ++ place ∷ [] →
    length (successors graph (slice_index stack place)) ≤ slice_index next (slice_index stack place) →
    AreNumbered marks after (drop place stack) count → Closes graph marks after next stack rest front place count
closes_from {graph = graph} {marks = marks} {after = after} {next = next} {stack = stack} {starts = starts}
    {count = count} front rest place s last ends done n = record {
      sound = subst (λ xs. IsSound graph marks next stack xs (front ++ place ∷ []) count) ends
          (subst (λ xs. IsSound graph marks next stack starts xs count) last s);
      done = done;
      long = n.long;
      inside = λ q from within.
          let there : slice_index (drop place stack) (q - place) ≡ slice_index stack q =
          get_or-drop place stack (q - place) 0 ∙ ap (λ i. slice_index stack i) (let e : place + (q - place) ≡ q = omega arith in e) in
          ap (λ u. mark_of after u) (sym there) ∙ n.inside (q - place) (omega (arith, length-drop place stack));
      outside = λ u none. n.outside u (λ k less same. none (place + k)
          (omega arith) (omega (arith, length-drop place stack)) (sym (get_or-drop place stack k 0) ∙ same));
    }
