-- The search goes through all nodes.
use Rattle.std.proofs.Common.{◌≡◌, ◌≢◌, ℕ, ◌<◌, List, [], length, subst, arith}
use Rattle.std.specs.Prelude.{Contains}
use Rattle.call_graph.specs.declared.search.Mark.{Mark}
use Rattle.call_graph.specs.declared.search.Mark.TheVariants.{New}
use Rattle.call_graph.specs.Search.{mark_of, IsNumbered, IsSound}
use Rattle.call_graph.proofs.Marks.{Marked, is_new, is_open, is_numbered, marked_as}
use Rattle.call_graph.proofs.Opening.{Opens}

-- nothing is open where the path is at its end
nothing_open : {graph : List (List ℕ)} {marks : List Mark} {next stack starts path : List ℕ} {count : ℕ} →
    IsSound graph marks next stack starts path count → path ≡ [] → (p : ℕ) → p < length stack → ⊥
nothing_open {path = path} s e p within =
    let none : Contains [] 0 = subst (λ xs. Contains xs 0) e (s.starts_on_path 0 (s.first_start (omega arith))) in
    absurd (omega (arith, none.1))

pub opens_alone : {graph : List (List ℕ)} {marks : List Mark} {next stack starts path : List ℕ} {count : ℕ} (node : ℕ) →
    IsSound graph marks next stack starts path count → path ≡ [] → node < length graph → mark_of marks node ≡ New →
    Opens graph marks next stack starts path node count
opens_alone node s e within new = record {
  sound = s;
  new = new;
  within = within;
  reached = λ p less. absurd (nothing_open s e p less);
}

numbered_then : {graph : List (List ℕ)} {marks : List Mark} {next stack starts path : List ℕ} {count : ℕ} →
    IsSound graph marks next stack starts path count → path ≡ [] → (u : ℕ) → mark_of marks u ≢ New → Marked marks u → IsNumbered marks u
numbered_then s e u seen (is_new new) = absurd (seen new)
numbered_then s e u seen (is_open p open') = absurd (nothing_open s e p (s.placed u p open').0)
numbered_then s e u seen (is_numbered n number) = (n, number)

-- at the end each node has a number
pub numbered_at_end : {graph : List (List ℕ)} {marks : List Mark} {next stack starts path : List ℕ} {count : ℕ} →
    IsSound graph marks next stack starts path count → path ≡ [] → (u : ℕ) → mark_of marks u ≢ New → IsNumbered marks u
numbered_at_end {marks = marks} s e u seen = numbered_then s e u seen (marked_as marks u)
