-- Nodes get a number one after another.
use Rattle.std.proofs.Common.{◌≡◌, ◌≢◌, ℕ, ◌<◌, List, length}
use Rattle.std.specs.Prelude.{slice_index}
use Rattle.call_graph.specs.declared.search.Mark.{Mark}
use Rattle.call_graph.specs.declared.search.Mark.TheVariants.{Numbered}
use Rattle.call_graph.specs.Search.{mark_of}

-- the first nodes of a list have the number
pub record FirstNumbered (old new : List Mark) (nodes : List ℕ) (number count : ℕ) : Type 0 where
  pub long : length new ≡ length old
  pub inside : (k : ℕ) → k < count → mark_of new (slice_index nodes k) ≡ Numbered number
  pub outside : (u : ℕ) → ((k : ℕ) → k < count → slice_index nodes k ≢ u) → mark_of new u ≡ mark_of old u
