-- The order of the functions of directions of mappings: a function asks those alone that stand before it.
use Rattle.std.specs.Prelude.{◌≡◌, ℕ, ◌+◌, Bool, true, ◌&&◌, List, [], ◌∷◌, ◌++◌, length, Option, Some, None, slice_get}
use Rattle.jib_lower.specs.Crossings.{is_in, list_at}

-- the directions from the d-th on that have a number of a cycle
abbrev pub made_in : ℕ → List (Option ℕ) → List ℕ
made_in d [] = []
made_in d (None ∷ turned) = made_in (d + 1) turned
made_in d (Some cycle ∷ turned) = d ∷ made_in (d + 1) turned

-- these are all among those
abbrev pub all_among : List ℕ → List ℕ → Bool
all_among [] others = true
all_among (d ∷ ds) others = is_in d others && all_among ds others

-- each direction asks those alone that stand before it, or before all of them
abbrev pub asks_before : List (List ℕ) → List ℕ → List ℕ → Bool
asks_before calls before [] = true
asks_before calls before (d ∷ ds) = all_among (list_at (slice_get calls d)) before && asks_before calls (before ++ d ∷ []) ds

-- the same directions
abbrev pub AreSame : List ℕ → List ℕ → Type 0
AreSame ds others = (d : ℕ) → is_in d ds ≡ is_in d others

-- these directions, each once, in an order: where some order has each behind those that it asks, this one has
pub record Ordered (calls : List (List ℕ)) (made order : List ℕ) : Type 0 where
  pub same : AreSame order made
  pub many : length order ≡ length made
  pub before : (other : List ℕ) → AreSame other made → asks_before calls [] other ≡ true → asks_before calls [] order ≡ true
