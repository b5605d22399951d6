-- The schedule of a run.
use Rattle.std.specs.Prelude.{ℕ, ◌%◌, List, length, map, slice_index}
use Rattle.std.specs.List.{range_with_len}

-- the harts of so many events: an order, again from its beginning as often as is needed
abbrev pub schedule : List ℕ → ℕ → List ℕ
schedule order events = map (λ event. slice_index order (event % length order)) (range_with_len 0 events)
