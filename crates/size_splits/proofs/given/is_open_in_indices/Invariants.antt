use Rattle.std.proofs.Common.{◌≡◌, drop}
use Rattle.std.specs.List.{list_any}
use Rattle.size_values.specs.Numbers.{meant}
use Rattle.size_splits.specs.Sizing.{is_open_index}
use Rattle.size_splits.proofs.given.is_open_in_indices.Given as goal

-- the rest decides
abbrev pub invariant-loop-index : goal.invariant-loop-index
invariant-loop-index l =
    list_any (is_open_index (meant l.variables)) (drop l.index-index l.indices) ≡ list_any (is_open_index (meant l.variables)) l.indices
