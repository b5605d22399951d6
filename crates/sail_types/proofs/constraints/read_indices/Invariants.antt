use Rattle.std.proofs.Common.{◌≡◌, drop, map}
use Rattle.sail_types.specs.Readings.{behind, together, read_index}
use Rattle.sail_types.proofs.constraints.read_indices.Given as goal

abbrev pub invariant-loop-item : goal.invariant-loop-item
invariant-loop-item l =
    behind l.made (together (map (read_index l.indices) (drop l.item-index l.items))) ≡ together (map (read_index l.indices) l.items)
