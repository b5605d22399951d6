use Rattle.std.proofs.Common.{◌≡◌, drop, map}
use Rattle.sail_types.specs.Readings.{behind, together}
use Rattle.type_arguments.specs.Moved.{moved_index}
use Rattle.type_arguments.proofs.moved.moved_indices.Given as goal

abbrev pub invariant-loop-index : goal.invariant-loop-index
invariant-loop-index l = behind l.made (together (map (moved_index l.depth) (drop l.index-index l.indices))) ≡ together (map (moved_index l.depth) l.indices)
