use Rattle.std.proofs.Common.{◌≡◌, drop, map}
use Rattle.sail_types.specs.Readings.{behind, together}
use Rattle.type_arguments.specs.Applied.{inside_indices}
use Rattle.type_arguments.specs.Moved.{moved_index}
use Rattle.type_arguments.proofs.application.inside_indices.Given as goal

abbrev pub invariant-loop-index : goal.invariant-loop-index
invariant-loop-index l = behind l.made (together (map (moved_index 0) (drop l.index-index l.indices))) ≡ inside_indices l.indices
