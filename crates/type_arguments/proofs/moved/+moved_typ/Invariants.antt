use Rattle.std.proofs.Common.{◌≡◌, drop, map}
use Rattle.sail_types.specs.Readings.{behind, together}
use Rattle.type_arguments.specs.Moved.{moved_typ}
use Rattle.type_arguments.proofs.moved.+moved_typ.Given as goal

abbrev pub invariant-moved_types-loop-typ : goal.invariant-moved_types-loop-typ
invariant-moved_types-loop-typ l = behind l.made (together (map (moved_typ l.depth) (drop l.typ-index l.types))) ≡ together (map (moved_typ l.depth) l.types)
