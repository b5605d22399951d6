use Rattle.std.proofs.Common.{◌≡◌, drop, map}
use Rattle.sail_types.specs.Readings.{behind, together}
use Rattle.type_arguments.specs.Moved.{moved_con}
use Rattle.type_arguments.proofs.moved.+moved_con.Given as goal

abbrev pub invariant-moved_cons-loop-part : goal.invariant-moved_cons-loop-part
invariant-moved_cons-loop-part l = behind l.made (together (map (moved_con l.depth) (drop l.part-index l.parts))) ≡ together (map (moved_con l.depth) l.parts)
