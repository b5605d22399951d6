use Rattle.std.proofs.Common.{◌≡◌, drop, map}
use Rattle.sail_types.specs.Readings.{behind, together, read_con}
use Rattle.sail_types.proofs.constraints.+read_con.Given as goal

abbrev pub invariant-read_cons-loop-part : goal.invariant-read_cons-loop-part
invariant-read_cons-loop-part l =
    behind l.made (together (map (read_con l.indices) (drop l.part-index l.parts))) ≡ together (map (read_con l.indices) l.parts)
