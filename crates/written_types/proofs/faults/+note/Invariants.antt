use Rattle.std.proofs.Common.{◌≡◌, drop, map}
use Rattle.sail_kinds.specs.Scopes.{within}
use Rattle.shape_rules.specs.Findings.{first_failure}
use Rattle.shape_rules.specs.Written.{piece, pieces_faults}
use Rattle.written_types.proofs.faults.+note.Given as goal

abbrev pub invariant-note_each-loop-part : goal.invariant-note_each-loop-part
invariant-note_each-loop-part l =
    first_failure l.first.error (pieces_faults (map piece (drop l.part-index l.parts)) (within l.scope))
    ≡ first_failure l.fn.first.error (pieces_faults (map piece l.parts) (within l.scope))
