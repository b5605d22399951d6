use Rattle.std.proofs.Common.{◌≡◌, drop}
use Rattle.shape_rules.specs.Findings.{first_failure}
use Rattle.written_types.specs.Parts.{untold_among}
use Rattle.written_types.proofs.faults.note_untold.Given as goal

abbrev pub invariant-loop-name : goal.invariant-loop-name
invariant-loop-name l =
    first_failure l.first.error (untold_among l.names l.typ (drop l.name-index l.names))
    ≡ first_failure l.fn.first.error (untold_among l.names l.typ l.names)
