use Rattle.std.proofs.Common.{◌≡◌, drop}
use Rattle.shape_rules.specs.Findings.{first_failure}
use Rattle.shape_models.specs.Models.{candidates}
use Rattle.shape_models.specs.Overloads.{clashes_with}
use Rattle.shape_models.proofs.clashes.note_clashes_with.Given as goal

abbrev pub invariant-loop-older : goal.invariant-loop-older
invariant-loop-older l = first_failure l.first.error (clashes_with (candidates (drop l.older-index l.before)) l.added)
    ≡ first_failure l.initial.first.error (clashes_with (candidates l.before) l.added)
