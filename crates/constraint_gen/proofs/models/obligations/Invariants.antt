use Rattle.std.proofs.Common.{◌≡◌, ◌++◌, drop}
use Rattle.pattern_leaves.specs.Settings.{around_of}
use Rattle.constraint_gen.specs.Obligations.{obligations}
use Rattle.constraint_gen.proofs.Gathered.{gathered, owed_by}
use Rattle.constraint_gen.proofs.models.obligations.Given as goal

abbrev pub invariant-loop-placed : goal.invariant-loop-placed
invariant-loop-placed l = l.made ++ gathered owed_by l.core (around_of l.around) (drop l.placed-index l.placed-items) ≡ obligations l.core
