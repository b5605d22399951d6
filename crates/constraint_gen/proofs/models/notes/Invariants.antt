use Rattle.std.proofs.Common.{◌≡◌, ◌++◌, drop, map}
use Rattle.pattern_leaves.specs.Settings.{around_of}
use Rattle.constraint_gen.specs.Models.{notes}
use Rattle.constraint_gen.specs.Reading.{notes_of}
use Rattle.constraint_gen.proofs.Gathered.{gathered, noted_by}
use Rattle.constraint_gen.proofs.models.notes.Given as goal

abbrev pub invariant-loop-placed : goal.invariant-loop-placed
invariant-loop-placed l = map notes_of l.made ++ gathered noted_by l.core (around_of l.around) (drop l.placed-index l.placed-items) ≡ notes l.core
