use Rattle.std.proofs.Common.{◌≡◌, ◌++◌, drop}
use Rattle.sail_names.specs.Known.{setting_of}
use Rattle.sail_bodies.specs.Bodies.{mapping_failures}
use Rattle.sail_bodies.proofs.clauses.note_mapping_clauses.Given as goal

abbrev pub invariant-loop-clause : goal.invariant-loop-clause
invariant-loop-clause l =
    l.failures ++ mapping_failures (setting_of l.around) (drop l.clause-index l.clauses) ≡ mapping_failures (setting_of l.around) l.clauses
