use Rattle.std.proofs.Common.{◌≡◌, ◌++◌, [], drop, take}
use Rattle.sail_core.specs.declared.model.CoreModel.{CoreModel}
use Rattle.pattern_leaves.specs.Settings.{Around}
use Rattle.constraint_gen.specs.Defined.{definitions_of}
use Rattle.constraint_gen.specs.Models.{around_with, lets_behind, opening_definitions}
use Rattle.constraint_gen.proofs.defined.put_openings.Given as goal

abbrev pub invariant-loop-at : goal.invariant-loop-at
invariant-loop-at l =
    (core : CoreModel) (around : Around) → core.openings ≡ l.openings
    → definitions_of core around l.list ++ opening_definitions (lets_behind (around_with core []) (take l.at l.openings)) (drop l.at l.openings)
    ≡ definitions_of core around l.fn.list ++ opening_definitions (around_with core []) l.openings
