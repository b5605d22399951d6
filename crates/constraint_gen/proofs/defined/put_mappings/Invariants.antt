use Rattle.std.proofs.Common.{◌≡◌, ◌*◌, ◌++◌, drop}
use Rattle.sail_core.specs.declared.model.CoreModel.{CoreModel}
use Rattle.pattern_leaves.specs.Settings.{Around}
use Rattle.constraint_gen.specs.Defined.{definitions_of}
use Rattle.constraint_gen.specs.Models.{mapping_definitions}
use Rattle.constraint_gen.proofs.defined.put_mappings.Given as goal

abbrev pub invariant-loop-pair : goal.invariant-loop-pair
invariant-loop-pair l =
    (core : CoreModel) (around : Around) → core.directions ≡ l.directions
    → definitions_of core around l.list ++ mapping_definitions around (drop (2 * l.pair) l.directions)
    ≡ definitions_of core around l.fn.list ++ mapping_definitions around l.directions
