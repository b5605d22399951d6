use Rattle.std.proofs.Common.{◌≡◌, ◌++◌, drop}
use Rattle.sail_core.specs.declared.model.CoreModel.{CoreModel}
use Rattle.pattern_leaves.specs.Settings.{Around}
use Rattle.constraint_gen.specs.Defined.{definitions_of}
use Rattle.constraint_gen.specs.Models.{function_definitions}
use Rattle.constraint_gen.proofs.defined.put_functions.Given as goal

abbrev pub invariant-loop-at : goal.invariant-loop-at
invariant-loop-at l =
    (core : CoreModel) (around : Around) → core.functions ≡ l.functions
    → definitions_of core around l.list ++ function_definitions around (drop l.at l.functions)
    ≡ definitions_of core around l.fn.list ++ function_definitions around l.functions
