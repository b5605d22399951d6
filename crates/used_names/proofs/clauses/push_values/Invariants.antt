use Rattle.std.proofs.Common.{◌≡◌, ◌++◌, drop}
use Rattle.sail_names.specs.Known.{setting_of}
use Rattle.sail_names.specs.Clauses as spec
use Rattle.used_names.proofs.clauses.push_values.Given as goal

abbrev pub invariant-loop-name : goal.invariant-loop-name
invariant-loop-name l = l.failures ++ spec.values_failures (setting_of l.around) l.locals (drop l.name-index l.name-items)
    ≡ l.initial.failures ++ spec.values_failures (setting_of l.around) l.locals l.name-items
