use Rattle.std.proofs.Common.{◌≡◌, ◌++◌, map, drop}
use Rattle.sail_names.specs.Patterns.{clashes, clashes_behind}
use Rattle.sail_names.specs.parts.Scopes.{pointed}
use Rattle.sail_names.proofs.failures.push_clashes.Given as goal

abbrev pub invariant-loop-name : goal.invariant-loop-name
invariant-loop-name l = l.failures ++ clashes_behind l.before (map pointed (drop l.name-index l.names))
    ≡ l.initial.failures ++ clashes (map pointed l.names)
