use Rattle.std.proofs.Common.{◌≡◌, ◌++◌, drop}
use Rattle.std.specs.Prelude.{flat_map}
use Rattle.sail_names.specs.Known.{known_of}
use Rattle.sail_cycles.specs.Callees.{pattern_callees}
use Rattle.sail_cycles.proofs.callees.push_clause.Given as goal

abbrev pub invariant-loop-parameter : goal.invariant-loop-parameter
invariant-loop-parameter l = l.list ++ flat_map (pattern_callees (known_of l.names)) (drop l.parameter-index l.parameter-items)
    ≡ l.initial.list ++ flat_map (pattern_callees (known_of l.names)) l.parameter-items
