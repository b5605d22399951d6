use Rattle.std.proofs.Common.{◌≡◌, ◌++◌, map, drop}
use Rattle.sail_names.specs.Known.{known_of}
use Rattle.sail_names.specs.Patterns.{joined, binds, binds_of_joined}
use Rattle.sail_names.specs.parts.Scopes.{pointed}
use Rattle.sail_names.proofs.patterns.+bound.Given as goal

abbrev pub invariant-push_all_bound-loop-pattern : goal.invariant-push_all_bound-loop-pattern
invariant-push_all_bound-loop-pattern l =
    map pointed l.list.items ++ joined (map (binds (known_of l.names)) (drop l.pattern-index l.patterns))
    ≡ map pointed l.initial.list.items ++ joined (map (binds (known_of l.names)) l.patterns)

abbrev pub invariant-push_joined_bound-loop-further : goal.invariant-push_joined_bound-loop-further
invariant-push_joined_bound-loop-further l =
    map pointed l.list.items ++ joined (map (binds_of_joined (known_of l.names)) (drop l.further-index l.parts))
    ≡ map pointed l.initial.list.items ++ joined (map (binds_of_joined (known_of l.names)) l.parts)
