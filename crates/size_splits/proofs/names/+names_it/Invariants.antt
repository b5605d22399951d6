use Rattle.std.proofs.Common.{◌≡◌, drop, map}
use Rattle.std.specs.List.{list_any}
use Rattle.size_splits.specs.Splits.{names_it}
use Rattle.size_splits.proofs.names.+names_it.Given as goal

-- the rest decides
abbrev pub invariant-one_names_it-loop-condition : goal.invariant-one_names_it-loop-condition
invariant-one_names_it-loop-condition l =
    list_any (λ is. is) (map (names_it l.variable) (drop l.condition-index l.conditions))
    ≡ list_any (λ is. is) (map (names_it l.variable) l.conditions)
