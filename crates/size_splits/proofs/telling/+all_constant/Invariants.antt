use Rattle.std.proofs.Common.{◌≡◌, drop, map}
use Rattle.std.specs.List.{list_all}
use Rattle.size_values.specs.Numbers.{meant}
use Rattle.size_splits.specs.Telling.{all_constant}
use Rattle.size_splits.proofs.telling.+all_constant.Given as goal

-- the rest decides
abbrev pub invariant-each_constant-loop-condition : goal.invariant-each_constant-loop-condition
invariant-each_constant-loop-condition l =
    list_all (λ is. is) (map (all_constant (meant l.variables)) (drop l.condition-index l.conditions))
    ≡ list_all (λ is. is) (map (all_constant (meant l.variables)) l.conditions)
