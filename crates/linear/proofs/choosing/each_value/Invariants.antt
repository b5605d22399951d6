use Rattle.std.proofs.Common.{◌≡◌, ◌++◌, [], drop, map, Some}
use Rattle.sail_types.specs.Sums.{num}
use Rattle.linear.specs.Choices.{all_of, then_do, compared}
use Rattle.linear.proofs.choosing.each_value.Given as goal

abbrev pub invariant-loop-value : goal.invariant-loop-value
invariant-loop-value l = then_do (all_of (map (λ z. compared l.atoms l.how l.number (num [] z)) (drop l.value-index l.values))) (λ rest. Some
    (l.choices ++ rest)) ≡ all_of (map (λ z. compared l.atoms l.how l.number (num [] z)) l.values)
