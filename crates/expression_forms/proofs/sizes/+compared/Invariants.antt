use Rattle.std.proofs.Common.{◌≡◌, ◌++◌, drop, map}
use Rattle.expression_forms.specs.Sizes.{all_owed, compared}
use Rattle.expression_forms.proofs.sizes.+compared.Given as goal

abbrev pub invariant-all_compared-loop-condition : goal.invariant-all_compared-loop-condition
invariant-all_compared-loop-condition l =
    l.made ++ all_owed (map (compared l.indices l.numbers) (drop l.condition-index l.conditions)) ≡ all_owed (map (compared l.indices l.numbers) l.conditions)
