use Rattle.std.proofs.Common.{◌≡◌, ◌++◌, drop}
use Rattle.expression_forms.proofs.ways.copy_conditions.Given as goal

abbrev pub invariant-loop-condition : goal.invariant-loop-condition
invariant-loop-condition l = l.made ++ drop l.condition-index l.conditions ≡ l.conditions
