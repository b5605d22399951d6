use Rattle.std.proofs.Common.{◌≡◌, drop}
use Rattle.sail_parse_expr.specs.TargetLists.{each_is_target}
use Rattle.sail_parse_expr.proofs.targets.+is_target.Given as goal

-- the expressions that are left decide
abbrev pub invariant-are_targets-loop-value : goal.invariant-are_targets-loop-value
invariant-are_targets-loop-value l = each_is_target (drop l.value-index l.values) ≡ each_is_target l.values
