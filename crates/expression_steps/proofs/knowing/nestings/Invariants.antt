use Rattle.std.proofs.Common.{◌≡◌, ◌++◌, drop}
use Rattle.expression_steps.specs.Calls.{nestings}
use Rattle.expression_steps.specs.Coded.{each_part}
use Rattle.expression_steps.proofs.knowing.nestings.Given as goal

abbrev pub invariant-loop-core : goal.invariant-loop-core
invariant-loop-core l = l.made ++ nestings (each_part (drop l.core-index l.parts)) ≡ nestings (each_part l.parts)
