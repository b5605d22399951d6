use Rattle.std.proofs.Common.{◌≡◌, ◌++◌, drop}
use Rattle.expression_steps.specs.Calls.{places_of}
use Rattle.expression_steps.specs.Coded.{each_part}
use Rattle.expression_steps.proofs.knowing.places_of.Given as goal

abbrev pub invariant-loop-core : goal.invariant-loop-core
invariant-loop-core l = l.made ++ places_of (each_part (drop l.core-index l.parts)) ≡ places_of (each_part l.parts)
