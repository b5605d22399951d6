use Rattle.std.proofs.Common.{◌≡◌, drop}
use Rattle.expression_steps.specs.Filling.{any_holed}
use Rattle.expression_steps.proofs.filling.any_holed.Given as goal

-- the rest decides
abbrev pub invariant-loop-reading : goal.invariant-loop-reading
invariant-loop-reading l = any_holed (drop l.reading-index l.readings) ≡ any_holed l.readings
