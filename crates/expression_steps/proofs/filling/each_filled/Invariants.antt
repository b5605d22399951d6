use Rattle.std.proofs.Common.{◌≡◌, ◌++◌, drop}
use Rattle.expression_steps.specs.Filling.{each_filled}
use Rattle.expression_steps.proofs.filling.each_filled.Given as goal

-- those so far, and then the others
abbrev pub invariant-loop-index : goal.invariant-loop-index
invariant-loop-index l = l.made ++ each_filled (drop l.index l.readings) (drop l.index l.others) ≡ each_filled l.readings l.others
