use Rattle.std.proofs.Common.{◌≡◌, drop}
use Rattle.expression_steps.specs.Targets.{is_short}
use Rattle.expression_steps.proofs.late.is_short.Given as goal

-- the rest decides
abbrev pub invariant-loop-suffix : goal.invariant-loop-suffix
invariant-loop-suffix l = is_short (drop l.suffix-index l.suffixes) l.left ≡ is_short l.suffixes l.count
