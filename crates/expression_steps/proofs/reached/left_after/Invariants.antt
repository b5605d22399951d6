use Rattle.std.proofs.Common.{◌≡◌, drop}
use Rattle.expression_steps.specs.Values.{left_after}
use Rattle.expression_steps.proofs.reached.left_after.Given as goal

-- the rest decides
abbrev pub invariant-loop-suffix : goal.invariant-loop-suffix
invariant-loop-suffix l = left_after (drop l.suffix-index l.suffixes) l.left ≡ left_after l.suffixes l.count
