use Rattle.std.proofs.Common.{◌≡◌, drop}
use Rattle.monomorph.specs.Refusals.{constants_refused}
use Rattle.monomorph.proofs.refusals.constants_refused.Given as goal

-- the rest decides
abbrev pub invariant-loop-constant : goal.invariant-loop-constant
invariant-loop-constant l = constants_refused l.place l.names (drop l.constant-index l.constants) ≡ constants_refused l.place l.names l.constants
