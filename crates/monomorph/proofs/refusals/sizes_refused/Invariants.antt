use Rattle.std.proofs.Common.{◌≡◌, drop}
use Rattle.monomorph.specs.Refusals.{sizes_refused}
use Rattle.monomorph.proofs.refusals.sizes_refused.Given as goal

-- the rest decides
abbrev pub invariant-loop-size : goal.invariant-loop-size
invariant-loop-size l = sizes_refused l.place l.names (drop l.size-index l.sizes) ≡ sizes_refused l.place l.names l.sizes
