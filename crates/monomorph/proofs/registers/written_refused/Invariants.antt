use Rattle.std.proofs.Common.{◌≡◌, drop}
use Rattle.monomorph.specs.Lasts.{written_refused}
use Rattle.monomorph.proofs.registers.written_refused.Given as goal

-- the rest decides
abbrev pub invariant-loop-place : goal.invariant-loop-place
invariant-loop-place l = written_refused (drop l.place-index l.places) l.left ≡ written_refused l.places l.sizes
