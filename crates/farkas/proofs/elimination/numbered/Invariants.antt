use Rattle.std.proofs.Common.{◌≡◌, ◌++◌, ◌+◌, drop}
use Rattle.farkas.specs.Elimination.{numbered}
use Rattle.farkas.proofs.elimination.numbered.Given as goal

abbrev pub invariant-loop-place : goal.invariant-loop-place
invariant-loop-place l = l.rows ++ numbered (l.place + 1) (drop l.place l.starts) ≡ numbered 1 l.starts
