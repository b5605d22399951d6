use Rattle.std.proofs.Common.{take}
use Rattle.farkas.specs.Validity.{AreValid}
use Rattle.farkas.proofs.verdict.check_cases.Given as goal

abbrev pub invariant-loop-place : goal.invariant-loop-place
invariant-loop-place l = AreValid (take l.place l.cases) (take l.place l.certificates)
