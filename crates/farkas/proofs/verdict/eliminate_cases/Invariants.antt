use Rattle.std.proofs.Common.{◌≡◌, drop, take}
use Rattle.farkas.specs.Verdicts.{eliminated, eliminated_from}
use Rattle.farkas.specs.Validity.{AreValid}
use Rattle.farkas.proofs.verdict.eliminate_cases.Given as goal

abbrev pub invariant-loop-case : goal.invariant-loop-case
invariant-loop-case l = record {
  same : eliminated_from l.variables (drop l.case-index l.cases) l.certificates ≡ eliminated l.variables l.cases;
  valid : AreValid (take l.case-index l.cases) l.certificates;
}
