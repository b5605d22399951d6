use Rattle.std.proofs.Common.{ap, ◌∙◌}
use Rattle.farkas.specs.Ends.{case_end}
use Rattle.farkas.proofs.Certified.{case_valid, verdict_more, valid_more}
use Rattle.farkas.proofs.verdict.eliminate_cases.Goals as goal

pub loop-case-preserved : goal.loop-case-preserved
loop-case-preserved c =
    let found = c.in_ok-certificate.ensures ∙ ap (case_end c.args.variables) c.as_slice.ensures in
    record {
      same = verdict_more c.args.variables c.args.cases.now c.loop-case.case-index c.case-item.result c.loop-case-test.true c.case-item.is
          c.loop-case.certificates _ _ c.in-Closed.certificate _ found c.in-Closed.is c.in_ok-push-in-Closed.ensures.pushed c.loop-case.invariant.same;
      valid = valid_more c.args.variables c.args.cases.now c.loop-case.case-index c.case-item.result c.loop-case-test.true c.case-item.is
          c.loop-case.certificates _ c.in-Closed.certificate c.in_ok-push-in-Closed.ensures.pushed c.loop-case.invariant.valid
          (case_valid c.args.variables c.case-item.result _ c.in-Closed.certificate found c.in-Closed.is);
    }
