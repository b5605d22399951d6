use Rattle.farkas.proofs.Discharged.{few_at, starts_more}
use Rattle.farkas.proofs.verdict.eliminate_starts.Goals as goal

pub starts_end-requires : goal.starts_end-requires
starts_end-requires c = few_at c.args.cases.now c.loop-starts.starts-index c.starts-item.result c.loop-starts-test.true c.starts-item.is c.requires

pub loop-starts-preserved : goal.loop-starts-preserved
loop-starts-preserved c =
    starts_more c.args.variables c.args.cases.now c.loop-starts.starts-index c.starts-item.result c.loop-starts-test.true c.starts-item.is
    c.loop-starts.certificates _ _ c.in-Closed.certificate _ c.in_ok-certificate.ensures c.in-Closed.is c.in_ok-push-in-Closed.ensures.pushed
    c.loop-starts.invariant
