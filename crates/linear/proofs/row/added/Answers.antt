use Rattle.std.proofs.Common.{◌∙◌}
use Rattle.linear.proofs.Additions.{sum_refused, sum_within, sum_pushed, sums_end}
use Rattle.linear.proofs.row.added.Goals as goal

pub returns-in-None : goal.returns-in-None
returns-in-None c = sum_refused _ _ _ _ _ _ c.max-count.ensures c.loop-place-test.true c.number_at.ensures c.number_at-in-loop-place.ensures
    c.loop-place.invariant.within c.in-None.ensures

pub loop-place-preserved : goal.loop-place-preserved
loop-place-preserved c = record {
  sums = c.in_ok-push-in-Some.ensures.pushed ∙ sum_pushed _ _ _ _ _ _ c.max-count.ensures c.loop-place-test.true c.number_at.ensures
      c.number_at-in-loop-place.ensures c.loop-place.sums c.in-Some.found c.loop-place.invariant.sums c.in-Some.ensures.1;
  within = sum_within _ _ _ _ _ _ c.max-count.ensures c.loop-place-test.true c.number_at.ensures c.number_at-in-loop-place.ensures
      c.loop-place.invariant.within c.in-Some.ensures.0;
}

pub returns : goal.returns
returns c = sums_end _ _ _ _ _ c.max-count.ensures c.loop-place-test.false c.loop-place.invariant.sums c.loop-place.invariant.within
