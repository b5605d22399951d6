use Rattle.std.proofs.Common.{◌-◌, Some, sym, ap, ◌∙◌, arith}
use Rattle.farkas.specs.Points.{least_point, extended}
use Rattle.farkas.specs.Validity.{then_do}
use Rattle.farkas.proofs.Backward.{went_on, ended, back_end}
use Rattle.farkas.proofs.points.point_from.Goals as goal

pub returns-in-None : goal.returns-in-None
returns-in-None c =
    ap (λ o. then_do o (λ p. Some (least_point p)))
    (ended c.args.stages.now c.loop-left.left (c.loop-left.left - 1) c.index-stages-left.result c.loop-left.point _ (omega arith) c.index-stages-left.is
    (omega arith) c.loop-left.invariant.same
    (sym c.in-None.is ∙ (c.in_ok-extended.ensures ∙ ap (λ s. extended (c.loop-left.left - 1) s c.loop-left.point) c.as_slice.ensures)))

pub loop-left-preserved : goal.loop-left-preserved
loop-left-preserved c = record {
  within = omega arith;
  same =
      went_on c.args.stages.now c.loop-left.left (c.loop-left.left - 1) c.index-stages-left.result c.loop-left.point _
      (omega arith) c.index-stages-left.is (omega arith) c.loop-left.invariant.same
      _ (sym c.in-Some.is ∙ (c.in_ok-extended.ensures ∙ ap (λ s. extended (c.loop-left.left - 1) s c.loop-left.point) c.as_slice.ensures));
}

pub returns : goal.returns
returns c = back_end c.args.stages.now c.loop-left.left c.loop-left.point _ _ c.loop-left-test.false c.loop-left.invariant.same c.in_ok-least_point.ensures
