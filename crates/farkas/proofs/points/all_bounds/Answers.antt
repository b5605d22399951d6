use Rattle.std.proofs.Common.{refl, Some, sym, ◌∙◌}
use Rattle.farkas.specs.Points.{bounded}
use Rattle.farkas.proofs.Goings.{fold_ends}
use Rattle.farkas.proofs.points.all_bounds.Goals as goal

pub returns-in-None : goal.returns-in-None
returns-in-None c =
    fold_ends (bounded c.args.variable c.args.point.now) c.args.stage.now c.loop-held.held-index c.held-item.result
    (Some c.loop-held.bounds) _ _ c.loop-held-test.true c.held-item.is c.loop-held.invariant
    (sym c.in-None.is ∙ c.bounded.ensures) (λ x. refl)
