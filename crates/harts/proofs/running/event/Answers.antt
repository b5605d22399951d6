use Rattle.std.proofs.Common.{sym, subst}
use Rattle.model_state.specs.Folds.{Keeps}
use Rattle.harts.proofs.Keeping.{keeps_both, keeps_after}
use Rattle.harts.proofs.running.event.Goals as goal

pub returns-clause-keeps : goal.returns-clause-keeps
returns-clause-keeps g c =
    subst (Keeps c.args.state.now) (sym c.rest_after.ensures)
    (keeps_both c.in_ok-ended.ensures.keeps (keeps_after c.args.hart c.in_ok-ended.ended c.step.new.state))
