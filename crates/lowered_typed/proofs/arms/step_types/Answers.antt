use Rattle.std.proofs.Common.{◌∙◌, ◌++◌, ap}
use Rattle.lowered_typed.specs.Here as here
use Rattle.lowered_typed.proofs.arms.step_types.Goals as goal

pub returns : goal.returns
returns c = c.in_ok-push_step.ensures ∙ ap (λ us. us ++ here.step_types c.args.judge.now c.args.step.now c.args.types.now) c.new-parts.ensures
