use Rattle.std.proofs.Common.{◌∙◌, ◌&&◌, ap}
use Rattle.lowered_typed.specs.Here as here
use Rattle.lowered_typed.proofs.arms.is_arm_typed.Goals as goal

pub returns : goal.returns
returns c =
    c.both-all.ensures ∙ (λ i. c.in_ok-one.ensures i && (c.in_ok-other.ensures
    ∙ ap (λ ss. here.steps_right c.args.judge.now ss c.args.given.now) c.steps_of.ensures) i)
