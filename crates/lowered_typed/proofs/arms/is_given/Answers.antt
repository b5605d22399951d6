use Rattle.std.proofs.Common.{◌∙◌, ◌&&◌, ap}
use Rattle.lowered_validity.specs.Typing.{picks_small}
use Rattle.lowered_typed.specs.Here as here
use Rattle.lowered_typed.proofs.arms.is_given.Goals as goal

pub returns : goal.returns
returns c =
    c.both-all.ensures ∙ (λ i. (c.are_small-one.ensures ∙ ap picks_small c.as_slice.ensures) i && (c.in_ok-other.ensures
    ∙ ap (here.arm_right c.args.judge.now c.args.arm.now) c.from_ref.ensures.value) i)
