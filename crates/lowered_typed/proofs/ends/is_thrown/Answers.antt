use Rattle.std.proofs.Common.{◌∙◌, ◌&&◌, ap}
use Rattle.lowered_typed.specs.Judging.{signs_here}
use Rattle.lowered_validity.specs.Typing.{picks_small}
use Rattle.std.specs.Prelude.{nat_eq}
use Rattle.lowered_typed.proofs.ends.is_thrown.Goals as goal

pub returns : goal.returns
returns c =
    c.both-all.ensures ∙ (λ i. (c.are_small-one.ensures
    ∙ ap picks_small c.as_slice.ensures) i && nat_eq (c.in_ok-number.ensures i) (signs_here c.args.judge.now).exception)
