use Rattle.std.proofs.Common.{◌∙◌, ◌&&◌}
use Rattle.lowered_typed.specs.Judging.{signs_here}
use Rattle.lowered_validity.specs.Typing.{comes}
use Rattle.std.specs.Prelude.{not}
use Rattle.lowered_typed.proofs.arms.may_see.Goals as goal

pub returns : goal.returns
returns c =
    let j = c.args.judge.now in
    c.both-all.ensures ∙ (λ i. not (signs_here j).is_pure && (c.both-rest.ensures ∙ (λ k. c.may_turn-one.ensures k && (c.comes-other.ensures
    ∙ (λ h. comes (signs_here j) (c.in_ok-from.ensures h) (c.in_ok-to.ensures h))) k)) i)
