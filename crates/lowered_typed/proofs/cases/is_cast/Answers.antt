use Rattle.std.proofs.Common.{◌∙◌, ap}
use Rattle.lowered_typed.specs.Judging.{signs_here}
use Rattle.lowered_validity.specs.Typing.{comes}
use Rattle.lowered_typed.proofs.cases.is_cast.Goals as goal

pub returns : goal.returns
returns c = c.comes-answer.ensures ∙ ap (λ n. comes (signs_here c.args.judge.now) n c.args.gives) c.in_ok-from.ensures
