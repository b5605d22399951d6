use Rattle.std.proofs.Common.{◌∙◌, ◌&&◌, ap}
use Rattle.lowered_validity.specs.Typing.{picks_small}
use Rattle.lowered_typed.proofs.cases.is_there.Goals as goal

pub returns : goal.returns
returns c = c.both-all.ensures ∙ (λ i. (c.are_small-one.ensures ∙ ap picks_small c.as_slice.ensures) i && c.in_ok-other.ensures i)
