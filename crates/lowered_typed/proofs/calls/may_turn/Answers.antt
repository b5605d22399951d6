use Rattle.std.proofs.Common.{◌∙◌, ◌&&◌}
use Rattle.lowered_typed.proofs.calls.may_turn.Goals as goal

pub returns : goal.returns
returns c = c.both.ensures ∙ (λ i. c.is_made-one.ensures i && c.is_before-other.ensures i)
