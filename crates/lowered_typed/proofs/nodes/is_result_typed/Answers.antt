use Rattle.std.proofs.Common.{◌∙◌, ◌&&◌}
use Rattle.lowered_typed.proofs.nodes.is_result_typed.Goals as goal

pub returns : goal.returns
returns c = c.both-all.ensures ∙ (λ i. c.in_ok-one.ensures i && c.in_ok-other.ensures i)
