use Rattle.std.proofs.Common.{◌∙◌}
use Rattle.std.specs.Prelude.{◌||◌}
use Rattle.lowered_typed.proofs.cases.is_recast.Goals as goal

pub returns : goal.returns
returns c = c.either-any.ensures ∙ (λ i. c.is_dead-one.ensures i || c.in_ok-other.ensures i)
