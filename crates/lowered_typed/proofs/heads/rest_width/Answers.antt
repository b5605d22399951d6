use Rattle.std.proofs.Common.{◌∙◌, ◌-◌}
use Rattle.lowered_typed.proofs.heads.rest_width.Goals as goal

pub returns : goal.returns
returns c = c.saturating_sub-rest.ensures ∙ (λ i. c.word_width-all.ensures i - c.in_ok-known.ensures i)
