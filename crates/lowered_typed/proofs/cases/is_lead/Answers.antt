use Rattle.std.proofs.Common.{◌∙◌, ◌&&◌, ap}
use Rattle.lowered_validity.specs.Typing.{picks_small}
use Rattle.lowered_typed.proofs.cases.is_lead.Goals as goal

pub returns : goal.returns
returns c =
    c.both-all.ensures ∙ (λ i. (c.both-one.ensures ∙ (λ k. (c.are_small-first.ensures
    ∙ ap picks_small c.as_slice.ensures) k && c.in_ok-second.ensures k)) i && c.in_ok-other.ensures i)
