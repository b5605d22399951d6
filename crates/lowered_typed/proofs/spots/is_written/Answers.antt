use Rattle.std.proofs.Common.{◌∙◌, ◌&&◌}
use Rattle.lowered_typed.specs.Here as here
use Rattle.lowered_typed.proofs.spots.is_written.Goals as goal

pub returns : goal.returns
returns c =
    c.both-all.ensures ∙ (λ i. c.in_ok-one.ensures i && (c.in_ok-other.ensures
    ∙ (λ k. here.leads_right c.args.judge.now (c.cases.ensures k) (c.leads.ensures k))) i)
