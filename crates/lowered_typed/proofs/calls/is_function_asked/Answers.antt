use Rattle.std.proofs.Common.{◌∙◌, ◌&&◌}
use Rattle.lowered_typed.specs.Judging.{signs_here}
use Rattle.std.specs.Prelude.{not}
use Rattle.lowered_typed.specs.Here as here
use Rattle.lowered_typed.proofs.calls.is_function_asked.Goals as goal

pub returns : goal.returns
returns c =
    c.both-all.ensures ∙ (λ i. not (signs_here c.args.judge.now).is_pure && (c.in_ok-other.ensures
    ∙ (λ k. here.leads_right c.args.judge.now (c.cases.ensures k) (c.leads.ensures k))) i)
