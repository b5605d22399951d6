use Rattle.std.proofs.Common.{◌∙◌, ◌&&◌, Some, ap}
use Rattle.lowered_typed.specs.Judging.{cases_typed, signs_here}
use Rattle.lowered_typed.specs.Here as here
use Rattle.lowered_typed.proofs.nodes.is_last.Goals as goal

pub returns : goal.returns
returns c =
    c.both-all.ensures ∙ (λ i. (c.in_ok-one.ensures
    ∙ ap (cases_typed c.args.judge.now (here.is_recast c.args.judge.now)) c.cases-cases.ensures) i && (c.in_ok-other.ensures
    ∙ ap (cases_typed c.args.judge.now (here.is_sourced c.args.judge.now (Some (signs_here c.args.judge.now).result))) c.cases-cases.ensures) i)
