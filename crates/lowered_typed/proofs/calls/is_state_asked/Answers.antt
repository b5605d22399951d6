use Rattle.std.proofs.Common.{◌∙◌, ◌++◌, ◌&&◌, ap}
use Rattle.lowered_typed.specs.Judging.{signs_here}
use Rattle.std.specs.Prelude.{not}
use Rattle.lowered_typed.specs.Here as here
use Rattle.lowered_typed.specs.Judged as judged
use Rattle.lowered_typed.proofs.calls.is_state_asked.Goals as goal

pub returns : goal.returns
returns c =
    c.both-all.ensures ∙ (λ i. not (signs_here c.args.judge.now).is_pure && (c.in_ok-other.ensures
    ∙ ap (here.state_right c.args.judge.now c.args.row c.args.cases.now) (c.as_slice.ensures ∙ c.in_ok-push_operand_types.ensures
    ∙ ap (λ us. us ++ here.operand_types c.args.judge.now (judged.all_here c.args.judge.now c.args.parts.now)) c.new-types.ensures)) i)
