use Rattle.std.proofs.Common.{◌∙◌, ap}
use Rattle.jib.specs.Typing.{literal_some}
use Rattle.lowered_typed.specs.Judging.{number_here}
use Rattle.std.specs.Prelude.{slice_get}
use Rattle.lowered_typed.proofs.kinds.is_literal_asked.Goals as goal

pub returns : goal.returns
returns c =
    c.is_constant-answer.ensures ∙ (λ i. literal_some (slice_get c.args.judge.now.signs.now.shell.now.types ((c.in_ok-number.ensures
    ∙ ap (number_here c.args.judge.now) (c.in_ok-typ.ensures c.args.judge.now.setting.now.types.now)) i)) (c.in_ok-constant.ensures i))
