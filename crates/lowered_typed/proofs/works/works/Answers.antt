use Rattle.std.proofs.Common.{◌∙◌, Some, ap}
use Rattle.jib.specs.Operands.{operation_typed}
use Rattle.lowered_validity.specs.Typing.{with_slots}
use Rattle.lowered_typed.specs.Here as here
use Rattle.lowered_typed.proofs.Shells.{works_here}
use Rattle.lowered_typed.proofs.works.works.Goals as goal

pub returns : goal.returns
returns c =
    let j = c.args.judge.now in
    let shell = j.signs.now.shell.now in
    let rs = c.args.sources.now in
    c.operation_right-right.ensures
    ∙ ap (λ f. operation_typed shell f c.args.operation rs (Some c.in_ok-target.target)) (c.with_slots-function.ensures ∙ ap with_slots c.in_ok-slots.ensures)
    ∙ ap (λ n. operation_typed shell (with_slots (here.numbers j c.args.types.now)) c.args.operation rs (Some n)) c.in_ok-target.ensures
    ∙ works_here j c.args.operation rs c.args.types.now c.args.gives.now
