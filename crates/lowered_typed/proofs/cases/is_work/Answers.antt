use Rattle.std.proofs.Common.{◌∙◌, ap}
use Rattle.lowered_pieces.specs.Forms.{dead}
use Rattle.lowered_typed.specs.Asked.{order_of}
use Rattle.lowered_validity.specs.Typing.{operands}
use Rattle.std.specs.Prelude.{◌||◌}
use Rattle.lowered_typed.specs.Here as here
use Rattle.lowered_typed.proofs.cases.is_work.Goals as goal

pub returns : goal.returns
returns c =
    c.either-any.ensures ∙ (λ i. (c.is_dead-one.ensures ∙ ap dead c.as_slice-takes.ensures) i || (c.in_ok-other.ensures
    ∙ (λ k. here.works c.args.judge.now c.args.operation ((c.as_slice.ensures ∙ c.in_ok-sources.ensures
    ∙ ap (λ ts. order_of c.args.judge.now c.args.order (operands 0 (here.numbers c.args.judge.now ts))) c.as_slice-takes.ensures) k)
    (c.as_slice-takes.ensures k) c.args.case.now.gives)) i)
