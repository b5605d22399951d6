use Rattle.std.proofs.Common.{◌∙◌, ◌++◌}
use Rattle.lowered_validity.specs.Typing.{operands}
use Rattle.lowered_typed.proofs.works.operands_from.Goals as goal

pub returns : goal.returns
returns c =
    c.in_ok-push_operands.ensures ∙ (λ i. c.new-sources.ensures i ++ operands c.args.slot ((c.as_slice-listed.ensures ∙ c.in_ok-slots.ensures) i))
