use Rattle.std.proofs.Common.{sym, ◌∙◌}
use Rattle.value_indices.specs.Walking.{seen}
use Rattle.call_arguments.proofs.Numbered.{none_pushed}
use Rattle.call_arguments.proofs.callees.push_index.Goals as goal

pub returns-else-is_number_kind-clause-indices : goal.returns-else-is_number_kind-clause-indices
returns-else-is_number_kind-clause-indices c =
    none_pushed c.args.parameter.now c.args.variable c.args.types.now c.args.arguments.now c.args.indices.now (seen c.args.walking.now)
    (sym c.is_number_kind.ensures ∙ c.if-is_number_kind.false)
