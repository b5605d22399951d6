use Rattle.std.proofs.Common.{ap, ◌∙◌}
use Rattle.sail_parse_expr.specs.TargetLists.{each_is_target}
use Rattle.sail_parse_expr.proofs.TargetRows as R
use Rattle.sail_parse_expr.proofs.targets.+is_target.Goals as goal

pub is_target-returns-in-Variable : goal.is_target-returns-in-Variable
is_target-returns-in-Variable t c = R.name_is c.in-Variable.is

pub is_target-returns-in-Call : goal.is_target-returns-in-Call
is_target-returns-in-Call t c = R.call_is c.args.value.now c.in-Call.field-0 c.in-Call.arguments c.in-Call.is c.is_empty.ensures.count

pub is_target-returns-then-not-is_empty : goal.is_target-returns-then-not-is_empty
is_target-returns-then-not-is_empty t c = R.tuple_is c.args.value.now c.in-Group.field-0 c.in-Group.brackets c.in-Group.parts c.in-Group.is c.in-Tuple.is
    c.is_empty-in-Tuple.ensures.count c.if-not-is_empty.true (c.are_targets.ensures ∙ ap each_is_target c.as_slice.ensures)

pub is_target-returns-else-not-is_empty : goal.is_target-returns-else-not-is_empty
is_target-returns-else-not-is_empty t c = R.empty_is c.args.value.now c.in-Group.field-0 c.in-Group.brackets c.in-Group.parts c.in-Group.is c.in-Tuple.is
    c.is_empty-in-Tuple.ensures.count c.if-not-is_empty.false

pub is_target-returns-in_default-brackets : goal.is_target-returns-in_default-brackets
is_target-returns-in_default-brackets t c =
    R.group_is c.args.value.now c.in-Group.field-0 c.in-Group.brackets c.in-Group.parts c.in-Group.is c.in_default-brackets.not-Tuple

pub is_target-returns-in-Part : goal.is_target-returns-in-Part
is_target-returns-in-Part t c =
    R.part_is c.args.value.now c.in-Part.base c.get.result.now c.in-Part.field-0 c.in-Part.field-2 c.in-Part.is c.get.ensures c.is_target.ensures

pub is_target-returns-in_default : goal.is_target-returns-in_default
is_target-returns-in_default t c = R.other_is c.args.value.now
    (R.no_target c.args.value.now c.in_default.not-Variable c.in_default.not-Call c.in_default.not-Group c.in_default.not-Part)
