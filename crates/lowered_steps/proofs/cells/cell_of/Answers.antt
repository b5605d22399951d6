use Rattle.std.proofs.Common.{◌∙◌}
use Rattle.sail_core.specs.declared.targets.Target.{out-Target}
use Rattle.lowered_steps.specs.Cells.{part_if}
use Rattle.lowered_steps.proofs.Aimed.{of_call, of_many, of_none, of_part, of_register, of_tuple, of_variable}
use Rattle.lowered_steps.proofs.Lists.{one_of}
use Rattle.lowered_steps.proofs.cells.cell_of.Goals as goal

pub returns-in-Register : goal.returns-in-Register
returns-in-Register c =
    c.whole_of.ensures ∙ of_register c.args.target.now c.as_slice-parts.result.now c.as_slice-parts.ensures _ c.in-Register.is

pub returns-in-Variable : goal.returns-in-Variable
returns-in-Variable c =
    c.whole_of-in-Variable.ensures ∙ of_variable c.args.target.now c.as_slice-parts.result.now c.as_slice-parts.ensures _ c.in-Variable.is

pub returns-in-empty : goal.returns-in-empty
returns-in-empty c =
    of_none c.args.target.now c.as_slice-parts.result.now c.as_slice-parts.ensures _ c.in-Part.is c.in-empty.len_below

pub returns-in-len1 : goal.returns-in-len1
returns-in-len1 c =
    c.part_of.ensures
    ∙ (λ i. part_if (out-Target c.args.target.now).number (c.whole_of-in-len1.ensures i) (c.as_slice.ensures i))
    ∙ of_part c.args.target.now c.as_slice-parts.result.now c.as_slice-parts.ensures _ c.base-item.result c.in-Part.is
    (one_of c.as_slice-parts.result.now c.base-item.result c.in-len1.len_at_least c.in-len1.len_below c.base-item.is)

pub returns-in-len2-up : goal.returns-in-len2-up
returns-in-len2-up c =
    of_many c.args.target.now c.as_slice-parts.result.now c.as_slice-parts.ensures _ c.in-Part.is c.in-len2-up.len_at_least

pub returns-in-Tuple : goal.returns-in-Tuple
returns-in-Tuple c = of_tuple c.args.target.now c.as_slice-parts.result.now c.as_slice-parts.ensures c.in-Tuple.is

pub returns-in-Call : goal.returns-in-Call
returns-in-Call c = of_call c.args.target.now c.as_slice-parts.result.now c.as_slice-parts.ensures _ _ _ c.in-Call.is
