use Rattle.std.proofs.Common.{◌∙◌, Bool, sym, ap}
use Rattle.lowered_pieces.specs.Writes.{several_spot}
use Rattle.lowered_ends.specs.Targets.{cells_if, one_in}
use Rattle.lowered_ends.proofs.Aiming.{of_call, of_late, of_part, of_register, of_several, of_variable}
use Rattle.lowered_ends.proofs.targets.spot_of.Goals as goal

pub returns-then-are_cells : goal.returns-then-are_cells
returns-then-are_cells c =
    ap (λ (b : Bool). several_spot (cells_if b c.as_slice-parts.result.now)) (sym c.if-are_cells.true)
    ∙ of_several c.args.target.now c.as_slice-parts.result.now c.as_slice-parts.ensures _ c.in-Tuple.is c.are_cells.ensures

pub returns-else-are_cells : goal.returns-else-are_cells
returns-else-are_cells c =
    ap (λ (b : Bool). several_spot (cells_if b c.as_slice-parts.result.now)) (sym c.if-are_cells.false)
    ∙ of_several c.args.target.now c.as_slice-parts.result.now c.as_slice-parts.ensures _ c.in-Tuple.is c.are_cells.ensures

pub returns-in-empty : goal.returns-in-empty
returns-in-empty c =
    c.called_of.ensures
    ∙ of_call c.args.target.now c.as_slice-parts.result.now c.as_slice-parts.ensures _ _ _ c.in-Call.is c.in-empty.len_below

pub returns-in-len1-up : goal.returns-in-len1-up
returns-in-len1-up c =
    of_late c.args.target.now c.as_slice-parts.result.now c.as_slice-parts.ensures _ _ _ c.in-Call.is c.in-len1-up.len_at_least

pub returns-in-Register : goal.returns-in-Register
returns-in-Register c =
    c.one_of.ensures
    ∙ ap one_in c.cell_of.ensures
    ∙ of_register c.args.target.now c.as_slice-parts.result.now c.as_slice-parts.ensures _ c.in-Register.is

pub returns-in-Variable : goal.returns-in-Variable
returns-in-Variable c =
    c.one_of-in-Variable.ensures
    ∙ ap one_in c.cell_of-in-Variable.ensures
    ∙ of_variable c.args.target.now c.as_slice-parts.result.now c.as_slice-parts.ensures _ c.in-Variable.is

pub returns-in-Part : goal.returns-in-Part
returns-in-Part c =
    c.one_of-in-Part.ensures
    ∙ ap one_in c.cell_of-in-Part.ensures
    ∙ of_part c.args.target.now c.as_slice-parts.result.now c.as_slice-parts.ensures _ c.in-Part.is
