use Rattle.std.proofs.Common.{◌∙◌, List, sym, ap}
use Rattle.size_values.specs.declared.sized.Sized.{Sized}
use Rattle.lowered_pieces.specs.Tables.{cases_among}
use Rattle.lowered_steps.specs.Cells.{holder_in}
use Rattle.lowered_steps.specs.declared.cells.Holder.{Holder}
use Rattle.lowered_ends.specs.Cells.{held_ok}
use Rattle.lowered_ends.proofs.cells.is_held.Goals as goal

pub returns-in-Register : goal.returns-in-Register
returns-in-Register c = ap (λ (h : Holder). held_ok c.args.setting.now (holder_in h) c.args.cases.now) (sym c.in-Register.is)

pub returns-in-Variable : goal.returns-in-Variable
returns-in-Variable c =
    c.are_among.ensures
    ∙ ap (λ (ts : List Sized). cases_among ts c.args.cases.now) c.reads_as.ensures
    ∙ ap (λ (h : Holder). held_ok c.args.setting.now (holder_in h) c.args.cases.now) (sym c.in-Variable.is)
