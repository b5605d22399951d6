use Rattle.std.proofs.Common.{◌∙◌, sym, ap}
use Rattle.lowered_steps.specs.Cells.{holder_in}
use Rattle.lowered_steps.specs.declared.cells.Holder.{Holder}
use Rattle.lowered_ends.specs.Cells.{holder_ok}
use Rattle.lowered_ends.proofs.cells.is_holder.Goals as goal

pub returns-in-Register : goal.returns-in-Register
returns-in-Register c = ap (λ (h : Holder). holder_ok c.args.setting.now (holder_in h)) (sym c.in-Register.is)

pub returns-in-Variable : goal.returns-in-Variable
returns-in-Variable c = c.is_told.ensures ∙ ap (λ (h : Holder). holder_ok c.args.setting.now (holder_in h)) (sym c.in-Variable.is)
