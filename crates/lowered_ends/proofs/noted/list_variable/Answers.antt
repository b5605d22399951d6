use Rattle.std.proofs.Common.{◌∙◌, ap, sym}
use Rattle.lowered_ends.specs.Noted.{read_notes}
use Rattle.lowered_ends.proofs.Lists.{none_of}
use Rattle.lowered_ends.proofs.Notes.{noted_as, noted_none}
use Rattle.lowered_ends.proofs.Reading.{some_notes}
use Rattle.lowered_ends.proofs.noted.list_variable.Goals as goal

pub returns-in-empty : goal.returns-in-empty
returns-in-empty c =
    noted_none _ _
    (ap (λ us. read_notes c.args.setting.now us c.args.node) (sym (none_of c.reads_as.result.now c.in-empty.len_below) ∙ c.reads_as.ensures))

pub returns-in-len1-up : goal.returns-in-len1-up
returns-in-len1-up c =
    noted_as c.list_own.result _ _ _ _ (some_notes c.args.setting.now c.reads_as.result.now c.args.node c.in-len1-up.len_at_least
    ∙ ap (λ us. read_notes c.args.setting.now us c.args.node) c.reads_as.ensures) c.list_own.ensures
