use Rattle.std.proofs.Common.{◌∙◌, ap, sym}
use Rattle.std.proofs.lemmas.Result.{IfOk-weaker}
use Rattle.lowered_ends.specs.Ends.{read_ends}
use Rattle.lowered_ends.proofs.Lists.{none_of}
use Rattle.lowered_ends.proofs.Reading.{some_ends}
use Rattle.lowered_ends.proofs.ends.variable_ends.Goals as goal

pub returns-in-empty : goal.returns-in-empty
returns-in-empty c =
    ap (λ us. read_ends c.args.setting.now us c.args.node) (sym (none_of c.reads_as.result.now c.in-empty.len_below) ∙ c.reads_as.ensures)

pub returns-in-len1-up : goal.returns-in-len1-up
returns-in-len1-up c =
    IfOk-weaker c.made_ends.result _ _ (λ ends e. e ∙ some_ends c.args.setting.now c.reads_as.result.now c.args.node c.in-len1-up.len_at_least
    ∙ ap (λ us. read_ends c.args.setting.now us c.args.node) c.reads_as.ensures) c.made_ends.ensures
