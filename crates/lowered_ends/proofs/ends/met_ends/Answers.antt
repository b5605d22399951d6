use Rattle.std.proofs.Common.{◌∙◌, length}
use Rattle.std.proofs.lemmas.Result.{IfOk-weaker}
use Rattle.lowered_ends.proofs.Endings.{met_short, met_some}
use Rattle.lowered_ends.proofs.ends.met_ends.Goals as goal

pub returns-in-empty : goal.returns-in-empty
returns-in-empty c = met_short c.args.setting.now c.args.node (length c.args.parts.now) c.in-empty.len_below

pub returns-in-len1-up : goal.returns-in-len1-up
returns-in-len1-up c =
    IfOk-weaker c.made_ends.result _ _ (λ ends e. e ∙ met_some c.args.setting.now c.args.node (length c.args.parts.now) c.in-len1-up.len_at_least)
    c.made_ends.ensures
