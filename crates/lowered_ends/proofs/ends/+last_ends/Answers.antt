use Rattle.std.proofs.Common.{◌∙◌, sym, ap}
use Rattle.std.proofs.lemmas.Result.{IfOk-weaker}
use Rattle.lowered_ends.proofs.Lists.{first_at, none_of}
use Rattle.lowered_ends.specs.Ends.{last_ends}
use Rattle.lowered_ends.proofs.ends.+last_ends.Goals as goal

pub returns-in-empty : goal.returns-in-empty
returns-in-empty t c =
    IfOk-weaker c.suffix_ends.result _ _
    (λ ends e. e ∙ ap (λ ss. last_ends c.args.setting.now c.args.suffix.now ss) (sym (none_of c.args.others.now c.in-empty.len_below)))
    c.suffix_ends.ensures

pub returns-in-len1-up : goal.returns-in-len1-up
returns-in-len1-up t c =
    IfOk-weaker c.last_ends.result _ _
    (λ ends e. e
    ∙ ap (λ ss. last_ends c.args.setting.now c.args.suffix.now ss) (sym (first_at c.args.others.now _ c.in-len1-up.len_at_least)))
    c.last_ends.ensures
