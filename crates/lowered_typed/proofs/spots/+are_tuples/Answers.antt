use Rattle.std.proofs.Common.{◌∙◌, ◌&&◌, List, sym, ap}
use Rattle.size_values.specs.declared.sized.Sized.{Sized}
use Rattle.lowered_steps.proofs.Lists.{first_of, none_of}
use Rattle.lowered_typed.specs.Here as here
use Rattle.lowered_typed.proofs.spots.+are_tuples.Goals as goal

pub returns-in-empty : goal.returns-in-empty
returns-in-empty t c =
    ap (λ (ts : List Sized). here.all_fields_right c.args.judge.now ts c.args.count) (sym (none_of c.args.types.now c.in-empty.len_below))

pub returns-in_ok-others-in-len1-up : goal.returns-in_ok-others-in-len1-up
returns-in_ok-others-in-len1-up t c =
    c.both-all.ensures
    ∙ (λ i. c.in_ok-one-in-len1-up.ensures i && c.in_ok-others-in-len1-up.ensures i)
    ∙ ap (λ (ts : List Sized). here.all_fields_right c.args.judge.now ts c.args.count)
    (sym (first_of c.args.types.now c.first-item.result c.in-len1-up.len_at_least c.first-item.is))
