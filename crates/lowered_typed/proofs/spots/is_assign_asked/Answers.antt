use Rattle.std.proofs.Common.{◌∙◌, ◌&&◌, sym, ap}
use Rattle.lowered_steps.proofs.Lists.{none_of, one_of}
use Rattle.lowered_typed.proofs.More.{assign_many}
use Rattle.lowered_typed.specs.Judging.{signs_here}
use Rattle.std.specs.Prelude.{not}
use Rattle.lowered_typed.specs.Judged as judged
use Rattle.lowered_typed.proofs.spots.is_assign_asked.Goals as goal

pub returns-in-empty : goal.returns-in-empty
returns-in-empty c =
    let j = c.args.judge.now in let ps = judged.all_here j c.args.parts.now in
    ap (λ us. judged.assign_asked j us ps) (sym (none_of c.args.targets.now c.in-empty.len_below))

pub returns-in_ok-other-in-len1 : goal.returns-in_ok-other-in-len1
returns-in_ok-other-in-len1 c =
    let j = c.args.judge.now in let ps = judged.all_here j c.args.parts.now in c.both-all.ensures
    ∙ ap (λ b. not (signs_here j).is_pure && b) (c.in_ok-other-in-len1.ensures ∙ ap (λ s. judged.spot_asked j s ps) c.spot_of.ensures)
    ∙ ap (λ us. judged.assign_asked j us ps)
    (sym (one_of c.args.targets.now c.target-item.result c.in-len1.len_at_least c.in-len1.len_below c.target-item.is))

pub returns-in-len2-up : goal.returns-in-len2-up
returns-in-len2-up c =
    let j = c.args.judge.now in assign_many j c.args.targets.now (judged.all_here j c.args.parts.now) c.in-len2-up.len_at_least
