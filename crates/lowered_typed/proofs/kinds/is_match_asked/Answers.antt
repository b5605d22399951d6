use Rattle.std.proofs.Common.{◌∙◌, ◌&&◌, length, sym, ap}
use Rattle.lowered_typed.proofs.More.{many_behind}
use Rattle.lowered_typed.proofs.Parts.{others_here}
use Rattle.std.specs.Prelude.{nat_eq}
use Rattle.lowered_typed.specs.Here as here
use Rattle.lowered_typed.specs.Judged as judged
use Rattle.lowered_typed.proofs.kinds.is_match_asked.Goals as goal

pub returns : goal.returns
returns c =
    let j = c.args.judge.now in
    c.both-all.ensures ∙ (λ i. (ap (λ cs. nat_eq (length c.args.arms.now) (length cs)) c.others.ensures
    ∙ ap (nat_eq (length c.args.arms.now)) (sym (many_behind j c.args.parts.now))) i
    && (c.both-rest.ensures ∙ (λ k. (c.in_ok-one.ensures ∙ ap (judged.all_end_right j c.args.arms.now) c.in_ok-ends.ensures) k
    && (c.in_ok-other.ensures
    ∙ ap (λ ds. here.meet_right j (here.arms_types j (judged.all_here j ds)) (judged.cases_at j c.args.node 1)) c.others-2.ensures
    ∙ ap (λ qs. here.meet_right j (here.arms_types j qs) (judged.cases_at j c.args.node 1)) (sym (others_here j c.args.parts.now))) k)) i)
