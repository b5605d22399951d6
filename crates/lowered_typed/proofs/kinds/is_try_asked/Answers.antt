use Rattle.std.proofs.Common.{◌∙◌, ◌&&◌, length, sym, ap}
use Rattle.lowered_typed.proofs.More.{many_behind}
use Rattle.std.specs.Prelude.{nat_eq}
use Rattle.lowered_typed.specs.Judged as judged
use Rattle.lowered_typed.proofs.kinds.is_try_asked.Goals as goal

pub returns : goal.returns
returns c =
    let j = c.args.judge.now in
    c.both-all.ensures ∙ (λ i. (ap (λ cs. nat_eq (length c.args.arms.now) (length cs)) c.others.ensures
    ∙ ap (nat_eq (length c.args.arms.now)) (sym (many_behind j c.args.parts.now))) i
    && (c.both-behind.ensures ∙ (λ h. c.in_ok-second.ensures h && (c.both-rest.ensures ∙ (λ k. (c.in_ok-one.ensures
    ∙ ap (judged.all_end_right j c.args.arms.now) c.in_ok-ends.ensures) k
    && c.in_ok-other.ensures k)) h)) i)
