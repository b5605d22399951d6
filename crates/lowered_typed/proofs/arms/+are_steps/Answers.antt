use Rattle.std.proofs.Common.{◌≡◌, ◌∙◌, ◌++◌, ◌&&◌, sym, ap}
use Rattle.lowered_steps.proofs.Lists.{first_of, none_of, others}
use Rattle.lowered_typed.specs.Here as here
use Rattle.lowered_typed.proofs.arms.+are_steps.Goals as goal

pub returns-in-empty : goal.returns-in-empty
returns-in-empty t c = ap (λ us. here.steps_right c.args.judge.now us c.args.types.now) (sym (none_of c.args.steps.now c.in-empty.len_below))

pub returns-in_ok-other-in-len1-up : goal.returns-in_ok-other-in-len1-up
returns-in_ok-other-in-len1-up t c =
    let j = c.args.judge.now in let ts = c.args.types.now in let s = c.first-item.result in
    let parts : c.in_ok-parts-in-len1-up.parts ≡ here.step_types j s ts = c.in_ok-parts-in-len1-up.ensures in
    c.both-all.ensures
    ∙ (λ i. c.in_ok-begins-in-len1-up.ensures i && (c.both-goes.ensures ∙ (λ k. (c.in_ok-one-in-len1-up.ensures
    ∙ ap (here.are_known j) (c.as_slice-taken.ensures ∙ parts)) k
    && (c.in_ok-other-in-len1-up.ensures ∙ ap (here.steps_right j (others c.args.steps.now)) (c.as_slice-behind.ensures
    ∙ c.in_ok-inside-in-len1-up.ensures ∙ ap (λ us. ts ++ us) (c.as_slice-taken.ensures ∙ parts))) k)) i)
    ∙ ap (λ us. here.steps_right j us ts) (sym (first_of c.args.steps.now c.first-item.result c.in-len1-up.len_at_least c.first-item.is))
