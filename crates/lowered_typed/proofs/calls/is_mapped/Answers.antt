use Rattle.std.proofs.Common.{◌∙◌, ◌&&◌, ap}
use Rattle.lowered_typed.specs.Asked.{asked}
use Rattle.lowered_typed.specs.Judging.{cases_typed}
use Rattle.lowered_typed.specs.declared.cases.Asked.TheVariants as A
use Rattle.lowered_typed.specs.Judged as judged
use Rattle.lowered_typed.proofs.calls.is_mapped.Goals as goal

pub returns : goal.returns
returns c =
    let j = c.args.judge.now in
    c.both-all.ensures ∙ (λ i. c.in_ok-first.ensures i && (c.both-rest.ensures ∙ (λ k. (c.has_payload-one.ensures
    ∙ (λ h. judged.has_payload j (c.in_ok-option.ensures h) 0 (c.in_ok-payload.ensures h))) k && (c.in_ok-other.ensures
    ∙ ap (λ n. cases_typed j (asked j (A.From n)) c.args.cases.now) c.in_ok-payload.ensures) k)) i)
