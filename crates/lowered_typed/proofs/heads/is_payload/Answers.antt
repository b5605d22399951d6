use Rattle.std.proofs.Common.{◌∙◌, ◌&&◌, ap}
use Rattle.lowered_typed.specs.Judging.{number_here}
use Rattle.lowered_typed.specs.Here as here
use Rattle.lowered_typed.specs.Judged as judged
use Rattle.lowered_typed.proofs.heads.is_payload.Goals as goal

pub returns : goal.returns
returns c =
    let j = c.args.judge.now in
    c.both-all.ensures ∙ (λ i. c.is_union-first.ensures i && (c.both-rest.ensures ∙ (λ k. (c.has_payload-one.ensures
    ∙ (λ h. judged.has_payload j (c.in_ok-union.ensures h) c.args.constructor ((c.in_ok-number.ensures
    ∙ ap (number_here j) c.in_ok-payload.ensures) h))) k
    && (c.in_ok-other.ensures ∙ ap (λ t. here.payload_right j t c.args.count) c.in_ok-payload.ensures) k)) i)
