use Rattle.std.proofs.Common.{◌∙◌, ◌++◌, ◌&&◌, ap}
use Rattle.lowered_typed.specs.Here as here
use Rattle.lowered_typed.specs.Judged as judged
use Rattle.lowered_typed.proofs.spots.are_shared.Goals as goal

pub returns : goal.returns
returns c =
    let j = c.args.judge.now in c.both-all.ensures
    ∙ (λ i. c.in_ok-one.ensures i
    && (c.in_ok-other.ensures
    ∙ (λ k. here.all_fields_right j ((c.as_slice.ensures ∙ c.in_ok-put_last_of.ensures
    ∙ ap (λ us. us ++ here.last_types j (judged.all_here j c.args.parts.now)) c.new-types.ensures) k) (c.in_ok-count.ensures k))) i)
