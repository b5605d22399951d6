use Rattle.std.proofs.Common.{◌∙◌, ◌&&◌, ap}
use Rattle.jib.specs.declared.code.Operation.TheVariants as O
use Rattle.lowered_typed.specs.Here as here
use Rattle.lowered_typed.proofs.cases.constructs_tuple.Goals as goal

pub returns : goal.returns
returns c =
    c.both-all.ensures ∙ (λ i. (c.in_ok-one.ensures
    ∙ ap (λ rs. here.works c.args.judge.now O.Build rs c.args.types.now c.args.payload.now) (c.as_slice.ensures
    ∙ c.in_ok-sources.ensures)) i && c.in_ok-other.ensures i)
