use Rattle.std.proofs.Common.{◌∙◌, ◌∷◌, ◌&&◌, ap, []}
use Rattle.jib.specs.declared.code.Literal.TheVariants as L
use Rattle.jib.specs.declared.code.Operation.TheVariants as O
use Rattle.jib.specs.declared.code.Source.TheVariants as R
use Rattle.lowered_typed.specs.Here as here
use Rattle.lowered_typed.proofs.kinds.is_option.Goals as goal

pub returns : goal.returns
returns c =
    c.both-all.ensures ∙ (λ i. c.in_ok-one.ensures i && (c.in_ok-other.ensures
    ∙ ap (λ n. here.works c.args.judge.now (O.Construct 1) (R.Constant n L.Unit ∷ []) [] c.args.option.now) c.in_ok-number.ensures) i)
