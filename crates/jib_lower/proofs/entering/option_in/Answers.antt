use Rattle.std.proofs.Common.{◌∙◌, ap, sym}
use Rattle.std.proofs.lemmas.Result.{IfOk-weaker}
use Rattle.jib_lower.specs.Entering.{option_in}
use Rattle.jib_lower.proofs.entering.option_in.Goals as goal

pub returns-in_ok-payload-in-Optional : goal.returns-in_ok-payload-in-Optional
returns-in_ok-payload-in-Optional c =
    IfOk-weaker c.option_of.result _ _
    (λ made h. h c.args.types.now c.in-Optional.typ c.in_ok-payload-in-Optional.ensures ∙ sym (ap (option_in c.args.types.now) c.in-Optional.is))
    c.option_of.ensures
