use Rattle.std.proofs.Common.{◌∙◌, ap, sym}
use Rattle.std.proofs.lemmas.Result.{IfOk-weaker}
use Rattle.jib_lower.specs.Entering.{payload_in}
use Rattle.jib_lower.proofs.entering.payload_in.Goals as goal

pub returns-in-Optional : goal.returns-in-Optional
returns-in-Optional c =
    IfOk-weaker c.fixed_type.result _ _ (λ made e. e ∙ sym (ap (payload_in c.args.types.now) c.in-Optional.is)) c.fixed_type.ensures
