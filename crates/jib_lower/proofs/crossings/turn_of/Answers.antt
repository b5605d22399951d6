use Rattle.std.proofs.Common.{◌∙◌, ap}
use Rattle.std.proofs.lemmas.Result.{IfOk-weaker}
use Rattle.jib_lower.specs.Crossings.{leads_from}
use Rattle.jib_lower.proofs.crossings.turn_of.Goals as goal

pub returns : goal.returns
returns c =
    IfOk-weaker c.leads_from.result _ _ (λ all e. e ∙ ap (leads_from c.args.calls.now) (c.as_slice.ensures ∙ c.in_ok-asked.ensures)) c.leads_from.ensures
