use Rattle.std.proofs.lemmas.Result.{IfOk-weaker}
use Rattle.jib_lower.proofs.Unmade.{last_more}
use Rattle.jib_lower.proofs.lowering.opened_of.Goals as goal

pub returns-clause-opened : goal.returns-clause-opened
returns-clause-opened c =
    IfOk-weaker c.make_openings.result _ _ (λ opened h. record { bare = c.model_by-bare.result; is = c.model_by-bare.ensures.is; made = h })
    c.make_openings.ensures.made

pub returns-clause-left : goal.returns-clause-left
returns-clause-left c =
    last_more c.make_openings.result (λ why. record { bare = c.model_by-bare.result; is = c.model_by-bare.ensures.is; why = why }) c.make_openings.ensures.left
