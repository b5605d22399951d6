use Rattle.std.proofs.Common.{◌∙◌, length}
use Rattle.std.proofs.lemmas.Result.{IfOk-weaker}
use Rattle.jib_lower.proofs.Joined.{twice}
use Rattle.jib_lower.proofs.lowering.count_functions.Goals as goal

pub returns : goal.returns
returns c =
    IfOk-weaker c.further.result _ _
    (λ n e. twice (length c.args.sized.now.instances) c.in_ok-count.count n (c.in_ok-count.ensures ∙ c.len-many.ensures) e) c.further.ensures
