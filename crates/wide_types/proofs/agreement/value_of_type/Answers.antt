use Rattle.std.proofs.Common.{◌≡◌, subst, IfOk}
use Rattle.value_indices.specs.Opening.{opened}
use Rattle.value_indices.specs.Walking.{Written, got}
use Rattle.wide_types.proofs.agreement.value_of_type.Goals as goal

pub returns : goal.returns
unfolding got
returns c =
    subst (λ (w : Written). IfOk c.opened.result (λ made. made ≡ got (opened c.args.reading.now) w)) c.new-walked.ensures c.opened.ensures.value
