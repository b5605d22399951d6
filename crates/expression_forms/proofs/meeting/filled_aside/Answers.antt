use Rattle.std.proofs.Common.{◌≡◌, subst, IfOk}
use Rattle.value_indices.specs.Walking.{Written, got}
use Rattle.wide_types.specs.Widening.{met}
use Rattle.expression_forms.proofs.meeting.filled_aside.Goals as goal

pub returns : goal.returns
unfolding got
returns c =
    subst (λ (w : Written). IfOk c.met.result (λ made. made ≡ got (met c.args.types.now c.args.before c.args.shape.now c.args.value.now) w))
    c.new-aside.ensures c.met.ensures.value
