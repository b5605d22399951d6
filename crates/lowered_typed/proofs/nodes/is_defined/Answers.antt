use Rattle.std.proofs.Common.{◌≡◌, ◌∙◌, Bool, ap}
use Rattle.lowered_typed.specs.Judging.{typed}
use Rattle.std.proofs.lemmas.Result.{IfOk-weaker}
use Rattle.lowered_typed.specs.Here as here
use Rattle.lowered_typed.proofs.nodes.is_defined.Goals as goal

pub returns : goal.returns
returns c =
    IfOk-weaker c.is_end_typed.result _
    (λ (a : Bool). a ≡ here.ends_right c.args.judge.now c.args.arm.now (typed c.args.judge.now c.args.value.now).ends) (λ a e. e
    ∙ ap (here.ends_right c.args.judge.now c.args.arm.now) c.in_ok-ends.ensures) c.is_end_typed.ensures
