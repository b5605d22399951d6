use Rattle.std.proofs.Common.{◌≡◌, ◌∙◌, Bool, ap}
use Rattle.std.proofs.lemmas.Result.{IfOk-weaker}
use Rattle.lowered_typed.specs.Here as here
use Rattle.lowered_typed.specs.Judged as judged
use Rattle.lowered_typed.proofs.kinds.is_bound.Goals as goal

pub returns : goal.returns
returns c =
    IfOk-weaker c.is_end_typed.result _
    (λ (a : Bool). a ≡ here.ends_right c.args.judge.now c.args.arm.now (judged.first_ends (judged.all_here c.args.judge.now c.args.parts.now)))
    (λ a e. e ∙ ap (here.ends_right c.args.judge.now c.args.arm.now) c.in_ok-ends.ensures) c.is_end_typed.ensures
