use Rattle.std.proofs.Common.{◌≡◌, ◌∙◌, Bool, sym, ap}
use Rattle.sail_core.specs.declared.patterns.Step.{Step}
use Rattle.std.proofs.lemmas.Result.{IfOk-weaker}
use Rattle.lowered_typed.specs.Here as here
use Rattle.lowered_typed.proofs.arms.is_step.Goals as goal

pub returns-in_ok-whole-in-Opens : goal.returns-in_ok-whole-in-Opens
returns-in_ok-whole-in-Opens c =
    IfOk-weaker c.is_head.result _ (λ (a : Bool). a ≡ here.step_right c.args.judge.now c.args.step.now c.args.types.now) (λ a e. e
    ∙ ap (λ t. here.head_right c.args.judge.now t c.in-Opens.head c.in-Opens.count) c.in_ok-whole-in-Opens.ensures
    ∙ ap (λ (s : Step). here.step_right c.args.judge.now s c.args.types.now) (sym c.in-Opens.is)) c.is_head.ensures

pub returns-in-Names : goal.returns-in-Names
returns-in-Names c = ap (λ (s : Step). here.step_right c.args.judge.now s c.args.types.now) (sym c.in-Names.is)

pub returns-in_ok-whole-in-Sees : goal.returns-in_ok-whole-in-Sees
returns-in_ok-whole-in-Sees c =
    IfOk-weaker c.may_see.result _ (λ (a : Bool). a ≡ here.step_right c.args.judge.now c.args.step.now c.args.types.now) (λ a e. e
    ∙ ap (λ t. here.sees_right c.args.judge.now c.in-Sees.direction t) c.in_ok-whole-in-Sees.ensures
    ∙ ap (λ (s : Step). here.step_right c.args.judge.now s c.args.types.now) (sym c.in-Sees.is)) c.may_see.ensures
