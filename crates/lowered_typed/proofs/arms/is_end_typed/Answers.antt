use Rattle.std.proofs.Common.{◌≡◌, ◌∙◌, Bool, sym, ap}
use Rattle.lowered_steps.specs.Hands.{types_of}
use Rattle.lowered_steps.specs.declared.hands.Ends.{Ends as EndsHeld}
use Rattle.lowered_typed.proofs.More.{one_right}
use Rattle.std.proofs.lemmas.Result.{IfOk-weaker}
use Rattle.lowered_typed.specs.Here as here
use Rattle.lowered_typed.proofs.arms.is_end_typed.Goals as goal

pub returns-in-Unsaid : goal.returns-in-Unsaid
returns-in-Unsaid c = ap (λ (es : EndsHeld). here.ends_right c.args.judge.now c.args.arm.now (types_of es)) (sym c.in-Unsaid.is)

pub returns-in-Cases : goal.returns-in-Cases
returns-in-Cases c =
    IfOk-weaker c.are_given.result _ (λ (a : Bool). a ≡ here.ends_right c.args.judge.now c.args.arm.now (types_of c.args.ends.now)) (λ a e. e
    ∙ ap (λ (es : EndsHeld). here.ends_right c.args.judge.now c.args.arm.now (types_of es)) (sym c.in-Cases.is)) c.are_given.ensures

pub returns-in-One : goal.returns-in-One
returns-in-One c =
    IfOk-weaker c.is_arm_typed.result _ (λ (a : Bool). a ≡ here.ends_right c.args.judge.now c.args.arm.now (types_of c.args.ends.now)) (λ a e. e
    ∙ ap (here.arm_right c.args.judge.now c.args.arm.now) c.from_ref.ensures.value ∙ one_right c.args.judge.now c.args.arm.now c.in-One.typ
    ∙ ap (λ (es : EndsHeld). here.ends_right c.args.judge.now c.args.arm.now (types_of es)) (sym c.in-One.is)) c.is_arm_typed.ensures
