use Rattle.std.proofs.Common.{◌≡◌, ◌∙◌, Bool, sym, ap}
use Rattle.lowered_steps.specs.Hands.{types_of}
use Rattle.lowered_steps.specs.declared.hands.Ends.{Ends as EndsHeld}
use Rattle.lowered_typed.proofs.More.{one_thrown}
use Rattle.lowered_typed.specs.Judging.{signs_here}
use Rattle.std.proofs.lemmas.Result.{IfOk-weaker}
use Rattle.std.specs.Prelude.{nat_eq}
use Rattle.lowered_typed.specs.Here as here
use Rattle.lowered_typed.proofs.ends.are_thrown.Goals as goal

pub returns-in-Unsaid : goal.returns-in-Unsaid
returns-in-Unsaid c = ap (λ (es : EndsHeld). here.all_thrown c.args.judge.now (types_of es)) (sym c.in-Unsaid.is)

pub returns-in-Cases : goal.returns-in-Cases
returns-in-Cases c =
    IfOk-weaker c.are_cases_thrown.result _ (λ (a : Bool). a ≡ here.all_thrown c.args.judge.now (types_of c.args.ends.now)) (λ a e. e
    ∙ ap (λ (es : EndsHeld). here.all_thrown c.args.judge.now (types_of es)) (sym c.in-Cases.is)) c.are_cases_thrown.ensures

pub returns-in_ok-number-in-One : goal.returns-in_ok-number-in-One
returns-in_ok-number-in-One c =
    ap (λ n. nat_eq n (signs_here c.args.judge.now).exception) c.in_ok-number-in-One.ensures ∙ one_thrown c.args.judge.now c.in-One.typ
    ∙ ap (λ (es : EndsHeld). here.all_thrown c.args.judge.now (types_of es)) (sym c.in-One.is)
