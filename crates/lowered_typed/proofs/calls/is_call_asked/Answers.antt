use Rattle.std.proofs.Common.{◌≡◌, ◌∙◌, Bool, sym, ap}
use Rattle.lowered_typed.proofs.Parts.{many_here}
use Rattle.lowered_typed.specs.Asked.{asked}
use Rattle.lowered_typed.specs.Judging.{cases_typed}
use Rattle.std.proofs.lemmas.Result.{IfOk-weaker}
use Rattle.lowered_typed.specs.declared.cases.Asked.TheVariants as A
use Rattle.lowered_typed.specs.Judged as judged
use Rattle.lowered_typed.proofs.calls.is_call_asked.Goals as goal

pub returns-in-Function : goal.returns-in-Function
returns-in-Function c =
    IfOk-weaker c.is_function_asked.result _
    (λ (a : Bool). a ≡ judged.call_asked c.args.judge.now c.args.callee c.args.node (judged.all_here c.args.judge.now c.args.parts.now)) (λ a e. e
    ∙ ap (judged.function_asked c.args.judge.now c.args.node) (sym (many_here c.args.judge.now c.args.parts.now))
    ∙ ap (λ f. judged.call_asked c.args.judge.now f c.args.node (judged.all_here c.args.judge.now c.args.parts.now))
    (sym c.in-Function.is)) c.is_function_asked.ensures

pub returns-in-Row : goal.returns-in-Row
returns-in-Row c =
    IfOk-weaker c.is_row_asked.result _
    (λ (a : Bool). a ≡ judged.call_asked c.args.judge.now c.args.callee c.args.node (judged.all_here c.args.judge.now c.args.parts.now)) (λ a e. e
    ∙ ap (λ xs. judged.row_here c.args.judge.now c.in-Row.row xs (judged.all_here c.args.judge.now c.args.parts.now)) (c.cases.ensures
    ∙ ap (judged.cases_at c.args.judge.now c.args.node) (sym (many_here c.args.judge.now c.args.parts.now)))
    ∙ ap (λ f. judged.call_asked c.args.judge.now f c.args.node (judged.all_here c.args.judge.now c.args.parts.now))
    (sym c.in-Row.is)) c.is_row_asked.ensures

pub returns-in-Constructor : goal.returns-in-Constructor
returns-in-Constructor c =
    IfOk-weaker c.are_as_asked.result _
    (λ (a : Bool). a ≡ judged.call_asked c.args.judge.now c.args.callee c.args.node (judged.all_here c.args.judge.now c.args.parts.now)) (λ a e. e
    ∙ ap (λ xs. cases_typed c.args.judge.now (asked c.args.judge.now (A.Constructs c.in-Constructor.union c.in-Constructor.constructor)) xs)
    (c.cases-in-Constructor.ensures ∙ ap (judged.cases_at c.args.judge.now c.args.node) (sym (many_here c.args.judge.now c.args.parts.now)))
    ∙ ap (λ f. judged.call_asked c.args.judge.now f c.args.node (judged.all_here c.args.judge.now c.args.parts.now))
    (sym c.in-Constructor.is)) c.are_as_asked.ensures

pub returns-in-Applies : goal.returns-in-Applies
returns-in-Applies c =
    IfOk-weaker c.is_applied_asked.result _
    (λ (a : Bool). a ≡ judged.call_asked c.args.judge.now c.args.callee c.args.node (judged.all_here c.args.judge.now c.args.parts.now)) (λ a e. e
    ∙ ap (λ f. judged.call_asked c.args.judge.now f c.args.node (judged.all_here c.args.judge.now c.args.parts.now))
    (sym c.in-Applies.is)) c.is_applied_asked.ensures

pub returns-in-Converts : goal.returns-in-Converts
returns-in-Converts c =
    ap (λ f. judged.call_asked c.args.judge.now f c.args.node (judged.all_here c.args.judge.now c.args.parts.now)) (sym c.in-Converts.is)
