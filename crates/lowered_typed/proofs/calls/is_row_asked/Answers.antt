use Rattle.std.proofs.Common.{◌≡◌, ◌∙◌, Bool, sym, ap}
use Rattle.std.proofs.lemmas.Result.{IfOk-weaker}
use Rattle.lowered_typed.specs.Judged as judged
use Rattle.lowered_typed.proofs.calls.is_row_asked.Goals as goal

pub returns-then-has_state : goal.returns-then-has_state
returns-then-has_state c =
    IfOk-weaker c.is_state_asked.result _
    (λ (a : Bool). a ≡ judged.row_here c.args.judge.now c.args.row c.args.cases.now (judged.all_here c.args.judge.now c.args.parts.now)) (λ a e. e
    ∙ ap (λ b. judged.row_asked c.args.judge.now b c.args.row c.args.cases.now (judged.all_here c.args.judge.now c.args.parts.now))
    (sym c.if-has_state.true ∙ c.has_state.ensures)) c.is_state_asked.ensures

pub returns-else-has_state : goal.returns-else-has_state
returns-else-has_state c =
    IfOk-weaker c.are_as_asked.result _
    (λ (a : Bool). a ≡ judged.row_here c.args.judge.now c.args.row c.args.cases.now (judged.all_here c.args.judge.now c.args.parts.now)) (λ a e. e
    ∙ ap (λ b. judged.row_asked c.args.judge.now b c.args.row c.args.cases.now (judged.all_here c.args.judge.now c.args.parts.now))
    (sym c.if-has_state.false ∙ c.has_state.ensures)) c.are_as_asked.ensures
