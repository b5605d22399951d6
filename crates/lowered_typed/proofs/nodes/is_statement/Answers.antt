use Rattle.std.proofs.Common.{◌≡◌, ◌∙◌, Bool, sym, ap}
use Rattle.lowered_typed.specs.Judging.{typed}
use Rattle.sail_core.specs.declared.tree.Statement.{Statement}
use Rattle.std.proofs.lemmas.Result.{IfOk-weaker}
use Rattle.lowered_typed.specs.Judged as judged
use Rattle.lowered_typed.proofs.nodes.is_statement.Goals as goal

pub returns-in-Evaluate : goal.returns-in-Evaluate
returns-in-Evaluate c =
    ap (λ (s : Statement). judged.statement_asked c.args.judge.now s (typed c.args.judge.now c.args.value.now)) (sym c.in-Evaluate.is)

pub returns-in-Declare : goal.returns-in-Declare
returns-in-Declare c =
    IfOk-weaker c.is_declared.result _
    (λ (a : Bool). a ≡ judged.statement_asked c.args.judge.now c.args.statement.now (typed c.args.judge.now c.args.value.now)) (λ a e. e
    ∙ ap (λ (s : Statement). judged.statement_asked c.args.judge.now s (typed c.args.judge.now c.args.value.now))
    (sym c.in-Declare.is)) c.is_declared.ensures

pub returns-in-Define : goal.returns-in-Define
returns-in-Define c =
    IfOk-weaker c.is_defined.result _
    (λ (a : Bool). a ≡ judged.statement_asked c.args.judge.now c.args.statement.now (typed c.args.judge.now c.args.value.now)) (λ a e. e
    ∙ ap (λ (s : Statement). judged.statement_asked c.args.judge.now s (typed c.args.judge.now c.args.value.now))
    (sym c.in-Define.is)) c.is_defined.ensures
