use Rattle.std.proofs.Common.{◌≡◌, ◌∙◌, Bool, ap}
use Rattle.lowered_typed.specs.Asked.{asked}
use Rattle.lowered_typed.specs.Judging.{cases_typed}
use Rattle.std.proofs.lemmas.Result.{IfOk-weaker}
use Rattle.lowered_typed.specs.declared.cases.Asked.TheVariants as A
use Rattle.lowered_typed.specs.Judged as judged
use Rattle.lowered_typed.proofs.kinds.is_built.Goals as goal

pub returns : goal.returns
returns c =
    IfOk-weaker c.are_as_asked.result _
    (λ (a : Bool). a ≡ judged.built_asked c.args.judge.now c.args.operation c.args.order c.args.node c.args.count) (λ a e. e
    ∙ ap (λ xs. cases_typed c.args.judge.now (asked c.args.judge.now
    (A.Works c.args.operation c.args.order)) xs) c.cases.ensures) c.are_as_asked.ensures
