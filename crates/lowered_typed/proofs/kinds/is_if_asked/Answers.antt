use Rattle.std.proofs.Common.{◌≡◌, ◌∙◌, Bool, ap}
use Rattle.lowered_typed.proofs.More.{if_other, if_three}
use Rattle.std.proofs.lemmas.Result.{IfOk-weaker}
use Rattle.lowered_typed.specs.Here as here
use Rattle.lowered_typed.specs.Judged as judged
use Rattle.lowered_typed.proofs.kinds.is_if_asked.Goals as goal

pub returns-then-parts-eq3 : goal.returns-then-parts-eq3
returns-then-parts-eq3 c =
    IfOk-weaker c.are_met.result _
    (λ (a : Bool). a ≡ judged.if_asked c.args.judge.now c.args.node (judged.all_here c.args.judge.now c.args.parts.now)) (λ a e. e
    ∙ ap (λ ds. here.meet_right c.args.judge.now (here.arms_types c.args.judge.now (judged.all_here c.args.judge.now ds))
    (judged.cases_at c.args.judge.now c.args.node 1)) c.others.ensures
    ∙ if_three c.args.judge.now c.args.node c.args.parts.now c.if-parts-eq3.true) c.are_met.ensures

pub returns-else-parts-eq3 : goal.returns-else-parts-eq3
returns-else-parts-eq3 c = if_other c.args.judge.now c.args.node c.args.parts.now c.if-parts-eq3.false
