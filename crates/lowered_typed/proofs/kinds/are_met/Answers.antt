use Rattle.std.proofs.Common.{◌≡◌, ◌∙◌, ◌++◌, Bool, ap}
use Rattle.std.proofs.lemmas.Result.{IfOk-weaker}
use Rattle.lowered_typed.specs.Here as here
use Rattle.lowered_typed.specs.Judged as judged
use Rattle.lowered_typed.proofs.kinds.are_met.Goals as goal

pub returns : goal.returns
returns c =
    IfOk-weaker c.meet.result _
    (λ (a : Bool). a ≡ here.meet_right c.args.judge.now (here.arms_types c.args.judge.now (judged.all_here c.args.judge.now c.args.nodes.now))
    (judged.cases_at c.args.judge.now c.args.node 1)) (λ a e. e ∙ (λ i. here.meet_right c.args.judge.now ((c.as_slice.ensures
    ∙ c.in_ok-put_all_types.ensures
    ∙ ap (λ us. us ++ here.arms_types c.args.judge.now (judged.all_here c.args.judge.now c.args.nodes.now)) c.new-types.ensures) i)
    (c.cases.ensures i))) c.meet.ensures
