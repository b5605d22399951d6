use Rattle.std.proofs.Common.{◌≡◌, ◌∙◌, Bool, ap}
use Rattle.lowered_typed.specs.Judging.{cases_typed, number_here, signs_here}
use Rattle.lowered_validity.specs.Typing.{comes}
use Rattle.std.proofs.lemmas.Result.{IfOk-weaker}
use Rattle.lowered_typed.specs.Judged as judged
use Rattle.lowered_typed.proofs.cases.is_answered.Goals as goal

pub returns : goal.returns
returns c =
    IfOk-weaker c.are_as_asked.result _ (λ (a : Bool). a ≡ judged.answered c.args.judge.now c.args.cases.now c.args.lead.now) (λ a e. e
    ∙ ap (λ n. cases_typed c.args.judge.now
    (λ x. comes (signs_here c.args.judge.now) n (number_here c.args.judge.now x.gives)) c.args.cases.now) (c.in_ok-from.ensures
    ∙ ap (number_here c.args.judge.now) c.in_ok-answer.ensures)) c.are_as_asked.ensures
